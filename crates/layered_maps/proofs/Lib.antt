mod SplitPairs
mod EntryLists
mod MergedPairs
mod LayerPairs
mod MarkedPairs
pub mod FoundPairs
mod FloorPairs
mod FoundPlaces
mod JoinedLists
pub mod OverPairs
mod WalkedPairs
mod WalkSteps
pub mod RunsFrom
mod ViewPairs
pub mod Lookups
mod Parts
pub mod FirstLists
mod KeyedLists
mod SortedPairs
pub mod HeldLists
pub mod UnseenPairs
mod LastValues
