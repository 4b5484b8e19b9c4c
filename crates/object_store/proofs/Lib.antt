pub mod InOrder
pub mod StableSort
pub mod StandingEvents
pub mod KindsInOrder
pub mod KindEntries
pub mod ChangedKeys
mod KeptPairs
mod SameBodies
