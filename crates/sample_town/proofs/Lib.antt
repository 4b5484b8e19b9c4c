pub mod SameEvents
pub mod Listed
pub mod BaseLists
pub mod NextLists
