pub mod Filters
pub mod Layers
pub mod Maps
pub mod Walks
pub mod Sinking
pub mod Exchanges
pub mod Lists
pub mod PartLists
