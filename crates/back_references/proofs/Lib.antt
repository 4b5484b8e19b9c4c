pub mod NamedObjects
pub mod ToldNames
pub mod HighwayLists
mod ExchangedPairs
