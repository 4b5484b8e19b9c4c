pub mod Searches
pub mod Altering
