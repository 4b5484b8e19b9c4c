mod Ascents
pub mod TagSearch
mod TagWalks
pub mod KeyOrder
pub mod Applied
pub mod Histories
pub mod EqualPlaces
pub mod EqualSteps
pub mod Appends
