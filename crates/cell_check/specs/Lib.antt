pub mod Candidates
pub mod Checks
pub mod Closing
pub mod Outcomes
pub mod Owning
pub mod Searches
