pub mod Merging
pub mod Ranges
pub mod Collecting
