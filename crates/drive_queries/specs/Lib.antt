pub mod Messages
pub mod Counting
pub mod Summing
