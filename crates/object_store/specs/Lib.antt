pub mod Codes
pub mod Listed
pub mod Changes
pub mod Keeping
pub mod Following
