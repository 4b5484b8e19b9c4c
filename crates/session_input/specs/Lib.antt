pub mod Messages
pub mod Texts
pub mod Limits
pub mod Reading
pub mod Sizes
pub mod Holding
