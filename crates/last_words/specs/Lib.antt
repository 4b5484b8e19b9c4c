pub mod Texts
pub mod Status
pub mod Puts
pub mod Replies
