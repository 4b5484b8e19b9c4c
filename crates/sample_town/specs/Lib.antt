pub mod Draws
pub mod Streets
pub mod Lists
