pub mod Orders
pub mod Groups
