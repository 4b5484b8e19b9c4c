pub mod Building
pub mod Compiled
