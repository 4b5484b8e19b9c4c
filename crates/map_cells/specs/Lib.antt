pub mod Areas
pub mod Cells
pub mod Owners
pub mod Parts
