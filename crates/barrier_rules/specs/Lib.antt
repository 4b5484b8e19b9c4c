pub mod OpenValues
pub mod Barrier
