pub mod Junctions
pub mod PlainPositions
pub mod Repeats
