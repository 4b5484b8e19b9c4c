pub mod Writing
pub mod GraphReading
pub mod OneSpelling
pub mod LookUps
pub mod WalkedFiles
