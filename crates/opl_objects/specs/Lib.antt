pub mod Cutting
pub mod References
pub mod LineLetters
pub mod LineParts
pub mod Outcomes
pub mod StreamLines
pub mod Feeding
pub mod Texts
