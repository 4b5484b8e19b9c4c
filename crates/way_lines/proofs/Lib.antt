pub mod Short
pub mod AddedSteps
pub mod NamedPairs
pub mod WalkedLines
