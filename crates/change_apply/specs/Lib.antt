pub mod Engines
pub mod Rebuilding
pub mod Sourcing
pub mod Standing
