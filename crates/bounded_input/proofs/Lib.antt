pub mod LineLengths
pub mod InputEnds
pub mod PassedLimits
pub mod LinesBehind
pub mod StreamEnds
