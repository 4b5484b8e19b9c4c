pub mod Zones
pub mod Phases
pub mod ZoneWalks
pub mod PhaseNumbers
pub mod ZoneReaching
