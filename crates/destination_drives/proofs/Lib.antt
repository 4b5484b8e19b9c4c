pub mod PhaseRuns
pub mod MarkedRuns
pub mod ZoneWalkLaw
pub mod ThroughSteps
pub mod SearchPhases
pub mod ZoneDrives
pub mod NoZones
