pub mod NodeCounts
pub mod RoadNodes
pub mod Positions
