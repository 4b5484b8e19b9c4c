pub mod Grids
pub mod Regions
pub mod Sums
pub mod CountedPlaces
pub mod CellPlans
pub mod Dividing
