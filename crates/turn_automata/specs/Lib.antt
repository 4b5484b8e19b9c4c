pub mod FailureLinks
pub mod Machines
pub mod Trees
pub mod Turns
pub mod Visits
pub mod Watched
pub mod Work
