pub mod Causes
pub mod Ends
pub mod Runs
pub mod Spelling
pub mod Words
pub use Rattle.road_model.specs.declared.answers.Unusable
