pub mod PinnedRuns
pub mod Followers
pub mod Tables
