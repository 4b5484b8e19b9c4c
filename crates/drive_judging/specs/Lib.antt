pub mod Verdicts
pub mod Tables
pub mod DriveWords
pub mod Judging
pub mod DriveLines
pub mod DeadEnds
pub mod WordTables
