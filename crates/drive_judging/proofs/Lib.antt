pub mod JudgedDrives
pub mod JudgedSteps
pub mod WordOrder
pub mod WordsGathered
pub mod WordsCompared
pub mod WordsBegun
pub mod DriveLines
pub mod NodesLeft
