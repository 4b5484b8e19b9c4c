pub mod ToldCalls
pub mod CallRuns
pub mod PendingImages
pub mod FileRuns
pub mod QuietRuns
pub mod OnlyImages
pub mod RecordedCalls
pub mod SourceParts
