pub mod Limits
pub mod Input
pub mod Reading
pub mod SourceBytes
pub mod Streaming
pub mod StreamFaults
pub mod OpenStreams
