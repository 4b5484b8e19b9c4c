pub mod LiveFile
pub mod TwoFiles
pub mod StoreLoading
pub mod StoreCreating
pub mod Checkpointing
