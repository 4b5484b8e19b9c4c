pub mod BuiltBlocks
pub mod RebuiltBlocks
pub mod ComparedPieces
pub mod FreshBlocks
pub mod ChangedBlocks
pub mod AlteredBlocks
mod KnownBlocks
mod EqualBlocks
mod SourcedArcs
mod SourcedBlocks
mod FewBuilt
mod PreparedKeys
mod EngineChanges
