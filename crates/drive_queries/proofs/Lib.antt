pub mod MessageSteps
mod CountedBlocks
