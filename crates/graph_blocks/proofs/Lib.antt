mod LentBlocks
