mod KeptLinks
mod CellReach
mod RoadParts
mod PartBlocks
mod WayOwners
mod NestedCells
mod EmptyCells
