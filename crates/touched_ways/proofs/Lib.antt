mod NumberLists
mod FoundKeys
mod LinkedKeys
mod FollowedNodes
mod LinkRounds
mod ChangedLinks
pub mod WayLists
mod SamePieces
mod ListedPieces
mod StillWays
mod StillTurns
mod StillContexts
mod StillArcs
mod StillBlocks
mod LedBlocks
mod ArcSources
mod WayGaps
mod NearLists
mod MetWays
pub mod FiniteTouched
mod TouchedAround
