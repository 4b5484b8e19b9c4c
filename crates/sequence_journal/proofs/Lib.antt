mod HeadFields
mod OpenGates
mod GateReturns
mod EndReturns
mod Replacements
pub mod SameParts
pub mod OneHistory
mod Damage
mod HistoryFronts
mod FilledParts
mod FoundParts
mod PartAnswers
mod ReadSoFar
pub mod SettledFile
pub mod SoundEnds
pub mod MendedFile
mod AddedChange
mod WrittenBase
mod IntactFiles
mod ShownBytes
