mod OneMoment
pub mod TextCuts
pub mod ShapeSteps
pub mod SaidParts
pub mod SpacedTexts
pub mod ConditionCases
pub mod PartCases
pub mod LastValues
mod MomentSaid
mod MomentKeys
mod MomentLaws
