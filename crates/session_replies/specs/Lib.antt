pub mod FurtherMessages
pub mod Replies
pub mod Texts
pub mod ZoneVerdicts
pub mod CostTexts
pub mod PinMessages
pub mod PinTexts
pub mod PinReplies
