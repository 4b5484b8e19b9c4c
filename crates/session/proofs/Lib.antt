pub mod OutputFronts
mod PutChunks
pub mod KeptStores
pub mod AnsweredMessages
mod ToldAnswers
mod Optional
mod FollowedMessages
mod ClosedSessions
pub mod HeldSource
mod OpenedSessions
mod ReadSessions
mod BuiltAnswers
mod BuiltMessages
mod BuiltSessions
mod GoingTalks
