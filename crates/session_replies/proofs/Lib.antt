mod RepliesAsked
mod ZoneSteps
mod RoadAnswers
mod FrameMessages
mod FollowedChanges
mod FollowedQuestions
