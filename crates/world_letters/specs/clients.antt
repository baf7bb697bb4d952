-- What a client's lines tell of its commands.
pub mod Standing
pub mod StandingLaws
pub mod MoveLaws
pub mod Answered
pub mod AnsweredLaws
pub mod AnswerLaws
pub mod Laws
pub mod Snapshots
