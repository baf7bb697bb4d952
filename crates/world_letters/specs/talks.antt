-- What is in flight between clients and targets, and what targets hold for clients.
pub mod Conversation
pub mod Asked
pub mod TalkLaws
pub mod AskLaws
pub mod HearLaws
pub mod LeaveLaws
