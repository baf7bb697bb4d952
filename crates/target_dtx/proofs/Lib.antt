pub mod Items
pub mod Marking
pub mod Confirming
pub mod Idling
pub mod Acking
pub mod Answering
pub mod Telling
mod Posting
