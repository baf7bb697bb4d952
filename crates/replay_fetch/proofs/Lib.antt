pub mod Stages
pub mod Reading
pub mod Asking
pub mod Meeting
