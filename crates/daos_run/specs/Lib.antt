-- What a run says.
pub mod Slots
pub mod Opens
pub mod Starts
pub mod Stops
pub mod Comes
pub mod Alone
pub mod Back
pub mod Legal
