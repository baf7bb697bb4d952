-- That outcomes show their causes, beside all that is accounted for, whatever a run does.
pub mod Explanations
pub mod Written
pub mod Waiting
pub mod Heard
pub mod Events
pub mod Runs
pub mod Held
