mod ReadForms
mod Settled
mod Punching
mod Turns
mod Found
pub mod RecordForms
