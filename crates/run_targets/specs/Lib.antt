-- What a run begins with and comes to, passed on.
pub mod Ends
pub mod Below
