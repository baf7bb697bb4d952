pub mod Blank
pub mod Fault
pub mod Laws
