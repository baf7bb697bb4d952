-- The first epochs of commands where targets may stop.
pub mod Firsts
pub mod Laws
pub mod Keeping
pub mod Moves
pub mod Clients
pub mod Further
pub mod Events
