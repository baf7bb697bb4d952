pub mod Small
pub mod Rooms
