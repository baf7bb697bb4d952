-- What an event leaves to all but the one who acts in it.
pub mod Sparing
pub mod Taking
pub mod Sweeping
pub mod Laws
pub mod Staying
