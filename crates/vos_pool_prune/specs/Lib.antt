pub mod Order
pub mod Removals
pub mod Changing
