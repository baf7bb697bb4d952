pub mod Writers
pub mod Removals
