pub mod Only
pub mod OnlyLaws
pub mod Refusals
pub mod Unstopped
