pub mod Ways
pub mod Cost
