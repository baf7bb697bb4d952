pub mod Entities
pub mod Marks
pub mod Raised
pub mod Stamps
