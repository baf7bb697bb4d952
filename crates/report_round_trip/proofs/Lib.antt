pub mod InOrder
pub mod Lines
pub mod Marks
pub mod Snaps
pub mod Space
pub mod Tries
pub mod Spelled
pub mod Reports
