pub mod Read
pub mod Updates
