pub mod Format
pub mod Attached
pub mod Made
