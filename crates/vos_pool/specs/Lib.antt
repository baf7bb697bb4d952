pub mod Pool
pub mod Causes
pub mod Made
