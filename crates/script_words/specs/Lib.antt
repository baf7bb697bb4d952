pub mod Decls
pub mod Lookups
pub mod Reads
pub mod Snaps
pub mod Values
pub mod Words
