mod Sets
pub mod Steps
pub mod Faults
pub mod Looking
