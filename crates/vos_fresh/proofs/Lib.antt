pub mod Zeros
pub mod MapRight
pub mod Holding
