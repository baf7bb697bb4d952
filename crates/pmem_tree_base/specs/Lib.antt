pub mod Calls
pub mod Nodes
pub mod Find
pub mod Put
pub mod Join
