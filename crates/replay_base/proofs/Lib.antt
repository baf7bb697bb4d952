pub mod Starts
pub mod Covering
pub mod Asking
pub mod Chains
pub mod Leaders
pub mod Issuing
