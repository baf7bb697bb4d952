pub mod Stages
pub mod Checking
pub mod Instances
pub mod Asking
pub mod Reading
pub mod Refusing
pub mod Writing
