pub mod Declared
pub mod InForm
pub mod Keys
pub mod More
pub mod Runs
