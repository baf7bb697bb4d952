pub mod Greatest
pub mod Speaking
