pub mod Fields
pub mod Keys
pub mod Values
pub mod Links
