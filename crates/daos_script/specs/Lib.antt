pub mod Clients
pub mod Grammar
pub mod Lines
pub mod Lists
pub mod Located
pub mod News
pub mod Puts
pub mod Reading
pub mod Readings
pub mod SoFar
pub mod States
pub mod Steps
pub mod Words

-- A text that stands for a script has keys as its names and keys.
