-- What the rows name.
pub mod Overtaken
pub mod Own
pub mod Rows
