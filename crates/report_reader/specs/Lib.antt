pub mod Law
pub mod Marks
pub mod Reading
pub mod Reads
pub mod Told
