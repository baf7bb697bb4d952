-- What targets can hear, and what they can open again with, where targets may stop.
pub mod Sent
pub mod Covered
pub mod Hearable
