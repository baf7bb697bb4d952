pub mod Lists
pub mod Attempts
pub mod Rising
pub mod Settling
pub mod Going
