pub mod Telling
pub mod Turning
pub mod Lists
pub mod Sorting
pub mod Starting
pub mod Hearing
