-- What a commit makes of what a region keeps, for any way to read a content.
pub mod Kept
pub mod Laws
pub mod Found
pub mod Made
