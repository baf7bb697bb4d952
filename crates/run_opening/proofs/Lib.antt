-- Proofs of the opening's code.
pub mod Bits
pub mod Going
pub mod Ending
pub mod Thawing
pub mod Direct
pub mod Made
pub mod Walks
pub mod Whole
pub mod Leaving
pub mod Settling
pub mod Cutting
pub mod Dropping
pub mod Finding
