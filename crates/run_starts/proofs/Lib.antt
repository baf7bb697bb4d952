-- Proofs of the opening of stores.
pub mod Adding
pub mod Greatest
pub mod Whole
