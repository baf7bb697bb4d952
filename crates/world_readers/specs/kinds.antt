-- What goes about of reads, and that each answer told is of its read's kind.
pub mod Kinds
pub mod Fetches
pub mod Turns
pub mod Totals
pub mod Events
