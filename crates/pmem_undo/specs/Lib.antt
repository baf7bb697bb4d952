pub mod Layout
pub mod Log
pub mod Settled
pub mod Spans
pub mod Undo
pub mod Opening
