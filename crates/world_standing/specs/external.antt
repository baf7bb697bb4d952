-- When epochs keep the order of real time.
pub mod Order
pub mod Behind
pub mod Checks
pub mod Cells
pub mod Silent
pub mod Kept
pub mod Lines
pub mod Told
