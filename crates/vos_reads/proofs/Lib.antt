pub mod Rising
pub mod Quiet
pub mod Covered
pub mod Going
pub mod Arrays
pub mod Costs
pub mod Indexed
