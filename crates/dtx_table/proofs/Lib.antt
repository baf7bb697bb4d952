pub mod Batches
pub mod Dues
pub mod Groups
pub mod Owing
