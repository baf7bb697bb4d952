pub mod Counting
pub mod Marking
pub mod Staging
pub mod Holding
pub mod Taking
pub mod Paging
pub mod Shown
