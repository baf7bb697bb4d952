pub mod Number
pub mod NumberLaws
pub mod Parts
pub mod Results
pub mod RowLaws
pub mod Rows
pub mod Steps
