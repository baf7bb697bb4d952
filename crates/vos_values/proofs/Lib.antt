pub mod Packing
pub mod Filling
pub mod Orders
pub mod Reading
pub mod KeyLaws
pub mod ValueLaws
pub mod ObjectLaws
pub mod LinkLaws
