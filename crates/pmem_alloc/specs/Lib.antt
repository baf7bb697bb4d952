pub mod Sets
pub mod Map
pub mod Blocks
pub mod Pages
pub mod Laws
pub mod Still
