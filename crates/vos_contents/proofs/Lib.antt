pub mod Answering
pub mod Clients
pub mod Kept
pub mod Prepared
pub mod Indexing
pub mod Loading
