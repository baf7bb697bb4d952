-- Blocks in memory.
pub mod MemPagesState
