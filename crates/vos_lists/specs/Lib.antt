pub mod Entries
pub mod Paths
pub mod Stands
pub mod Covers
pub mod Unders
-- What crates above name of those below, passed on to them.
pub use Rattle.vos_reads.specs as vos_reads
