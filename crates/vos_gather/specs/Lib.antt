pub mod Gathered
pub mod Wanted
pub mod Updates
-- What crates above name of those below, passed on to them.
pub use Rattle.vos_lists.specs.vos_reads as vos_reads
