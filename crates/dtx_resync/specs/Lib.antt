pub mod Resyncs
-- What crates above name of those below, passed on to them.
pub use Rattle.dtx_table.specs as dtx_table
