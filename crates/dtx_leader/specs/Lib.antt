-- What crates above name of those below, passed on to them.
pub use Rattle.dtx_entries.specs as dtx_entries
pub use Rattle.dtx_table.specs as dtx_table
