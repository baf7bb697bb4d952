pub mod Due
pub mod Ranges
pub mod Seats
pub mod Tables
-- What a leader owes.

-- What crates above name of those below, passed on to them.
pub use Rattle.dtx_entries.specs as dtx_entries
