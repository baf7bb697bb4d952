-- What the calls of a table make of its entries.
pub use Rattle.dtx_entries.specs.Settling.{IsStep, entry_in, entries_settled}
