pub mod Alls
pub mod Versions
pub mod Logs
pub mod Writes
pub mod Entries
-- Lemmas of crates below, passed on to those above.
pub use Rattle.vos_image.proofs.vos_path as vos_path
pub use Rattle.vos_settle.proofs as vos_settle
