pub mod Steps
pub mod Bytes
pub mod Conts
pub mod Snaps
pub mod Map
pub mod Header
pub mod Writing
pub mod Apart
-- Lemmas of crates below, passed on to those above.
pub use Rattle.vos_image.proofs as vos_image
pub use Rattle.vos_image.proofs.vos_path as vos_path
