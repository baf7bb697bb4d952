pub mod Steps
pub mod Trees
pub mod Chains
pub mod Codecs
pub mod Levels
pub mod Objects
pub mod Lists
pub mod Entries
pub mod Whole
pub mod Reading
pub mod Standing
pub mod ChainsStand
pub mod LevelsStand
pub mod ObjectsStand
pub mod ListsStand
pub mod EntriesStand
pub mod PlacesRead
pub mod WholeStands
-- Lemmas of crates below, passed on to those above.
pub use Rattle.vos_path.proofs as vos_path
