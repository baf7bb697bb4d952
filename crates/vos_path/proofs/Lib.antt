pub mod Lists
pub mod Putting
pub mod Noting
pub mod Written
pub mod Forming
pub mod Naming
pub mod Finding
pub mod AkeyWrites
pub mod BranchWrites
pub mod DkeyWrites
pub mod NewVersions
pub mod AllSmall
-- Lemmas of crates below, passed on to those above.
pub use Rattle.vos_extent.proofs.vos_versions as vos_versions
