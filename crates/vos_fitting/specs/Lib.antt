pub mod Fitting
-- What crates above name of those below, passed on to them.
pub use Rattle.vos_image.specs as vos_image
pub use Rattle.vos_image.specs.vos_path as vos_path
pub use Rattle.vos_settle.specs as vos_settle
