pub mod Turns
pub mod Steps
-- What crates above name of those below, passed on to them.
pub use Rattle.vos_fitting.specs as vos_fitting
pub use Rattle.vos_fitting.specs.vos_image as vos_image
pub use Rattle.vos_fitting.specs.vos_settle as vos_settle
pub use Rattle.vos_small.specs as vos_small
