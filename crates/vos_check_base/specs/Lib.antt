pub mod Sets
pub mod Answers
pub mod Health
-- What crates above name of those below, passed on to them.
pub use Rattle.vos_image.specs as vos_image
