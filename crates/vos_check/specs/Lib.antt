pub mod Steps
pub mod Rows
-- What crates above name of those below, passed on to them.
pub use Rattle.vos_check_trees.specs as vos_check_trees
pub use Rattle.vos_image.specs as vos_image
