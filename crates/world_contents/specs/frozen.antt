-- What freezing, creating and pruning leave of what a target keeps and served.
pub mod Rows
pub mod Laws
pub mod Shown
pub mod FreezeLaws
pub mod PruneLaws
pub mod LimitLaws
