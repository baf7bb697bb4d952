pub mod Binds
pub mod Keeps
pub mod KeepsHeads
pub mod KeepsLists
pub mod Pushes
pub mod Loop
pub mod Tells
pub mod TextLaws
