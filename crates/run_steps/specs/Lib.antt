-- What turns of actors lead to from their beginning.
pub mod Froms
pub mod Laws
