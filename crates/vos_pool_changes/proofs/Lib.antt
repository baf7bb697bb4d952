mod Named
mod Knowing
mod After
mod Preparing
mod Going
