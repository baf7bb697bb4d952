pub mod Law
pub mod Sound
