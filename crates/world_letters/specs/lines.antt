-- The lines of a run, client by client.
pub mod Lines
pub mod FilledLaws
pub mod LineLaws
pub mod EndingLaws
pub mod LastLines
pub mod Laws
