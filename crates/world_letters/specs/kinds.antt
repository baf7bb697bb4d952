-- What goes about of an attempt's read, and that the answers of which a client tells are of the kind of its reads.
pub mod Loads
pub mod LoadLaws
pub mod PostLaws
pub mod TurnLaws
pub mod Fitting
pub mod FittingLaws
