-- The text of a report determines it, at each moment of any run, also where snapshots are made and read, and containers aggregated.
pub mod Forming
pub mod Epochs
pub mod Keys
pub mod Making
pub mod Fit
pub mod Outcomes
pub mod Runs
pub mod PathForms
pub mod ReportForms
pub mod SpaceForms
