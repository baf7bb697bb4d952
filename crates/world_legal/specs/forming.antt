-- What a report tells is as short as its types hold.
pub mod Ids
pub mod Epochs
pub mod Outcomes
pub mod NumberForms
