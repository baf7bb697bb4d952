-- The versions that targets keep stay in form.
pub mod Forms
pub mod Changes
pub mod Turns
pub mod Events
