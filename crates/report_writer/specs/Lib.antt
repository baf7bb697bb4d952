pub mod Answers
pub mod Names
pub mod Outcomes
pub mod Reports
pub mod Values
pub mod Words
pub mod Forms
