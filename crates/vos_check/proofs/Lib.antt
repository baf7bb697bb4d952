mod FieldSteps
mod Links
mod Gathering
mod Moving
mod EntrySteps
