mod Names
mod NumberSteps
mod Walking
mod Gathering
