mod Header
mod Fitting
mod Standing
mod Commits
