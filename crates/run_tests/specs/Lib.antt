-- What is said of a store over which one script after another is run, and of stores of several targets.
pub mod Lone
pub mod Pair
