mod Parts
mod Taken
