mod Cutting
mod Heard
mod Posting
mod Beside
mod Freezing
