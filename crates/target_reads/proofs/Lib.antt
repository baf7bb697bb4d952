pub mod Containers
pub mod Fetching
pub mod Serving
pub mod Retrying
pub mod FetchTurns
pub mod Parking
pub mod Verdicts
mod Posting
pub mod Carrying
