-- Whether a target heard a Fetch so.
pub mod Met
pub mod Left
pub mod Fetched
