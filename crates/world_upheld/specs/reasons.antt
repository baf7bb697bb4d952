-- What tells of stops and what is stored once, beside all that is upheld, and where leaders' stops show.
pub mod Accounted
pub mod Knowing
pub mod Events
pub mod Runs
pub mod Hearing
pub mod Leaders
pub mod Counting
pub mod Requests
pub mod Doubting
pub mod Reasons
pub mod Asked
