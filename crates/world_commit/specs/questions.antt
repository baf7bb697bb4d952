-- What is told and asked between targets that may stop.
pub mod Facts
pub mod Losing
pub mod Stopping
pub mod Hearing
pub mod Flying
pub mod Known
pub mod Lacking
pub mod Inquiring
pub mod Sending
pub mod Further
pub mod Leaving
pub mod Bearing
pub mod Senders
pub mod Laws
pub mod Happening
