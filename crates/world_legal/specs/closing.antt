-- What is over where a run has ended in which targets may stop, and what closes its report.
pub mod Closing
pub mod Holding
pub mod Reads
pub mod First
pub mod Outcomes
pub mod Kept
pub mod Sounding
pub mod Gone
pub mod Rowed
pub mod Waited
pub mod Asking
pub mod Sharing
pub mod OneLine
