-- Who is asked what became of an attempt.
pub mod Asks
pub mod Moving
pub mod NamedLaws
pub mod ParkedLaws
pub mod Sending
pub mod Entries
pub mod Refusing
pub mod MarkLaws
pub mod InquiryLaws
pub mod Knowing
pub mod Told
pub mod ToldTurns
pub mod InquiryKept
pub mod Rows
pub mod RowsKept
