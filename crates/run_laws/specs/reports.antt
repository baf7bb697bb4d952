-- What a run in an order reports, where targets may stop and open again.
pub mod Closings
pub mod Reports
pub mod Legal
pub mod Alone
pub mod Issued
pub mod IssuedThere
pub mod Forms
pub mod Inquiries
pub mod Middle
pub mod Settling
pub mod Unknown
pub mod Unstopped
pub mod Kept
