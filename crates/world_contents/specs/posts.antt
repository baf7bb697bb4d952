pub mod Forms
pub mod FormLaws
pub mod Posting
pub mod AfterStops
pub mod ScriptForm
pub mod KnownSnapshots
pub mod ClientPosts
pub mod Members
