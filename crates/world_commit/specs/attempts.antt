-- One attempt between its leader, its other members and the letters between them.
pub mod History
pub mod Attempts
pub mod Asked
pub mod Counting
pub mod Frames
pub mod Turning
pub mod MemberBits
pub mod Stored
pub mod AckViews
