pub mod Alone
pub mod Certain
pub mod Counts
pub mod Ends
pub mod Lines
pub mod Lone
pub mod Once
pub mod Restarts
pub mod Resolved
pub mod RoomLaws
pub mod Rooms
pub mod Stopless

-- What a legal report tells of a client that is alone.
-- Whether targets have room for all that a script writes.
