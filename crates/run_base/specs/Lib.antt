pub mod Changes
pub mod Letters
pub mod Numbers
pub mod Picked
pub mod Picks
pub mod Quiet
pub mod Sweeps

-- Letters to an actor, and what lies between actors.
-- The order of turns.
