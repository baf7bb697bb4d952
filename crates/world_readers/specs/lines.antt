-- What lines tell: that attempts begin those of commands in turn, and ended as they were answered.
pub mod InTurn
pub mod InTurnLaws
pub mod Endings
