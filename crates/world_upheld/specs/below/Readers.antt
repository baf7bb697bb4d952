-- What crates above name of what waits and of what timestamps and lines tell, passed on to them.
pub use Rattle.world_readers.specs.forms.Events.{PreparesCarryOwn, all-events-keep_form, attempts-prepare_own}
pub use Rattle.world_readers.specs.forms.Forms.{AllKeepInForm}
pub use Rattle.world_readers.specs.kinds.Events.{all-events-keep_fitting, fitting-begins}
pub use Rattle.world_readers.specs.kinds.Kinds.{AnswersFitInWorld}
pub use Rattle.world_readers.specs.lines.Endings.{lines-end_well}
pub use Rattle.world_readers.specs.lines.InTurn.{AllBeginInTurn, AreOfNext, BeginsInTurn, HasItsLines}
pub use Rattle.world_readers.specs.lines.InTurnLaws.{lines-begin_in_turn, nobody-begins, told-begins}
