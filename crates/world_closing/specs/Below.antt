-- What crates above name of the facts about a run that goes on, passed on to them.
pub use Rattle.world_upheld.specs.below.Legal.{AreAll, IsOver, IsStill, durable_of, durables_of, found-entry, get-map, leader-there, other-there, report_over, stored_over, told-down}
pub use Rattle.world_upheld.specs.below.Readers.{AllBeginInTurn, AreOfNext, BeginsInTurn, HasItsLines, nobody-begins, told-begins}
pub use Rattle.world_upheld.specs.below.Standing.{AreExternallyConsistent, CanHear, IsCovered, KeepsTheBound, declared_conts, no-collections}
pub use Rattle.world_upheld.specs.explained.Explanations.{HoldNoMoreSnapshots}
pub use Rattle.world_upheld.specs.explained.Held.{kept-no-more}
pub use Rattle.world_upheld.specs.hearing.Hearable.{CanHearLetter, CanHearOfMaking}
pub use Rattle.world_upheld.specs.hearing.Leases.{all-runs-are_covered}
pub use Rattle.world_upheld.specs.hearing.Runs.{runs-can_hear_all}
pub use Rattle.world_upheld.specs.reasons.Accounted.{AccountedFor}
pub use Rattle.world_upheld.specs.reasons.Events.{all-events-keep_accounts}
pub use Rattle.world_upheld.specs.reasons.Runs.{runs-are_accounted}
pub use Rattle.world_upheld.specs.upheld.BeginVersions.{begins-well}
pub use Rattle.world_upheld.specs.upheld.Begins.{AreRulesInForm, KeepsSnapshots, RunBeginsWell, RunBeginsWith, client_begins, snaps_held, without_snaps, AreEnlisted, OpensWith, StartsWith, first_tracker, no_joining, no_leading}
pub use Rattle.world_upheld.specs.upheld.Events.{attempts-happened, grows-with, later-with}
pub use Rattle.world_upheld.specs.upheld.Runs.{runs-have_grounds, runs-hear_all_rightly}
pub use Rattle.world_upheld.specs.upheld.Upheld.{Grounds}
