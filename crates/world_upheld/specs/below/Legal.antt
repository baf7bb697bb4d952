-- What crates above name of how legal reports come about, passed on to them.
pub use Rattle.world_legal.specs.closing.Asking.{AreAsking, events-ask}
pub use Rattle.world_legal.specs.closing.Closing.{Concluded, IsOver, IsResolved, IsStill, IsToldOf, Resolves, WaitsForNone, durable_of, durables_of, report_over}
pub use Rattle.world_legal.specs.closing.First.{BeginsWith, among-tries, command-of, first-found, from-on}
pub use Rattle.world_legal.specs.closing.Gone.{NoneGoesToGivenUp, down-there, events-go_on}
pub use Rattle.world_legal.specs.closing.Holding.{AreHeld, HasEntries, decided-held, durable-at, field-is, from-durables, held-at, held-resolved, leader-there, many, other-there, resolved-held, writes-led}
pub use Rattle.world_legal.specs.closing.Kept.{AreAll, get-map, runs-as_many}
pub use Rattle.world_legal.specs.closing.Outcomes.{ended-well, ends-right, whole-issued}
pub use Rattle.world_legal.specs.closing.Reads.{right-same}
pub use Rattle.world_legal.specs.closing.Sounding.{covered-of}
pub use Rattle.world_legal.specs.closing.OneLine.{one-line, written-minors}
pub use Rattle.world_legal.specs.closing.Waited.{Answers, Asks, TalkWay, WaitersAreAsked, own-target, row-runs, some-counted, sweeping-asked, target-is, told-down, way-of}
pub use Rattle.world_legal.specs.doubts.Recounting.{found-entry}
pub use Rattle.world_legal.specs.forming.Epochs.{LeasesFit, floor-short, issued-short}
pub use Rattle.world_legal.specs.forming.Ids.{issued-id, told-id}
pub use Rattle.world_legal.specs.forming.Outcomes.{AreShort}
pub use Rattle.world_legal.specs.reasons.Accounted.{stored_over}
pub use Rattle.world_legal.specs.reasons.Knowing.{DownsAreKnown}
