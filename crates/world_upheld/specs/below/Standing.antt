-- What crates above name of what stands at each moment and of the order of transactions, passed on to them.
pub use Rattle.world_legal.specs.world_standing.external.Behind.{BeganAfter, IsBehind, IsFar, IsFarOfFirst, IsLater, WasAnswered, WritesAt}
pub use Rattle.world_legal.specs.world_standing.external.Cells.{IsAskedAs, MeetsAt, asked-own, group-is_asked, meets, members-under, some-own}
pub use Rattle.world_legal.specs.world_standing.external.Kept.{AreInOrder, IsStoredBehind, ReadsAt}
pub use Rattle.world_legal.specs.world_standing.external.Order.{AreExternallyConsistent, Conflict, HasSmallerEpoch, IsAnsweredBefore, IsCommitted, KeepsTheBound, WritesWhere}
pub use Rattle.world_legal.specs.world_standing.external.Told.{IsServedAt, line-served, none-has}
pub use Rattle.world_legal.specs.world_standing.hearable.Covered.{IsCovered}
pub use Rattle.world_legal.specs.world_standing.hearable.Hearable.{CanHear, CanHearOn, declared_conts}
pub use Rattle.world_legal.specs.world_standing.hearable.Sent.{AreSentSo}
pub use Rattle.world_legal.specs.world_standing.standing.Clients.{ClientsSpeak}
pub use Rattle.world_legal.specs.world_standing.standing.Covering.{AreAll, all-put, epochs-puts, epochs-settled}
pub use Rattle.world_legal.specs.world_standing.standing.Events.{decided-issued, no-collections}
pub use Rattle.world_legal.specs.world_standing.standing.Telling.{sweeping-tells}
