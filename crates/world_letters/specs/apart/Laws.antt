-- What an event leaves to all but the one who acts in it, as statements.
use Rattle.std.specs.Prelude.{ℕ, ◌≡◌, ◌<◌, Some}
use Rattle.world_letters.specs.apart.Sparing.{SparesOthers}
use Rattle.world_letters.specs.apart.Sweeping.{downs_of, swept_by}
use Rattle.world_letters.specs.apart.Taking.{TakesNumbers, aggregate_of, restart_of}
use Rattle.world_base.specs.declared.world.World.{World}
use Rattle.world_base.specs.Events.{Rules}
use Rattle.world_base.specs.Stops.{IsFreeAggregate, IsFreeRestart, WorldEvent, acts, swept}

-- every other client and target stays as it is, and there are as many
abbrev pub EventsSpareOthers : Type 0
EventsSpareOthers = (r : Rules) (w v : World) (e : WorldEvent r w v) → SparesOthers (acts r e.happens) w v

-- the lines that it adds have no number of a restart or of an aggregation but the one that was drawn for it
abbrev pub EventsTakeTheirNumbers : Type 0
EventsTakeTheirNumbers = (r : Rules) (w v : World) (e : WorldEvent r w v) → TakesNumbers (restart_of e.happens) (aggregate_of e.happens) w v

-- a number of a restart that was drawn for another event, and isn't given back, is still that of no line
abbrev pub FreeRestartsStay : Type 0
FreeRestartsStay = (r : Rules) (w v : World) (e : WorldEvent r w v) (n : ℕ) → (restart_of e.happens ≡ Some n → ⊥) → IsFreeRestart w n → n < v.numbers.restarts → IsFreeRestart v n

-- and so is one of an aggregation
abbrev pub FreeAggregatesStay : Type 0
FreeAggregatesStay = (r : Rules) (w v : World) (e : WorldEvent r w v) (n : ℕ) → (aggregate_of e.happens ≡ Some n → ⊥) → IsFreeAggregate w n → n < v.numbers.aggregates → IsFreeAggregate v n

-- what is lost since targets are given up is told from the list of these alone
abbrev pub SweepingAsksForDowns : Type 0
SweepingAsksForDowns = (w : World) → swept w ≡ swept_by (downs_of w.targets) w
