-- The laws of what lines tell of targets, as statements.
use Rattle.std.specs.Prelude.{ℕ, ◌+◌, ◌≡◌, ◌++◌, Bool, false, List, [], length, slice_get, Some}
use Rattle.base_types.specs.declared.report.Line.{Line}
use Rattle.base_types.specs.declared.report.Report.{Report}
use Rattle.base_types.specs.declared.script.Script.{Script}
use Rattle.daos_model.specs.Opening.{Outside}
use Rattle.daos_model.specs.Stops.{StopsLegal, down_targets, least}
use Rattle.world_base.specs.declared.target.Life.TheVariants.{Running}
use Rattle.world_base.specs.declared.target.TargetState.{TargetState}
use Rattle.world_base.specs.declared.world.World.{World}
use Rattle.world_base.specs.Events.{Rules}
use Rattle.world_base.specs.Stops.{TargetCut, WorldEvent, WorldRun}
use Rattle.world_letters.specs.lives.Counting.{AreCountedSo, DrawsOneByOne, stops_among, stops_told}
use Rattle.world_letters.specs.lives.Leases.{Lasts}
use Rattle.world_letters.specs.lives.Legal.{AreCaused, AreInOrder, NoneIsStopped}
use Rattle.world_letters.specs.lives.Lives.{Lives}

-- where nothing is told, and all targets run
abbrev pub LivesBegin : Type 0
LivesBegin = (w : World) → w.lines ≡ [] → ((t : ℕ) (s : TargetState) → slice_get w.targets t ≡ Some s → s.life ≡ Running) → Lives w

-- every event of a run
abbrev pub EventsKeepLives : Type 0
EventsKeepLives = (r : Rules) (w v : World) → WorldEvent r w v → Lives w → Lives v

-- of a target so many stops are told as events stop it
abbrev pub StopsAreTold : Type 0
StopsAreTold = (r : Rules) (w v : World) (run : WorldRun r w v) (t : ℕ) → stops_told v t ≡ stops_told w t + stops_among run t

-- where numbers are drawn one by one, restarts and aggregations are counted by the lines
abbrev pub NumbersAreCounted : Type 0
NumbersAreCounted = (r : Rules) (w v : World) → WorldEvent r w v → DrawsOneByOne w → AreCountedSo w → AreCountedSo v

-- a turn that was cut left its target's incarnation, and its lease no lower
abbrev pub CutsRaiseLeases : Type 0
CutsRaiseLeases = (r : Rules) (w v : World) (g : TargetCut r w v) → Lasts g.s.durable g.cut.left.durable

-- the lines so far are as a legal report asks
abbrev pub LivesAreInOrder : Type 0
LivesAreInOrder = (w : World) → Lives w → AreInOrder (length w.targets) w.lines

-- and so are those of every moment before
abbrev pub PartsAreInOrder : Type 0
PartsAreInOrder = (targets : ℕ) (lines more : List Line) → AreInOrder targets (lines ++ more) → AreInOrder targets lines

-- Where no target is stopped at the end, a report with these lines is legal as to stops, of what the outside caused; where turns are taken
-- in a stated order, restarts and aggregations are to be counted.
abbrev pub StopsAreLegal : Type 0
StopsAreLegal =
    (s : Script) (threads : Bool) (o : Outside) (w : World) → Lives w → NoneIsStopped w → AreCaused s o w → (q : Report) → q.lines ≡ w.lines → length w.targets ≡ s.targets → (threads ≡ false → AreCountedSo w) → q.down ≡ least (down_targets q.lines)
    → StopsLegal s threads o q
