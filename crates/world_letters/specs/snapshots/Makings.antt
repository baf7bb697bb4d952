-- Of which attempts comes what is asked, collected and told of snapshots and aggregations.
use Rattle.std.specs.Prelude.{ℕ, ◌≡◌, ◌≤◌, List, slice_get, Option, Some, None}
use Rattle.base_types.specs.declared.epoch.Epoch.{Epoch}
use Rattle.base_types.specs.declared.id.AttemptId.{AttemptId}
use Rattle.base_types.specs.declared.id.ContId.{ContId}
use Rattle.base_types.specs.declared.report.Line.{Line}
use Rattle.base_types.specs.declared.report.Line.TheVariants as line
use Rattle.base_types.specs.declared.script.Command.TheVariants.{Aggregate, Snap}
use Rattle.base_messages.specs.declared.message.Message.{Message, more_of-Message}
use Rattle.base_messages.specs.declared.message.Message.TheVariants as message
use Rattle.world_base.specs.model_laws.Members.{Has}
use Rattle.daos_model.specs.Transactions.{command_of}
use Rattle.world_base.specs.declared.letter.Letter.{Letter}
use Rattle.world_base.specs.declared.target.Collection.{Collection}
use Rattle.world_base.specs.declared.target.TargetState.{TargetState}
use Rattle.world_base.specs.declared.world.World.{World}
use Rattle.world_base.specs.Events.{Rules}

-- an attempt makes the snapshot of this name of a container
abbrev pub IsSnapOf : Rules → AttemptId → List ℕ → ContId → Type 0
IsSnapOf r x name c = command_of r.script x ≡ Some (Snap name c)

-- it makes a snapshot of a container
abbrev pub IsSnapIn : Rules → AttemptId → ContId → Type 0
IsSnapIn r x c = (name : List ℕ) × IsSnapOf r x name c

-- it aggregates a container
abbrev pub IsAggregationOf : Rules → AttemptId → ContId → Type 0
IsAggregationOf r x c = command_of r.script x ≡ Some (Aggregate c)

-- What is asked for a snapshot, or for an aggregation, its attempt makes. Where target 0 asks another target, it is at the epoch that was
-- issued to the attempt.
abbrev pub AsksSo : Rules → List (AttemptId × Epoch) → Message → Type 0
AsksSo r is (message.Snap x c name tracker) = IsSnapOf r x name c
AsksSo r is (message.Freeze x c s) = Has (x, s) is × IsSnapIn r x c
AsksSo r is (message.Prune x c (Some tracker) None) = IsAggregationOf r x c
AsksSo r is (message.Prune x c None (Some g)) = Has (x, g) is × IsAggregationOf r x c
AsksSo r is m = Unit {0}

-- so it is of what is said to have got no answer
abbrev pub IsSo : Rules → List (AttemptId × Epoch) → Message → Type 0
IsSo r is (message.Reset' t down place (more_of-Message q rest)) = AsksSo r is q
IsSo r is m = AsksSo r is m

abbrev pub IsMadeBy : Rules → AttemptId → ContId → Option (List ℕ) → Type 0
IsMadeBy r x c None = IsAggregationOf r x c
IsMadeBy r x c (Some name) = IsSnapOf r x name c

-- what target 0 collects, its attempt makes, at the epoch that was issued to it
abbrev pub CollectsSo : Rules → List (AttemptId × Epoch) → Collection → Type 0
CollectsSo r is c = Has (c.attempt, c.epoch) is × IsMadeBy r c.attempt c.cont c.name

-- A line of a freeze, of a snapshot or of an aggregation comes of an attempt that makes it, at the epoch that was issued to it; a container
-- is aggregated up to that epoch at most.
abbrev pub ComesOf : Rules → List (AttemptId × Epoch) → Line → Type 0
ComesOf r is (line.Freeze t c e) = (x : AttemptId) × Has (x, e) is × IsSnapIn r x c
ComesOf r is (line.Snapshot name c e) = (x : AttemptId) × Has (x, e) is × IsSnapOf r x name c
ComesOf r is (line.Aggregate n t c upto) = (x : AttemptId) × (g : Epoch) × Has (x, g) is × IsAggregationOf r x c × (upto.0 ≤ g.0)
ComesOf r is l = Unit {0}

-- so it is of all that is in flight or without an answer, that targets collect, and that lines tell
pub record Makings (r : Rules) (w : World) : Type 0 where
  pub letters : (l : Letter) → Has l w.messages → IsSo r w.issued l.message
  pub asked : (l : Letter) → Has l w.asked → AsksSo r w.issued l.message
  pub collecting : (t : ℕ) (s : TargetState) (c : Collection) → slice_get w.targets t ≡ Some s → Has c s.memory.collecting → CollectsSo r w.issued c
  pub lines : (l : Line) → Has l w.lines → ComesOf r w.issued l

-- ---- as more is issued

module _ (r : Rules) (is js : List (AttemptId × Epoch)) (more : (x : AttemptId) (e : Epoch) → Has (x, e) is → Has (x, e) js) where
  pub asks-more : (m : Message) → AsksSo r is m → AsksSo r js m
  asks-more (message.Snap x c name tracker) h = h
  asks-more (message.Freeze x c s) h = (more x s h.0, h.1)
  asks-more (message.Prune x c (Some tracker) None) h = h
  asks-more (message.Prune x c None (Some g)) h = (more x g h.0, h.1)
  asks-more m h = tt

  pub so-more : (m : Message) → IsSo r is m → IsSo r js m
  so-more (message.Reset' t down place (more_of-Message q rest)) h = asks-more q h
  so-more (message.Snap x c name tracker) h = h
  so-more (message.Freeze x c s) h = (more x s h.0, h.1)
  so-more (message.Prune x c (Some tracker) None) h = h
  so-more (message.Prune x c None (Some g)) h = (more x g h.0, h.1)
  so-more m h = tt

  pub collects-more : (c : Collection) → CollectsSo r is c → CollectsSo r js c
  collects-more c h = (more c.attempt c.epoch h.0, h.1)

  pub comes-more : (l : Line) → ComesOf r is l → ComesOf r js l
  comes-more (line.Freeze t c e) h = (h.0, more h.0 e h.1, h.2)
  comes-more (line.Snapshot name c e) h = (h.0, more h.0 e h.1, h.2)
  comes-more (line.Aggregate n t c upto) h = (h.0, h.1, more h.0 h.1 h.2, h.3, h.4)
  comes-more l h = tt
