-- Versions and served reads over stops and openings: the statements.
use Rattle.std.specs.Prelude.{ℕ, ◌≡◌, ◌≢◌, ◌⊎◌, List, [], Contains, slice_get, Some, ◌≤◌}
use Rattle.base_types.specs.declared.epoch.Epoch.{Epoch}
use Rattle.base_types.specs.declared.id.AttemptId.{AttemptId}
use Rattle.base_types.specs.declared.report.Line.TheVariants as line
use Rattle.model_laws.specs.Members.{Has}
use Rattle.daos_model.specs.declared.durable.Version.{Version}
use Rattle.daos_model.specs.Opening.{Opening}
use Rattle.world_contents.specs.world_commit.attempts.Attempts.{writes_of}
use Rattle.world_contents.specs.world_commit.attempts.History.{History, decides}
use Rattle.world_base.specs.declared.target.TargetState.{TargetState}
use Rattle.world_base.specs.declared.world.World.{World}
use Rattle.world_base.specs.Events.{Rules}
use Rattle.world_base.specs.Stops.{NumbersDrawn, OpeningFails, TargetCut, TargetGivenUp, TargetOpens, swept, after_cut}
use Rattle.world_contents.specs.reads.DecideLaws.{MayBeDecided}
use Rattle.world_contents.specs.reads.Given.{Given}
use Rattle.world_contents.specs.reads.LaterLaws.{IsHeldByAll}
use Rattle.world_contents.specs.reads.Reads.{Reads}
use Rattle.world_contents.specs.reads.Standing.{Knows}
use Rattle.world_contents.specs.reads.Versions.{Versions}
use Rattle.world_causes.specs.restarts.CutLaws.{IsPlainWork}
use Rattle.base_types.specs.declared.entry.Entry.{Entry}
use Rattle.base_types.specs.declared.report.Attempt.{Attempt}
use Rattle.world_base.specs.CutTurns.{Cutting}
use Rattle.world_contents.specs.world_letters.epochs.Epochs.{Epochs}
use Rattle.world_contents.specs.gots.Gots.{Gots}

-- A turn is cut in which a target hears what it hears without snapshots and aggregation, or does its idle work.
abbrev pub CutsKeepReads : Type 0
CutsKeepReads = (r : Rules) (o : Opening) (held : ℕ → List Version) (h : History) (w v : World) → Knows r o held h w → (g : TargetCut r w v) → IsPlainWork g.work → Versions r o held h v × Reads r o h v

-- a target opens again
abbrev pub OpeningsKeepReads : Type 0
OpeningsKeepReads = (r : Rules) (o : Opening) (held : ℕ → List Version) (h : History) (w v : World) → TargetOpens r w v → Versions r o held h w → Reads r o h w → Versions r o held h v × Reads r o h v

-- its opening fails
abbrev pub FailuresKeepReads : Type 0
FailuresKeepReads = (r : Rules) (o : Opening) (held : ℕ → List Version) (h : History) (w v : World) → OpeningFails r w v → Versions r o held h w → Reads r o h w → Versions r o held h v × Reads r o h v

-- it is given up
abbrev pub GivingUpKeepsReads : Type 0
GivingUpKeepsReads = (r : Rules) (o : Opening) (held : ℕ → List Version) (h : History) (w v : World) → TargetGivenUp r w v → Versions r o held h w → Reads r o h w → Versions r o held h v × Reads r o h v

-- what goes to targets that are given up is lost
abbrev pub SweepsKeepReads : Type 0
SweepsKeepReads = (r : Rules) (o : Opening) (held : ℕ → List Version) (h : History) (w : World) → Versions r o held h w → Reads r o h w → Versions r o held h (swept w) × Reads r o h (swept w)

-- numbers are drawn
abbrev pub NumbersKeepReads : Type 0
NumbersKeepReads = (r : Rules) (o : Opening) (held : ℕ → List Version) (h : History) (w v : World) → NumbersDrawn w v → Versions r o held h w → Reads r o h w → Versions r o held h v × Reads r o h v

-- An attempt is decided that nobody is told of, as by an opening that finds its entry prepared and without other members: where it may be
-- decided, was issued and writes something, and its leader and its other members hold it.
abbrev pub DecisionsKeepReads : Type 0
DecisionsKeepReads =
    (r : Rules) (o : Opening) (held : ℕ → List Version) (h : History) (w : World) (x : AttemptId) (e : Epoch) → Given r o held w → MayBeDecided r o h x e → Contains w.issued (x, e) → writes_of r x ≢ [] → IsHeldByAll r w x e
    → Versions r o held h w → Reads r o h w → Versions r o held (decides h x e) w × Reads r o (decides h x e) w

-- ---- where no client does anything, and no epoch is issued

-- what is said of epochs, and of what clients were told, stays so
pub record KeepsDated (w v : World) : Type 0 where
  pub epochs : (r : Rules) (top : ℕ) → Epochs r top w → Epochs r top v
  pub gots : (r : Rules) (h : History) → Gots r h w → Gots r h v

-- a turn is cut that issued nothing, whose target has no other entries then but ones of attempts with their epochs
abbrev pub StopsKeepDated : Type 0
StopsKeepDated =
    (w v : World) (t : ℕ) (s : TargetState) (cut : Cutting) → slice_get w.targets t ≡ Some s → v ≡ after_cut w t s cut → cut.issued ≡ [] → ((a : Attempt) → Has (line.Try a) cut.lines → ⊥) → s.durable.lease ≤ cut.left.durable.lease
    → ((k : Entry) → Contains cut.left.durable.entries k → Contains s.durable.entries k ⊎ Contains w.issued (k.attempt, k.epoch)) → KeepsDated w v

-- a target opens again, fails to, or is given up
abbrev pub OpeningsKeepDated : Type 0
OpeningsKeepDated = (r : Rules) (w v : World) → TargetOpens r w v ⊎ OpeningFails r w v ⊎ TargetGivenUp r w v → KeepsDated w v

-- what goes to targets that are given up is lost, or numbers are drawn
abbrev pub SweepsKeepDated : Type 0
SweepsKeepDated = (w : World) → KeepsDated w (swept w)

abbrev pub NumbersKeepDated : Type 0
NumbersKeepDated = (w v : World) → NumbersDrawn w v → KeepsDated w v
