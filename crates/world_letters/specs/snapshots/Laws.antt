-- The laws of what comes of snapshots and aggregations, as statements.
use Rattle.std.specs.Prelude.{ℕ, ◌≡◌, ◌<◌, [], All, slice_get, Some}
use Rattle.base_types.specs.declared.epoch.Epoch.{Epoch}
use Rattle.base_types.specs.declared.id.AttemptId.{AttemptId}
use Rattle.base_types.specs.declared.report.Attempt.{Attempt}
use Rattle.world_base.specs.model_laws.Members.{Has}
use Rattle.daos_model.specs.Attempts.{tries}
use Rattle.daos_model.specs.Snapshots.{ComesFrom}
use Rattle.world_base.specs.declared.target.TargetState.{TargetState}
use Rattle.world_base.specs.declared.world.World.{World}
use Rattle.world_base.specs.Events.{Rules}
use Rattle.world_base.specs.Stops.{WorldEvent}
use Rattle.world_letters.specs.epochs.Epochs.{ClientsStand}
use Rattle.world_letters.specs.lines.Lines.{Endings}
use Rattle.world_letters.specs.snapshots.Makings.{Makings}

-- where nothing is in flight, told or collected
abbrev pub MakingsBegin : Type 0
MakingsBegin = (r : Rules) (w : World) → w.messages ≡ [] → w.asked ≡ [] → w.lines ≡ [] → ((t : ℕ) (s : TargetState) → slice_get w.targets t ≡ Some s → s.memory.collecting ≡ []) → Makings r w

-- every event of a run, where clients stand at their commands
abbrev pub EventsKeepMakings : Type 0
EventsKeepMakings = (r : Rules) → 0 < r.attempts → (w v : World) → WorldEvent r w v → Endings w → ClientsStand r w → Makings r w → ClientsStand r v × Makings r v

-- each attempt to which an epoch was issued has its line, with that epoch
abbrev pub AllHaveLines : World → Type 0
AllHaveLines w = (x : AttemptId) (e : Epoch) → Has (x, e) w.issued → (a : Attempt) × Has a (tries w.lines) × (a.id ≡ x) × (a.epoch ≡ Some e)

-- So in the end, where each attempt has its line, lines of freezes, snapshots and aggregations come of attempts, as a legal report asks.
abbrev pub LinesComeFrom : Type 0
LinesComeFrom = (r : Rules) (w : World) → Makings r w → AllHaveLines w → All (ComesFrom r.script (tries w.lines)) w.lines
