-- Turns in which target 0 hears a Held.
use Rattle.std.specs.Prelude.{ℕ, ◌≡◌, true, Option, Some, None, Result}
use Rattle.base_types.specs.declared.id.AttemptId.{AttemptId}
use Rattle.base_types.specs.declared.key.Key.{Key}
use Rattle.base_types.specs.declared.outcome.Outcome.{Outcome}
use Rattle.daos_model.specs.declared.durable.Durable.{Durable}
use Rattle.daos_model.specs.Durables.{is_frozen}
use Rattle.model_laws.specs.Members.{Has}
use Rattle.snap_core.specs.Snaps.{SnapOf}
use Rattle.vos_store.specs.Calls.{State}
use Rattle.world_base.specs.declared.did.Did.{Did}
use Rattle.world_base.specs.declared.target.Collection.{Collection}
use Rattle.world_base.specs.declared.target.TargetMemory.{TargetMemory}
use Rattle.world_base.specs.declared.target.TargetPlan.{TargetPlan}
use Rattle.world_base.specs.CutTurns.{none_issued}
use Rattle.world_base.specs.Snapshots as snap
use Rattle.world_base.specs.Turns.{Whole}
use Rattle.target_parts.specs.declared.stop.TargetStop.{TargetStop}
use Rattle.target_parts.specs.Parts.{kept}
use Rattle.target_snaps.specs.declared.helds.NewSnapshot.{NewSnapshot}
use Rattle.target_snaps.specs.Lined.{LinedTurn}

-- what is being made is made by a target of so many
pub record IsSnapsOf (p : TargetPlan) (s : SnapOf) : Type 0 where
  pub me : s.me ≡ p.me
  pub targets : s.targets ≡ p.targets

-- each snapshot that is being made is frozen here
abbrev pub AreFrozenHere : SnapOf → Durable → Type 0
AreFrozenHere s d = (n : Collection) (name : Key) → Has n s.collecting → n.name ≡ Some name → is_frozen d n.cont n.epoch ≡ true

-- the snapshot that is made by a collection that all hold, if it has a name
abbrev pub named_so : Collection → Option Key → Option NewSnapshot
named_so n None = None
named_so n (Some name) = Some (record { cont = n.cont; epoch = n.epoch; name = name })

abbrev pub new_snapshot_of : Option Collection → Option NewSnapshot
new_snapshot_of None = None
new_snapshot_of (Some n) = named_so n n.name

-- a turn in which another target's Held is heard
abbrev pub HeldTurn : TargetPlan → TargetMemory → ℕ → AttemptId → Option Outcome → Durable → State → Option Durable → State → (Durable → Type 0) → TargetMemory → Result Did TargetStop → Type 0
HeldTurn t m from x refusal d h new k finds left result =
    LinedTurn (snap.HeldNext t m from x refusal) none_issued t.me snap.Heard (kept d h)
    (λ did l. Whole (snap.HeldNext t m from x refusal) (snap.HeldEnds t m from x refusal) snap.Heard (kept d h) l (left, did)) new k finds result
