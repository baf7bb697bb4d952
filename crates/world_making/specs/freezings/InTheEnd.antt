-- What follows of the snapshots that target 0 keeps as created in the end.
use Rattle.std.specs.Prelude.{◌≡◌, ◌<◌, ◌⊎◌, Any, Contains, true, List, [], ◌∷◌, slice_get, Some}
use Rattle.std.proofs.Common.{sym, ◌∙◌, ap, subst, inl, inr}
use Rattle.base_types.specs.declared.epoch.Epoch.{Epoch}
use Rattle.base_types.specs.declared.id.ContId.{ContId}
use Rattle.base_types.specs.declared.outcome.Outcome.TheVariants.{Committed}
use Rattle.base_types.specs.declared.report.Attempt.{Attempt}
use Rattle.base_types.specs.declared.report.Line.{Line}
use Rattle.base_types.specs.declared.report.Line.TheVariants as line
use Rattle.model_laws.specs.Lists.{any-of}
use Rattle.model_laws.specs.Members.{Has, has-from_contains, has-left}
use Rattle.daos_model.specs.Attempts.{is_unsure, tries}
use Rattle.daos_model.specs.Opening.{Opening, top}
use Rattle.daos_model.specs.Snapshots.{MakesSnapshotAt}
use Rattle.daos_model.specs.Transactions.{command_of}
use Rattle.world_base.specs.declared.target.TargetState.{TargetState}
use Rattle.world_base.specs.declared.world.World.{World}
use Rattle.world_base.specs.Events.{Rules}
use Rattle.world_making.specs.freezings.Freezings.{EndComes, Freezings, IsCreatedFirst, IsFated, IsFatedSnap, HasItsLine, LossComes}
use Rattle.world_making.specs.making.Snapshots.{holds_created}
use Rattle.world_letters.specs.lives.Adding.{try-at}

-- an attempt made a snapshot: it is committed, or its client may not have heard what became of it
abbrev pub MayHaveCreated : Rules → ContId → Epoch → Attempt → Type 0
MayHaveCreated r c s a = MakesSnapshotAt r.script c s a × ((a.outcome ≡ Committed) ⊎ (is_unsure a ≡ true))

-- where nothing is in flight, each snapshot that target 0 created in this run is that of such an attempt, which has its line
abbrev pub NewSnapshotsAreMade : Type 0
NewSnapshotsAreMade =
    (r : Rules) (o : Opening) (w : World) → Freezings r o w → w.messages ≡ [] → (z : TargetState) (c : ContId) (s : Epoch) → slice_get w.targets 0 ≡ Some z
    → holds_created z.durable c s ≡ true → top o < s.0 → Any (MayHaveCreated r c s) (tries w.lines)

-- at each moment, the snapshot of each committed attempt is created at target 0
abbrev pub CommittedAreCreated : Type 0
CommittedAreCreated = (r : Rules) (o : Opening) (w : World) → Freezings r o w → (a : Attempt) (c : ContId) (s : Epoch) → Contains (tries w.lines) a → MakesSnapshotAt r.script c s a → a.outcome ≡ Committed → IsCreatedFirst w c s

-- ---- the proofs

has-try : (ls : List Line) (a : Attempt) → Has (line.Try a) ls → Has a (tries ls)
unfolding tries
has-try [] a i = i
has-try (l ∷ ls) a i = by l i (has-try ls a)
  where
    by : (l : Line) → Has (line.Try a) (l ∷ ls) → (Has (line.Try a) ls → Has a (tries ls)) → Has a (tries (l ∷ ls))
    by (line.Try b) (inl same) rest = let one : a ≡ b = cc in inl one
    by (line.Try b) (inr i) rest = inr (rest i)
    by l (inl same) rest = let no : ⊥ = cc in absurd no
    by l (inr i) rest = rest i

pub new-made : NewSnapshotsAreMade
new-made r o w k none z c s here is high = by f.fate
  where
    f : IsFatedSnap r w c s
    f = k.fated z c s here is high

    by : IsFated w f.x s → Any (MayHaveCreated r c s) (tries w.lines)
    by (EndComes l i says) = absurd (subst (Has l) none i)
    by (LossComes l t down c2 name q i says) = absurd (subst (Has l) none i)
    by (HasItsLine a i id epoch how) = any-of (MayHaveCreated r c s) (tries w.lines) a (has-try w.lines a i) ((f.snaps.0, record { command = ap (command_of r.script) id ∙ f.snaps.1; issued = epoch }), how)

pub committed-created : CommittedAreCreated
committed-created r o w k a c s i makes committed =
    let at = try-at w.lines a (has-from_contains (tries w.lines) a i) in
    k.lines makes.0 c s (subst (Has (line.Snapshot makes.0 c s)) (sym at.2) (has-left at.0 (line.Try a ∷ at.1) (line.Snapshot makes.0 c s)
    (has-from_contains at.0 (line.Snapshot makes.0 c s) (k.committed at.0 a at.1 at.2 makes.0 c s makes.1 committed))))
