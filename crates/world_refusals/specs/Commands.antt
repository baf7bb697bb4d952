-- Which outcomes go with a command: any with a transaction that reads at no snapshot, and an unresolved one with each; of a freeze's refusals, each
-- with a snapshot.
use Rattle.std.specs.Prelude.{ℕ, ◌≡◌, ◌≢◌, true, false, is_some, List, [], Option, Some, None, Result, Ok, Err, refl}
use Rattle.std.proofs.Common.{sym, ap, subst}
use Rattle.base_types.specs.declared.epoch.Epoch.{Epoch}
use Rattle.base_types.specs.declared.id.AttemptId.{AttemptId}
use Rattle.base_types.specs.declared.id.ContId.{ContId}
use Rattle.base_types.specs.declared.outcome.Cause.{Cause}
use Rattle.base_types.specs.declared.outcome.Cause.TheVariants.{Unresolved}
use Rattle.base_types.specs.declared.outcome.Outcome.{Outcome}
use Rattle.base_types.specs.declared.outcome.Outcome.TheVariants as outcome
use Rattle.base_types.specs.declared.script.Command.{Command}
use Rattle.base_types.specs.declared.script.Command.TheVariants.{Aggregate, Run, Skip, Snap, Tell}
use Rattle.base_types.specs.declared.script.Script.{Script}
use Rattle.base_types.specs.Scripts.{IsInForm}
use Rattle.daos_model.specs.declared.durable.Durable.{Durable}
use Rattle.daos_model.specs.Accesses.{minor_writes}
use Rattle.daos_model.specs.Attempts.{snapshot_of, snapshot_or_none}
use Rattle.daos_model.specs.Transactions.{command_of, ops_or_none}
use Rattle.model_lone.specs.Refusals.{GoesWithCommand, may_end, may_refuse}
use Rattle.vos_store.specs.Answers.{freezes}
use Rattle.vos_store.specs.declared.refusal.FreezeNo.{FreezeNo}
use Rattle.vos_store.specs.declared.refusal.FreezeNo.TheVariants as freeze
use Rattle.world_base.specs.declared.target.TargetPlan.{TargetPlan}
use Rattle.world_base.specs.Events.{Rules}
use Rattle.world_base.specs.Snapshots.{freeze_cause, freeze_refusal, refusal_of}
use Rattle.world_upheld.specs.world_causes.handing.Places.{snapshots-read}
use Rattle.world_upheld.specs.world_commit.attempts.Attempts.{writes_of}
use Rattle.world_letters.specs.clients.Snapshots.{is_at_snapshot}
use Rattle.world_letters.specs.epochs.Epochs.{is_making, makes}
use Rattle.world_letters.specs.snapshots.Makings.{IsSnapIn}

-- ---- a transaction that reads at no snapshot

plain-refused : (d : Option Command) (c : Cause) → is_some (snapshot_or_none d) ≡ false → makes d ≡ false → may_refuse d c ≡ true
plain-refused None c off unmade = refl
plain-refused (Some (Run ops skips None)) c off unmade = refl
plain-refused (Some (Run ops skips (Some name))) c off unmade = let no : ⊥ = cc in absurd no
plain-refused (Some (Snap name cont)) c off unmade = let no : ⊥ = cc in absurd no
plain-refused (Some (Aggregate cont)) c off unmade = let no : ⊥ = cc in absurd no
plain-refused (Some (Tell client)) c off unmade = refl
plain-refused (Some (Skip turns)) c off unmade = refl

-- unless it is told to restart, any attempt may end so
ends-if : (d : Option Command) (how : Outcome) → ((c : Cause) → how ≡ outcome.Restart c → may_refuse d c ≡ true) → may_end d how ≡ true
ends-if d outcome.Committed refused = refl
ends-if d (outcome.CondFailed op) refused = refl
ends-if d (outcome.Restart c) refused = refused c refl
ends-if d (outcome.NoSpace target need free) refused = refl
ends-if d outcome.EpochsSpent refused = refl
ends-if d outcome.NoSnapshot refused = refl
ends-if d (outcome.Unknown target) refused = refl

pub plain-goes : (r : Rules) (x : AttemptId) (how : Outcome) → is_at_snapshot r x ≡ false → is_making r x ≡ false → GoesWithCommand r.script x how
plain-goes r x how off unmade = ends-if (command_of r.script x) how (λ c is. plain-refused (command_of r.script x) c off unmade)

-- what writes is such a one
pub writer-off : (r : Rules) (x : AttemptId) → IsInForm r.script.targets r.script → writes_of r x ≢ [] → is_at_snapshot r x ≡ false
writer-off r x form some = by (snapshot_of r.script x) refl
  where
    by : (o : Option (List ℕ)) → snapshot_of r.script x ≡ o → is_at_snapshot r x ≡ false
    by None none = ap is_some none
    by (Some name) reads = absurd (some (snapshots-read r r.script.targets form x name reads))

pub writer-unmade : (r : Rules) (x : AttemptId) → writes_of r x ≢ [] → is_making r x ≡ false
unfolding minor_writes
writer-unmade r x some = by (command_of r.script x) some
  where
    by : (d : Option Command) → minor_writes 0 (ops_or_none d) ≢ [] → makes d ≡ false
    by None writes = refl
    by (Some (Run ops skips snapshot)) writes = refl
    by (Some (Snap name cont)) writes = absurd (writes refl)
    by (Some (Aggregate cont)) writes = absurd (writes refl)
    by (Some (Tell client)) writes = refl
    by (Some (Skip turns)) writes = refl

pub writer-goes : (r : Rules) (x : AttemptId) (how : Outcome) → IsInForm r.script.targets r.script → writes_of r x ≢ [] → GoesWithCommand r.script x how
writer-goes r x how form some = plain-goes r x how (writer-off r x form some) (writer-unmade r x some)

-- ---- an unresolved one

unresolved-refused : (d : Option Command) (by : AttemptId) → may_refuse d (Unresolved by) ≡ true
unresolved-refused None by = refl
unresolved-refused (Some (Run ops skips None)) by = refl
unresolved-refused (Some (Run ops skips (Some name))) by = refl
unresolved-refused (Some (Snap name cont)) by = refl
unresolved-refused (Some (Aggregate cont)) by = refl
unresolved-refused (Some (Tell client)) by = refl
unresolved-refused (Some (Skip turns)) by = refl

pub unresolved-goes : (s : Script) (x by : AttemptId) → GoesWithCommand s x (outcome.Restart (Unresolved by))
unresolved-goes s x by = unresolved-refused (command_of s x) by

-- ---- a freeze

refused-goes : (p : TargetPlan) (name : List ℕ) (cont : ContId) (a : Result (Unit {0}) FreezeNo) (how : Outcome) → refusal_of p a ≡ Some how → may_end (Some (Snap name cont)) how ≡ true
refused-goes p name cont (Ok done) how e = let no : ⊥ = cc in absurd no
refused-goes p name cont (Err e) how is = by e (let same : freeze_refusal p e ≡ how = cc in same)
  where
    by : (e : FreezeNo) → freeze_refusal p e ≡ how → may_end (Some (Snap name cont)) how ≡ true
    by (freeze.Below g n) same = ap (may_end (Some (Snap name cont))) (sym same)
    by freeze.NoPlace same = ap (may_end (Some (Snap name cont))) (sym same)
    by other same = ap (may_end (Some (Snap name cont))) (sym same)

pub freeze-goes : (r : Rules) (p : TargetPlan) (x : AttemptId) (cont c : ContId) (s : Epoch) (d : Durable) (how : Outcome) → IsSnapIn r x cont → freeze_cause p c s d ≡ Some how → GoesWithCommand r.script x how
freeze-goes r p x cont c s d how makes is = subst (λ z. may_end z how ≡ true) (sym makes.1) (refused-goes p makes.0 cont (freezes c s d) how is)
