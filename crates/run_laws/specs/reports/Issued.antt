-- Which targets issued the epochs of which a run tells.
use Rattle.std.specs.Prelude.{◌≡◌, ◌⊎◌, ◌≤◌, ◌<◌, ◌%◌, length}
use Rattle.std.proofs.Common.{inl, inr, arith}
use Rattle.std.proofs.lemmas.Option.{slice_get_within}
use Rattle.base_types.specs.declared.epoch.Epoch.{Epoch}
use Rattle.base_types.specs.declared.id.AttemptId.{AttemptId}
use Rattle.base_types.specs.declared.id.ContId.{ContId}
use Rattle.daos_model.specs.Opening.{Opening, top}
use Rattle.model_laws.specs.Members.{contains-from_has}
use Rattle.world_base.specs.declared.world.World.{World}
use Rattle.world_base.specs.Events.{Rules}
use Rattle.world_base.specs.Stops.{WorldRun}
use Rattle.world_closing.specs.forming.Epochs.{first, sees}
use Rattle.world_commit.specs.attempts.History.{History}
use Rattle.world_closing.specs.Below.{AreRulesInForm, Grounds, RunBeginsWith, begins-well, report_over, runs-have_grounds}
use Rattle.world_letters.specs.epochs.Epochs.{IsEpochOf, IsIssued, IsOwn, IsSeen}
use Rattle.world_closing.specs.world_making.freezings.Freezings.{IsOfSnap}
use Rattle.world_closing.specs.Rules.{rules_of}
use Rattle.run_laws.specs.reports.Legal.{events}
use Rattle.run_laws.specs.reports.Reports.{AreIssuedSince, OrdersIssueThere}

module _ (r : Rules) (o : Opening) (h : History) (v : World) (A : AreRulesInForm r) (k : Grounds r o h v) where
  -- one of the targets issued each epoch of an attempt
  issued-there : (x : AttemptId) (e : Epoch) → IsIssued v x e → e.0 % 256 < r.script.targets
  issued-there x e i =
      let s = k.heard.epochs.issuer x e i in
      let within : e.0 % 256 < length v.targets = slice_get_within v.targets (e.0 % 256) s.0 s.1 in
      let many : length v.targets ≡ r.script.targets = k.heard.many in
      omega (arith, within, many)

  -- and so that of a snapshot at which one reads, if it is above the opening's: then an attempt of this run made it
  its-there : (x : AttemptId) (e : Epoch) → IsEpochOf r v x e → top o < e.0 → e.0 % 256 < r.script.targets
  its-there x e (IsOwn i) high = issued-there x e i
  its-there x e (IsSeen g) high =
      let z = sees r o h v A.some_target k x e g in
      let s = first r o h v A.some_target k in
      by z.cont (k.heard.freezings.origin 0 s.0 z.cont e s.1 (z.frozen 0 s.0 s.1))
    where
      by : (c : ContId) → (e.0 ≤ top o) ⊎ IsOfSnap r v.issued c e → e.0 % 256 < r.script.targets
      by c (inl old) = absurd (omega (arith, old, high))
      by c (inr made) = issued-there made.0 e (contains-from_has v.issued (made.0, e) made.1)

-- One of the targets issued each epoch above the opening's that a line tells of, at each moment; the others are of snapshots that earlier runs made.
pub runs-issue : (r : Rules) (o : Opening) (w v : World) → AreRulesInForm r → RunBeginsWith r o w → WorldRun r w v → AreIssuedSince (top o) (report_over r v)
runs-issue r o w v A B run a e i at high =
    let k = runs-have_grounds r o w v A (begins-well r o w B) run in
    its-there r o k.0 v A k.1 a.id e (k.1.heard.epochs.shown a e i at) high

pub orders-issue : OrdersIssueThere
orders-issue g w v k = runs-issue (rules_of g) g.opening w v k.begins.form k.begins.begins (events g w v k)
