-- What a target does with epochs that hears a Commit: as with a Fetch; and the entry that it stores has the epoch.
use Rattle.std.specs.Prelude.{ℕ, ◌≡◌, ◌≤◌, ◌<◌, ◌/◌, List, Option, Some, None}
use Rattle.std.proofs.Common.{sym, subst, arith}
use Rattle.base_types.specs.declared.epoch.Epoch.{Epoch}
use Rattle.base_types.specs.declared.outcome.FloorWhy.{FloorWhy}
use Rattle.world_base.specs.declared.request.CommitRequest.{CommitRequest}
use Rattle.world_base.specs.declared.target.TargetMemory.{TargetMemory}
use Rattle.world_base.specs.declared.target.TargetPlan.{TargetPlan}
use Rattle.world_base.specs.Changes.{Change, Kept, Steps}
use Rattle.world_base.specs.Commits as commit
use Rattle.world_base.specs.PathLaws.{path-keeps}
use Rattle.world_base.specs.Requests.{request_epoch}
use Rattle.world_base.specs.Turns.{Path}
use Rattle.world_letters.specs.epochs.FetchTurns.{Covers, lease-covers}
use Rattle.world_letters.specs.epochs.Sayings.{Known, Stays, step-stays}

-- ---- the steps

abbrev pub CommitStands : TargetPlan → TargetMemory → ℕ → CommitRequest → commit.CommitStage → Kept → Type 0
CommitStands t m reading q commit.Asked k = Unit {0}
CommitStands t m reading q (commit.Known e) k = request_epoch t m reading q.tracker q.ep ≡ Some e
CommitStands t m reading q (commit.Checking e) k = Covers t m reading q.tracker q.ep e k.durable.lease
CommitStands t m reading q (commit.Stored e) k = Covers t m reading q.tracker q.ep e k.durable.lease

module _ (P : Known) (low : ℕ) (t : TargetPlan) (opening : Epoch × FloorWhy) (m : TargetMemory) (reading : ℕ) (q : CommitRequest) (epoch : (e : Epoch) → request_epoch t m reading q.tracker q.ep ≡ Some e → P q.attempt e) where
  abbrev pub CommitSoFar : commit.CommitStage → Kept → Type 0
  CommitSoFar s k = CommitStands t m reading q s k × Stays P low k

  pub commit-step : (s : commit.CommitStage) (k : Kept) (o : Option Change) (u : commit.CommitStage) (l : Kept) → commit.CommitNext t opening m reading q s k o u → Steps o k l → CommitSoFar s k → CommitSoFar u l
  commit-step s k o u l (commit.HasEpoch j e is) st h = (is, (step-stays P low None k l tt st h.1).0)
  commit-step s k o u l (commit.ExtendsLease j e lease less is) st h =
      let up : e.0 / 256 ≤ lease = lease-covers (e.0 / 256) lease is in
      let less' : k.durable.lease < e.0 / 256 = less in
      let fits : k.durable.lease ≤ lease = omega (arith, up, less') in
      (h.0, (step-stays P low o k l fits st h.1).0)
  commit-step s k o u l (commit.IsCovered j e low') st h =
      let same : l ≡ k = st in
      (record { found = h.0; covered = subst (λ z. e.0 / 256 ≤ z.durable.lease) (sym same) low' }, (step-stays P low None k l tt st h.1).0)
  commit-step s k o u l (commit.Stores j e allowed space) st h =
      let c : Covers t m reading q.tracker q.ep e k.durable.lease = h.0 in
      let stays = step-stays P low o k l (epoch e c.found) st h.1 in
      let was : e.0 / 256 ≤ k.durable.lease = c.covered in
      let up : k.durable.lease ≤ l.durable.lease = stays.1 in
      (record { found = c.found; covered = omega (arith, was, up) }, stays.0)

  pub commit-path : (k : Kept) (did : List Change) (s : commit.CommitStage) (l : Kept) → Path (commit.CommitNext t opening m reading q) commit.Asked k did s l → Stays P low k → CommitSoFar s l
  commit-path k did s l p h = path-keeps (commit.CommitNext t opening m reading q) CommitSoFar commit-step commit.Asked k did s l p (tt, h)
