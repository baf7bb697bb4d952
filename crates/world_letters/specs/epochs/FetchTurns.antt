-- What a target does with epochs that hears a Fetch: it issues one where the Fetch has none, its lease and ticks cover it, and what
-- it says bears it.
use Rattle.std.specs.Prelude.{ℕ, ◌≡◌, ◌≤◌, ◌<◌, ◌*◌, ◌/◌, true, false, min, nat_le, List, Option, Some, None, if◌then◌else◌}
use Rattle.std.specs.Int.{div_ceil}
use Rattle.std.proofs.Common.{sym, subst, arith}
use Rattle.std.proofs.lemmas.Bool.Decides.{nat_tests}
use Rattle.std.proofs.lemmas.Grind.{div_ceil_times}
use Rattle.std.proofs.lemmas.Option.{cond_some}
use Rattle.base_types.specs.declared.epoch.Epoch.{Epoch}
use Rattle.base_types.specs.declared.id.AttemptId.{AttemptId}
use Rattle.base_types.specs.Epochs.{last_ticks, lease_for}
use Rattle.world_base.specs.declared.did.Did.{Did}
use Rattle.world_base.specs.declared.request.FetchRequest.{FetchRequest}
use Rattle.world_base.specs.declared.target.TargetMemory.{TargetMemory}
use Rattle.world_base.specs.declared.target.TargetPlan.{TargetPlan}
use Rattle.world_base.specs.Changes.{Change, Kept, Steps}
use Rattle.world_base.specs.PathLaws.{path-keeps}
use Rattle.world_base.specs.Reads as read
use Rattle.world_base.specs.Requests.{issued_for, request_epoch}
use Rattle.world_base.specs.Turns.{Path}
use Rattle.world_letters.specs.epochs.Sayings.{Known, Stays, step-stays}

-- ---- leases and ticks

lease-of : (n last l : ℕ) → (if nat_le n last then Some (min last (div_ceil n 65536 * 65536)) else None) ≡ Some l → n ≤ l
lease-of n last l h =
    let k : (nat_le n last ≡ true) × (min last (div_ceil n 65536 * 65536) ≡ l) = cond_some (nat_le n last) (min last (div_ceil n 65536 * 65536)) l h in
    let low : nat_le n last ≡ true = k.0 in
    let within : n ≤ last = grind (arith, nat_tests) in
    let up : n ≤ div_ceil n 65536 * 65536 = (div_ceil_times n 65536 (omega arith)).0 in
    let is : min last (div_ceil n 65536 * 65536) ≡ l = k.1 in
    least last (div_ceil n 65536 * 65536) within up is
  where
    least : (a b : ℕ) → n ≤ a → n ≤ b → min a b ≡ l → n ≤ l
    least a b p q e = omega arith

-- a lease covers the ticks that it is stored for
pub lease-covers : (n l : ℕ) → lease_for n ≡ Some l → n ≤ l
lease-covers n l h = lease-of n last_ticks l h

-- ---- what a turn found

-- the epoch of a request, which the lease covers
pub record Covers (t : TargetPlan) (m : TargetMemory) (reading : ℕ) (tracker : Epoch) (ep : Option Epoch) (e : Epoch) (lease : ℕ) : Type 0 where
  pub found : request_epoch t m reading tracker ep ≡ Some e
  pub covered : e.0 / 256 ≤ lease

-- what a turn that hears a request issues: nothing, where no ticks are left; or the epoch that it found, where it had none
pub data Dates (t : TargetPlan) (m : TargetMemory) (reading : ℕ) (x : AttemptId) (ep : Option Epoch) (tracker : Epoch) (lease : ℕ) (left : TargetMemory × Did) : Type 0 where
  IsSpent : request_epoch t m reading tracker ep ≡ None → left.1.issued ≡ None → Dates t m reading x ep tracker lease left
  IsDated : (e : Epoch) → Covers t m reading tracker ep e lease → left.1.issued ≡ issued_for x ep e → e.0 / 256 ≤ left.0.ticks → Dates t m reading x ep tracker lease left

-- ---- a Fetch

abbrev pub FetchStands : TargetPlan → TargetMemory → ℕ → FetchRequest → read.FetchStage → Kept → Type 0
FetchStands t m reading q read.Asked k = Unit {0}
FetchStands t m reading q (read.Known e) k = request_epoch t m reading q.tracker q.ep ≡ Some e
FetchStands t m reading q (read.Reading e decided) k = Covers t m reading q.tracker q.ep e k.durable.lease

module _ (P : Known) (low : ℕ) (t : TargetPlan) (m : TargetMemory) (reading : ℕ) (q : FetchRequest) (plain : q.snapshot ≡ false) where
  abbrev pub FetchSoFar : read.FetchStage → Kept → Type 0
  FetchSoFar s k = FetchStands t m reading q s k × Stays P low k

  covers-on : (e : Epoch) (k l : Kept) → k.durable.lease ≤ l.durable.lease → Covers t m reading q.tracker q.ep e k.durable.lease → Covers t m reading q.tracker q.ep e l.durable.lease
  covers-on e k l up c = let low' : e.0 / 256 ≤ k.durable.lease = c.covered in record { found = c.found; covered = omega (arith, low', up) }

  pub fetch-step : (s : read.FetchStage) (k : Kept) (o : Option Change) (u : read.FetchStage) (l : Kept) → read.FetchNext t m reading q s k o u → Steps o k l → FetchSoFar s k → FetchSoFar u l
  fetch-step s k o u l (read.AtSnapshot j e snap ep) st h = let no : ⊥ = cc in absurd no
  fetch-step s k o u l (read.HasEpoch j e p is) st h = (is, (step-stays P low None k l tt st h.1).0)
  fetch-step s k o u l (read.ExtendsLease j e lease less is) st h =
      let up : e.0 / 256 ≤ lease = lease-covers (e.0 / 256) lease is in
      let less' : k.durable.lease < e.0 / 256 = less in
      let fits : k.durable.lease ≤ lease = omega (arith, up, less') in
      (h.0, (step-stays P low o k l fits st h.1).0)
  fetch-step s k o u l (read.IsCovered j e low') st h =
      let same : l ≡ k = st in
      (record { found = h.0; covered = subst (λ z. e.0 / 256 ≤ z.durable.lease) (sym same) low' }, (step-stays P low None k l tt st h.1).0)
  fetch-step s k o u l (read.SettlesOwn j e decided a none unsettled among) st h =
      let stays = step-stays P low o k l tt st h.1 in
      (covers-on e k l stays.1 h.0, stays.0)

  pub fetch-path : (k : Kept) (did : List Change) (s : read.FetchStage) (l : Kept) → Path (read.FetchNext t m reading q) read.Asked k did s l → Stays P low k → FetchSoFar s l
  fetch-path k did s l p h = path-keeps (read.FetchNext t m reading q) FetchSoFar fetch-step read.Asked k did s l p (tt, h)
