-- The parts of a turn in which a target freezes a snapshot.
use Rattle.std.proofs.Common.{ℕ, ◌≡◌, ◌/◌, inl, inr, refl, ap, Bool, [], Option, None, Some, Ok, Err}
use Rattle.base_types.specs.declared.epoch.Epoch.{Epoch}
use Rattle.base_types.specs.declared.id.AttemptId.{AttemptId}
use Rattle.base_types.specs.declared.id.ContId.{ContId}
use Rattle.daos_model.specs.declared.durable.Durable.{Durable}
use Rattle.daos_model.specs.Changes.{frozen}
use Rattle.vos_store.specs.Calls.{State}
use Rattle.world_base.specs.declared.target.TargetMemory.{TargetMemory}
use Rattle.world_base.specs.declared.target.TargetPlan.{TargetPlan}
use Rattle.world_base.specs.Changes.{Change, Freezes, Kept}
use Rattle.world_base.specs.CutTurns.{issued_by_freeze}
use Rattle.world_base.specs.Requests.{issued_for, request_epoch}
use Rattle.world_base.specs.Snapshots as snap
use Rattle.world_base.specs.Snapshots.{refusal_of}
use Rattle.target_parts.specs.declared.halt.Halt.TheVariants as halt
use Rattle.target_parts.specs.Covers.{CoverCut, Covers}
use Rattle.target_parts.specs.Parts.{kept, left_by}
use Rattle.target_snaps.specs.declared.freezing.Froze.{Froze}
use Rattle.target_snaps.specs.declared.freezing.Froze.TheVariants as froze
use Rattle.target_snaps.specs.Freezing.{FreezesOrCut}
use Rattle.target_snaps.specs.FreezeTurns.{freeze_lines, refusal_by}
use Rattle.target_snaps.specs.Lined.{HasCome, IsCutWith}
use Rattle.target_snaps.proofs.Lining.{comes-change, comes-silent, comes-stays, covers-comes, covers-cut, cut-in_change, cut-in_question}

module _ (p : TargetPlan) (m : TargetMemory) (reading : ℕ) (tracker : Epoch) (ep : Option Epoch) (c : ContId) (alone : Bool) (x : AttemptId) (s : Epoch) (is : request_epoch p m reading tracker ep ≡ Some s) where
  abbrev Next : snap.FreezeStage → Kept → Option Change → snap.FreezeStage → Type 0
  Next = snap.FreezeNext p m reading tracker ep c alone

  -- the lease covers the epoch
  pub freeze-covered : (d : Durable) (h : State) (new : Option Durable) (k : State) → Covers (s.0 / 256) d h new k → (y : Durable) → new ≡ Some y → HasCome Next p.me snap.Asked (kept d h) (snap.Freezing s) (kept y k) []
  freeze-covered = covers-comes Next p.me snap.Asked (snap.Known s) (snap.Freezing s) (s.0 / 256) (λ k. snap.HasEpoch k s is) (λ k lease low lease_is. snap.ExtendsLease k s lease low lease_is) (λ k covers. snap.IsCovered k s covers)

  -- or it was to be extended, and that was cut
  pub freeze-uncovered : (d : Durable) (h : State) (finds : Kept → Type 0) → CoverCut (s.0 / 256) d h finds → IsCutWith Next (issued_by_freeze x ep) p.me snap.Asked (kept d h) finds None []
  freeze-uncovered d h finds cut = covers-cut Next p.me snap.Asked (snap.Known s) (snap.Freezing s) (s.0 / 256) (λ k. snap.HasEpoch k s is) (λ k lease low lease_is. snap.ExtendsLease k s lease low lease_is) (λ k covers. snap.IsCovered k s covers)
      (issued_by_freeze x ep) d h finds refl cut

  module _ (old : Kept) (d : Durable) (h k : State) (new : Option Durable) (finds : Durable → Type 0) (came : HasCome Next p.me snap.Asked old (snap.Freezing s) (kept d h) []) where
    -- it is frozen
    pub frozen-comes : (f : Froze) → refusal_by p f ≡ None → FreezesOrCut c s d h new k finds (Ok f) → (y : Durable) × (new ≡ Some y) × HasCome Next p.me snap.Asked old (snap.Frozen s (freeze_lines p c s f)) (kept y k) (freeze_lines p c s f)
    unfolding frozen
    frozen-comes froze.Anew none (to, did) = (
      frozen c s d,
      did.kept_is,
      comes-change Next p.me snap.Asked old (snap.Freezing s) (kept d h) [] (freeze_lines p c s froze.Anew) (Freezes c s) (snap.Frozen s (freeze_lines p c s froze.Anew)) (kept (frozen c s d) k) came (snap.FreezesIt (kept d h) s (ap (refusal_of p) to.allowed) to.new) refl did.free refl,
    )
    frozen-comes froze.Before none (allowed, there, stays) = (
      d,
      stays.kept_is,
      comes-stays Next p.me snap.Asked old (snap.Frozen s []) [] d h k new stays (comes-silent Next p.me snap.Asked old (snap.Freezing s) (kept d h) [] (snap.Frozen s []) came (snap.IsFrozen (kept d h) s (ap (refusal_of p) allowed) there)),
    )
    frozen-comes (froze.Refused e) none came = let no : ⊥ = cc in absurd no

    -- it isn't frozen since the store stopped
    pub freeze-cut : FreezesOrCut c s d h new k finds (Err halt.Stopped) → IsCutWith Next (issued_by_freeze x ep) p.me snap.Asked old (left_by k finds) (issued_for x ep s) []
    freeze-cut (inl asked) = cut-in_question Next p.me snap.Asked old (issued_by_freeze x ep) (left_by k finds) (issued_for x ep s) (snap.Freezing s) (kept d h) [] [] came asked refl refl
    freeze-cut (inr (to, cut)) =
        cut-in_change Next p.me snap.Asked old (issued_by_freeze x ep) (left_by k finds) (issued_for x ep s) (snap.Freezing s) (kept d h) [] [] (Freezes c s) (snap.Frozen s (freeze_lines p c s froze.Anew)) came
        (snap.FreezesIt (kept d h) s (ap (refusal_of p) to.allowed) to.new) cut refl refl
