-- Whole turns in which a target hears a Freeze, from their parts.
use Rattle.std.proofs.Common.{ℕ, ◌≡◌, ◌/◌, refl, ap, false, [], Option, None, Some, Result, Ok, Err}
use Rattle.std.specs.Prelude.{IfOk, IfErr}
use Rattle.base_types.specs.declared.epoch.Epoch.{Epoch}
use Rattle.base_messages.specs.declared.message.Message.TheVariants as message
use Rattle.daos_model.specs.declared.durable.Durable.{Durable}
use Rattle.vos_store.specs.Calls.{State}
use Rattle.world_base.specs.declared.did.Did.{Did as DidOf}
use Rattle.world_base.specs.declared.target.TargetMemory.{TargetMemory}
use Rattle.world_base.specs.declared.target.TargetPlan.{TargetPlan}
use Rattle.world_base.specs.Changes.{Change, Kept}
use Rattle.world_base.specs.CutTurns.{issued_by_freeze}
use Rattle.world_base.specs.Requests.{with_ticks}
use Rattle.world_base.specs.Snapshots as snap
use Rattle.world_base.specs.Snapshots.{follows, refusal_of, to_actor}
use Rattle.world_base.specs.Turns.{Whole}
use Rattle.target_parts.specs.declared.halt.Halt.{Halt}
use Rattle.target_parts.specs.declared.halt.Halt.TheVariants as halt
use Rattle.target_parts.specs.declared.stop.TargetStop.{TargetStop}
use Rattle.target_parts.specs.Covers.{CoverCut, Covers}
use Rattle.target_parts.specs.Parts.{kept, left_by}
use Rattle.target_parts.specs.Readying.{leases}
use Rattle.target_parts.specs.Stops.{stop_memory, stop_of}
use Rattle.target_snaps.specs.declared.freezing.Froze.{Froze}
use Rattle.target_snaps.specs.declared.freezing.Froze.TheVariants as froze
use Rattle.target_snaps.specs.declared.request.ContRequest.{ContRequest}
use Rattle.target_snaps.specs.Freezing.{FreezesOrCut}
use Rattle.target_snaps.specs.FreezeTurns.{FreezeTurn, freeze_lines, refusal_by}
use Rattle.target_snaps.proofs.FreezeParts.{freeze-covered, freeze-cut, freeze-uncovered, frozen-comes}
use Rattle.target_snaps.specs.Lined.{HasCome}
use Rattle.target_snaps.proofs.Lining.{comes-stays, lined-cut, lined-told, lined-wanting}

module _ (p : TargetPlan) (m : TargetMemory) (reading : ℕ) (q : ContRequest) (s : Epoch) (d : Durable) (h k : State) (new : Option Durable) (finds : Durable → Type 0) (left : TargetMemory) where
  abbrev Next : snap.FreezeStage → Kept → Option Change → snap.FreezeStage → Type 0
  Next = snap.FreezeNext p m reading s (Some s) q.cont false

  abbrev Ends : snap.FreezeStage → Kept → TargetMemory × DidOf → Type 0
  Ends = snap.FreezeEnds p m q.attempt q.cont q.from

  abbrev Done : DidOf → Kept → Type 0
  Done did l = Whole Next Ends snap.Asked (kept d h) l (left, did)

  -- extending the lease was cut
  pub freeze-unheard : (result : Result DidOf TargetStop) → CoverCut (s.0 / 256) d h (left_by k finds) → result ≡ Err (stop_of halt.Stopped None) → FreezeTurn p m reading q s d h new k finds left result
  freeze-unheard result cut is =
      lined-cut Next (issued_by_freeze q.attempt (Some s)) p.me snap.Asked (kept d h) Done new k finds None [] result is (freeze-uncovered p m reading s (Some s) q.cont false q.attempt s refl d h (left_by k finds) cut)

  module _ (mid : Option Durable) (j : State) (covers : Covers (s.0 / 256) d h mid j) where
    came : (y : Durable) → mid ≡ Some y → HasCome Next p.me snap.Asked (kept d h) (snap.Freezing s) (kept y j) []
    came = freeze-covered p m reading s (Some s) q.cont false q.attempt s refl d h mid j covers

    -- the store stopped as it froze, or memory was wanting
    pub freeze-halted : (why : Halt) (result : Result DidOf TargetStop) → ((y : Durable) → mid ≡ Some y → FreezesOrCut q.cont s y j new k finds (Err why)) → result ≡ Err (stop_of why None) → FreezeTurn p m reading q s d h new k finds left result
    freeze-halted halt.Stopped result gone is =
        let lease = leases (s.0 / 256) d h mid j covers in
        lined-cut Next (issued_by_freeze q.attempt (Some s)) p.me snap.Asked (kept d h) Done new k finds None [] result is
        (freeze-cut p m reading s (Some s) q.cont false q.attempt s refl (kept d h) _ j k new finds (came _ lease.kept_is) (gone _ lease.kept_is))
    freeze-halted halt.Memory result gone is =
        let lease = leases (s.0 / 256) d h mid j covers in
        let stays = gone _ lease.kept_is in
        lined-wanting Next p.me snap.Asked (kept d h) (issued_by_freeze q.attempt (Some s)) Done (snap.Freezing s) _ k new finds [] result is stays.kept_is
        (comes-stays Next p.me snap.Asked (kept d h) (snap.Freezing s) [] _ j k new stays (came _ lease.kept_is))

    abbrev told : Froze → DidOf
    told f = follows (to_actor q.from (message.Held q.attempt (refusal_by p f))) (freeze_lines p q.cont s f) None

    -- target 0 is told how it went
    pub freeze-told : (f : Froze) (result : Result DidOf TargetStop) → ((y : Durable) → mid ≡ Some y → FreezesOrCut q.cont s y j new k finds (Ok f)) → left ≡ with_ticks s m → IfOk result (λ did. did ≡ told f) → IfErr result (λ stop. stop ≡ stop_memory)
        → FreezeTurn p m reading q s d h new k finds left result
    freeze-told (froze.Refused e) result gone known ok wanting =
        let lease = leases (s.0 / 256) d h mid j covers in
        let refused = gone _ lease.kept_is in
        lined-told Next p.me snap.Asked (kept d h) (issued_by_freeze q.attempt (Some s)) Ends (λ did. (left, did)) (snap.Freezing s) _ k new finds [] result (told (froze.Refused e)) ok wanting refused.1.kept_is
        (comes-stays Next p.me snap.Asked (kept d h) (snap.Freezing s) [] _ j k new refused.1 (came _ lease.kept_is))
        (snap.IsRefused (kept _ k) s _ (left, told (froze.Refused e)) (ap (refusal_of p) refused.0) (ap (λ x. (x, told (froze.Refused e))) known))
    freeze-told froze.Anew result gone known ok wanting =
        let lease = leases (s.0 / 256) d h mid j covers in
        let went = frozen-comes p m reading s (Some s) q.cont false q.attempt s refl (kept d h) _ j k new finds (came _ lease.kept_is) froze.Anew refl (gone _ lease.kept_is) in
        lined-told Next p.me snap.Asked (kept d h) (issued_by_freeze q.attempt (Some s)) Ends (λ did. (left, did)) (snap.Frozen s (freeze_lines p q.cont s froze.Anew)) went.0 k new finds (freeze_lines p q.cont s froze.Anew) result (told froze.Anew) ok wanting went.1 went.2
        (snap.IsHeld (kept went.0 k) s (freeze_lines p q.cont s froze.Anew) (left, told froze.Anew) (ap (λ x. (x, told froze.Anew)) known))
    freeze-told froze.Before result gone known ok wanting =
        let lease = leases (s.0 / 256) d h mid j covers in
        let went = frozen-comes p m reading s (Some s) q.cont false q.attempt s refl (kept d h) _ j k new finds (came _ lease.kept_is) froze.Before refl (gone _ lease.kept_is) in
        lined-told Next p.me snap.Asked (kept d h) (issued_by_freeze q.attempt (Some s)) Ends (λ did. (left, did)) (snap.Frozen s (freeze_lines p q.cont s froze.Before)) went.0 k new finds (freeze_lines p q.cont s froze.Before) result (told froze.Before) ok wanting went.1 went.2
        (snap.IsHeld (kept went.0 k) s (freeze_lines p q.cont s froze.Before) (left, told froze.Before) (ap (λ x. (x, told froze.Before)) known))
