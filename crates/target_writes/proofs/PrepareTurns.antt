-- Whole turns in which a target hears a Prepare, from their parts.
use Rattle.std.proofs.Common.{◌≡◌, ◌/◌, refl, ◌∙◌, ap, subst, List, Option, Some, None, Result, Ok, Err, arith}
use Rattle.std.specs.Prelude.{IfOk, IfErr}
use Rattle.base_types.specs.declared.entry.Entry.{Entry}
use Rattle.base_types.specs.declared.epoch.Epoch.{Epoch}
use Rattle.base_types.specs.declared.operation.MinorWrite.{MinorWrite}
use Rattle.base_types.specs.declared.outcome.FloorWhy.{FloorWhy}
use Rattle.base_types.specs.declared.outcome.Outcome.{Outcome}
use Rattle.base_types.specs.declared.outcome.Outcome.TheVariants as outcome
use Rattle.daos_model.specs.declared.durable.Durable.{Durable}
use Rattle.daos_model.specs.Changes.{leased, prepared}
use Rattle.vos_store.specs.Calls.{State}
use Rattle.vos_store.specs.Conditions.{IsPreparable}
use Rattle.world_base.specs.declared.did.Did.{Did as DidOf}
use Rattle.world_base.specs.declared.request.PrepareRequest.{PrepareRequest}
use Rattle.world_base.specs.declared.target.TargetMemory.{TargetMemory}
use Rattle.world_base.specs.declared.target.TargetPlan.{TargetPlan}
use Rattle.world_base.specs.Changes.{Change, Extends, Kept}
use Rattle.world_base.specs.Prepares as prepare
use Rattle.world_base.specs.Prepares.{PrepareEnds, PrepareNext, acks}
use Rattle.world_base.specs.Requests.{with_ticks}
use Rattle.world_base.specs.Turns.{Reached, Whole}
use Rattle.target_parts.specs.declared.halt.Halt.{Halt}
use Rattle.target_parts.specs.declared.halt.Halt.TheVariants as halt
use Rattle.target_parts.specs.declared.stop.TargetStop.{TargetStop}
use Rattle.target_parts.specs.Covers.{CoverCut, Covers, DidCover, WasExtended}
use Rattle.target_parts.specs.Ending.{turn_cut, turn_on}
use Rattle.target_parts.specs.Parts.{Now, kept, left_by}
use Rattle.target_parts.specs.Readying.{lease_covers}
use Rattle.target_parts.specs.Stops.{never, stop_memory, stop_of}
use Rattle.target_parts.specs.Turning.{cut_in_change, now_stays, reached_change, reached_silent}
use Rattle.target_parts.specs.Standing.{IsPlaced}
use Rattle.target_writes.specs.Checks.{PreparesOrNot}
use Rattle.target_writes.specs.Turns.{IsPrepareInForm, PrepareTurn}
use Rattle.target_writes.proofs.Committing.{prepared-goes, prepared-halted, prepared-told}
use Rattle.target_writes.proofs.Owning.{below-more}
use Rattle.world_base.specs.PathLaws.{reached-here}

-- what a member is asked to prepare, its store may be asked
pub asked-preparable : (t : TargetPlan) (s : State) (e : Entry) (ws : List MinorWrite) → IsPlaced t s → IsPrepareInForm t.targets e ws → IsPreparable s e ws
asked-preparable t s e ws placed form = record {
  undecided = form.undecided;
  unconfirmed = form.unconfirmed;
  leader = (let a = form.leader in let b = placed.made in omega (arith, a, b));
  members = below-more e.members t.targets s.targets form.members placed.made;
  some = form.some;
  form = form.form;
}

module _ (t : TargetPlan) (opening : Epoch × FloorWhy) (m : TargetMemory) (q : PrepareRequest) (d : Durable) (h k : State) (new : Option Durable) (finds : Durable → Type 0) (left : TargetMemory) where
  abbrev Next : prepare.PrepareStage → Kept → Option Change → prepare.PrepareStage → Type 0
  Next = PrepareNext t opening m q

  -- the lease covers the epoch
  prepare-covered : (mid : Option Durable) (j : State) → Covers (q.entry.epoch.0 / 256) d h mid j → Now mid j (λ l. Reached Next prepare.Heard (kept d h) prepare.Checking l)
  unfolding leased
  prepare-covered mid j (DidCover covers is free) = record {
    durable = d;
    kept_is = is;
    holds = now_stays (λ l. Reached Next prepare.Heard (kept d h) prepare.Checking l) d h j mid (record { kept_is = is; free = free })
        (reached_silent Next prepare.Heard (kept d h) prepare.Heard (kept d h) prepare.Checking (reached-here Next prepare.Heard (kept d h)) (prepare.IsCovered (kept d h) covers));
  }
  prepare-covered mid j (WasExtended lease low is did) = record {
    durable = leased lease d;
    kept_is = did.kept_is;
    holds = reached_silent Next prepare.Heard (kept d h) prepare.Heard (kept (leased lease d) j) prepare.Checking
        (reached_change Next prepare.Heard (kept d h) prepare.Heard (kept d h) (Extends lease) prepare.Heard (kept (leased lease d) j) (reached-here Next prepare.Heard (kept d h)) (prepare.ExtendsLease (kept d h) lease low is) refl did.free)
        (prepare.IsCovered (kept (leased lease d) j) (lease_covers (q.entry.epoch.0 / 256) lease is));
  }

  pub prepare-on : (result : Result DidOf TargetStop) (mid : Option Durable) (j : State) (p : Epoch × FloorWhy) → p ≡ opening → Covers (q.entry.epoch.0 / 256) d h mid j
      → ((x : Durable) → mid ≡ Some x → PrepareTurn t p m q prepare.Checking x j new k finds left result) → PrepareTurn t opening m q prepare.Heard d h new k finds left result
  prepare-on result mid j p same covers turn =
      let now = prepare-covered mid j covers in
      turn_on Next never (PrepareEnds t opening m q) (λ did. (left, did)) prepare.Heard prepare.Checking (kept d h) (kept now.durable j) new k finds result now.holds
      (subst (λ o. PrepareTurn t o m q prepare.Checking now.durable j new k finds left result) same (turn now.durable now.kept_is))

  -- or it was to be extended, and that was cut
  pub prepare-cut : (stop : TargetStop) → CoverCut (q.entry.epoch.0 / 256) d h (left_by k finds) → stop ≡ stop_of halt.Stopped None → PrepareTurn t opening m q prepare.Heard d h new k finds left (Err stop)
  prepare-cut stop c is =
      turn_cut Next never prepare.Heard (kept d h) new k finds (λ did l. Whole Next (PrepareEnds t opening m q) prepare.Heard (kept d h) l (left, did)) (Err stop) (λ s. refl) (ap Err is)
      (cut_in_change Next prepare.Heard (kept d h) prepare.Heard (kept d h) (Extends c.lease) prepare.Heard (left_by k finds) (reached-here Next prepare.Heard (kept d h)) (prepare.ExtendsLease (kept d h) c.lease c.low c.lease_is) c.cut)

  -- ---- from the checks on

  abbrev ending : Outcome → TargetMemory × DidOf
  ending how = (with_ticks q.entry.epoch m, acks q (Some how))

  -- the leader is told how it ended
  pub prepare-told : (r : Option Outcome) (told : DidOf) (result : Result DidOf TargetStop) → left ≡ with_ticks q.entry.epoch m → told ≡ acks q r → IfOk result (λ did. did ≡ told) → IfErr result (λ stop. stop ≡ stop_memory)
      → PreparesOrNot t opening q.first m.stamps q.entry q.writes d h new k finds (Ok r) → PrepareTurn t opening m q prepare.Checking d h new k finds left result
  prepare-told None told result left_is told_is ok wanting came =
      prepared-goes Next (PrepareEnds t opening m q) prepare.Checking prepare.Stored t opening q.first m.stamps q.entry q.writes ending
      (λ l allowed space. prepare.Stores l allowed space) (λ l c refuses. prepare.IsRefused l c (ending (outcome.Restart c)) refuses refl) (λ l allowed less. prepare.HasNoSpace l _ allowed less refl) d h
      never k new finds left result (by result ok) wanting came.0 came.1
    where
      by : (result : Result DidOf TargetStop) → IfOk result (λ did. did ≡ told) → IfOk result (λ did. PrepareEnds t opening m q prepare.Stored (kept (prepared q.entry q.writes d) k) (left, did))
      by (Ok did) is = prepare.IsPrepared (kept (prepared q.entry q.writes d) k) (left, did) (ap (λ x. (x, did)) left_is ∙ ap (λ x. (with_ticks q.entry.epoch m, x)) (is ∙ told_is))
      by (Err stop) none = tt
  prepare-told (Some how) told result left_is told_is ok wanting came =
      prepared-told Next (PrepareEnds t opening m q) prepare.Checking prepare.Stored t opening q.first m.stamps q.entry q.writes ending
      (λ l allowed space. prepare.Stores l allowed space) (λ l c refuses. prepare.IsRefused l c (ending (outcome.Restart c)) refuses refl) (λ l allowed less. prepare.HasNoSpace l _ allowed less refl) d h
      never k new finds how left told result (ap (λ x. (x, told)) left_is ∙ ap (λ x. (with_ticks q.entry.epoch m, x)) told_is) ok wanting came.0 came.1

  -- checking or storing comes to no end
  pub prepare-halted : (why : Halt) (stop : TargetStop) → stop ≡ stop_of why None → PreparesOrNot t opening q.first m.stamps q.entry q.writes d h new k finds (Err why) → PrepareTurn t opening m q prepare.Checking d h new k finds left (Err stop)
  prepare-halted why stop is came =
      prepared-halted Next (PrepareEnds t opening m q) prepare.Checking prepare.Stored t opening q.first m.stamps q.entry q.writes ending
      (λ l allowed space. prepare.Stores l allowed space) (λ l c refuses. prepare.IsRefused l c (ending (outcome.Restart c)) refuses refl) (λ l allowed less. prepare.HasNoSpace l _ allowed less refl) d h
      never k new finds (λ did l. Whole Next (PrepareEnds t opening m q) prepare.Checking (kept d h) l (left, did)) why None stop refl is came
