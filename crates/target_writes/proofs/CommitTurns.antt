-- Whole turns in which a target hears a Commit, from their parts.
use Rattle.std.proofs.Common.{ℕ, ◌≡◌, ◌/◌, ◌≤◌, ◌<◌, refl, sym, ◌∙◌, ap, subst, List, Option, Some, None, Result, Ok, Err}
use Rattle.std.specs.Prelude.{IfOk, IfErr}
use Rattle.base_types.specs.declared.entry.Entry.{Entry}
use Rattle.base_types.specs.declared.epoch.Epoch.{Epoch}
use Rattle.base_types.specs.declared.id.AttemptId.{AttemptId}
use Rattle.base_types.specs.declared.operation.MinorWrite.{MinorWrite}
use Rattle.base_types.specs.declared.outcome.FloorWhy.{FloorWhy}
use Rattle.base_types.specs.declared.outcome.Outcome.{Outcome}
use Rattle.base_types.specs.declared.outcome.Outcome.TheVariants as outcome
use Rattle.daos_hlc.specs.Clock.{Clock}
use Rattle.base_messages.specs.declared.actor.ActorId.{ActorId}
use Rattle.base_messages.specs.declared.message.Message.TheVariants as message
use Rattle.daos_model.specs.declared.durable.Durable.{Durable}
use Rattle.daos_model.specs.Changes.{leased, prepared}
use Rattle.daos_model.specs.Durables.{entry_of}
use Rattle.vos_store.specs.Calls.{State}
use Rattle.world_base.specs.declared.did.Did.{Did as DidOf}
use Rattle.world_base.specs.declared.request.CommitRequest.{CommitRequest}
use Rattle.world_base.specs.declared.target.TargetMemory.{TargetMemory}
use Rattle.world_base.specs.declared.target.TargetPlan.{TargetPlan}
use Rattle.world_base.specs.Changes.{Prepares}
use Rattle.world_base.specs.Commits as commit
use Rattle.world_base.specs.Commits.{CommitEnds, CommitNext, ends_at, led_entry, own_writes}
use Rattle.world_base.specs.Requests.{issued_for, request_epoch, says, with_ticks}
use Rattle.world_base.specs.Turns.{Reached, Whole}
use Rattle.target_parts.specs.declared.halt.Halt.{Halt}
use Rattle.target_parts.specs.declared.halt.Halt.TheVariants as halt
use Rattle.target_parts.specs.declared.stop.TargetStop.{TargetStop}
use Rattle.target_parts.specs.Covers.{CoverCut, Covers, ReadiesOrCut, epoch_for}
use Rattle.target_parts.specs.Ending.{partway_of, turn_on, turn_said}
use Rattle.target_parts.specs.EpochLaws.{issued-unused}
use Rattle.target_parts.specs.KeepingLaws.{enlisted-leased}
use Rattle.target_parts.specs.Knowing.{IsHeard}
use Rattle.target_parts.specs.Parts.{Did, Now, Stays, kept, left_by}
use Rattle.target_parts.specs.Readying.{covers_cut, covers_reached, entry_of-leased, leases}
use Rattle.target_parts.specs.Stops.{commit_issued, stop_memory, stop_of}
use Rattle.target_parts.specs.Turning.{now_stays, whole}
use Rattle.target_writes.specs.Checks.{AreEnlisted, AreNew, AreNewAt, CanStore, FindsSpace, IsRefusal, PreparesOrNot}
use Rattle.target_writes.specs.CheckLaws.{new-at}
use Rattle.target_writes.specs.Turns.{CommitTurn, begun_of}
use Rattle.target_writes.proofs.Committing.{prepared-goes, prepared-halted, prepared-told}
use Rattle.world_base.specs.PathLaws.{reached-here}

-- what making an epoch ready came to
pub readied : (clock : Clock) (reading : ℕ) (tracker : Epoch) (ep : Option Epoch) (d : Durable) (h : State) (new : Option Durable) (k : State) (finds : Durable → Type 0) (o : Option Epoch) {p : Option Epoch} → p ≡ o → ReadiesOrCut (epoch_for clock reading tracker ep) d h new k finds (Ok p)
    → ReadiesOrCut (epoch_for clock reading tracker ep) d h new k finds (Ok o)
readied clock reading tracker ep d h new k finds o is said = subst (λ x. ReadiesOrCut (epoch_for clock reading tracker ep) d h new k finds (Ok x)) is said

-- ---- what can be stored

-- the places of a request's writes are free at its epoch
pub request-new : (clock : Clock) (reading : ℕ) (tracker e : Epoch) (ep : Option Epoch) (ws : List MinorWrite) (d : Durable) → clock.target < 256 → IsHeard clock.ticks d → AreNewAt ep ws d → epoch_for clock reading tracker ep ≡ Some e → AreNew e ws d
request-new clock reading tracker e None ws d small heard new is = new-at e ws d (issued-unused clock reading tracker e d small heard is)
request-new clock reading tracker e (Some f) ws d small heard new is =
    let one : f ≡ e = cc in subst (λ (y : Epoch). AreNew y ws d) one new

-- once the lease covers the epoch
pub can-leased : (e : Entry) (ws : List MinorWrite) (lease : ℕ) (d : Durable) → entry_of d e.attempt ≡ None → AreEnlisted ws d → AreNew e.epoch ws d → e.epoch.0 / 256 ≤ lease → CanStore e ws (leased lease d)
unfolding leased
can-leased e ws lease d absent enlisted new covers = record {
  absent = entry_of-leased lease e.attempt d ∙ absent;
  enlisted = λ i w lt. enlisted-leased lease _ d ∙ enlisted i w lt;
  new = new;
  leased = covers;
}

-- what was stored, or not, was so of the entry and the writes
pub prepares-as : (t : TargetPlan) (opening : Epoch × FloorWhy) (m n : TargetMemory) (first : Option Epoch) (e f : Entry) (ws xs : List MinorWrite) (d : Durable) (h : State) (new : Option Durable) (k : State) (finds : Durable → Type 0) (r s : Result (Option Outcome) Halt)
    → n.stamps ≡ m.stamps → e ≡ f → ws ≡ xs → r ≡ s → PreparesOrNot t opening first n.stamps e ws d h new k finds r → PreparesOrNot t opening first m.stamps f xs d h new k finds s
prepares-as t opening m n first e f ws xs d h new k finds r s stamps entry writes result p =
    subst (λ a. PreparesOrNot t opening first a f xs d h new k finds s) stamps
    (subst (λ a. PreparesOrNot t opening first n.stamps a xs d h new k finds s) entry
    (subst (λ a. PreparesOrNot t opening first n.stamps e a d h new k finds s) writes
    (subst (λ a. PreparesOrNot t opening first n.stamps e ws d h new k finds a) result p)))

-- ---- turns

module _ (t : TargetPlan) (opening : Epoch × FloorWhy) (m : TargetMemory) (reading : ℕ) (q : CommitRequest) (from : ActorId) (d : Durable) (h k : State) (new : Option Durable) (finds : Durable → Type 0) (left : TargetMemory) (result : Result DidOf TargetStop) where
  -- it begins with an epoch that the lease covers
  pub commit-on : (e : Epoch) (mid : Option Durable) (j : State) (p : Epoch × FloorWhy) → p ≡ opening → request_epoch t m reading q.tracker q.ep ≡ Some e → Covers (e.0 / 256) d h mid j
      → ((x : Durable) → mid ≡ Some x → CommitTurn t p m reading q from (commit.Checking e) x j new k finds left result) → CommitTurn t opening m reading q from commit.Asked d h new k finds left result
  commit-on e mid j p same ep covers turn =
      let lease = leases (e.0 / 256) d h mid j covers in
      turn_on (CommitNext t opening m reading q) (commit_issued q) (CommitEnds t opening m reading q from) (λ did. (left, did)) commit.Asked (commit.Checking e) (kept d h) (kept (leased lease.lease d) j) new k finds result
      (covers_reached (CommitNext t opening m reading q) (commit_issued q) commit.Asked (commit.Known e) (commit.Checking e) (e.0 / 256) (λ l. commit.HasEpoch l e ep) (λ l x low is. commit.ExtendsLease l e x low is)
      (λ l is. commit.IsCovered l e is) refl d h mid j covers (leased lease.lease d) lease.kept_is)
      (subst (λ o. CommitTurn t o m reading q from (commit.Checking e) (leased lease.lease d) j new k finds left result) same (turn (leased lease.lease d) lease.kept_is))

  -- or no ticks are left
  pub commit-spent : (told : DidOf) → request_epoch t m reading q.tracker q.ep ≡ None → Stays d h new k → left ≡ m → told ≡ says from (message.Ended q.attempt None outcome.EpochsSpent) None
      → IfOk result (λ did. did ≡ told) → IfErr result (λ stop. stop ≡ stop_memory) → CommitTurn t opening m reading q from commit.Asked d h new k finds left result
  commit-spent told ep stays left_is told_is ok wanting =
      let done : Now new k (λ l. Whole (CommitNext t opening m reading q) (CommitEnds t opening m reading q from) commit.Asked (kept d h) l (left, told)) = record {
        durable = d;
        kept_is = stays.kept_is;
        holds = whole (CommitNext t opening m reading q) (CommitEnds t opening m reading q from) commit.Asked (kept d h) (kept d k) commit.Asked (left, told)
            (now_stays (λ l. Reached (CommitNext t opening m reading q) commit.Asked (kept d h) commit.Asked l) d h k new stays (reached-here (CommitNext t opening m reading q) commit.Asked (kept d h)))
            (commit.IsSpent (kept d k) (left, told) ep (ap (λ x. (x, told)) left_is ∙ ap (λ x. (m, x)) told_is));
      } in
      turn_said (CommitNext t opening m reading q) (commit_issued q) commit.Asked (kept d h) new k finds (λ did l. Whole (CommitNext t opening m reading q) (CommitEnds t opening m reading q from) commit.Asked (kept d h) l (left, did)) result told ok wanting done
      (partway_of (CommitNext t opening m reading q) (CommitEnds t opening m reading q from) commit.Asked (kept d h) new k (left, told) done)

-- or the lease was to be extended, and that was cut
pub commit-cut : (t : TargetPlan) (opening : Epoch × FloorWhy) (m : TargetMemory) (reading : ℕ) (q : CommitRequest) (from : ActorId) (d : Durable) (h k : State) (new : Option Durable) (finds : Durable → Type 0) (left : TargetMemory) (e : Epoch) (stop : TargetStop)
    → request_epoch t m reading q.tracker q.ep ≡ Some e → CoverCut (e.0 / 256) d h (left_by k finds) → stop ≡ stop_of halt.Stopped None → CommitTurn t opening m reading q from commit.Asked d h new k finds left (Err stop)
commit-cut t opening m reading q from d h k new finds left e stop ep cut is =
    subst (λ x. CommitTurn t opening m reading q from commit.Asked d h new k finds left (Err x)) (sym is)
    (covers_cut (CommitNext t opening m reading q) (commit_issued q) commit.Asked (commit.Known e) (commit.Checking e) (e.0 / 256) (λ l. commit.HasEpoch l e ep) (λ l x low is. commit.ExtendsLease l e x low is)
    (λ l is. commit.IsCovered l e is) refl d h (left_by k finds) cut)

-- ---- from the checks on

module _ (t : TargetPlan) (opening : Epoch × FloorWhy) (m : TargetMemory) (reading : ℕ) (q : CommitRequest) (from : ActorId) (e : Epoch) (d : Durable) (h k : State) (new : Option Durable) (finds : Durable → Type 0) (left : TargetMemory) where
  abbrev ending : Outcome → TargetMemory × DidOf
  ending how = (with_ticks e m, ends_at q from e how)

  -- the writes are refused
  pub commit-told : (how : Outcome) (told : DidOf) (result : Result DidOf TargetStop) → left ≡ with_ticks e m → told ≡ ends_at q from e how → IfOk result (λ did. did ≡ told) → IfErr result (λ stop. stop ≡ stop_memory)
      → IsRefusal t opening q.first e d m.stamps (own_writes t q.writes) h.free how → Stays d h new k → CommitTurn t opening m reading q from (commit.Checking e) d h new k finds left result
  commit-told how told result left_is told_is ok wanting by stays =
      prepared-told (CommitNext t opening m reading q) (CommitEnds t opening m reading q from) (commit.Checking e) (commit.Stored e) t opening q.first m.stamps (led_entry t q e) (own_writes t q.writes) ending
      (λ l allowed space. commit.Stores l e allowed space) (λ l c refuses. commit.IsRefused l e c (ending (outcome.Restart c)) refuses refl) (λ l allowed less. commit.HasNoSpace l e _ allowed less refl) d h
      (commit_issued q) k new finds how left told result (ap (λ x. (x, told)) left_is ∙ ap (λ x. (with_ticks e m, x)) told_is) ok wanting by stays

  -- they are stored, and the attempt begins
  pub commit-goes : (result : Result DidOf TargetStop) → IfOk result (λ did. (left, did) ≡ begun_of t (with_ticks e m) q from e (prepared (led_entry t q e) (own_writes t q.writes) d)) → IfErr result (λ stop. stop ≡ stop_memory)
      → FindsSpace t opening q.first e d m.stamps (own_writes t q.writes) h.free → Did (Prepares (led_entry t q e) (own_writes t q.writes)) d h new k → CommitTurn t opening m reading q from (commit.Checking e) d h new k finds left result
  commit-goes result told wanting found stored =
      prepared-goes (CommitNext t opening m reading q) (CommitEnds t opening m reading q from) (commit.Checking e) (commit.Stored e) t opening q.first m.stamps (led_entry t q e) (own_writes t q.writes) ending
      (λ l allowed space. commit.Stores l e allowed space) (λ l c refuses. commit.IsRefused l e c (ending (outcome.Restart c)) refuses refl) (λ l allowed less. commit.HasNoSpace l e _ allowed less refl) d h
      (commit_issued q) k new finds left result (by result told) wanting found stored
    where
      by : (result : Result DidOf TargetStop) → IfOk result (λ did. (left, did) ≡ begun_of t (with_ticks e m) q from e (prepared (led_entry t q e) (own_writes t q.writes) d))
          → IfOk result (λ did. CommitEnds t opening m reading q from (commit.Stored e) (kept (prepared (led_entry t q e) (own_writes t q.writes) d) k) (left, did))
      by (Ok did) is = commit.HasBegun (kept (prepared (led_entry t q e) (own_writes t q.writes) d) k) e (left, did) is
      by (Err stop) none = tt

  -- checking or storing them comes to no end
  pub commit-halted : (why : Halt) (issued : Option (AttemptId × Epoch)) (stop : TargetStop) → issued ≡ issued_for q.attempt q.ep e → stop ≡ stop_of why issued
      → PreparesOrNot t opening q.first m.stamps (led_entry t q e) (own_writes t q.writes) d h new k finds (Err why) → CommitTurn t opening m reading q from (commit.Checking e) d h new k finds left (Err stop)
  commit-halted why issued stop known is came =
      prepared-halted (CommitNext t opening m reading q) (CommitEnds t opening m reading q from) (commit.Checking e) (commit.Stored e) t opening q.first m.stamps (led_entry t q e) (own_writes t q.writes) ending
      (λ l allowed space. commit.Stores l e allowed space) (λ l c refuses. commit.IsRefused l e c (ending (outcome.Restart c)) refuses refl) (λ l allowed less. commit.HasNoSpace l e _ allowed less refl) d h
      (commit_issued q) k new finds (λ did l. Whole (CommitNext t opening m reading q) (CommitEnds t opening m reading q from) (commit.Checking e) (kept d h) l (left, did)) why issued stop known is came
