-- Whole turns in which a target hears a Fetch, from their parts.
use Rattle.std.proofs.Common.{ℕ, ◌≡◌, ◌/◌, refl, sym, ◌∙◌, ap, subst, Bool, true, false, List, Option, Some, None, Result, Ok, Err}
use Rattle.std.specs.Prelude.{IfOk, IfErr, is_some, if◌then◌else◌}
use Rattle.base_types.specs.declared.epoch.Epoch.{Epoch}
use Rattle.base_types.specs.declared.id.AttemptId.{AttemptId}
use Rattle.base_types.specs.declared.outcome.Outcome.TheVariants as outcome
use Rattle.daos_hlc.specs.Clock.{Clock}
use Rattle.base_messages.specs.declared.actor.ActorId.{ActorId}
use Rattle.base_messages.specs.declared.message.Reply.TheVariants as reply
use Rattle.daos_model.specs.declared.durable.Durable.{Durable}
use Rattle.daos_model.specs.Changes.{leased}
use Rattle.vos_store.specs.Calls.{State}
use Rattle.world_base.specs.declared.did.Did.{Did}
use Rattle.world_base.specs.declared.request.FetchRequest.{FetchRequest}
use Rattle.world_base.specs.declared.target.TargetMemory.{TargetMemory}
use Rattle.world_base.specs.declared.target.TargetPlan.{TargetPlan}
use Rattle.world_base.specs.Changes.{Change, Kept}
use Rattle.world_base.specs.Reads as read
use Rattle.world_base.specs.Reads.{FetchEnds, FetchNext, FetchStage, fetched_message, memory_then, ticks_known}
use Rattle.world_base.specs.Requests.{issued_for, request_epoch, says, with_ticks}
use Rattle.world_base.specs.Roles.{with_unsettled}
use Rattle.world_base.specs.Turns.{Here, More, Path, Reached, Whole}
use Rattle.target_parts.specs.declared.halt.Halt.TheVariants as halt
use Rattle.target_parts.specs.declared.knows.Knows.{Knows}
use Rattle.target_parts.specs.declared.stop.TargetStop.{TargetStop}
use Rattle.target_parts.specs.Covers.{CoverCut, Covers, ReadiesOrCut, epoch_for}
use Rattle.target_parts.specs.Ending.{partway_of, turn_on, turn_said}
use Rattle.target_parts.specs.Knowing.{IsBeside, IsOwn, IsReadAsked, memory_of}
use Rattle.target_parts.specs.EpochLaws.{epoch-known}
use Rattle.target_parts.specs.KnowsLaws.{memory-beside}
use Rattle.target_parts.specs.Parts.{Now, Stays, kept, left_by}
use Rattle.target_parts.specs.Readying.{covers_cut, covers_reached, leases}
use Rattle.target_parts.specs.Stops.{fetch_issued, stop_memory, stop_of}
use Rattle.target_parts.specs.Turning.{now_stays, reached_silent, whole}
use Rattle.target_reads.specs.declared.reads.Served.{Served}
use Rattle.target_reads.specs.Fetches.{FetchTurn}
use Rattle.target_reads.specs.Meets.{Serves, told_of}
use Rattle.target_reads.proofs.Serving.{served-ends}
use Rattle.world_base.specs.PathLaws.{reached-here}

-- ---- what is known

-- what a target knows once a read was made
pub then-known : (old new : Knows) (q : FetchRequest) (e : Epoch) (m : TargetMemory) → IsBeside old new → new.leader ≡ record old.leader { decided = new.leader.decided } → ticks_known q e m ≡ memory_of old
    → memory_of new ≡ memory_then q e new.leader.decided m
then-known old new q e m beside leader known = memory-beside old new (record old.leader { decided = new.leader.decided }) beside leader ∙ ap (with_unsettled new.leader.decided) (sym known)

pub ticks-at_snapshot : (q : FetchRequest) (e : Epoch) (m : TargetMemory) → q.snapshot ≡ true → ticks_known q e m ≡ m
ticks-at_snapshot q e m snapshot = ap (λ (b : Bool). if b then m else with_ticks e m) snapshot

pub ticks-heard : (q : FetchRequest) (e : Epoch) (m : TargetMemory) → q.snapshot ≡ false → ticks_known q e m ≡ with_ticks e m
ticks-heard q e m snapshot = ap (λ (b : Bool). if b then m else with_ticks e m) snapshot

-- a request that has an epoch keeps it
pub own-epoch : (t : TargetPlan) (m : TargetMemory) (reading : ℕ) (tracker e : Epoch) (ep : Option Epoch) → ep ≡ Some e → request_epoch t m reading tracker ep ≡ Some e
own-epoch t m reading tracker e ep is = ap (request_epoch t m reading tracker) is

-- one that has none reads at no snapshot, and is issued one by the clock
pub new-unfrozen : (q : FetchRequest) → IsReadAsked q.read q.ep q.snapshot → q.ep ≡ None → q.snapshot ≡ false
new-unfrozen q asked new = by q.snapshot asked.known
  where
    by : (b : Bool) → (b ≡ true → is_some q.ep ≡ true) → b ≡ false
    by false known = refl
    by true known = let has = known refl in let none : is_some q.ep ≡ false = ap is_some new in absurd (let n : ⊥ = cc in n)

pub new-known : (t : TargetPlan) (k : Knows) (reading : ℕ) (q : FetchRequest) → IsOwn t k → q.ep ≡ None → request_epoch t (memory_of k) reading q.tracker q.ep ≡ epoch_for k.hlc reading q.tracker None
new-known t k reading q own new = epoch-known t (memory_of k) k.hlc reading q.tracker q.ep own.clock refl ∙ ap (epoch_for k.hlc reading q.tracker) new

-- what making an epoch ready came to, of a request that has none
pub readied : (clock : Clock) (reading : ℕ) (tracker : Epoch) (d : Durable) (h : State) (new : Option Durable) (k : State) (finds : Durable → Type 0) (o : Option Epoch) {p : Option Epoch} → p ≡ o → ReadiesOrCut (epoch_for clock reading tracker None) d h new k finds (Ok p)
    → ReadiesOrCut (epoch_for clock reading tracker None) d h new k finds (Ok o)
readied clock reading tracker d h new k finds o is said = subst (λ x. ReadiesOrCut (epoch_for clock reading tracker None) d h new k finds (Ok x)) is said

-- ---- what is issued

abbrev is_reading : FetchStage → Bool
is_reading read.Asked = false
is_reading (read.Known e) = false
is_reading (read.Reading e decided) = true

-- a read goes on as a read at its epoch
record IssuesOn (q : FetchRequest) (s u : FetchStage) : Type 0 where
  pub stage : is_reading u ≡ true
  pub issued : fetch_issued q u ≡ fetch_issued q s

module _ (t : TargetPlan) (m : TargetMemory) (reading : ℕ) (q : FetchRequest) where
  next-issues : (s : FetchStage) (k : Kept) (o : Option Change) (u : FetchStage) → FetchNext t m reading q s k o u → is_reading s ≡ true → IssuesOn q s u
  next-issues s k o u (read.AtSnapshot x e snapshot ep) here = absurd (let n : ⊥ = cc in n)
  next-issues s k o u (read.HasEpoch x e snapshot ep) here = absurd (let n : ⊥ = cc in n)
  next-issues s k o u (read.ExtendsLease x e lease low is) here = absurd (let n : ⊥ = cc in n)
  next-issues s k o u (read.IsCovered x e covers) here = absurd (let n : ⊥ = cc in n)
  next-issues s k o u (read.SettlesOwn x e decided a none unsettled among) here = record { stage = refl; issued = refl }

  path-issues : (s : FetchStage) (k : Kept) (did : List Change) (u : FetchStage) (l : Kept) → Path (FetchNext t m reading q) s k did u l → is_reading s ≡ true → IssuesOn q s u
  path-issues s k did u l Here here = record { stage = here; issued = refl }
  path-issues s k did u l (More before v n o w z rest next steps) here =
      let a = path-issues s k before v n rest here in
      let b = next-issues v n o u next a.stage in
      record { stage = b.stage; issued = b.issued ∙ a.issued }

  -- what a read that is made has issued
  pub reading-issued : (e : Epoch) (first : List AttemptId) (old : Kept) (last : FetchStage) (mid : Kept) → Reached (FetchNext t m reading q) (read.Reading e first) old last mid → fetch_issued q last ≡ issued_for q.attempt q.ep e
  reading-issued e first old last mid r = (path-issues (read.Reading e first) old r.did last mid r.path refl).issued

-- ---- turns

-- what a read came to is told
pub fetch-told : (t : TargetPlan) (m n : TargetMemory) (reading : ℕ) (q : FetchRequest) (from : ActorId) (e : Epoch) (first decided : List AttemptId) (d : Durable) (h k : State) (new : Option Durable) (finds : Durable → Type 0)
    (served : Served) (left : TargetMemory) (result : Result Did TargetStop) → n ≡ memory_then q e decided m → IfOk result (λ did. (left, did) ≡ told_of t q from e served n) → IfErr result (λ stop. stop ≡ stop_memory)
    → Now new k (Serves t m reading q e first decided (kept d h) served) → FetchTurn t m reading q from (read.Reading e first) d h new k finds left result
fetch-told t m n reading q from e first decided d h k new finds served left (Ok did) is told wanting now = record {
  durable = now.durable;
  kept_is = now.kept_is;
  holds = whole (FetchNext t m reading q) (FetchEnds t m reading q from) (read.Reading e first) (kept d h) (kept now.durable k) (read.Reading e decided) (left, did) now.holds.reached
      (subst (λ x. FetchEnds t m reading q from (read.Reading e decided) (kept now.durable k) x) (sym told) (served-ends t m n reading q from e decided now.durable k served is now.holds.comes));
}
fetch-told t m n reading q from e first decided d h k new finds served left (Err stop) is told wanting now =
    subst (λ x. FetchTurn t m reading q from (read.Reading e first) d h new k finds left (Err x)) (sym wanting)
    (record { durable = now.durable; kept_is = now.kept_is; holds = record { last = read.Reading e decided; reached = now.holds.reached } })

module _ (t : TargetPlan) (m : TargetMemory) (reading : ℕ) (q : FetchRequest) (from : ActorId) (d : Durable) (h k : State) (new : Option Durable) (finds : Durable → Type 0) (left : TargetMemory) (result : Result Did TargetStop) where
  -- a read at a snapshot begins at the epoch of that
  pub fetch-at_snapshot : (e : Epoch) → q.snapshot ≡ true → q.ep ≡ Some e → FetchTurn t m reading q from (read.Reading e m.leader.decided) d h new k finds left result → FetchTurn t m reading q from read.Asked d h new k finds left result
  fetch-at_snapshot e snapshot ep turn =
      turn_on (FetchNext t m reading q) (fetch_issued q) (FetchEnds t m reading q from) (λ did. (left, did)) read.Asked (read.Reading e m.leader.decided) (kept d h) (kept d h) new k finds result
      (reached_silent (FetchNext t m reading q) read.Asked (kept d h) read.Asked (kept d h) (read.Reading e m.leader.decided) (reached-here (FetchNext t m reading q) read.Asked (kept d h)) (read.AtSnapshot (kept d h) e snapshot ep)) turn

  -- another one begins with an epoch that the lease covers
  pub fetch-on : (e : Epoch) (mid : Option Durable) (j : State) → q.snapshot ≡ false → request_epoch t m reading q.tracker q.ep ≡ Some e → Covers (e.0 / 256) d h mid j
      → ((x : Durable) → mid ≡ Some x → FetchTurn t m reading q from (read.Reading e m.leader.decided) x j new k finds left result) → FetchTurn t m reading q from read.Asked d h new k finds left result
  fetch-on e mid j snapshot ep covers turn =
      let lease = leases (e.0 / 256) d h mid j covers in
      turn_on (FetchNext t m reading q) (fetch_issued q) (FetchEnds t m reading q from) (λ did. (left, did)) read.Asked (read.Reading e m.leader.decided) (kept d h) (kept (leased lease.lease d) j) new k finds result
      (covers_reached (FetchNext t m reading q) (fetch_issued q) read.Asked (read.Known e) (read.Reading e m.leader.decided) (e.0 / 256) (λ l. read.HasEpoch l e snapshot ep) (λ l x low is. read.ExtendsLease l e x low is)
      (λ l is. read.IsCovered l e is) refl d h mid j covers (leased lease.lease d) lease.kept_is)
      (turn (leased lease.lease d) lease.kept_is)

  -- or no ticks are left
  pub fetch-spent : (told : Did) → q.snapshot ≡ false → request_epoch t m reading q.tracker q.ep ≡ None → Stays d h new k → left ≡ m → told ≡ says from (fetched_message q None (reply.Outcome outcome.EpochsSpent)) None
      → IfOk result (λ did. did ≡ told) → IfErr result (λ stop. stop ≡ stop_memory) → FetchTurn t m reading q from read.Asked d h new k finds left result
  fetch-spent told snapshot ep stays left_is told_is ok wanting =
      let done : Now new k (λ l. Whole (FetchNext t m reading q) (FetchEnds t m reading q from) read.Asked (kept d h) l (left, told)) = record {
        durable = d;
        kept_is = stays.kept_is;
        holds = whole (FetchNext t m reading q) (FetchEnds t m reading q from) read.Asked (kept d h) (kept d k) read.Asked (left, told)
            (now_stays (λ l. Reached (FetchNext t m reading q) read.Asked (kept d h) read.Asked l) d h k new stays (reached-here (FetchNext t m reading q) read.Asked (kept d h)))
            (read.IsSpent (kept d k) (left, told) snapshot ep (ap (λ x. (x, told)) left_is ∙ ap (λ x. (m, x)) told_is));
      } in
      turn_said (FetchNext t m reading q) (fetch_issued q) read.Asked (kept d h) new k finds (λ did l. Whole (FetchNext t m reading q) (FetchEnds t m reading q from) read.Asked (kept d h) l (left, did)) result told ok wanting done
      (partway_of (FetchNext t m reading q) (FetchEnds t m reading q from) read.Asked (kept d h) new k (left, told) done)

-- or the lease was to be extended, and that was cut
pub fetch-cut : (t : TargetPlan) (m : TargetMemory) (reading : ℕ) (q : FetchRequest) (from : ActorId) (d : Durable) (h k : State) (new : Option Durable) (finds : Durable → Type 0) (left : TargetMemory) (e : Epoch) (stop : TargetStop)
    → q.snapshot ≡ false → request_epoch t m reading q.tracker q.ep ≡ Some e → CoverCut (e.0 / 256) d h (left_by k finds) → stop ≡ stop_of halt.Stopped None → FetchTurn t m reading q from read.Asked d h new k finds left (Err stop)
fetch-cut t m reading q from d h k new finds left e stop snapshot ep cut is =
    subst (λ x. FetchTurn t m reading q from read.Asked d h new k finds left (Err x)) (sym is)
    (covers_cut (FetchNext t m reading q) (fetch_issued q) read.Asked (read.Known e) (read.Reading e m.leader.decided) (e.0 / 256) (λ l. read.HasEpoch l e snapshot ep) (λ l x low is. read.ExtendsLease l e x low is)
    (λ l is. read.IsCovered l e is) refl d h (left_by k finds) cut)
