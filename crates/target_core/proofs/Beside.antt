-- A turn of a leader or a member goes on alike, whatever snapshots and aggregations are being made besides.
use Rattle.std.proofs.Common.{ℕ, ◌≡◌, refl, ◌∙◌, ap, subst, Bool, true, false, List, [], ◌∷◌, Option, Some, Result, Ok, Err}
use Rattle.std.specs.Prelude.{if◌then◌else◌}
use Rattle.base_types.specs.declared.entry.Verdict.{Verdict}
use Rattle.base_types.specs.declared.entry.Verdict.TheVariants as fate
use Rattle.base_types.specs.declared.epoch.Epoch.{Epoch}
use Rattle.base_types.specs.declared.id.AttemptId.{AttemptId}
use Rattle.base_types.specs.declared.outcome.FloorWhy.{FloorWhy}
use Rattle.base_types.specs.declared.outcome.Cause.TheVariants as cause
use Rattle.base_types.specs.declared.outcome.Outcome.{Outcome}
use Rattle.base_types.specs.declared.outcome.Outcome.TheVariants as outcome
use Rattle.base_types.specs.declared.shown.Shown.{Shown}
use Rattle.base_messages.specs.declared.actor.ActorId.{ActorId}
use Rattle.base_messages.specs.declared.message.Reply.TheVariants as reply
use Rattle.daos_model.specs.declared.durable.Durable.{Durable}
use Rattle.dtx_base.specs.Joining.{parking}
use Rattle.dtx_base.specs.Leading.{attempts_of}
use Rattle.snap_core.specs.Snaps.{SnapOf, remembered}
use Rattle.vos_store.specs.Calls.{State}
use Rattle.world_base.specs.declared.did.Did.{Did}
use Rattle.world_base.specs.declared.request.CommitRequest.{CommitRequest}
use Rattle.world_base.specs.declared.request.FetchRequest.{FetchRequest}
use Rattle.world_base.specs.declared.request.PrepareRequest.{PrepareRequest}
use Rattle.world_base.specs.declared.target.TargetMemory.{TargetMemory}
use Rattle.world_base.specs.declared.target.TargetPlan.{TargetPlan}
use Rattle.world_base.specs.Acks as ack
use Rattle.world_base.specs.Changes.{Change, Kept}
use Rattle.world_base.specs.Commits as commit
use Rattle.world_base.specs.CutTurns as cut
use Rattle.world_base.specs.CutTurns.{UnstoredNext}
use Rattle.world_base.specs.Further as further
use Rattle.world_base.specs.Further.{CommitDown}
use Rattle.world_base.specs.Idle.{AllSettled, IdleEnds, IdleNext, has_idle}
use Rattle.world_base.specs.Marks.{AllMarked, MarkEnds, MarkNext}
use Rattle.world_base.specs.Prepares as prepare
use Rattle.world_base.specs.Reads as read
use Rattle.world_base.specs.Requests.{with_ticks}
use Rattle.world_base.specs.Roles.{is_prepared, joins_on, member_at, told_by, told_of, told_of_all, with_unsettled}
use Rattle.world_base.specs.Statuses as status
use Rattle.world_base.specs.Statuses.{EndsAs, IsDone, Looking, NoChange}
use Rattle.world_base.specs.Turns.{CutAt, Here, InChange, InQuestion, More, Path, Reached, Whole}
use Rattle.world_base.specs.Verdicts as verdict
use Rattle.target_parts.specs.declared.stop.TargetStop.{TargetStop}
use Rattle.target_parts.specs.declared.stop.TargetStop.TheVariants as stop
use Rattle.target_parts.specs.Parts.{kept, left_by}
use Rattle.target_parts.specs.Stops.{Turn, commit_issued, fetch_issued, never}
use Rattle.target_reads.specs.Again.{VerdictTurn}
use Rattle.target_reads.specs.Fetches.{FetchTurn}
use Rattle.target_writes.specs.Turns.{CommitTurn, DownTurn, PrepareTurn}

-- ---- turns whose steps are steps of another kind

module _ {S U : Type 0} (Next : S → Kept → Option Change → S → Type 0) (Then : U → Kept → Option Change → U → Type 0) (f : S → U) (step : (s : S) (k : Kept) (o : Option Change) (u : S) → Next s k o u → Then (f s) k o (f u)) where
  path-as : (s : S) (k : Kept) (did : List Change) (u : S) (l : Kept) → Path Next s k did u l → Path Then (f s) k did (f u) l
  path-as s k did u l Here = Here
  path-as s k did u l (More before v m o w n path next steps) = More before (f v) m o (f w) n (path-as s k before v m path) (step v m o w next) steps

  pub reached-as : (s : S) (k : Kept) (u : S) (l : Kept) → Reached Next s k u l → Reached Then (f s) k (f u) l
  reached-as s k u l r = record { did = r.did; path = path-as s k r.did u l r.path }

  pub whole-as : {R Q : Type 0} (Ends : S → Kept → R → Type 0) (Last : U → Kept → Q → Type 0) (g : R → Q) → ((s : S) (k : Kept) (r : R) → Ends s k r → Last (f s) k (g r)) → (s : S) (k l : Kept) (r : R) → Whole Next Ends s k l r → Whole Then Last (f s) k l (g r)
  whole-as Ends Last g ends s k l r w = record { last = f w.last; reached = reached-as s k w.last l w.reached; ends = ends w.last l r w.ends }

  cut-as : (last : S) (mid : Kept) (finds : Kept → Type 0) → CutAt Next last mid finds → CutAt Then (f last) mid finds
  cut-as last mid finds (InChange c u next all) = InChange c (f u) (step last mid (Some c) u next) all
  cut-as last mid finds (InQuestion all) = InQuestion all

  pub turn-as : (issued_at : S → Option (AttemptId × Epoch)) (issued_then : U → Option (AttemptId × Epoch)) → ((s : S) → issued_at s ≡ issued_then (f s)) → (start : S) (old : Kept) (Done Ends : Did → Kept → Type 0) → ((did : Did) (l : Kept) → Done did l → Ends did l)
      → (new : Option Durable) (k : State) (finds : Durable → Type 0) (r : Result Did TargetStop) → Turn Next issued_at start old Done new k finds r → Turn Then issued_then (f start) old Ends new k finds r
  turn-as issued_at issued_then same start old Done Ends ends new k finds (Ok did) turn = record { durable = turn.durable; kept_is = turn.kept_is; holds = ends did _ turn.holds }
  turn-as issued_at issued_then same start old Done Ends ends new k finds (Err (stop.Store issued lines)) turn = record {
    cut = record { last = f turn.cut.last; mid = turn.cut.mid; reached = reached-as start old turn.cut.last turn.cut.mid turn.cut.reached; cut = cut-as turn.cut.last turn.cut.mid (left_by k finds) turn.cut.cut };
    issued_is = turn.issued_is ∙ same turn.cut.last;
    no_lines = turn.no_lines;
  }
  turn-as issued_at issued_then same start old Done Ends ends new k finds (Err (stop.Foreign at byte)) turn = turn
  turn-as issued_at issued_then same start old Done Ends ends new k finds (Err stop.Memory) turn = record { durable = turn.durable; kept_is = turn.kept_is; holds = record { last = f turn.holds.last; reached = reached-as start old turn.holds.last _ turn.holds.reached } }

-- ---- what is being made stays beside

module _ (s : SnapOf) where
  -- what a turn leaves, and what is being made besides
  abbrev pub beside : TargetMemory × Did → TargetMemory × Did
  beside z = (remembered z.0 s, z.1)

  abbrev alike : {S : Type 0} → S → S
  alike x = x

  abbrev with_stamps : List Shown → TargetMemory → TargetMemory
  with_stamps ss m = record m { stamps = ss }

  -- ---- a Fetch

  then-beside : (q : FetchRequest) (e : Epoch) (decided : List AttemptId) (m : TargetMemory) → remembered (read.memory_then q e decided m) s ≡ read.memory_then q e decided (remembered m s)
  then-beside q e decided m = by q.snapshot
    where
      by : (b : Bool) → remembered (with_unsettled decided (if b then m else with_ticks e m)) s ≡ with_unsettled decided (if b then remembered m s else with_ticks e (remembered m s))
      by true = refl
      by false = refl

  parked-beside : (t : TargetPlan) (q : FetchRequest) (e : Epoch) (decided : List AttemptId) (a : AttemptId) (leader : ℕ) (m : TargetMemory) → remembered (read.memory_parked t q e decided a leader m) s ≡ read.memory_parked t q e decided a leader (remembered m s)
  parked-beside t q e decided a leader m = ap (joins_on (parking (read.fetch_at q e) a leader (member_at t m))) (then-beside q e decided m)

  module _ (t : TargetPlan) (m : TargetMemory) (reading : ℕ) (q : FetchRequest) (from : ActorId) where
    fetch-next : (u : read.FetchStage) (k : Kept) (o : Option Change) (v : read.FetchStage) → read.FetchNext t m reading q u k o v → read.FetchNext t (remembered m s) reading q u k o v
    fetch-next u k o v (read.AtSnapshot k2 e is at) = read.AtSnapshot k2 e is at
    fetch-next u k o v (read.HasEpoch k2 e live is) = read.HasEpoch k2 e live is
    fetch-next u k o v (read.ExtendsLease k2 e lease low is) = read.ExtendsLease k2 e lease low is
    fetch-next u k o v (read.IsCovered k2 e covers) = read.IsCovered k2 e covers
    fetch-next u k o v (read.SettlesOwn k2 e decided a free meets own) = read.SettlesOwn k2 e decided a free meets own

    fetch-ends : (u : read.FetchStage) (k : Kept) (left : TargetMemory × Did) → read.FetchEnds t m reading q from u k left → read.FetchEnds t (remembered m s) reading q from u k (beside left)
    fetch-ends u k left (read.IsSpent k2 left2 live none says) = read.IsSpent k2 (beside left2) live none (ap beside says)
    fetch-ends u k left (read.IsRefused k2 e decided c left2 why says) = read.IsRefused k2 e decided c (beside left2) why (ap beside says ∙ ap (λ n. (n, read.tells q from e (reply.Outcome (outcome.Restart c)))) (then-beside q e decided m))
    fetch-ends u k left (read.MeetsUnresolved k2 e decided a left2 free meets undecided other says) =
        read.MeetsUnresolved k2 e decided a (beside left2) free meets undecided other (ap beside says ∙ ap (λ n. (n, read.tells q from e (reply.Outcome (outcome.Restart (cause.Unresolved a))))) (then-beside q e decided m))
    fetch-ends u k left (read.IsParked k2 e decided a leader left2 free meets other says) = read.IsParked k2 e decided a leader (beside left2) free meets other (ap beside says ∙ ap (λ n. (n, read.asks_leader q e a leader)) (parked-beside t q e decided a leader m))
    fetch-ends u k left (read.IsServed k2 e decided b left2 free served says) =
        read.IsServed k2 e decided b (beside left2) free served (ap beside says ∙ ap (λ n. (with_stamps (read.stamps_with q e m.stamps) n, read.tells q from e (reply.Answer b))) (then-beside q e decided m))

    pub fetch-beside : (d : Durable) (h : State) (new : Option Durable) (k : State) (finds : Durable → Type 0) (left : TargetMemory) (r : Result Did TargetStop) → FetchTurn t m reading q from read.Asked d h new k finds left r → FetchTurn t (remembered m s) reading q from read.Asked d h new k finds (remembered left s) r
    fetch-beside d h new k finds left r turn =
        turn-as (read.FetchNext t m reading q) (read.FetchNext t (remembered m s) reading q) alike fetch-next (fetch_issued q) (fetch_issued q) (λ u. refl) read.Asked (kept d h)
        (λ did l. Whole (read.FetchNext t m reading q) (read.FetchEnds t m reading q from) read.Asked (kept d h) l (left, did)) (λ did l. Whole (read.FetchNext t (remembered m s) reading q) (read.FetchEnds t (remembered m s) reading q from) read.Asked (kept d h) l (remembered left s, did))
        (λ did l w. whole-as (read.FetchNext t m reading q) (read.FetchNext t (remembered m s) reading q) alike fetch-next (read.FetchEnds t m reading q from) (read.FetchEnds t (remembered m s) reading q from) beside fetch-ends read.Asked (kept d h) l (left, did) w) new k finds r turn

  -- ---- a Commit

  module _ (t : TargetPlan) (opening : Epoch × FloorWhy) (m : TargetMemory) (reading : ℕ) (q : CommitRequest) (from : ActorId) where
    commit-next : (u : commit.CommitStage) (k : Kept) (o : Option Change) (v : commit.CommitStage) → commit.CommitNext t opening m reading q u k o v → commit.CommitNext t opening (remembered m s) reading q u k o v
    commit-next u k o v (commit.HasEpoch k2 e is) = commit.HasEpoch k2 e is
    commit-next u k o v (commit.ExtendsLease k2 e lease low is) = commit.ExtendsLease k2 e lease low is
    commit-next u k o v (commit.IsCovered k2 e covers) = commit.IsCovered k2 e covers
    commit-next u k o v (commit.Stores k2 e allowed free) = commit.Stores k2 e allowed free

    commit-ends : (u : commit.CommitStage) (k : Kept) (left : TargetMemory × Did) → commit.CommitEnds t opening m reading q from u k left → commit.CommitEnds t opening (remembered m s) reading q from u k (beside left)
    commit-ends u k left (commit.IsSpent k2 left2 none says) = commit.IsSpent k2 (beside left2) none (ap beside says)
    commit-ends u k left (commit.IsRefused k2 e c left2 why says) = commit.IsRefused k2 e c (beside left2) why (ap beside says)
    commit-ends u k left (commit.HasNoSpace k2 e left2 allowed full says) = commit.HasNoSpace k2 e (beside left2) allowed full (ap beside says)
    commit-ends u k left (commit.HasBegun k2 e left2 says) = commit.HasBegun k2 e (beside left2) (ap beside says)

    pub commit-beside : (d : Durable) (h : State) (new : Option Durable) (k : State) (finds : Durable → Type 0) (left : TargetMemory) (r : Result Did TargetStop) → CommitTurn t opening m reading q from commit.Asked d h new k finds left r → CommitTurn t opening (remembered m s) reading q from commit.Asked d h new k finds (remembered left s) r
    commit-beside d h new k finds left r turn =
        turn-as (commit.CommitNext t opening m reading q) (commit.CommitNext t opening (remembered m s) reading q) alike commit-next (commit_issued q) (commit_issued q) (λ u. refl) commit.Asked (kept d h)
        (λ did l. Whole (commit.CommitNext t opening m reading q) (commit.CommitEnds t opening m reading q from) commit.Asked (kept d h) l (left, did)) (λ did l. Whole (commit.CommitNext t opening (remembered m s) reading q) (commit.CommitEnds t opening (remembered m s) reading q from) commit.Asked (kept d h) l (remembered left s, did))
        (λ did l w. whole-as (commit.CommitNext t opening m reading q) (commit.CommitNext t opening (remembered m s) reading q) alike commit-next (commit.CommitEnds t opening m reading q from) (commit.CommitEnds t opening (remembered m s) reading q from) beside commit-ends commit.Asked (kept d h) l (left, did) w) new k finds r turn

    -- with a member that is known to be down
    unstored-beside : (u : commit.CommitStage) (k : Kept) (o : Option Change) (v : commit.CommitStage) → UnstoredNext t opening m reading q u k o v → UnstoredNext t opening (remembered m s) reading q u k o v
    unstored-beside u k o v (cut.Before u2 v2 k2 o2 next before) = cut.Before u2 v2 k2 o2 (commit-next u2 k2 o2 v2 next) before

    down-ends : (u : commit.CommitStage) (k : Kept) (left : TargetMemory × Did) → CommitDown t m reading q from u k left → CommitDown t (remembered m s) reading q from u k (beside left)
    down-ends u k left (further.IsSpent k2 e down left2 spent is says) = further.IsSpent k2 e down (beside left2) spent is (ap beside says)
    down-ends u k left (further.IsUnknown k2 e down left2 is says) = further.IsUnknown k2 e down (beside left2) is (ap beside says)

    pub down-beside : (d : Durable) (h : State) (new : Option Durable) (k : State) (finds : Durable → Type 0) (left : TargetMemory) (r : Result Did TargetStop) → DownTurn t opening m reading q from d h new k finds left r → DownTurn t opening (remembered m s) reading q from d h new k finds (remembered left s) r
    down-beside d h new k finds left r turn =
        turn-as (UnstoredNext t opening m reading q) (UnstoredNext t opening (remembered m s) reading q) alike unstored-beside (commit_issued q) (commit_issued q) (λ u. refl) commit.Asked (kept d h)
        (λ did l. Whole (UnstoredNext t opening m reading q) (CommitDown t m reading q from) commit.Asked (kept d h) l (left, did)) (λ did l. Whole (UnstoredNext t opening (remembered m s) reading q) (CommitDown t (remembered m s) reading q from) commit.Asked (kept d h) l (remembered left s, did))
        (λ did l w. whole-as (UnstoredNext t opening m reading q) (UnstoredNext t opening (remembered m s) reading q) alike unstored-beside (CommitDown t m reading q from) (CommitDown t (remembered m s) reading q from) beside down-ends commit.Asked (kept d h) l (left, did) w) new k finds r turn

  -- ---- a Prepare

  module _ (t : TargetPlan) (opening : Epoch × FloorWhy) (m : TargetMemory) (q : PrepareRequest) where
    prepare-next : (u : prepare.PrepareStage) (k : Kept) (o : Option Change) (v : prepare.PrepareStage) → prepare.PrepareNext t opening m q u k o v → prepare.PrepareNext t opening (remembered m s) q u k o v
    prepare-next u k o v (prepare.ExtendsLease k2 lease low is) = prepare.ExtendsLease k2 lease low is
    prepare-next u k o v (prepare.IsCovered k2 covers) = prepare.IsCovered k2 covers
    prepare-next u k o v (prepare.Stores k2 allowed free) = prepare.Stores k2 allowed free

    prepare-ends : (u : prepare.PrepareStage) (k : Kept) (left : TargetMemory × Did) → prepare.PrepareEnds t opening m q u k left → prepare.PrepareEnds t opening (remembered m s) q u k (beside left)
    prepare-ends u k left (prepare.IsRefused k2 c left2 why says) = prepare.IsRefused k2 c (beside left2) why (ap beside says)
    prepare-ends u k left (prepare.HasNoSpace k2 left2 allowed full says) = prepare.HasNoSpace k2 (beside left2) allowed full (ap beside says)
    prepare-ends u k left (prepare.IsPrepared k2 left2 says) = prepare.IsPrepared k2 (beside left2) (ap beside says)

    pub prepare-beside : (d : Durable) (h : State) (new : Option Durable) (k : State) (finds : Durable → Type 0) (left : TargetMemory) (r : Result Did TargetStop) → PrepareTurn t opening m q prepare.Heard d h new k finds left r → PrepareTurn t opening (remembered m s) q prepare.Heard d h new k finds (remembered left s) r
    prepare-beside d h new k finds left r turn =
        turn-as (prepare.PrepareNext t opening m q) (prepare.PrepareNext t opening (remembered m s) q) alike prepare-next never never (λ u. refl) prepare.Heard (kept d h)
        (λ did l. Whole (prepare.PrepareNext t opening m q) (prepare.PrepareEnds t opening m q) prepare.Heard (kept d h) l (left, did)) (λ did l. Whole (prepare.PrepareNext t opening (remembered m s) q) (prepare.PrepareEnds t opening (remembered m s) q) prepare.Heard (kept d h) l (remembered left s, did))
        (λ did l w. whole-as (prepare.PrepareNext t opening m q) (prepare.PrepareNext t opening (remembered m s) q) alike prepare-next (prepare.PrepareEnds t opening m q) (prepare.PrepareEnds t opening (remembered m s) q) beside prepare-ends prepare.Heard (kept d h) l (left, did) w) new k finds r turn

  -- ---- an Ack

  module _ (t : TargetPlan) (m : TargetMemory) (member : ℕ) where
    ack-next : (a : AttemptId) (inc : ℕ) (refusal : Option Outcome) (u : ack.AckStage) (k : Kept) (o : Option Change) (v : ack.AckStage) → ack.AckNext t m member a inc refusal u k o v → ack.AckNext t (remembered m s) member a inc refusal u k o v
    ack-next a inc refusal u k o v (ack.Aborts k2 is) = ack.Aborts k2 is
    ack-next a inc refusal u k o v (ack.Counts k2 is) = ack.Counts k2 is

    ack-ends : (u : ack.AckStage) (k : Kept) (left : TargetMemory × Did) → ack.AckEnds m u k left → ack.AckEnds (remembered m s) u k (beside left)
    ack-ends u k left (ack.IsFollowed k2 step left2 says) = ack.IsFollowed k2 step (beside left2) (ap beside says)

    pub ack-beside : (a : AttemptId) (inc : ℕ) (refusal : Option Outcome) (d : Durable) (h : State) (new : Option Durable) (k : State) (finds : Durable → Type 0) (left : TargetMemory) (r : Result Did TargetStop)
        → Turn (ack.AckNext t m member a inc refusal) never ack.Heard (kept d h) (λ did l. Whole (ack.AckNext t m member a inc refusal) (ack.AckEnds m) ack.Heard (kept d h) l (left, did)) new k finds r
        → Turn (ack.AckNext t (remembered m s) member a inc refusal) never ack.Heard (kept d h) (λ did l. Whole (ack.AckNext t (remembered m s) member a inc refusal) (ack.AckEnds (remembered m s)) ack.Heard (kept d h) l (remembered left s, did)) new k finds r
    ack-beside a inc refusal d h new k finds left r turn =
        turn-as (ack.AckNext t m member a inc refusal) (ack.AckNext t (remembered m s) member a inc refusal) alike (ack-next a inc refusal) never never (λ u. refl) ack.Heard (kept d h)
        (λ did l. Whole (ack.AckNext t m member a inc refusal) (ack.AckEnds m) ack.Heard (kept d h) l (left, did)) (λ did l. Whole (ack.AckNext t (remembered m s) member a inc refusal) (ack.AckEnds (remembered m s)) ack.Heard (kept d h) l (remembered left s, did))
        (λ did l w. whole-as (ack.AckNext t m member a inc refusal) (ack.AckNext t (remembered m s) member a inc refusal) alike (ack-next a inc refusal) (ack.AckEnds m) (ack.AckEnds (remembered m s)) beside ack-ends ack.Heard (kept d h) l (left, did) w) new k finds r turn

    -- ---- a Marked

    marked-next : (u : List AttemptId) (k : Kept) (o : Option Change) (v : List AttemptId) → ack.MarkedNext t m member u k o v → ack.MarkedNext t (remembered m s) member u k o v
    marked-next u k o v (ack.Confirms k2 a rest is) = ack.Confirms k2 a rest is
    marked-next u k o v (ack.PassesBy k2 a rest is) = ack.PassesBy k2 a rest is

    marked-ends : (inc : ℕ) (ids : List AttemptId) (u : List AttemptId) (k : Kept) (left : TargetMemory × Did) → ack.MarkedEnds t m member inc ids u k left → ack.MarkedEnds t (remembered m s) member inc ids u k (beside left)
    marked-ends inc ids u k left (ack.AllConfirmed k2 left2 says) = ack.AllConfirmed k2 (beside left2) (ap beside says)

    pub marked-beside : (inc : ℕ) (ids : List AttemptId) (d : Durable) (h : State) (new : Option Durable) (k : State) (finds : Durable → Type 0) (left : TargetMemory) (r : Result Did TargetStop)
        → Turn (ack.MarkedNext t m member) never (ack.to_confirm inc ids d) (kept d h) (λ did l. Whole (ack.MarkedNext t m member) (ack.MarkedEnds t m member inc ids) (ack.to_confirm inc ids d) (kept d h) l (left, did)) new k finds r
        → Turn (ack.MarkedNext t (remembered m s) member) never (ack.to_confirm inc ids d) (kept d h) (λ did l. Whole (ack.MarkedNext t (remembered m s) member) (ack.MarkedEnds t (remembered m s) member inc ids) (ack.to_confirm inc ids d) (kept d h) l (remembered left s, did)) new k finds r
    marked-beside inc ids d h new k finds left r turn =
        turn-as (ack.MarkedNext t m member) (ack.MarkedNext t (remembered m s) member) alike marked-next never never (λ u. refl) (ack.to_confirm inc ids d) (kept d h)
        (λ did l. Whole (ack.MarkedNext t m member) (ack.MarkedEnds t m member inc ids) (ack.to_confirm inc ids d) (kept d h) l (left, did)) (λ did l. Whole (ack.MarkedNext t (remembered m s) member) (ack.MarkedEnds t (remembered m s) member inc ids) (ack.to_confirm inc ids d) (kept d h) l (remembered left s, did))
        (λ did l w. whole-as (ack.MarkedNext t m member) (ack.MarkedNext t (remembered m s) member) alike marked-next (ack.MarkedEnds t m member inc ids) (ack.MarkedEnds t (remembered m s) member inc ids) beside (marked-ends inc ids) (ack.to_confirm inc ids d) (kept d h) l (left, did) w) new k finds r turn

  -- ---- a Mark, and a Query

  mark-ends : (m : TargetMemory) (from : ActorId) (inc : ℕ) (marks u : List (AttemptId × Bool)) (k : Kept) (left : TargetMemory × Did) → MarkEnds m from inc marks u k left → MarkEnds (remembered m s) from inc marks u k (beside left)
  mark-ends m from inc marks u k left (AllMarked k2 left2 says) = AllMarked k2 (beside left2) (ap beside says)

  all-told : (ids : List AttemptId) (m : TargetMemory) → remembered (told_of_all ids m) s ≡ told_of_all ids (remembered m s)
  all-told [] m = refl
  all-told (a ∷ ids) m = all-told ids (told_of a m)

  pub mark-beside : (m : TargetMemory) (from : ActorId) (inc : ℕ) (marks : List (AttemptId × Bool)) (d : Durable) (h : State) (new : Option Durable) (k : State) (finds : Durable → Type 0) (left : TargetMemory) (r : Result Did TargetStop)
      → Turn (MarkNext is_prepared) never marks (kept d h) (λ did l. Whole (MarkNext is_prepared) (MarkEnds (told_of_all (attempts_of marks) m) from inc marks) marks (kept d h) l (left, did)) new k finds r
      → Turn (MarkNext is_prepared) never marks (kept d h) (λ did l. Whole (MarkNext is_prepared) (MarkEnds (told_of_all (attempts_of marks) (remembered m s)) from inc marks) marks (kept d h) l (remembered left s, did)) new k finds r
  mark-beside m from inc marks d h new k finds left r turn =
      subst (λ n. Turn (MarkNext is_prepared) never marks (kept d h) (λ did l. Whole (MarkNext is_prepared) (MarkEnds n from inc marks) marks (kept d h) l (remembered left s, did)) new k finds r) (all-told (attempts_of marks) m)
      (turn-as (MarkNext is_prepared) (MarkNext is_prepared) alike (λ u k o v next. next) never never (λ u. refl) marks (kept d h)
      (λ did l. Whole (MarkNext is_prepared) (MarkEnds (told_of_all (attempts_of marks) m) from inc marks) marks (kept d h) l (left, did)) (λ did l. Whole (MarkNext is_prepared) (MarkEnds (remembered (told_of_all (attempts_of marks) m) s) from inc marks) marks (kept d h) l (remembered left s, did))
      (λ did l w. whole-as (MarkNext is_prepared) (MarkNext is_prepared) alike (λ u k o v next. next) (MarkEnds (told_of_all (attempts_of marks) m) from inc marks) (MarkEnds (remembered (told_of_all (attempts_of marks) m) s) from inc marks) beside (mark-ends (told_of_all (attempts_of marks) m) from inc marks) marks (kept d h) l (left, did) w) new k finds r turn)

  query-ends : (t : TargetPlan) (m : TargetMemory) (from : ActorId) (a : AttemptId) (ask : Option AttemptId) (u : verdict.QueryStage) (k : Kept) (left : TargetMemory × Did) → verdict.QueryEnds t m from a ask u k left → verdict.QueryEnds t (remembered m s) from a ask u k (beside left)
  query-ends t m from a ask u k left (verdict.IsTold k2 left2 says) = verdict.IsTold k2 (beside left2) (ap beside says)

  pub query-beside : (t : TargetPlan) (m : TargetMemory) (from : ActorId) (a : AttemptId) (ask : Option AttemptId) (d : Durable) (h : State) (new : Option Durable) (k : State) (finds : Durable → Type 0) (left : TargetMemory) (r : Result Did TargetStop)
      → Turn verdict.QueryNext never verdict.IsAsked (kept d h) (λ did l. Whole verdict.QueryNext (verdict.QueryEnds t m from a ask) verdict.IsAsked (kept d h) l (left, did)) new k finds r
      → Turn verdict.QueryNext never verdict.IsAsked (kept d h) (λ did l. Whole verdict.QueryNext (verdict.QueryEnds t (remembered m s) from a ask) verdict.IsAsked (kept d h) l (remembered left s, did)) new k finds r
  query-beside t m from a ask d h new k finds left r turn =
      turn-as verdict.QueryNext verdict.QueryNext alike (λ u k o v next. next) never never (λ u. refl) verdict.IsAsked (kept d h)
      (λ did l. Whole verdict.QueryNext (verdict.QueryEnds t m from a ask) verdict.IsAsked (kept d h) l (left, did)) (λ did l. Whole verdict.QueryNext (verdict.QueryEnds t (remembered m s) from a ask) verdict.IsAsked (kept d h) l (remembered left s, did))
      (λ did l w. whole-as verdict.QueryNext verdict.QueryNext alike (λ u k o v next. next) (verdict.QueryEnds t m from a ask) (verdict.QueryEnds t (remembered m s) from a ask) beside (query-ends t m from a ask) verdict.IsAsked (kept d h) l (left, did) w) new k finds r turn

  -- ---- a Verdict

  -- a stage of it, with what is being made besides
  abbrev stage-beside : verdict.VerdictStage → verdict.VerdictStage
  stage-beside verdict.Heard = verdict.Heard
  stage-beside (verdict.Freed asks n posts) = verdict.Freed asks (remembered n s) posts
  stage-beside (verdict.Trying q u asks n posts) = verdict.Trying q u asks (remembered n s) posts

  told-beside : (v : Verdict) (a : AttemptId) (m : TargetMemory) → remembered (told_by v a m) s ≡ told_by v a (remembered m s)
  told-beside fate.Committed a m = refl
  told-beside fate.Aborted a m = refl
  told-beside fate.Undecided a m = refl

  module _ (t : TargetPlan) (m : TargetMemory) (reading : ℕ) (a : AttemptId) (ask : Option AttemptId) (v : Verdict) where
    verdict-next : (u : verdict.VerdictStage) (k : Kept) (o : Option Change) (w : verdict.VerdictStage) → verdict.VerdictNext is_prepared t m reading a ask v u k o w → verdict.VerdictNext is_prepared t (remembered m s) reading a ask v (stage-beside u) k o (stage-beside w)
    verdict-next u k o w (verdict.SettlesBy k2 o2 is) = verdict.SettlesBy k2 o2 is
    verdict-next u k o w (verdict.TriesNext k2 n posts rest x op group ep first tracker r snapshot) = verdict.TriesNext k2 (remembered n s) posts rest x op group ep first tracker r snapshot
    verdict-next u k o w (verdict.GoesOn k2 n posts rest q f g o2 next) = verdict.GoesOn k2 (remembered n s) posts rest q f g o2 (fetch-next t n reading q (verdict.fetcher q) f k2 o2 g next)
    verdict-next u k o w (verdict.IsDone k2 n posts rest q f left ends) = verdict.IsDone k2 (remembered n s) posts rest q f (beside left) (fetch-ends t n reading q (verdict.fetcher q) f k2 left ends)

    verdict-ends : (u : verdict.VerdictStage) (k : Kept) (left : TargetMemory × Did) → verdict.VerdictEnds u k left → verdict.VerdictEnds (stage-beside u) k (beside left)
    verdict-ends u k left (verdict.AllTried k2 n posts left2 says) = verdict.AllTried k2 (remembered n s) posts (beside left2) (ap beside says)

    verdict-so : (d : Durable) (h : State) (new : Option Durable) (k : State) (finds : Durable → Type 0) (left : TargetMemory) (r : Result Did TargetStop) → VerdictTurn t m reading a ask v verdict.Heard d h new k finds left r → VerdictTurn t (remembered m s) reading a ask v verdict.Heard d h new k finds (remembered left s) r
    verdict-so d h new k finds left r turn =
        turn-as (verdict.VerdictNext is_prepared t m reading a ask v) (verdict.VerdictNext is_prepared t (remembered m s) reading a ask v) stage-beside verdict-next never never (λ u. refl) verdict.Heard (kept d h)
        (λ did l. Whole (verdict.VerdictNext is_prepared t m reading a ask v) verdict.VerdictEnds verdict.Heard (kept d h) l (left, did)) (λ did l. Whole (verdict.VerdictNext is_prepared t (remembered m s) reading a ask v) verdict.VerdictEnds verdict.Heard (kept d h) l (remembered left s, did))
        (λ did l w. whole-as (verdict.VerdictNext is_prepared t m reading a ask v) (verdict.VerdictNext is_prepared t (remembered m s) reading a ask v) stage-beside verdict-next verdict.VerdictEnds verdict.VerdictEnds beside verdict-ends verdict.Heard (kept d h) l (left, did) w) new k finds r turn

  pub verdict-beside : (t : TargetPlan) (m : TargetMemory) (reading : ℕ) (a : AttemptId) (ask : Option AttemptId) (v : Verdict) (d : Durable) (h : State) (new : Option Durable) (k : State) (finds : Durable → Type 0) (left : TargetMemory) (r : Result Did TargetStop)
      → VerdictTurn t (told_by v a m) reading a ask v verdict.Heard d h new k finds left r → VerdictTurn t (told_by v a (remembered m s)) reading a ask v verdict.Heard d h new k finds (remembered left s) r
  verdict-beside t m reading a ask v d h new k finds left r turn =
      subst (λ n. VerdictTurn t n reading a ask v verdict.Heard d h new k finds (remembered left s) r) (told-beside v a m) (verdict-so t (told_by v a m) reading a ask v d h new k finds left r turn)

  -- ---- a turn that changes nothing, and ends by what is kept

  looked-ends : (by after : Kept → TargetMemory × Did) → ((k : Kept) → beside (by k) ≡ after k) → (u : status.AtOnce) (k : Kept) (left : TargetMemory × Did) → EndsAs by u k left → EndsAs after u k (beside left)
  looked-ends by after same u k left (IsDone k2 left2 says) = IsDone k2 (beside left2) (ap beside says ∙ same k2)

  pub looked-beside : (by after : Kept → TargetMemory × Did) → ((k : Kept) → beside (by k) ≡ after k) → (d : Durable) (h : State) (new : Option Durable) (k : State) (finds : Durable → Type 0) (left : TargetMemory) (r : Result Did TargetStop)
      → Turn NoChange never Looking (kept d h) (λ did l. Whole NoChange (EndsAs by) Looking (kept d h) l (left, did)) new k finds r → Turn NoChange never Looking (kept d h) (λ did l. Whole NoChange (EndsAs after) Looking (kept d h) l (remembered left s, did)) new k finds r
  looked-beside by after same d h new k finds left r turn =
      turn-as NoChange NoChange alike (λ u k o v next. next) never never (λ u. refl) Looking (kept d h) (λ did l. Whole NoChange (EndsAs by) Looking (kept d h) l (left, did)) (λ did l. Whole NoChange (EndsAs after) Looking (kept d h) l (remembered left s, did))
      (λ did l w. whole-as NoChange NoChange alike (λ u k o v next. next) (EndsAs by) (EndsAs after) beside (looked-ends by after same) Looking (kept d h) l (left, did) w) new k finds r turn

  -- ---- idle work

  idle-ends : (settling : Bool) (t : TargetPlan) (m : TargetMemory) (u : List AttemptId) (k : Kept) (left : TargetMemory × Did) → IdleEnds settling t m u k left → IdleEnds settling t (remembered m s) u k (beside left)
  idle-ends true t m u k left (AllSettled k2 left2 says) = AllSettled k2 (beside left2) (ap beside says)
  idle-ends false t m u k left (AllSettled k2 left2 says) = AllSettled k2 (beside left2) (ap beside says)

  pub idle-beside : (settling : Bool) (t : TargetPlan) (m : TargetMemory) (d : Durable) (h : State) (new : Option Durable) (k : State) (finds : Durable → Type 0) (left : TargetMemory) (r : Result Did TargetStop)
      → Turn IdleNext never m.leader.decided (kept d h) (λ did l. Whole IdleNext (IdleEnds settling t m) m.leader.decided (kept d h) l (left, did)) new k finds r
      → Turn IdleNext never m.leader.decided (kept d h) (λ did l. Whole IdleNext (IdleEnds settling t (remembered m s)) m.leader.decided (kept d h) l (remembered left s, did)) new k finds r
  idle-beside settling t m d h new k finds left r turn =
      turn-as IdleNext IdleNext alike (λ u k o v next. next) never never (λ u. refl) m.leader.decided (kept d h)
      (λ did l. Whole IdleNext (IdleEnds settling t m) m.leader.decided (kept d h) l (left, did)) (λ did l. Whole IdleNext (IdleEnds settling t (remembered m s)) m.leader.decided (kept d h) l (remembered left s, did))
      (λ did l w. whole-as IdleNext IdleNext alike (λ u k o v next. next) (IdleEnds settling t m) (IdleEnds settling t (remembered m s)) beside (idle-ends settling t m) m.leader.decided (kept d h) l (left, did) w) new k finds r turn

-- whether there is idle work doesn't depend on it
pub has-idle_beside : (settling : Bool) (t : TargetPlan) (m : TargetMemory) (s : SnapOf) (d : Durable) → has_idle settling t m d ≡ has_idle settling t (remembered m s) d
unfolding has_idle
has-idle_beside settling t m s d = refl
