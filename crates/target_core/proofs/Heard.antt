-- What the parts of a target say of a turn, as a message that the target hears: where its store stopped, the turn was cut as the world
-- knows it.
use Rattle.std.proofs.Common.{ℕ, ◌≡◌, ◌<◌, ◌∙◌, ap, refl, sym, subst, Bool, true, false, List, Option, Some, None, Result, Ok, Err}
use Rattle.base_types.specs.declared.entry.Entry.{Entry}
use Rattle.base_types.specs.declared.entry.EntryState.{EntryState}
use Rattle.base_types.specs.declared.entry.Verdict.{Verdict as VerdictOf}
use Rattle.base_types.specs.declared.epoch.Epoch.{Epoch}
use Rattle.base_types.specs.declared.id.AttemptId.{AttemptId}
use Rattle.base_types.specs.declared.key.Key.{Key}
use Rattle.base_types.specs.declared.operation.MinorWrite.{MinorWrite}
use Rattle.base_types.specs.declared.operation.Read.{Read}
use Rattle.base_types.specs.declared.outcome.Outcome.{Outcome}
use Rattle.base_types.specs.declared.outcome.FloorWhy.{FloorWhy}
use Rattle.base_messages.specs.declared.actor.ActorId.{ActorId}
use Rattle.base_messages.specs.declared.message.Message.{Message, Reset}
use Rattle.base_messages.specs.declared.message.Message as own
use Rattle.base_messages.specs.declared.message.Message.TheBlock as block
use Rattle.base_messages.specs.declared.message.Message.TheVariants as message
use Rattle.base_messages.specs.declared.message.Message.TheVariants.{Ack, Ask, Commit, Fetch, Freeze, Held, Mark, Marked, Prepare, Prune, Query, Snap, Status, StatusIs, Verdict}
use Rattle.daos_model.specs.declared.durable.Durable.{Durable}
use Rattle.vos_store.specs.Calls.{State}
use Rattle.world_base.specs.declared.did.Did.{Did}
use Rattle.world_base.specs.declared.request.CommitRequest.{CommitRequest}
use Rattle.world_base.specs.declared.target.TargetMemory.{TargetMemory}
use Rattle.world_base.specs.declared.target.TargetPlan.{TargetPlan}
use Rattle.dtx_base.specs.Leading.{attempts_of}
use Rattle.world_base.specs.Acks as ack
use Rattle.world_base.specs.Changes.{Change, Kept}
use Rattle.world_base.specs.Commits as commit
use Rattle.world_base.specs.Commits.{CommitNext}
use Rattle.world_base.specs.CutTurns.{Before, HearingIsCut, NoneIsDown, OneIsDown, UnstoredNext, issued_by_commit, issued_by_fetch, issued_by_freeze, issued_by_prune, none_issued}
use Rattle.world_base.specs.Further.{CommitDown, HearsFurther, KnowsNoneDown, reset_by}
use Rattle.world_base.specs.Idle.{IdleEnds, IdleNext}
use Rattle.world_base.specs.Marks.{MarkEnds, MarkNext}
use Rattle.world_base.specs.PathLaws.{AllPlain}
use Rattle.world_base.specs.Prepares as prepare
use Rattle.world_base.specs.Reads as read
use Rattle.world_base.specs.Roles.{is_prepared, told_by, told_of_all}
use Rattle.world_base.specs.Snapshots as snap
use Rattle.world_base.specs.Statuses.{EndsAs, Looking, Looks, NoChange, ask_left, down_of, reset_left, status_left, status_refusal}
use Rattle.world_base.specs.TargetTurns.{Hears, commit_request, fetch_request, prepare_request}
use Rattle.world_base.specs.TurnLaws.{ack-plain, commit-plain, fetch-plain, idle-plain, mark-plain, marked-plain, prepare-plain, query-plain, verdict-plain}
use Rattle.world_base.specs.Turns.{Here, More, Path, Reached, Whole}
use Rattle.world_base.specs.Verdicts as verdict
use Rattle.target_parts.specs.declared.stop.TargetStop.{TargetStop}
use Rattle.target_parts.specs.declared.stop.TargetStop.TheVariants as stop
use Rattle.target_parts.specs.Parts.{Now, Partway, Stays, kept, left_by}
use Rattle.target_parts.specs.Turning.{now_partway}
use Rattle.target_parts.specs.Stops.{Turn, commit_issued, fetch_issued, never}
use Rattle.target_reads.specs.Again.{VerdictTurn}
use Rattle.target_reads.specs.Fetches.{FetchTurn}
use Rattle.target_snaps.specs.declared.request.ContRequest.{ContRequest}
use Rattle.target_snaps.specs.AggregateTurns.{AggregateTurn}
use Rattle.target_snaps.specs.FreezeTurns.{FreezeTurn}
use Rattle.target_snaps.specs.HeldTurns.{HeldTurn}
use Rattle.target_snaps.specs.LossTurns.{LossTurn}
use Rattle.target_snaps.specs.PruneTurns.{PruneTurn}
use Rattle.target_snaps.specs.SnapTurns.{SnapTurn}
use Rattle.target_writes.specs.Turns.{CommitTurn, DownTurn, PrepareTurn}
use Rattle.target_parts.specs.world_contents.posts.Forms.{IsCollecting}
use Rattle.target_reads.specs.world_ended.Asking.{Asked, AsksSo, GoesWith}
use Rattle.target_core.specs.Targets.{Further, HasFormAfterStops, HasFormOfMaking, Heard, HearsNoFurther, HearsOrStops, HearsPartway, IdlesOrStops, IsKeptByCut, Plainly, is_collecting, is_making}
use Rattle.target_core.proofs.Cutting.{commit-issues, cut-turn, fetch-issues, stops-there}

-- ---- turns that change nothing, and Commits of which nothing is stored

looking-plain : AllPlain NoChange
looking-plain s k o next (Looks j) = tt

reset-as : (t : TargetPlan) (m : TargetMemory) (by : ℕ) (down : Bool) (asked : Message) → is_collecting asked ≡ false → reset_by t m by down asked ≡ reset_left t m by down asked
reset-as t m by down (Freeze x c s) other = let no : ⊥ = cc in absurd no
reset-as t m by down (Prune x c tracker e) other = let no : ⊥ = cc in absurd no
reset-as t m by down asked other = refl

-- what the form of a Reset says
reset-form_rolled : (by : ℕ) (down : Bool) (asked : Message) → HasFormAfterStops (own.roll-Message (own.Message-F.Reset by down asked)) → (by < 64) × (is_collecting asked ≡ false)
unfolding own.roll-Message denote.Hole.Carrier.roll denote.Hole.Carrier.hidden block.hidden-the_row-Message-0
reset-form_rolled by down asked k = k

pub reset-form : (by : ℕ) (down : Bool) (asked : Message) → HasFormAfterStops (Reset by down asked) → (by < 64) × (is_collecting asked ≡ false)
reset-form by down asked k = reset-form_rolled by down asked (subst HasFormAfterStops (sym (message.rolls-Reset by down asked)) k)

making-form_rolled : (by : ℕ) (down : Bool) (asked : Message) → HasFormOfMaking (own.roll-Message (own.Message-F.Reset by down asked)) → (by < 64) × IsCollecting asked
unfolding own.roll-Message denote.Hole.Carrier.roll denote.Hole.Carrier.hidden block.hidden-the_row-Message-0
making-form_rolled by down asked k = k

pub making-form : (by : ℕ) (down : Bool) (asked : Message) → HasFormOfMaking (Reset by down asked) → (by < 64) × IsCollecting asked
making-form by down asked k = making-form_rolled by down asked (subst HasFormOfMaking (sym (message.rolls-Reset by down asked)) k)

pub collects-so : (m : Message) → IsCollecting m → is_collecting m ≡ true
collects-so (Freeze x c s) k = refl
collects-so (Prune x c None (Some g)) k = refl
collects-so m k = absurd k

-- which Reset makes something
reset-making_rolled : (by : ℕ) (down : Bool) (asked : Message) → is_making (own.roll-Message (own.Message-F.Reset by down asked)) ≡ is_collecting asked
unfolding own.roll-Message denote.Hole.Carrier.roll denote.Hole.Carrier.hidden block.hidden-the_row-Message-0
reset-making_rolled by down asked = refl

pub reset-making : (by : ℕ) (down : Bool) (asked : Message) → is_making (Reset by down asked) ≡ is_collecting asked
reset-making by down asked = subst (λ q. is_making q ≡ is_collecting asked) (message.rolls-Reset by down asked) (reset-making_rolled by down asked)

pub reset-makes : (m : Message) (by : ℕ) (down : Bool) (asked : Message) → m ≡ Reset by down asked → is_collecting asked ≡ is_making m
reset-makes m by down asked is = sym (reset-making by down asked) ∙ ap is_making (sym is)

reset-goes_rolled : (given : Asked) (by : ℕ) (down : Bool) (asked : Message) → GoesWith given (own.roll-Message (own.Message-F.Reset by down asked)) → AsksSo given asked
unfolding own.roll-Message denote.Hole.Carrier.roll denote.Hole.Carrier.hidden block.hidden-the_row-Message-0
reset-goes_rolled given by down asked k = k

pub reset-goes_with : (given : Asked) (by : ℕ) (down : Bool) (asked : Message) → GoesWith given (Reset by down asked) → AsksSo given asked
reset-goes_with given by down asked k = reset-goes_rolled given by down asked (subst (GoesWith given) (sym (message.rolls-Reset by down asked)) k)

module _ (t : TargetPlan) (opening : Epoch × FloorWhy) (m : TargetMemory) (reading : ℕ) (q : CommitRequest) where
  unstored-next : (s : commit.CommitStage) (k : Kept) (o : Option Change) (next : commit.CommitStage) → UnstoredNext t opening m reading q s k o next → CommitNext t opening m reading q s k o next
  unstored-next s k o next (Before r u l p step before) = step

  unstored-plain : AllPlain (UnstoredNext t opening m reading q)
  unstored-plain s k o next step = commit-plain t opening m reading q s k o next (unstored-next s k o next step)

  unstored-path : (s : commit.CommitStage) (old : Kept) (did : List Change) (last : commit.CommitStage) (mid : Kept) → Path (UnstoredNext t opening m reading q) s old did last mid → Path (CommitNext t opening m reading q) s old did last mid
  unstored-path s old did last mid (Here) = Here
  unstored-path s old did last mid (More before r l o u n path next step) = More before r l o u n (unstored-path s old before r l path) (unstored-next r l o u next) step

  unstored-reached : (s : commit.CommitStage) (old : Kept) (last : commit.CommitStage) (mid : Kept) → Reached (UnstoredNext t opening m reading q) s old last mid → Reached (CommitNext t opening m reading q) s old last mid
  unstored-reached s old last mid r = record { did = r.did; path = unstored-path s old r.did last mid r.path }

  unstored-whole : {R : Type 0} (Ends : commit.CommitStage → Kept → R → Type 0) (old new : Kept) (r : R) → Whole (UnstoredNext t opening m reading q) Ends commit.Asked old new r → Whole (CommitNext t opening m reading q) Ends commit.Asked old new r
  unstored-whole Ends old new r w = record { last = w.last; reached = unstored-reached commit.Asked old w.last new w.reached; ends = w.ends }

module _ (number : ℕ) (t : TargetPlan) (m : TargetMemory) (reading : ℕ) (from : ActorId) (d : Durable) (h : State) (new : Option Durable) (k : State) (finds : Durable → Type 0) (left : TargetMemory) where
  -- it was heard as where nothing stops
  plain-now : (q : Message) → KnowsNoneDown t m q → (did : Did) → Now new k (λ l. Hears t h.opening m reading from q (kept d h) l (left, did)) → Now new k (λ l. Heard number t h.opening m reading from q (kept d h) l (left, did))
  plain-now q up did now = record { durable = now.durable; kept_is = now.kept_is; holds = Plainly up now.holds }

  -- or as what comes of stops, or as what makes something with others
  further-now : (q : Message) (did : Did) (P : Kept → Type 0) → ((l : Kept) → P l → HearsFurther number t h.opening m reading from q (kept d h) l (left, did)) → Now new k P → Now new k (λ l. Heard number t h.opening m reading from q (kept d h) l (left, did))
  further-now q did P gives now = record { durable = now.durable; kept_is = now.kept_is; holds = Further (gives _ now.holds) }

  -- memory was wanting on the way, where it might have been cut
  wanting : (q : Message) → ((l : Kept) → HearsPartway number t h.opening m reading from q (kept d h) l → IsKeptByCut (HearingIsCut is_prepared number t h.opening m reading from q (kept d h)) l)
      → Now new k (HearsPartway number t h.opening m reading from q (kept d h)) → Now new k (HearsNoFurther number t h.opening m reading from q (kept d h))
  wanting q stops now = record { durable = now.durable; kept_is = now.kept_is; holds = record { partly = now.holds; stops = stops _ now.holds } }

  commit-wanting : (a : AttemptId) (ep first : Option Epoch) (tracker : Epoch) (ws : List MinorWrite) → ((e : Epoch) → down_of t m (commit_request a ep first tracker ws) e ≡ None)
      → Now new k (Partway (commit.CommitNext t h.opening m reading (commit_request a ep first tracker ws)) commit.Asked (kept d h)) → Now new k (HearsNoFurther number t h.opening m reading from (Commit a ep first tracker ws) (kept d h))
  commit-wanting a ep first tracker ws up now =
      wanting (Commit a ep first tracker ws) (λ l p. let z = stops-there (commit.CommitNext t h.opening m reading (commit_request a ep first tracker ws)) (issued_by_commit (commit_request a ep first tracker ws)) t.me commit.Asked (kept d h) l p in record { cut = z.cut; left = z.left; was = NoneIsDown up z.was }) now

  unstored-wanting : (a : AttemptId) (ep first : Option Epoch) (tracker : Epoch) (ws : List MinorWrite) (e : Epoch) (down : ℕ) → down_of t m (commit_request a ep first tracker ws) e ≡ Some down
      → Now new k (Partway (UnstoredNext t h.opening m reading (commit_request a ep first tracker ws)) commit.Asked (kept d h)) → Now new k (HearsNoFurther number t h.opening m reading from (Commit a ep first tracker ws) (kept d h))
  unstored-wanting a ep first tracker ws e down is now = record {
    durable = now.durable;
    kept_is = now.kept_is;
    holds =
        let z = stops-there (UnstoredNext t h.opening m reading (commit_request a ep first tracker ws)) (issued_by_commit (commit_request a ep first tracker ws)) t.me commit.Asked (kept d h) _ now.holds in
        record {
          partly = record { last = now.holds.last; reached = unstored-reached t h.opening m reading (commit_request a ep first tracker ws) commit.Asked (kept d h) now.holds.last _ now.holds.reached };
          stops = record { cut = z.cut; left = z.left; was = OneIsDown e down is z.was };
        };
  }

  pub hears-fetch : (a : AttemptId) (op group : ℕ) (ep first : Option Epoch) (tracker : Epoch) (q : Read) (snapshot : Bool) (r : Result Did TargetStop) → FetchTurn t m reading (fetch_request a op group ep first tracker q snapshot) from read.Asked d h new k finds left r → HearsOrStops number t m reading from (Fetch a op group ep first tracker q snapshot) d h new k finds left r
  hears-fetch a op group ep first tracker q snapshot (Ok did) turn = plain-now (Fetch a op group ep first tracker q snapshot) tt did turn
  hears-fetch a op group ep first tracker q snapshot (Err (stop.Store issued lines)) turn = λ x found. cut-turn (read.FetchNext t m reading (fetch_request a op group ep first tracker q snapshot)) (fetch-plain t m reading (fetch_request a op group ep first tracker q snapshot)) t.me (fetch_issued (fetch_request a op group ep first tracker q snapshot)) (issued_by_fetch (fetch_request a op group ep first tracker q snapshot)) (fetch-issues (fetch_request a op group ep first tracker q snapshot)) read.Asked (kept d h) (left_by k finds) issued lines turn x found
  hears-fetch a op group ep first tracker q snapshot (Err (stop.Foreign at byte)) turn = turn
  hears-fetch a op group ep first tracker q snapshot (Err stop.Memory) turn = wanting (Fetch a op group ep first tracker q snapshot) (λ l p. stops-there (read.FetchNext t m reading (fetch_request a op group ep first tracker q snapshot)) (issued_by_fetch (fetch_request a op group ep first tracker q snapshot)) t.me read.Asked (kept d h) l p) turn

  pub hears-commit : (a : AttemptId) (ep first : Option Epoch) (tracker : Epoch) (ws : List MinorWrite) → ((e : Epoch) → down_of t m (commit_request a ep first tracker ws) e ≡ None) → (r : Result Did TargetStop) → CommitTurn t h.opening m reading (commit_request a ep first tracker ws) from commit.Asked d h new k finds left r → HearsOrStops number t m reading from (Commit a ep first tracker ws) d h new k finds left r
  hears-commit a ep first tracker ws up (Ok did) turn = plain-now (Commit a ep first tracker ws) up did turn
  hears-commit a ep first tracker ws up (Err (stop.Store issued lines)) turn = λ x found. NoneIsDown up (cut-turn (commit.CommitNext t h.opening m reading (commit_request a ep first tracker ws)) (commit-plain t h.opening m reading (commit_request a ep first tracker ws)) t.me (commit_issued (commit_request a ep first tracker ws)) (issued_by_commit (commit_request a ep first tracker ws)) (commit-issues (commit_request a ep first tracker ws)) commit.Asked (kept d h) (left_by k finds) issued lines turn x found)
  hears-commit a ep first tracker ws up (Err (stop.Foreign at byte)) turn = turn
  hears-commit a ep first tracker ws up (Err stop.Memory) turn = commit-wanting a ep first tracker ws up turn

  pub hears-prepare : (e : Entry) (first : Option Epoch) (ws : List MinorWrite) (inc : ℕ) (r : Result Did TargetStop) → PrepareTurn t h.opening m (prepare_request e first ws inc) prepare.Heard d h new k finds left r → HearsOrStops number t m reading from (Prepare e first ws inc) d h new k finds left r
  hears-prepare e first ws inc (Ok did) turn = plain-now (Prepare e first ws inc) tt did turn
  hears-prepare e first ws inc (Err (stop.Store issued lines)) turn = λ x found. cut-turn (prepare.PrepareNext t h.opening m (prepare_request e first ws inc)) (prepare-plain t h.opening m (prepare_request e first ws inc)) t.me never none_issued (λ s. refl) prepare.Heard (kept d h) (left_by k finds) issued lines turn x found
  hears-prepare e first ws inc (Err (stop.Foreign at byte)) turn = turn
  hears-prepare e first ws inc (Err stop.Memory) turn = wanting (Prepare e first ws inc) (λ l p. stops-there (prepare.PrepareNext t h.opening m (prepare_request e first ws inc)) none_issued t.me prepare.Heard (kept d h) l p) turn

  pub hears-ack : (a : AttemptId) (inc : ℕ) (refusal : Option Outcome) (r : Result Did TargetStop) → Turn (ack.AckNext t m from.number a inc refusal) never ack.Heard (kept d h) (λ did l. Whole (ack.AckNext t m from.number a inc refusal) (ack.AckEnds m) ack.Heard (kept d h) l (left, did)) new k finds r → HearsOrStops number t m reading from (Ack a inc refusal) d h new k finds left r
  hears-ack a inc refusal (Ok did) turn = plain-now (Ack a inc refusal) tt did turn
  hears-ack a inc refusal (Err (stop.Store issued lines)) turn = λ x found. cut-turn (ack.AckNext t m from.number a inc refusal) (ack-plain t m from.number a inc refusal) t.me never none_issued (λ s. refl) ack.Heard (kept d h) (left_by k finds) issued lines turn x found
  hears-ack a inc refusal (Err (stop.Foreign at byte)) turn = turn
  hears-ack a inc refusal (Err stop.Memory) turn = wanting (Ack a inc refusal) (λ l p. stops-there (ack.AckNext t m from.number a inc refusal) none_issued t.me ack.Heard (kept d h) l p) turn

  pub hears-mark : (inc : ℕ) (marks : List (AttemptId × Bool)) (r : Result Did TargetStop) → Turn (MarkNext is_prepared) never marks (kept d h) (λ did l. Whole (MarkNext is_prepared) (MarkEnds (told_of_all (attempts_of marks) m) from inc marks) marks (kept d h) l (left, did)) new k finds r → HearsOrStops number t m reading from (Mark inc marks) d h new k finds left r
  hears-mark inc marks (Ok did) turn = plain-now (Mark inc marks) tt did turn
  hears-mark inc marks (Err (stop.Store issued lines)) turn = λ x found. cut-turn (MarkNext is_prepared) (mark-plain is_prepared) t.me never none_issued (λ s. refl) marks (kept d h) (left_by k finds) issued lines turn x found
  hears-mark inc marks (Err (stop.Foreign at byte)) turn = turn
  hears-mark inc marks (Err stop.Memory) turn = wanting (Mark inc marks) (λ l p. stops-there (MarkNext is_prepared) none_issued t.me marks (kept d h) l p) turn

  pub hears-marked : (inc : ℕ) (ids : List AttemptId) (r : Result Did TargetStop) → Turn (ack.MarkedNext t m from.number) never (ack.to_confirm inc ids d) (kept d h) (λ did l. Whole (ack.MarkedNext t m from.number) (ack.MarkedEnds t m from.number inc ids) (ack.to_confirm inc ids d) (kept d h) l (left, did)) new k finds r → HearsOrStops number t m reading from (Marked inc ids) d h new k finds left r
  hears-marked inc ids (Ok did) turn = plain-now (Marked inc ids) tt did turn
  hears-marked inc ids (Err (stop.Store issued lines)) turn = λ x found. cut-turn (ack.MarkedNext t m from.number) (marked-plain t m from.number) t.me never none_issued (λ s. refl) (ack.to_confirm inc ids d) (kept d h) (left_by k finds) issued lines turn x found
  hears-marked inc ids (Err (stop.Foreign at byte)) turn = turn
  hears-marked inc ids (Err stop.Memory) turn = wanting (Marked inc ids) (λ l p. stops-there (ack.MarkedNext t m from.number) none_issued t.me (ack.to_confirm inc ids d) (kept d h) l p) turn

  pub hears-query : (a : AttemptId) (ask : Option AttemptId) (r : Result Did TargetStop) → Turn verdict.QueryNext never verdict.IsAsked (kept d h) (λ did l. Whole verdict.QueryNext (verdict.QueryEnds t m from a ask) verdict.IsAsked (kept d h) l (left, did)) new k finds r → HearsOrStops number t m reading from (Query a ask) d h new k finds left r
  hears-query a ask (Ok did) turn = plain-now (Query a ask) tt did turn
  hears-query a ask (Err (stop.Store issued lines)) turn = λ x found. cut-turn (verdict.QueryNext) (query-plain) t.me never none_issued (λ s. refl) verdict.IsAsked (kept d h) (left_by k finds) issued lines turn x found
  hears-query a ask (Err (stop.Foreign at byte)) turn = turn
  hears-query a ask (Err stop.Memory) turn = wanting (Query a ask) (λ l p. stops-there (verdict.QueryNext) none_issued t.me verdict.IsAsked (kept d h) l p) turn

  pub hears-verdict : (a : AttemptId) (ask : Option AttemptId) (inc : ℕ) (v : VerdictOf) (r : Result Did TargetStop) → VerdictTurn t (told_by v a m) reading a ask v verdict.Heard d h new k finds left r → HearsOrStops number t m reading from (Verdict a ask inc v) d h new k finds left r
  hears-verdict a ask inc v (Ok did) turn = plain-now (Verdict a ask inc v) tt did turn
  hears-verdict a ask inc v (Err (stop.Store issued lines)) turn = λ x found. cut-turn (verdict.VerdictNext is_prepared t (told_by v a m) reading a ask v) (verdict-plain is_prepared t (told_by v a m) reading a ask v) t.me never none_issued (λ s. refl) verdict.Heard (kept d h) (left_by k finds) issued lines turn x found
  hears-verdict a ask inc v (Err (stop.Foreign at byte)) turn = turn
  hears-verdict a ask inc v (Err stop.Memory) turn = wanting (Verdict a ask inc v) (λ l p. stops-there (verdict.VerdictNext is_prepared t (told_by v a m) reading a ask v) none_issued t.me verdict.Heard (kept d h) l p) turn

  -- ---- what comes of stops

  pub hears-ask : (a : AttemptId) (r : Result Did TargetStop) → Turn NoChange never Looking (kept d h) (λ did l. Whole NoChange (EndsAs (ask_left t m from a)) Looking (kept d h) l (left, did)) new k finds r → HearsOrStops number t m reading from (Ask a) d h new k finds left r
  hears-ask a (Ok did) turn = further-now (Ask a) did _ (λ l w. w) turn
  hears-ask a (Err (stop.Store issued lines)) turn = λ x found. cut-turn NoChange looking-plain t.me never none_issued (λ s. refl) Looking (kept d h) (left_by k finds) issued lines turn x found
  hears-ask a (Err (stop.Foreign at byte)) turn = turn
  hears-ask a (Err stop.Memory) turn = wanting (Ask a) (λ l p. stops-there (NoChange) none_issued t.me Looking (kept d h) l p) turn

  pub hears-status : (a : AttemptId) (inc : ℕ) (r : Result Did TargetStop) → Turn NoChange never Looking (kept d h) (λ did l. Whole NoChange (EndsAs (status_left m from a inc)) Looking (kept d h) l (left, did)) new k finds r → HearsOrStops number t m reading from (Status a inc) d h new k finds left r
  hears-status a inc (Ok did) turn = further-now (Status a inc) did _ (λ l w. w) turn
  hears-status a inc (Err (stop.Store issued lines)) turn = λ x found. cut-turn NoChange looking-plain t.me never none_issued (λ s. refl) Looking (kept d h) (left_by k finds) issued lines turn x found
  hears-status a inc (Err (stop.Foreign at byte)) turn = turn
  hears-status a inc (Err stop.Memory) turn = wanting (Status a inc) (λ l p. stops-there (NoChange) none_issued t.me Looking (kept d h) l p) turn

  pub hears-status_is : (a : AttemptId) (inc : ℕ) (how : EntryState) (r : Result Did TargetStop)
      → Turn (ack.AckNext t m from.number a inc (status_refusal a how)) never ack.Heard (kept d h) (λ did l. Whole (ack.AckNext t m from.number a inc (status_refusal a how)) (ack.AckEnds m) ack.Heard (kept d h) l (left, did)) new k finds r
      → HearsOrStops number t m reading from (StatusIs a inc how) d h new k finds left r
  hears-status_is a inc how (Ok did) turn = further-now (StatusIs a inc how) did _ (λ l w. w) turn
  hears-status_is a inc how (Err (stop.Store issued lines)) turn =
      λ x found. cut-turn (ack.AckNext t m from.number a inc (status_refusal a how)) (ack-plain t m from.number a inc (status_refusal a how)) t.me never none_issued (λ s. refl) ack.Heard (kept d h) (left_by k finds) issued lines turn x found
  hears-status_is a inc how (Err (stop.Foreign at byte)) turn = turn
  hears-status_is a inc how (Err stop.Memory) turn = wanting (StatusIs a inc how) (λ l p. stops-there (ack.AckNext t m from.number a inc (status_refusal a how)) none_issued t.me ack.Heard (kept d h) l p) turn

  reset-rolled : (by : ℕ) (down : Bool) (asked : Message) → is_collecting asked ≡ false → (r : Result Did TargetStop) → Turn NoChange never Looking (kept d h) (λ did l. Whole NoChange (EndsAs (reset_left t m by down asked)) Looking (kept d h) l (left, did)) new k finds r
      → HearsOrStops number t m reading from (own.roll-Message (own.Message-F.Reset by down asked)) d h new k finds left r
  unfolding own.roll-Message denote.Hole.Carrier.roll denote.Hole.Carrier.hidden block.hidden-the_row-Message-0
  reset-rolled by down asked other (Ok did) turn = further-now (own.roll-Message (own.Message-F.Reset by down asked)) did _ (λ l w. subst (λ f. Whole NoChange (EndsAs f) Looking (kept d h) l (left, did)) (sym (reset-as t m by down asked other)) w) turn
  reset-rolled by down asked other (Err (stop.Store issued lines)) turn = λ x found. cut-turn NoChange looking-plain t.me never none_issued (λ s. refl) Looking (kept d h) (left_by k finds) issued lines turn x found
  reset-rolled by down asked other (Err (stop.Foreign at byte)) turn = turn
  reset-rolled by down asked other (Err stop.Memory) turn = wanting (own.roll-Message (own.Message-F.Reset by down asked)) (λ l p. stops-there (NoChange) none_issued t.me Looking (kept d h) l p) turn

  pub hears-reset : (by : ℕ) (down : Bool) (asked : Message) → is_collecting asked ≡ false → (r : Result Did TargetStop) → Turn NoChange never Looking (kept d h) (λ did l. Whole NoChange (EndsAs (reset_left t m by down asked)) Looking (kept d h) l (left, did)) new k finds r
      → HearsOrStops number t m reading from (Reset by down asked) d h new k finds left r
  hears-reset by down asked other r turn = subst (λ q. HearsOrStops number t m reading from q d h new k finds left r) (message.rolls-Reset by down asked) (reset-rolled by down asked other r turn)

  pub hears-commit_down : (a : AttemptId) (ep first : Option Epoch) (tracker : Epoch) (ws : List MinorWrite) (e : Epoch) (down : ℕ) → down_of t m (commit_request a ep first tracker ws) e ≡ Some down → (r : Result Did TargetStop)
      → DownTurn t h.opening m reading (commit_request a ep first tracker ws) from d h new k finds left r → HearsOrStops number t m reading from (Commit a ep first tracker ws) d h new k finds left r
  hears-commit_down a ep first tracker ws e down is (Ok did) turn = further-now (Commit a ep first tracker ws) did _ (λ l w. unstored-whole t h.opening m reading (commit_request a ep first tracker ws) (CommitDown t m reading (commit_request a ep first tracker ws) from) (kept d h) l (left, did) w) turn
  hears-commit_down a ep first tracker ws e down is (Err (stop.Store issued lines)) turn =
      λ x found.
      OneIsDown e down is
      (cut-turn (UnstoredNext t h.opening m reading (commit_request a ep first tracker ws)) (unstored-plain t h.opening m reading (commit_request a ep first tracker ws)) t.me (commit_issued (commit_request a ep first tracker ws))
      (issued_by_commit (commit_request a ep first tracker ws)) (commit-issues (commit_request a ep first tracker ws)) commit.Asked (kept d h) (left_by k finds) issued lines turn x found)
  hears-commit_down a ep first tracker ws e down is (Err (stop.Foreign at byte)) turn = turn
  hears-commit_down a ep first tracker ws e down is (Err stop.Memory) turn = unstored-wanting a ep first tracker ws e down is turn

  -- ---- what makes something with others

  pub hears-snap : (q : ContRequest) (name : Key) (tracker : Epoch) (r : Result Did TargetStop) → q.from ≡ from → SnapTurn t m reading q tracker name (kept d h) new k finds left r → HearsOrStops number t m reading from (Snap q.attempt q.cont name tracker) d h new k finds left r
  hears-snap q name tracker (Ok did) its turn = further-now (Snap q.attempt q.cont name tracker) did _ (λ l w. subst (λ a. HearsFurther number t h.opening m reading a (Snap q.attempt q.cont name tracker) (kept d h) l (left, did)) its w) turn
  hears-snap q name tracker (Err (stop.Store issued lines)) its turn = turn
  hears-snap q name tracker (Err (stop.Foreign at byte)) its turn = turn
  hears-snap q name tracker (Err stop.Memory) its turn =
      wanting (Snap q.attempt q.cont name tracker) (λ l p. stops-there (snap.FreezeNext t m reading tracker None q.cont (snap.is_held_by_all t 0)) (issued_by_freeze q.attempt None) t.me snap.Asked (kept d h) l p) turn

  pub hears-freeze : (q : ContRequest) (e : Epoch) (r : Result Did TargetStop) → q.from ≡ from → FreezeTurn t m reading q e d h new k finds left r → HearsOrStops number t m reading from (Freeze q.attempt q.cont e) d h new k finds left r
  hears-freeze q e (Ok did) its turn = further-now (Freeze q.attempt q.cont e) did _ (λ l w. subst (λ a. HearsFurther number t h.opening m reading a (Freeze q.attempt q.cont e) (kept d h) l (left, did)) its w) turn
  hears-freeze q e (Err (stop.Store issued lines)) its turn = turn
  hears-freeze q e (Err (stop.Foreign at byte)) its turn = turn
  hears-freeze q e (Err stop.Memory) its turn = wanting (Freeze q.attempt q.cont e) (λ l p. stops-there (snap.FreezeNext t m reading e (Some e) q.cont false) (issued_by_freeze q.attempt (Some e)) t.me snap.Asked (kept d h) l p) turn

  pub hears-held : (a : AttemptId) (refusal : Option Outcome) (r : Result Did TargetStop) → HeldTurn t m from.number a refusal d h new k finds left r → HearsOrStops number t m reading from (Held a refusal) d h new k finds left r
  hears-held a refusal (Ok did) turn = further-now (Held a refusal) did _ (λ l w. w) turn
  hears-held a refusal (Err (stop.Store issued lines)) turn = turn
  hears-held a refusal (Err (stop.Foreign at byte)) turn = turn
  hears-held a refusal (Err stop.Memory) turn = wanting (Held a refusal) (λ l p. stops-there (snap.HeldNext t m from.number a refusal) none_issued t.me snap.Heard (kept d h) l p) turn

  pub hears-aggregate : (q : ContRequest) (tracker : Epoch) (r : Result Did TargetStop) → q.from ≡ from → AggregateTurn t m reading q tracker number (kept d h) new k finds left r → HearsOrStops number t m reading from (Prune q.attempt q.cont (Some tracker) None) d h new k finds left r
  hears-aggregate q tracker (Ok did) its turn = further-now (Prune q.attempt q.cont (Some tracker) None) did _ (λ l w. subst (λ a. HearsFurther number t h.opening m reading a (Prune q.attempt q.cont (Some tracker) None) (kept d h) l (left, did)) its w) turn
  hears-aggregate q tracker (Err (stop.Store issued lines)) its turn = turn
  hears-aggregate q tracker (Err (stop.Foreign at byte)) its turn = turn
  hears-aggregate q tracker (Err stop.Memory) its turn =
      wanting (Prune q.attempt q.cont (Some tracker) None) (λ l p. stops-there (snap.PruneNext t m reading tracker None q.cont number) (issued_by_prune q.attempt None) t.me snap.Asked (kept d h) l p) turn

  pub hears-prune : (q : ContRequest) (e : Epoch) (r : Result Did TargetStop) → q.from ≡ from → PruneTurn t m reading q e number d h new k finds left r → HearsOrStops number t m reading from (Prune q.attempt q.cont None (Some e)) d h new k finds left r
  hears-prune q e (Ok did) its turn = further-now (Prune q.attempt q.cont None (Some e)) did _ (λ l w. subst (λ a. HearsFurther number t h.opening m reading a (Prune q.attempt q.cont None (Some e)) (kept d h) l (left, did)) its w) turn
  hears-prune q e (Err (stop.Store issued lines)) its turn = turn
  hears-prune q e (Err (stop.Foreign at byte)) its turn = turn
  hears-prune q e (Err stop.Memory) its turn = wanting (Prune q.attempt q.cont None (Some e)) (λ l p. stops-there (snap.PruneNext t m reading e (Some e) q.cont number) (issued_by_prune q.attempt (Some e)) t.me snap.Asked (kept d h) l p) turn

  loss-rolled : (by : ℕ) (down : Bool) (asked : Message) (r : Result Did TargetStop) → LossTurn t m by down asked d h new k finds left r → HearsOrStops number t m reading from (own.roll-Message (own.Message-F.Reset by down asked)) d h new k finds left r
  unfolding own.roll-Message denote.Hole.Carrier.roll denote.Hole.Carrier.hidden block.hidden-the_row-Message-0
  loss-rolled by down asked (Ok did) turn = further-now (own.roll-Message (own.Message-F.Reset by down asked)) did _ (λ l w. w) turn
  loss-rolled by down asked (Err (stop.Store issued lines)) turn = turn
  loss-rolled by down asked (Err (stop.Foreign at byte)) turn = turn
  loss-rolled by down asked (Err stop.Memory) turn = wanting (own.roll-Message (own.Message-F.Reset by down asked)) (λ l p. stops-there NoChange none_issued t.me Looking (kept d h) l p) turn

  pub hears-loss : (by : ℕ) (down : Bool) (asked : Message) (r : Result Did TargetStop) → LossTurn t m by down asked d h new k finds left r → HearsOrStops number t m reading from (Reset by down asked) d h new k finds left r
  hears-loss by down asked r turn = subst (λ q. HearsOrStops number t m reading from q d h new k finds left r) (message.rolls-Reset by down asked) (loss-rolled by down asked r turn)

  -- memory was wanting for a Commit that hadn't begun
  pub commit-not_begun : (a : AttemptId) (ep first : Option Epoch) (tracker : Epoch) (ws : List MinorWrite) → Stays d h new k → Now new k (HearsNoFurther number t h.opening m reading from (Commit a ep first tracker ws) (kept d h))
  commit-not_begun a ep first tracker ws stays = by (down_of t m (commit_request a ep first tracker ws) (record { 0 = 0 })) refl
    where
      by : (o : Option ℕ) → down_of t m (commit_request a ep first tracker ws) (record { 0 = 0 }) ≡ o → Now new k (HearsNoFurther number t h.opening m reading from (Commit a ep first tracker ws) (kept d h))
      by None up = commit-wanting a ep first tracker ws (λ e. up) (now_partway (commit.CommitNext t h.opening m reading (commit_request a ep first tracker ws)) commit.Asked d h k new stays)
      by (Some down) is = unstored-wanting a ep first tracker ws (record { 0 = 0 }) down is (now_partway (UnstoredNext t h.opening m reading (commit_request a ep first tracker ws)) commit.Asked d h k new stays)

-- and its idle work
pub idles : (settling : Bool) (t : TargetPlan) (m : TargetMemory) (d : Durable) (h : State) (new : Option Durable) (k : State) (finds : Durable → Type 0) (left : TargetMemory) (r : Result Did TargetStop)
    → Turn IdleNext never m.leader.decided (kept d h) (λ did l. Whole IdleNext (IdleEnds settling t m) m.leader.decided (kept d h) l (left, did)) new k finds r → IdlesOrStops settling t m d h new k finds left r
idles settling t m d h new k finds left (Ok did) turn = turn
idles settling t m d h new k finds left (Err (stop.Store issued lines)) turn = λ x found. cut-turn IdleNext idle-plain t.me never none_issued (λ s. refl) m.leader.decided (kept d h) (left_by k finds) issued lines turn x found
idles settling t m d h new k finds left (Err (stop.Foreign at byte)) turn = turn
idles settling t m d h new k finds left (Err stop.Memory) turn = record {
  durable = turn.durable;
  kept_is = turn.kept_is;
  holds = record { partly = turn.holds; stops = stops-there IdleNext none_issued t.me m.leader.decided (kept d h) _ turn.holds };
}
