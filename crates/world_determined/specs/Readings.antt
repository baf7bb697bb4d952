-- A turn at one reading of the clock is one at any other that issues the same epoch.
use Rattle.std.specs.Prelude.{ℕ, ◌≡◌, Bool, true, false, is_some, List, [], map, filter, Option, Some, None, Contains, refl}
use Rattle.std.proofs.Common.{inl, inr, sym, ◌∙◌, subst}
use Rattle.base_types.specs.declared.entry.Verdict.{Verdict}
use Rattle.base_types.specs.declared.entry.Verdict.TheVariants as verdicts
use Rattle.base_types.specs.declared.epoch.Epoch.{Epoch}
use Rattle.base_types.specs.declared.id.AttemptId.{AttemptId}
use Rattle.base_types.specs.declared.id.ContId.{ContId}
use Rattle.base_types.specs.declared.key.Key.{Key}
use Rattle.base_types.specs.declared.outcome.FloorWhy.{FloorWhy}
use Rattle.base_types.specs.declared.report.Line.{Line}
use Rattle.base_messages.specs.declared.actor.ActorId.{ActorId}
use Rattle.base_messages.specs.declared.message.Message.{Message}
use Rattle.base_messages.specs.declared.message.Message.TheVariants as message
use Rattle.daos_model.specs.declared.durable.Durable.{Durable}
use Rattle.dtx_base.specs.declared.member.Parked.{Parked}
use Rattle.dtx_base.specs.Joining.{is_parked_on, parked_ask, unresolved, verdict_heard}
use Rattle.model_laws.specs.Members.{Has, contains-from_has, has-from_filter, has-from_map}
use Rattle.world_base.specs.declared.did.Did.{Did}
use Rattle.world_base.specs.declared.request.CommitRequest.{CommitRequest}
use Rattle.world_base.specs.declared.request.FetchRequest.{FetchRequest}
use Rattle.world_base.specs.declared.target.TargetMemory.{TargetMemory}
use Rattle.world_base.specs.declared.target.TargetPlan.{TargetPlan}
use Rattle.world_base.specs.Changes.{Change, Kept}
use Rattle.world_base.specs.Commits as commit
use Rattle.world_base.specs.CutTurns.{Before, CommitIsCut, CutHere, CutTurn, Cutting, HearingIsCut, InChange, InQuestion, NoneIsDown, OneIsDown, UnstoredNext, issued_by_commit, issued_by_fetch, issued_by_freeze, issued_by_prune, none_issued}
use Rattle.world_base.specs.Further.{CommitDown, HearsFurther}
use Rattle.world_base.specs.Further as down
use Rattle.world_base.specs.PathLaws.{path-keeps}
use Rattle.world_base.specs.Reads as read
use Rattle.world_base.specs.Requests.{request_epoch}
use Rattle.world_base.specs.Roles.{is_prepared, member_at, told_by}
use Rattle.world_base.specs.Snapshots as snap
use Rattle.world_base.specs.TargetTurns.{Hears, commit_request, fetch_request}
use Rattle.world_base.specs.Turns.{Here, More, Path, Whole}
use Rattle.world_base.specs.Verdicts as verdict
use Rattle.world_determined.specs.Paths.{FitsOn}
use Rattle.world_determined.specs.Settlings.{Always, always-on}

-- ---- the statements

-- a Fetch that goes with its epoch
abbrev pub is_timed : Message → Bool
is_timed (message.Fetch x op group ep first tracker r snapshot) = is_some ep
is_timed q = false

-- such are all that wait at a target
abbrev pub AreTimed : List Parked → Type 0
AreTimed parked = (p : Parked) → Contains parked p → is_timed p.ask ≡ true

-- At both readings a target that hears this issues the same epoch, if it issues one. A Verdict may set Fetches free that wait.
abbrev pub IssuesAlike : TargetPlan → TargetMemory → ℕ → ℕ → Message → Type 0
IssuesAlike t m reading other (message.Fetch x op group ep first tracker r snapshot) = request_epoch t m reading tracker ep ≡ request_epoch t m other tracker ep
IssuesAlike t m reading other (message.Commit x ep first tracker ws) = request_epoch t m reading tracker ep ≡ request_epoch t m other tracker ep
IssuesAlike t m reading other (message.Snap x c called tracker) = request_epoch t m reading tracker None ≡ request_epoch t m other tracker None
IssuesAlike t m reading other (message.Prune x c (Some tracker) None) = request_epoch t m reading tracker None ≡ request_epoch t m other tracker None
IssuesAlike t m reading other (message.Verdict x ask inc v) = AreTimed m.member.parked
IssuesAlike t m reading other q = Unit {0}

-- what is heard at one reading is heard so at the other
abbrev pub ReadingsAreOne : Type 0
ReadingsAreOne =
    (t : TargetPlan) (opening : Epoch × FloorWhy) (m : TargetMemory) (reading other : ℕ) (from : ActorId) (q : Message) (old new : Kept) (left : TargetMemory × Did)
    → IssuesAlike t m reading other q → Hears t opening m reading from q old new left → Hears t opening m other from q old new left

-- also what comes of stops, and what makes snapshots and aggregates
abbrev pub FurtherReadingsAreOne : Type 0
FurtherReadingsAreOne =
    (number : ℕ) (t : TargetPlan) (opening : Epoch × FloorWhy) (m : TargetMemory) (reading other : ℕ) (from : ActorId) (q : Message) (old new : Kept) (left : TargetMemory × Did)
    → IssuesAlike t m reading other q → HearsFurther number t opening m reading from q old new left → HearsFurther number t opening m other from q old new left

-- also what was cut
abbrev pub CutReadingsAreOne : Type 0
CutReadingsAreOne =
    (is_due : AttemptId → Durable → Bool) (number : ℕ) (t : TargetPlan) (opening : Epoch × FloorWhy) (m : TargetMemory) (reading other : ℕ) (from : ActorId) (q : Message) (old : Kept) (cut : Cutting)
    → IssuesAlike t m reading other q → HearingIsCut is_due number t opening m reading from q old cut → HearingIsCut is_due number t opening m other from q old cut

-- ---- steps again

-- where each step of a turn is one of another kind, the turn is one of that kind
pub path-again :
    {S : Type 0} (Next Other : S → Kept → Option Change → S → Type 0) (Fits : S → Durable → Type 0) → FitsOn Next Fits
    → ((s : S) (k : Kept) (o : Option Change) (u : S) → Fits s k.durable → Next s k o u → Other s k o u)
    → (s : S) (k : Kept) (did : List Change) (t : S) (l : Kept) → Fits s k.durable → Path Next s k did t l → Path Other s k did t l
path-again Next Other Fits on again s k did t l fits Here = Here
path-again Next Other Fits on again s k _ _ _ fits (More did t l o u m path next steps) =
    More did t l o u m (path-again Next Other Fits on again s k did t l fits path) (again t l o u (path-keeps Next (λ x d. Fits x d.durable) on s k did t l path fits) next) steps

whole-again :
    {S R : Type 0} (Next Other : S → Kept → Option Change → S → Type 0) (Ends OtherEnds : S → Kept → R → Type 0) (Fits : S → Durable → Type 0) → FitsOn Next Fits
    → ((s : S) (k : Kept) (o : Option Change) (u : S) → Fits s k.durable → Next s k o u → Other s k o u) → ((s : S) (k : Kept) (r : R) → Fits s k.durable → Ends s k r → OtherEnds s k r)
    → (start : S) (old new : Kept) (left : R) → Fits start old.durable → Whole Next Ends start old new left → Whole Other OtherEnds start old new left
whole-again Next Other Ends OtherEnds Fits on again over start old new left fits w = record {
  last = w.last;
  reached = record { did = w.reached.did; path = path-again Next Other Fits on again start old w.reached.did w.last new fits w.reached.path };
  ends = over w.last new left (path-keeps Next (λ x d. Fits x d.durable) on start old w.reached.did w.last new w.reached.path fits) w.ends;
}

here-again :
    {S : Type 0} (Next Other : S → Kept → Option Change → S → Type 0) (Fits : S → Durable → Type 0) → ((s : S) (k : Kept) (o : Option Change) (u : S) → Fits s k.durable → Next s k o u → Other s k o u)
    → (t : ℕ) (last : S) (mid left : Kept) (lines : List Line) → Fits last mid.durable → CutHere Next t last mid left lines → CutHere Other t last mid left lines
here-again Next Other Fits again t last mid left _ fits (InChange c u next cut free) = InChange c u (again last mid (Some c) u fits next) cut free
here-again Next Other Fits again t last mid left _ fits (InQuestion same free) = InQuestion same free

cut-again :
    {S : Type 0} (Next Other : S → Kept → Option Change → S → Type 0) (Fits : S → Durable → Type 0) → FitsOn Next Fits
    → ((s : S) (k : Kept) (o : Option Change) (u : S) → Fits s k.durable → Next s k o u → Other s k o u)
    → (issues : S → List (AttemptId × Epoch)) (t : ℕ) (start : S) (old : Kept) (cut : Cutting) → Fits start old.durable → CutTurn Next issues t start old cut → CutTurn Other issues t start old cut
cut-again Next Other Fits on again issues t start old cut fits c = record {
  last = c.last;
  mid = c.mid;
  did = c.did;
  path = path-again Next Other Fits on again start old c.did c.last c.mid fits c.path;
  lines = c.lines;
  here = here-again Next Other Fits again t c.last c.mid cut.left c.lines (path-keeps Next (λ x d. Fits x d.durable) on start old c.did c.last c.mid c.path fits) c.here;
  issued = c.issued;
  all_lines = c.all_lines;
}

-- ---- a Fetch

module _ (t : TargetPlan) (m : TargetMemory) (reading other : ℕ) (q : FetchRequest) (same : request_epoch t m reading q.tracker q.ep ≡ request_epoch t m other q.tracker q.ep) where
  pub fetch-again : (s : read.FetchStage) (k : Kept) (o : Option Change) (u : read.FetchStage) → read.FetchNext t m reading q s k o u → read.FetchNext t m other q s k o u
  fetch-again _ k _ _ (read.AtSnapshot _ e at is) = read.AtSnapshot k e at is
  fetch-again _ k _ _ (read.HasEpoch _ e at is) = read.HasEpoch k e at (sym same ∙ is)
  fetch-again _ k _ _ (read.ExtendsLease _ e lease low is) = read.ExtendsLease k e lease low is
  fetch-again _ k _ _ (read.IsCovered _ e low) = read.IsCovered k e low
  fetch-again _ k _ _ (read.SettlesOwn _ e decided a none unsettled among) = read.SettlesOwn k e decided a none unsettled among

  fetch-over : (from : ActorId) (s : read.FetchStage) (k : Kept) (left : TargetMemory × Did) → read.FetchEnds t m reading q from s k left → read.FetchEnds t m other q from s k left
  fetch-over from _ k _ (read.IsSpent _ left at is so) = read.IsSpent k left at (sym same ∙ is) so
  fetch-over from _ k _ (read.IsRefused _ e decided c left is so) = read.IsRefused k e decided c left is so
  fetch-over from _ k _ (read.MeetsUnresolved _ e decided a left none met apart led so) = read.MeetsUnresolved k e decided a left none met apart led so
  fetch-over from _ k _ (read.IsParked _ e decided a leader left none met led so) = read.IsParked k e decided a leader left none met led so
  fetch-over from _ k _ (read.IsServed _ e decided b left none got so) = read.IsServed k e decided b left none got so

-- ---- a Verdict

-- a request with its epoch needs no reading
epoch-timed : (t : TargetPlan) (m : TargetMemory) (reading other : ℕ) (tracker : Epoch) (ep : Option Epoch) → is_some ep ≡ true → request_epoch t m reading tracker ep ≡ request_epoch t m other tracker ep
epoch-timed t m reading other tracker (Some e) is = refl
epoch-timed t m reading other tracker None is = let no : ⊥ = cc in absurd no

-- such are all that are left to be tried again
abbrev AllTimed : List Message → Type 0
AllTimed asks = (x : Message) → Has x asks → is_timed x ≡ true

none-timed : AllTimed []
none-timed x i = absurd i

module _ (is_due : AttemptId → Durable → Bool) (t : TargetPlan) (m : TargetMemory) (reading other : ℕ) (a : AttemptId) (ask : Option AttemptId) (v : Verdict) where
  -- what waits goes with its epoch, at each stage
  abbrev TimedAt : verdict.VerdictStage → Durable → Type 0
  TimedAt verdict.Heard d = AreTimed m.member.parked
  TimedAt (verdict.Freed asks n posts) d = AllTimed asks
  TimedAt (verdict.Trying q s asks n posts) d = (is_some q.ep ≡ true) × AllTimed asks

  timed-on : FitsOn (verdict.VerdictNext is_due t m reading a ask v) TimedAt
  unfolding unresolved
  timed-on _ k _ _ l (verdict.SettlesBy _ _ is) steps timed = by v ask
    where
      parked : (x : Message) → Has x (map parked_ask (filter (is_parked_on a) m.member.parked)) → is_timed x ≡ true
      parked x i =
          let p = has-from_map parked_ask (filter (is_parked_on a) m.member.parked) x i in
          subst (λ y. is_timed y ≡ true) p.2 (timed p.0 (contains-from_has m.member.parked p.0 (has-from_filter (is_parked_on a) m.member.parked p.0 p.1).0))

      by : (w : Verdict) (b : Option AttemptId) → AllTimed (verdict_heard a b w (member_at t m)).freed.again
      by verdicts.Committed b = parked
      by verdicts.Aborted b = parked
      by verdicts.Undecided (Some x) = none-timed
      by verdicts.Undecided None = none-timed
  timed-on _ k _ _ l (verdict.TriesNext _ n posts rest x op group ep first tracker r snapshot) steps timed = (timed _ (inl refl), λ y i. timed y (inr i))
  timed-on _ k _ _ l (verdict.GoesOn _ n posts rest q i z _ next) steps timed = timed
  timed-on _ k _ _ l (verdict.IsDone _ n posts rest q i left ends) steps timed = timed.1

  verdict-again : (s : verdict.VerdictStage) (k : Kept) (o : Option Change) (u : verdict.VerdictStage) → TimedAt s k.durable
      → verdict.VerdictNext is_due t m reading a ask v s k o u → verdict.VerdictNext is_due t m other a ask v s k o u
  verdict-again _ k o _ timed (verdict.SettlesBy _ _ is) = verdict.SettlesBy k o is
  verdict-again _ k _ _ timed (verdict.TriesNext _ n posts rest x op group ep first tracker r snapshot) = verdict.TriesNext k n posts rest x op group ep first tracker r snapshot
  verdict-again _ k o _ timed (verdict.GoesOn _ n posts rest q i z _ next) = verdict.GoesOn k n posts rest q i z o (fetch-again t n reading other q (epoch-timed t n reading other q.tracker q.ep timed.0) i k o z next)
  verdict-again _ k _ _ timed (verdict.IsDone _ n posts rest q i left ends) =
      verdict.IsDone k n posts rest q i left (fetch-over t n reading other q (epoch-timed t n reading other q.tracker q.ep timed.0) (verdict.fetcher q) i k left ends)

-- ---- a Commit

module _ (t : TargetPlan) (opening : Epoch × FloorWhy) (m : TargetMemory) (reading other : ℕ) (q : CommitRequest) (same : request_epoch t m reading q.tracker q.ep ≡ request_epoch t m other q.tracker q.ep) where
  commit-again : (s : commit.CommitStage) (k : Kept) (o : Option Change) (u : commit.CommitStage) → commit.CommitNext t opening m reading q s k o u → commit.CommitNext t opening m other q s k o u
  commit-again _ k _ _ (commit.HasEpoch _ e is) = commit.HasEpoch k e (sym same ∙ is)
  commit-again _ k _ _ (commit.ExtendsLease _ e lease low is) = commit.ExtendsLease k e lease low is
  commit-again _ k _ _ (commit.IsCovered _ e low) = commit.IsCovered k e low
  commit-again _ k _ _ (commit.Stores _ e allowed space) = commit.Stores k e allowed space

  unstored-again : (s : commit.CommitStage) (k : Kept) (o : Option Change) (u : commit.CommitStage) → UnstoredNext t opening m reading q s k o u → UnstoredNext t opening m other q s k o u
  unstored-again s k o u (Before _ _ _ _ next unstored) = Before s u k o (commit-again s k o u next) unstored

  cut-commit_again : (old : Kept) (cut : Cutting) → CommitIsCut t opening m reading q old cut → CommitIsCut t opening m other q old cut
  cut-commit_again old cut (NoneIsDown none c) = NoneIsDown none (cut-again _ _ Always (always-on _) (λ s k o u fits next. commit-again s k o u next) (issued_by_commit q) t.me commit.Asked old cut tt c)
  cut-commit_again old cut (OneIsDown e by is c) = OneIsDown e by is (cut-again _ _ Always (always-on _) (λ s k o u fits next. unstored-again s k o u next) (issued_by_commit q) t.me commit.Asked old cut tt c)

  commit-over : (from : ActorId) (s : commit.CommitStage) (k : Kept) (left : TargetMemory × Did) → commit.CommitEnds t opening m reading q from s k left → commit.CommitEnds t opening m other q from s k left
  commit-over from _ k _ (commit.IsSpent _ left is so) = commit.IsSpent k left (sym same ∙ is) so
  commit-over from _ k _ (commit.IsRefused _ e c left is so) = commit.IsRefused k e c left is so
  commit-over from _ k _ (commit.HasNoSpace _ e left allowed space so) = commit.HasNoSpace k e left allowed space so
  commit-over from _ k _ (commit.HasBegun _ e left so) = commit.HasBegun k e left so

  down-over : (from : ActorId) (s : commit.CommitStage) (k : Kept) (left : TargetMemory × Did) → CommitDown t m reading q from s k left → CommitDown t m other q from s k left
  down-over from _ k _ (down.IsSpent _ e by left is known so) = down.IsSpent k e by left (sym same ∙ is) known so
  down-over from _ k _ (down.IsUnknown _ e by left known so) = down.IsUnknown k e by left known so

-- ---- a Snap and a client's Prune

module _ (p : TargetPlan) (m : TargetMemory) (reading other : ℕ) (tracker : Epoch) (ep : Option Epoch) (c : ContId) (same : request_epoch p m reading tracker ep ≡ request_epoch p m other tracker ep) where
  freeze-again : (alone : Bool) (s : snap.FreezeStage) (k : Kept) (o : Option Change) (u : snap.FreezeStage) → snap.FreezeNext p m reading tracker ep c alone s k o u → snap.FreezeNext p m other tracker ep c alone s k o u
  freeze-again alone _ k _ _ (snap.HasEpoch _ e is) = snap.HasEpoch k e (sym same ∙ is)
  freeze-again alone _ k _ _ (snap.ExtendsLease _ e lease low is) = snap.ExtendsLease k e lease low is
  freeze-again alone _ k _ _ (snap.IsCovered _ e low) = snap.IsCovered k e low
  freeze-again alone _ k _ _ (snap.FreezesIt _ e none is) = snap.FreezesIt k e none is
  freeze-again alone _ k _ _ (snap.IsFrozen _ e none is) = snap.IsFrozen k e none is
  freeze-again alone _ k _ _ (snap.CreatesIt _ e lines is) = snap.CreatesIt k e lines is

  prune-again : (number : ℕ) (s : snap.PruneStage) (k : Kept) (o : Option Change) (u : snap.PruneStage) → snap.PruneNext p m reading tracker ep c number s k o u → snap.PruneNext p m other tracker ep c number s k o u
  prune-again number _ k _ _ (snap.HasEpoch _ e is) = snap.HasEpoch k e (sym same ∙ is)
  prune-again number _ k _ _ (snap.ExtendsLease _ e lease low is) = snap.ExtendsLease k e lease low is
  prune-again number _ k _ _ (snap.IsCovered _ e low) = snap.IsCovered k e low
  prune-again number _ k _ _ (snap.SettlesFirst _ e a rest) = snap.SettlesFirst k e a rest
  prune-again number _ k _ _ (snap.PrunesIt _ e is) = snap.PrunesIt k e is
  prune-again number _ k _ _ (snap.PassesBy _ e is) = snap.PassesBy k e is

module _ (p : TargetPlan) (m : TargetMemory) (reading other : ℕ) (tracker : Epoch) (x : AttemptId) (c : ContId) (from : ActorId) (same : request_epoch p m reading tracker None ≡ request_epoch p m other tracker None) where
  snap-over : (name : Key) (s : snap.FreezeStage) (k : Kept) (left : TargetMemory × Did) → snap.SnapEnds p m reading tracker x c name from s k left → snap.SnapEnds p m other tracker x c name from s k left
  snap-over name _ k _ (snap.IsSpent _ left is so) = snap.IsSpent k left (sym same ∙ is) so
  snap-over name _ k _ (snap.IsRefused _ e how left is so) = snap.IsRefused k e how left is so
  snap-over name _ k _ (snap.AsksOthers _ e lines left is so) = snap.AsksOthers k e lines left is so
  snap-over name _ k _ (snap.IsAlone _ e lines left so) = snap.IsAlone k e lines left so

  aggregate-over : (s : snap.PruneStage) (k : Kept) (left : TargetMemory × Did) → snap.AggregateEnds p m reading tracker x c from s k left → snap.AggregateEnds p m other tracker x c from s k left
  aggregate-over _ k _ (snap.IsSpent _ left is so) = snap.IsSpent k left (sym same ∙ is) so
  aggregate-over _ k _ (snap.AsksOthers _ e lines left is so) = snap.AsksOthers k e lines left is so
  aggregate-over _ k _ (snap.IsAlone _ e lines left is so) = snap.IsAlone k e lines left is so

-- ---- every turn

parked-told : (v : Verdict) (a : AttemptId) (m : TargetMemory) → AreTimed m.member.parked → AreTimed (told_by v a m).member.parked
parked-told verdicts.Committed a m timed = timed
parked-told verdicts.Aborted a m timed = timed
parked-told verdicts.Undecided a m timed = timed

pub readings-are_one : ReadingsAreOne
readings-are_one t opening m reading other from (message.Fetch x op group ep first tracker r snapshot) old new left alike h =
    let q = fetch_request x op group ep first tracker r snapshot in
    whole-again _ _ _ _ Always (always-on _) (λ s k o u fits next. fetch-again t m reading other q alike s k o u next) (λ s k left fits ends. fetch-over t m reading other q alike from s k left ends) read.Asked old new left tt h
readings-are_one t opening m reading other from (message.Commit x ep first tracker ws) old new left alike h =
    let q = commit_request x ep first tracker ws in
    whole-again _ _ _ _ Always (always-on _) (λ s k o u fits next. commit-again t opening m reading other q alike s k o u next) (λ s k left fits ends. commit-over t opening m reading other q alike from s k left ends)
    commit.Asked old new left tt h
readings-are_one t opening m reading other from (message.Verdict x ask inc v) old new left alike h =
    let n = told_by v x m in
    whole-again _ _ _ _ (TimedAt is_prepared t n reading other x ask v) (timed-on is_prepared t n reading other x ask v) (verdict-again is_prepared t n reading other x ask v) (λ s k left fits ends. ends) verdict.Heard old new left (parked-told v x m alike) h
readings-are_one t opening m reading other from q old new left alike h = h

pub further-readings_are_one : FurtherReadingsAreOne
further-readings_are_one number t opening m reading other from (message.Commit x ep first tracker ws) old new left alike h =
    let q = commit_request x ep first tracker ws in
    whole-again _ _ _ _ Always (always-on _) (λ s k o u fits next. commit-again t opening m reading other q alike s k o u next) (λ s k left fits ends. down-over t opening m reading other q alike from s k left ends)
    commit.Asked old new left tt h
further-readings_are_one number t opening m reading other from (message.Snap x c called tracker) old new left alike h =
    whole-again _ _ _ _ Always (always-on _) (λ s k o u fits next. freeze-again t m reading other tracker None c alike (snap.is_held_by_all t 0) s k o u next)
    (λ s k left fits ends. snap-over t m reading other tracker x c from alike called s k left ends) snap.Asked old new left tt h
further-readings_are_one number t opening m reading other from (message.Prune x c (Some tracker) None) old new left alike h =
    whole-again _ _ _ _ Always (always-on _) (λ s k o u fits next. prune-again t m reading other tracker None c alike number s k o u next)
    (λ s k left fits ends. aggregate-over t m reading other tracker x c from alike s k left ends) snap.Asked old new left tt h
further-readings_are_one number t opening m reading other from (message.Prune x c None (Some g)) old new left alike h =
    whole-again _ _ _ _ Always (always-on _) (λ s k o u fits next. prune-again t m reading other g (Some g) c refl number s k o u next) (λ s k left fits ends. ends) snap.Asked old new left tt h
further-readings_are_one number t opening m reading other from (message.Freeze x c s) old new left alike h =
    whole-again _ _ _ _ Always (always-on _) (λ i k o u fits next. freeze-again t m reading other s (Some s) c refl false i k o u next) (λ i k left fits ends. ends) snap.Asked old new left tt h
further-readings_are_one number t opening m reading other from q old new left alike h = h

pub cut-readings_are_one : CutReadingsAreOne
cut-readings_are_one is_due number t opening m reading other from (message.Fetch x op group ep first tracker r snapshot) old cut alike c =
    let q = fetch_request x op group ep first tracker r snapshot in
    cut-again _ _ Always (always-on _) (λ s k o u fits next. fetch-again t m reading other q alike s k o u next) (issued_by_fetch q) t.me read.Asked old cut tt c
cut-readings_are_one is_due number t opening m reading other from (message.Commit x ep first tracker ws) old cut alike c = cut-commit_again t opening m reading other (commit_request x ep first tracker ws) alike old cut c
cut-readings_are_one is_due number t opening m reading other from (message.Verdict x ask inc v) old cut alike c =
    let n = told_by v x m in
    cut-again _ _ (TimedAt is_due t n reading other x ask v) (timed-on is_due t n reading other x ask v) (verdict-again is_due t n reading other x ask v) none_issued t.me verdict.Heard old cut (parked-told v x m alike) c
cut-readings_are_one is_due number t opening m reading other from (message.Snap x c name tracker) old cut alike k =
    cut-again _ _ Always (always-on _) (λ i j o u fits next. freeze-again t m reading other tracker None c alike (snap.is_held_by_all t 0) i j o u next) (issued_by_freeze x None) t.me snap.Asked old cut tt k
cut-readings_are_one is_due number t opening m reading other from (message.Freeze x c s) old cut alike k =
    cut-again _ _ Always (always-on _) (λ i j o u fits next. freeze-again t m reading other s (Some s) c refl false i j o u next) (issued_by_freeze x (Some s)) t.me snap.Asked old cut tt k
cut-readings_are_one is_due number t opening m reading other from (message.Prune x c (Some tracker) None) old cut alike k =
    cut-again _ _ Always (always-on _) (λ i j o u fits next. prune-again t m reading other tracker None c alike number i j o u next) (issued_by_prune x None) t.me snap.Asked old cut tt k
cut-readings_are_one is_due number t opening m reading other from (message.Prune x c None (Some g)) old cut alike k =
    cut-again _ _ Always (always-on _) (λ i j o u fits next. prune-again t m reading other g (Some g) c refl number i j o u next) (issued_by_prune x (Some g)) t.me snap.Asked old cut tt k
cut-readings_are_one is_due number t opening m reading other from q old cut alike c = c
