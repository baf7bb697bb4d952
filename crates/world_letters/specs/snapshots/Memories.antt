-- A turn as without stops leaves what a target collects.
use Rattle.std.specs.Prelude.{ℕ, ◌≡◌, Bool, true, false, List, [], ◌∷◌, Option, refl, if◌then◌else◌}
use Rattle.std.proofs.Common.{◌∙◌, ap}
use Rattle.base_types.specs.declared.entry.Verdict.{Verdict}
use Rattle.base_types.specs.declared.entry.Verdict.TheVariants as fate
use Rattle.base_types.specs.declared.epoch.Epoch.{Epoch}
use Rattle.base_types.specs.declared.id.AttemptId.{AttemptId}
use Rattle.base_types.specs.declared.outcome.FloorWhy.{FloorWhy}
use Rattle.base_messages.specs.declared.actor.ActorId.{ActorId}
use Rattle.base_messages.specs.declared.message.Message.{Message}
use Rattle.base_messages.specs.declared.message.Message.TheVariants as message
use Rattle.daos_model.specs.declared.durable.Durable.{Durable}
use Rattle.world_base.specs.dtx_base.Leading.{attempts_of}
use Rattle.world_base.specs.declared.did.Did.{Did}
use Rattle.world_base.specs.declared.request.CommitRequest.{CommitRequest}
use Rattle.world_base.specs.declared.request.FetchRequest.{FetchRequest}
use Rattle.world_base.specs.declared.request.PrepareRequest.{PrepareRequest}
use Rattle.world_base.specs.declared.target.TargetMemory.{TargetMemory}
use Rattle.world_base.specs.declared.target.TargetPlan.{TargetPlan}
use Rattle.world_base.specs.Acks as ack
use Rattle.world_base.specs.Changes.{Change, Kept, Steps}
use Rattle.world_base.specs.Commits as commit
use Rattle.world_base.specs.Idle.{AllSettled, IdleEnds}
use Rattle.world_base.specs.Marks.{AllMarked, MarkEnds}
use Rattle.world_base.specs.PathLaws.{reached-keeps}
use Rattle.world_base.specs.Prepares as prepare
use Rattle.world_base.specs.Reads as read
use Rattle.world_base.specs.Requests.{with_ticks}
use Rattle.world_base.specs.Roles.{is_prepared, told_by, told_of, told_of_all, with_unsettled}
use Rattle.world_base.specs.TargetTurns.{Hears, commit_request, fetch_request, prepare_request}
use Rattle.world_base.specs.Verdicts as verdict

-- it collects the same
abbrev pub Same : TargetMemory → TargetMemory → Type 0
Same m n = n.collecting ≡ m.collecting

then-same : (q : FetchRequest) (e : Epoch) (decided : List AttemptId) (m : TargetMemory) → (read.memory_then q e decided m).collecting ≡ m.collecting
then-same q e decided m = by q.snapshot
  where
    known : Bool → TargetMemory
    known b = if b then m else with_ticks e m

    by : (b : Bool) → (with_unsettled decided (known b)).collecting ≡ m.collecting
    by true = refl
    by false = refl

fetch-same : (t : TargetPlan) (m : TargetMemory) (reading : ℕ) (q : FetchRequest) (from : ActorId) (s : read.FetchStage) (k : Kept) (left : TargetMemory × Did) → read.FetchEnds t m reading q from s k left → Same m left.0
fetch-same t m reading q from s k left (read.IsSpent k2 left2 live none says) = ap (λ o. o.0.collecting) says
fetch-same t m reading q from s k left (read.IsRefused k2 e decided c left2 why says) = ap (λ o. o.0.collecting) says ∙ then-same q e decided m
fetch-same t m reading q from s k left (read.MeetsUnresolved k2 e decided a left2 free unsettled undecided other says) = ap (λ o. o.0.collecting) says ∙ then-same q e decided m
fetch-same t m reading q from s k left (read.IsParked k2 e decided a leader left2 free unsettled other says) = ap (λ o. o.0.collecting) says ∙ then-same q e decided m
fetch-same t m reading q from s k left (read.IsServed k2 e decided b left2 free served says) = ap (λ o. o.0.collecting) says ∙ then-same q e decided m

commit-same : (t : TargetPlan) (opening : Epoch × FloorWhy) (m : TargetMemory) (reading : ℕ) (q : CommitRequest) (from : ActorId) (s : commit.CommitStage) (k : Kept) (left : TargetMemory × Did)
    → commit.CommitEnds t opening m reading q from s k left → Same m left.0
commit-same t opening m reading q from s k left (commit.IsSpent k2 left2 none says) = ap (λ o. o.0.collecting) says
commit-same t opening m reading q from s k left (commit.IsRefused k2 e c left2 why says) = ap (λ o. o.0.collecting) says
commit-same t opening m reading q from s k left (commit.HasNoSpace k2 e left2 allowed full says) = ap (λ o. o.0.collecting) says
commit-same t opening m reading q from s k left (commit.HasBegun k2 e left2 says) = ap (λ o. o.0.collecting) says

prepare-same : (t : TargetPlan) (opening : Epoch × FloorWhy) (m : TargetMemory) (q : PrepareRequest) (s : prepare.PrepareStage) (k : Kept) (left : TargetMemory × Did) → prepare.PrepareEnds t opening m q s k left → Same m left.0
prepare-same t opening m q s k left (prepare.IsRefused k2 c left2 why says) = ap (λ o. o.0.collecting) says
prepare-same t opening m q s k left (prepare.HasNoSpace k2 left2 allowed full says) = ap (λ o. o.0.collecting) says
prepare-same t opening m q s k left (prepare.IsPrepared k2 left2 says) = ap (λ o. o.0.collecting) says

pub ack-same : (m : TargetMemory) (s : ack.AckStage) (k : Kept) (left : TargetMemory × Did) → ack.AckEnds m s k left → Same m left.0
ack-same m s k left (ack.IsFollowed k2 step left2 says) = ap (λ o. o.0.collecting) says

all-told : (ids : List AttemptId) (m : TargetMemory) → Same m (told_of_all ids m)
all-told [] m = refl
all-told (a ∷ ids) m = all-told ids (told_of a m)

mark-same : (m : TargetMemory) (from : ActorId) (inc : ℕ) (marks rest : List (AttemptId × Bool)) (k : Kept) (left : TargetMemory × Did) → MarkEnds m from inc marks rest k left → Same m left.0
mark-same m from inc marks rest k left (AllMarked k2 left2 says) = ap (λ o. o.0.collecting) says

marked-same : (t : TargetPlan) (m : TargetMemory) (member inc : ℕ) (ids rest : List AttemptId) (k : Kept) (left : TargetMemory × Did) → ack.MarkedEnds t m member inc ids rest k left → Same m left.0
marked-same t m member inc ids rest k left (ack.AllConfirmed k2 left2 says) = ap (λ o. o.0.collecting) says

query-same : (t : TargetPlan) (m : TargetMemory) (from : ActorId) (a : AttemptId) (ask : Option AttemptId) (s : verdict.QueryStage) (k : Kept) (left : TargetMemory × Did) → verdict.QueryEnds t m from a ask s k left → Same m left.0
query-same t m from a ask s k left (verdict.IsTold k2 left2 says) = ap (λ o. o.0.collecting) says

told-same : (v : Verdict) (a : AttemptId) (m : TargetMemory) → Same m (told_by v a m)
told-same fate.Committed a m = refl
told-same fate.Aborted a m = refl
told-same fate.Undecided a m = refl

-- what is collected so far in a Verdict's turn
abbrev SoFar : TargetMemory → verdict.VerdictStage → Type 0
SoFar m verdict.Heard = Unit {0}
SoFar m (verdict.Freed asks n posts) = Same m n
SoFar m (verdict.Trying q s asks n posts) = Same m n

verdict-step : (is_due : AttemptId → Durable → Bool) (p : TargetPlan) (m : TargetMemory) (reading : ℕ) (a : AttemptId) (ask : Option AttemptId) (v : Verdict) (s : verdict.VerdictStage) (k : Kept) (o : Option Change) (u : verdict.VerdictStage) (l : Kept)
    → verdict.VerdictNext is_due p m reading a ask v s k o u → Steps o k l → SoFar m s → SoFar m u
verdict-step is_due p m reading a ask v s k o u l (verdict.SettlesBy k2 o2 says) steps h = refl
verdict-step is_due p m reading a ask v s k o u l (verdict.TriesNext k2 n posts rest x op group ep first tracker rd snapshot) steps h = h
verdict-step is_due p m reading a ask v s k o u l (verdict.GoesOn k2 n posts rest q f g o2 next) steps h = h
verdict-step is_due p m reading a ask v s k o u l (verdict.IsDone k2 n posts rest q f left ends) steps h = fetch-same p n reading q (verdict.fetcher q) f k2 left ends ∙ h

verdict-same : (m : TargetMemory) (s : verdict.VerdictStage) (k : Kept) (left : TargetMemory × Did) → verdict.VerdictEnds s k left → SoFar m s → Same m left.0
verdict-same m s k left (verdict.AllTried k2 n posts left2 says) h = ap (λ o. o.0.collecting) says ∙ h

pub plain-same : (t : TargetPlan) (opening : Epoch × FloorWhy) (m : TargetMemory) (reading : ℕ) (from : ActorId) (q : Message) (old new : Kept) (left : TargetMemory × Did) → Hears t opening m reading from q old new left → Same m left.0
plain-same t opening m reading from (message.Fetch x op group ep first tracker r snapshot) old new left h = fetch-same t m reading (fetch_request x op group ep first tracker r snapshot) from h.last new left h.ends
plain-same t opening m reading from (message.Commit x ep first tracker ws) old new left h = commit-same t opening m reading (commit_request x ep first tracker ws) from h.last new left h.ends
plain-same t opening m reading from (message.Prepare e first ws inc) old new left h = prepare-same t opening m (prepare_request e first ws inc) h.last new left h.ends
plain-same t opening m reading from (message.Ack x inc refusal) old new left h = ack-same m h.last new left h.ends
plain-same t opening m reading from (message.Mark inc marks) old new left h = mark-same (told_of_all (attempts_of marks) m) from inc marks h.last new left h.ends ∙ all-told (attempts_of marks) m
plain-same t opening m reading from (message.Marked inc ids) old new left h = marked-same t m from.number inc ids h.last new left h.ends
plain-same t opening m reading from (message.Query x ask) old new left h = query-same t m from x ask h.last new left h.ends
plain-same t opening m reading from (message.Verdict x ask inc v) old new left h =
    verdict-same (told_by v x m) h.last new left h.ends
    (reached-keeps (verdict.VerdictNext is_prepared t (told_by v x m) reading x ask v) (λ s k. SoFar (told_by v x m) s) (verdict-step is_prepared t (told_by v x m) reading x ask v) verdict.Heard old h.last new h.reached tt)
    ∙ told-same v x m
plain-same t opening m reading from q old new left h = absurd h

pub idle-same : (settling : Bool) (t : TargetPlan) (m : TargetMemory) (rest : List AttemptId) (k : Kept) (left : TargetMemory × Did) → IdleEnds settling t m rest k left → Same m left.0
idle-same settling t m rest k left (AllSettled k2 left2 says) = ap (λ o. o.0.collecting) says
