-- The lines that a target adds in a turn: none in a turn as without stops; else of a freeze or an aggregation of its own, or of a snapshot.
use Rattle.std.specs.Prelude.{ℕ, ◌≡◌, ◌⊎◌, Bool, true, false, List, [], ◌∷◌, ◌++◌, Option, Some, None, refl, if◌then◌else◌}
use Rattle.std.proofs.Common.{append-nil, sym, ◌∙◌, ap, subst, inl, inr}
use Rattle.base_types.specs.declared.epoch.Epoch.{Epoch}
use Rattle.base_types.specs.declared.id.AttemptId.{AttemptId}
use Rattle.base_types.specs.declared.id.ContId.{ContId}
use Rattle.base_types.specs.declared.key.Key.{Key}
use Rattle.base_types.specs.declared.outcome.FloorWhy.{FloorWhy}
use Rattle.base_types.specs.declared.outcome.Outcome.{Outcome}
use Rattle.base_types.specs.declared.outcome.Outcome.TheVariants as outcome
use Rattle.base_types.specs.declared.report.Line.{Line}
use Rattle.base_types.specs.declared.report.Line.TheVariants as line
use Rattle.base_messages.specs.declared.actor.ActorId.{ActorId}
use Rattle.base_messages.specs.declared.message.Message.{Message, more_of-Message}
use Rattle.base_messages.specs.declared.message.Message.TheVariants as message
use Rattle.world_base.specs.model_laws.Members.{Has, has-cases}
use Rattle.daos_model.specs.Stops.{aggregate_numbers}
use Rattle.world_base.specs.declared.did.Did.{Did}
use Rattle.world_base.specs.declared.request.CommitRequest.{CommitRequest}
use Rattle.world_base.specs.declared.request.FetchRequest.{FetchRequest}
use Rattle.world_base.specs.declared.request.PrepareRequest.{PrepareRequest}
use Rattle.world_base.specs.declared.target.Collection.{Collection}
use Rattle.world_base.specs.declared.target.TargetMemory.{TargetMemory}
use Rattle.world_base.specs.declared.target.TargetPlan.{TargetPlan}
use Rattle.world_base.specs.Acks as ack
use Rattle.world_base.specs.Changes.{Change, Kept, Steps}
use Rattle.world_base.specs.Commits as commit
use Rattle.world_base.specs.Further.{CommitDown, HearsFurther, IsSpent, IsUnknown, reset_by}
use Rattle.world_base.specs.Idle.{AllSettled, IdleEnds}
use Rattle.world_base.specs.Marks.{AllMarked, MarkEnds}
use Rattle.world_base.specs.PathLaws.{reached-keeps}
use Rattle.world_base.specs.Prepares as prepare
use Rattle.world_base.specs.Reads as read
use Rattle.world_base.specs.Snapshots as snap
use Rattle.world_base.specs.Statuses.{AtOnce, EndsAs, IsDone}
use Rattle.world_base.specs.Stops.{is_prune_message}
use Rattle.world_base.specs.TargetTurns.{Hears, commit_request, fetch_request, prepare_request}
use Rattle.world_base.specs.Turns.{Reached}
use Rattle.world_base.specs.Verdicts as verdict
use Rattle.world_letters.specs.lives.Adding.{aggregates-append}

-- ---- turns as without stops

fetch-lines : (t : TargetPlan) (m : TargetMemory) (reading : ℕ) (q : FetchRequest) (from : ActorId) (s : read.FetchStage) (k : Kept) (left : TargetMemory × Did) → read.FetchEnds t m reading q from s k left → left.1.lines ≡ []
fetch-lines t m reading q from s k left (read.IsSpent k2 left2 live none says) = ap (λ o. o.1.lines) says
fetch-lines t m reading q from s k left (read.IsRefused k2 e decided c left2 why says) = ap (λ o. o.1.lines) says
fetch-lines t m reading q from s k left (read.MeetsUnresolved k2 e decided a left2 free unsettled undecided other says) = ap (λ o. o.1.lines) says
fetch-lines t m reading q from s k left (read.IsParked k2 e decided a leader left2 free unsettled other says) = ap (λ o. o.1.lines) says
fetch-lines t m reading q from s k left (read.IsServed k2 e decided b left2 free served says) = ap (λ o. o.1.lines) says

commit-lines : (t : TargetPlan) (opening : Epoch × FloorWhy) (m : TargetMemory) (reading : ℕ) (q : CommitRequest) (from : ActorId) (s : commit.CommitStage) (k : Kept) (left : TargetMemory × Did)
    → commit.CommitEnds t opening m reading q from s k left → left.1.lines ≡ []
commit-lines t opening m reading q from s k left (commit.IsSpent k2 left2 none says) = ap (λ o. o.1.lines) says
commit-lines t opening m reading q from s k left (commit.IsRefused k2 e c left2 why says) = ap (λ o. o.1.lines) says
commit-lines t opening m reading q from s k left (commit.HasNoSpace k2 e left2 allowed full says) = ap (λ o. o.1.lines) says
commit-lines t opening m reading q from s k left (commit.HasBegun k2 e left2 says) = ap (λ o. o.1.lines) says

prepare-lines : (t : TargetPlan) (opening : Epoch × FloorWhy) (m : TargetMemory) (q : PrepareRequest) (s : prepare.PrepareStage) (k : Kept) (left : TargetMemory × Did) → prepare.PrepareEnds t opening m q s k left → left.1.lines ≡ []
prepare-lines t opening m q s k left (prepare.IsRefused k2 c left2 why says) = ap (λ o. o.1.lines) says
prepare-lines t opening m q s k left (prepare.HasNoSpace k2 left2 allowed full says) = ap (λ o. o.1.lines) says
prepare-lines t opening m q s k left (prepare.IsPrepared k2 left2 says) = ap (λ o. o.1.lines) says

ack-lines : (m : TargetMemory) (s : ack.AckStage) (k : Kept) (left : TargetMemory × Did) → ack.AckEnds m s k left → left.1.lines ≡ []
ack-lines m s k left (ack.IsFollowed k2 step left2 says) = ap (λ o. o.1.lines) says

mark-lines : (m : TargetMemory) (from : ActorId) (inc : ℕ) (marks rest : List (AttemptId × Bool)) (k : Kept) (left : TargetMemory × Did) → MarkEnds m from inc marks rest k left → left.1.lines ≡ []
mark-lines m from inc marks rest k left (AllMarked k2 left2 says) = ap (λ o. o.1.lines) says

marked-lines : (t : TargetPlan) (m : TargetMemory) (member inc : ℕ) (ids rest : List AttemptId) (k : Kept) (left : TargetMemory × Did) → ack.MarkedEnds t m member inc ids rest k left → left.1.lines ≡ []
marked-lines t m member inc ids rest k left (ack.AllConfirmed k2 left2 says) = ap (λ o. o.1.lines) says

query-lines : (t : TargetPlan) (m : TargetMemory) (from : ActorId) (a : AttemptId) (ask : Option AttemptId) (s : verdict.QueryStage) (k : Kept) (left : TargetMemory × Did) → verdict.QueryEnds t m from a ask s k left → left.1.lines ≡ []
query-lines t m from a ask s k left (verdict.IsTold k2 left2 says) = ap (λ o. o.1.lines) says

verdict-lines : (s : verdict.VerdictStage) (k : Kept) (left : TargetMemory × Did) → verdict.VerdictEnds s k left → left.1.lines ≡ []
verdict-lines s k left (verdict.AllTried k2 n posts left2 says) = ap (λ o. o.1.lines) says

pub idle-lines : (settling : Bool) (t : TargetPlan) (m : TargetMemory) (rest : List AttemptId) (k : Kept) (left : TargetMemory × Did) → IdleEnds settling t m rest k left → left.1.lines ≡ []
idle-lines settling t m rest k left (AllSettled k2 left2 says) = ap (λ o. o.1.lines) says

-- a turn as without stops adds none
pub plain-lines : (t : TargetPlan) (opening : Epoch × FloorWhy) (m : TargetMemory) (reading : ℕ) (from : ActorId) (q : Message) (old new : Kept) (left : TargetMemory × Did) → Hears t opening m reading from q old new left → left.1.lines ≡ []
plain-lines t opening m reading from (message.Fetch x op group ep first tracker r snapshot) old new left h = fetch-lines t m reading (fetch_request x op group ep first tracker r snapshot) from h.last new left h.ends
plain-lines t opening m reading from (message.Commit x ep first tracker ws) old new left h = commit-lines t opening m reading (commit_request x ep first tracker ws) from h.last new left h.ends
plain-lines t opening m reading from (message.Prepare e first ws inc) old new left h = prepare-lines t opening m (prepare_request e first ws inc) h.last new left h.ends
plain-lines t opening m reading from (message.Ack x inc refusal) old new left h = ack-lines m h.last new left h.ends
plain-lines t opening m reading from (message.Mark inc marks) old new left h = mark-lines _ from inc marks h.last new left h.ends
plain-lines t opening m reading from (message.Marked inc ids) old new left h = marked-lines t m from.number inc ids h.last new left h.ends
plain-lines t opening m reading from (message.Query x ask) old new left h = query-lines t m from x ask h.last new left h.ends
plain-lines t opening m reading from (message.Verdict x ask inc v) old new left h = verdict-lines h.last new left h.ends
plain-lines t opening m reading from q old new left h = absurd h

-- ---- every turn of a running target

-- a line that a running target adds: of a freeze or an aggregation of its own, or of a snapshot
abbrev pub IsTurnLine : ℕ → Line → Type 0
IsTurnLine t (line.Freeze u c e) = u ≡ t
IsTurnLine t (line.Aggregate n u c e) = u ≡ t
IsTurnLine t (line.Snapshot name c e) = Unit {0}
IsTurnLine t l = ⊥

-- the lines of a turn: such ones, and at most one of an aggregation, of the number that was drawn for it, where it was asked for
pub record AreTurnLines (t number : ℕ) (q : Message) (ls : List Line) : Type 0 where
  pub own : (l : Line) → Has l ls → IsTurnLine t l
  pub numbers : (aggregate_numbers ls ≡ []) ⊎ ((is_prune_message q ≡ true) × (aggregate_numbers ls ≡ number ∷ []))

pub no-lines : (t number : ℕ) (q : Message) (ls : List Line) → ls ≡ [] → AreTurnLines t number q ls
no-lines t number q ls none = record { own = λ l i. absurd (subst (Has l) none i); numbers = inl (ap aggregate_numbers none) }

-- ---- a freeze

-- no line, or that of the freeze
abbrev pub IsFreezeOf : ℕ → ContId → List Line → Type 0
IsFreezeOf t c ls = (ls ≡ []) ⊎ ((s : Epoch) × (ls ≡ line.Freeze t c s ∷ []))

abbrev FrozenRight : ℕ → ContId → snap.FreezeStage → Type 0
FrozenRight t c snap.Asked = Unit {0}
FrozenRight t c (snap.Known s) = Unit {0}
FrozenRight t c (snap.Freezing s) = Unit {0}
FrozenRight t c (snap.Frozen s ls) = IsFreezeOf t c ls
FrozenRight t c (snap.Created s ls) = IsFreezeOf t c ls

freeze-step : (p : TargetPlan) (m : TargetMemory) (reading : ℕ) (tracker : Epoch) (ep : Option Epoch) (c : ContId) (alone : Bool) (s : snap.FreezeStage) (k : Kept) (o : Option Change) (u : snap.FreezeStage) (l : Kept)
    → snap.FreezeNext p m reading tracker ep c alone s k o u → Steps o k l → FrozenRight p.me c s → FrozenRight p.me c u
freeze-step p m reading tracker ep c alone s k o u l (snap.HasEpoch k2 e is) steps h = tt
freeze-step p m reading tracker ep c alone s k o u l (snap.ExtendsLease k2 e lease low is) steps h = tt
freeze-step p m reading tracker ep c alone s k o u l (snap.IsCovered k2 e low) steps h = tt
freeze-step p m reading tracker ep c alone s k o u l (snap.FreezesIt k2 e free unfrozen) steps h = inr (e, refl)
freeze-step p m reading tracker ep c alone s k o u l (snap.IsFrozen k2 e free frozen) steps h = inl refl
freeze-step p m reading tracker ep c alone s k o u l (snap.CreatesIt k2 e ls only) steps h = h

freeze-right : (p : TargetPlan) (m : TargetMemory) (reading : ℕ) (tracker : Epoch) (ep : Option Epoch) (c : ContId) (alone : Bool) (old : Kept) (last : snap.FreezeStage) (new : Kept)
    → Reached (snap.FreezeNext p m reading tracker ep c alone) snap.Asked old last new → FrozenRight p.me c last
freeze-right p m reading tracker ep c alone old last new w =
    reached-keeps (snap.FreezeNext p m reading tracker ep c alone) (λ s k. FrozenRight p.me c s) (freeze-step p m reading tracker ep c alone) snap.Asked old last new w tt

pub freeze-are : (t number : ℕ) (q : Message) (c : ContId) (ls : List Line) → IsFreezeOf t c ls → AreTurnLines t number q ls
freeze-are t number q c ls (inl none) = no-lines t number q ls none
freeze-are t number q c ls (inr one) = record { own = λ l i. by l (subst (Has l) one.1 i); numbers = inl (ap aggregate_numbers one.1) }
  where
    by : (l : Line) → Has l (line.Freeze t c one.0 ∷ []) → IsTurnLine t l
    by l (inl same) = subst (IsTurnLine t) (sym same) refl
    by l (inr none) = absurd none

-- a snapshot's line behind others
with-snapshot : (t number : ℕ) (q : Message) (ls : List Line) (name : Key) (c : ContId) (s : Epoch) → AreTurnLines t number q ls → AreTurnLines t number q (ls ++ line.Snapshot name c s ∷ [])
with-snapshot t number q ls name c s k = record {
  own = λ l i. elim (has-cases ls (line.Snapshot name c s ∷ []) l i) [ inl j ↦ k.own l j | inr j ↦ by l j ];
  numbers = subst (λ ns. (ns ≡ []) ⊎ ((is_prune_message q ≡ true) × (ns ≡ number ∷ []))) (sym (aggregates-append ls (line.Snapshot name c s ∷ []) ∙ append-nil (aggregate_numbers ls))) k.numbers;
}
  where
    by : (l : Line) → Has l (line.Snapshot name c s ∷ []) → IsTurnLine t l
    by l (inl same) = subst (IsTurnLine t) (sym same) tt
    by l (inr none) = absurd none

snap-lines : (p : TargetPlan) (m : TargetMemory) (reading : ℕ) (tracker : Epoch) (x : AttemptId) (c : ContId) (name : Key) (from : ActorId) (number : ℕ) (q : Message) (s : snap.FreezeStage) (k : Kept) (left : TargetMemory × Did)
    → FrozenRight p.me c s → snap.SnapEnds p m reading tracker x c name from s k left → AreTurnLines p.me number q left.1.lines
snap-lines p m reading tracker x c name from number q s k left h (snap.IsSpent k2 left2 none says) = no-lines p.me number q left2.1.lines (ap (λ o. o.1.lines) says)
snap-lines p m reading tracker x c name from number q s k left h (snap.IsRefused k2 e how left2 why says) = no-lines p.me number q left2.1.lines (ap (λ o. o.1.lines) says)
snap-lines p m reading tracker x c name from number q s k left h (snap.AsksOthers k2 e ls left2 others says) = subst (AreTurnLines p.me number q) (sym (ap (λ o. o.1.lines) says)) (freeze-are p.me number q c ls h)
snap-lines p m reading tracker x c name from number q s k left h (snap.IsAlone k2 e ls left2 says) = subst (AreTurnLines p.me number q) (sym (ap (λ o. o.1.lines) says)) (with-snapshot p.me number q ls name c e (freeze-are p.me number q c ls h))

freeze-lines : (p : TargetPlan) (m : TargetMemory) (x : AttemptId) (c : ContId) (from : ActorId) (number : ℕ) (q : Message) (s : snap.FreezeStage) (k : Kept) (left : TargetMemory × Did) → FrozenRight p.me c s → snap.FreezeEnds p m x c from s k left
    → AreTurnLines p.me number q left.1.lines
freeze-lines p m x c from number q s k left h (snap.IsRefused k2 e how left2 why says) = no-lines p.me number q left2.1.lines (ap (λ o. o.1.lines) says)
freeze-lines p m x c from number q s k left h (snap.IsHeld k2 e ls left2 says) = subst (AreTurnLines p.me number q) (sym (ap (λ o. o.1.lines) says)) (freeze-are p.me number q c ls h)

-- ---- a prune

-- no line, or that of the aggregation
abbrev pub IsPruneOf : ℕ → ℕ → ContId → List Line → Type 0
IsPruneOf t number c ls = (ls ≡ []) ⊎ ((upto : Epoch) × (ls ≡ line.Aggregate number t c upto ∷ []))

abbrev PrunedRight : ℕ → ℕ → ContId → snap.PruneStage → Type 0
PrunedRight t number c snap.Asked = Unit {0}
PrunedRight t number c (snap.Known g) = Unit {0}
PrunedRight t number c (snap.Settling g decided) = Unit {0}
PrunedRight t number c (snap.Pruned g ls) = IsPruneOf t number c ls

prune-step : (p : TargetPlan) (m : TargetMemory) (reading : ℕ) (tracker : Epoch) (ep : Option Epoch) (c : ContId) (number : ℕ) (s : snap.PruneStage) (k : Kept) (o : Option Change) (u : snap.PruneStage) (l : Kept)
    → snap.PruneNext p m reading tracker ep c number s k o u → Steps o k l → PrunedRight p.me number c s → PrunedRight p.me number c u
prune-step p m reading tracker ep c number s k o u l (snap.HasEpoch k2 g is) steps h = tt
prune-step p m reading tracker ep c number s k o u l (snap.ExtendsLease k2 g lease low is) steps h = tt
prune-step p m reading tracker ep c number s k o u l (snap.IsCovered k2 g low) steps h = tt
prune-step p m reading tracker ep c number s k o u l (snap.SettlesFirst k2 g a rest) steps h = tt
prune-step p m reading tracker ep c number s k o u l (snap.PrunesIt k2 g due) steps h = inr (_, refl)
prune-step p m reading tracker ep c number s k o u l (snap.PassesBy k2 g due) steps h = inl refl

prune-right : (p : TargetPlan) (m : TargetMemory) (reading : ℕ) (tracker : Epoch) (ep : Option Epoch) (c : ContId) (number : ℕ) (old : Kept) (last : snap.PruneStage) (new : Kept)
    → Reached (snap.PruneNext p m reading tracker ep c number) snap.Asked old last new → PrunedRight p.me number c last
prune-right p m reading tracker ep c number old last new w =
    reached-keeps (snap.PruneNext p m reading tracker ep c number) (λ s k. PrunedRight p.me number c s) (prune-step p m reading tracker ep c number) snap.Asked old last new w tt

pub prune-are : (t number : ℕ) (q : Message) (c : ContId) (ls : List Line) → is_prune_message q ≡ true → IsPruneOf t number c ls → AreTurnLines t number q ls
prune-are t number q c ls prunes (inl none) = no-lines t number q ls none
prune-are t number q c ls prunes (inr one) = record { own = λ l i. by l (subst (Has l) one.1 i); numbers = inr (prunes, ap aggregate_numbers one.1) }
  where
    by : (l : Line) → Has l (line.Aggregate number t c one.0 ∷ []) → IsTurnLine t l
    by l (inl same) = subst (IsTurnLine t) (sym same) refl
    by l (inr none) = absurd none

aggregate-lines : (p : TargetPlan) (m : TargetMemory) (reading : ℕ) (tracker : Epoch) (x : AttemptId) (c : ContId) (from : ActorId) (number : ℕ) (q : Message) (s : snap.PruneStage) (k : Kept) (left : TargetMemory × Did)
    → is_prune_message q ≡ true → PrunedRight p.me number c s → snap.AggregateEnds p m reading tracker x c from s k left → AreTurnLines p.me number q left.1.lines
aggregate-lines p m reading tracker x c from number q s k left prunes h (snap.IsSpent k2 left2 none says) = no-lines p.me number q left2.1.lines (ap (λ o. o.1.lines) says)
aggregate-lines p m reading tracker x c from number q s k left prunes h (snap.AsksOthers k2 g ls left2 others says) = subst (AreTurnLines p.me number q) (sym (ap (λ o. o.1.lines) says)) (prune-are p.me number q c ls prunes h)
aggregate-lines p m reading tracker x c from number q s k left prunes h (snap.IsAlone k2 g ls left2 only says) = subst (AreTurnLines p.me number q) (sym (ap (λ o. o.1.lines) says)) (prune-are p.me number q c ls prunes h)

prune-lines : (p : TargetPlan) (m : TargetMemory) (x : AttemptId) (from : ActorId) (c : ContId) (number : ℕ) (q : Message) (s : snap.PruneStage) (k : Kept) (left : TargetMemory × Did)
    → is_prune_message q ≡ true → PrunedRight p.me number c s → snap.PruneEnds m x from s k left → AreTurnLines p.me number q left.1.lines
prune-lines p m x from c number q s k left prunes h (snap.IsHeld k2 g ls left2 says) = subst (AreTurnLines p.me number q) (sym (ap (λ o. o.1.lines) says)) (prune-are p.me number q c ls prunes h)

-- ---- a Held

held-none : (p : TargetPlan) (m : TargetMemory) (from : ℕ) (x : AttemptId) (refusal : Option Outcome) (o : Option Collection) → (snap.held_by p m from x refusal o).1.lines ≡ []
held-none p m from x refusal None = refl
held-none p m from x (Some how) (Some c) = refl
held-none p m from x None (Some c) = by (snap.is_last p from c)
  where
    ends : Bool → TargetMemory × Did
    ends b = if b then (snap.collected x m, snap.follows (snap.to_actor c.client (message.Ended x (Some c.epoch) outcome.Committed)) [] None) else (snap.counts_held x from m, snap.follows [] [] None)

    by : (b : Bool) → (ends b).1.lines ≡ []
    by true = refl
    by false = refl

held-lines : (p : TargetPlan) (m : TargetMemory) (from : ℕ) (x : AttemptId) (refusal : Option Outcome) (number : ℕ) (q : Message) (s : snap.HeldStage) (k : Kept) (left : TargetMemory × Did) → snap.HeldEnds p m from x refusal s k left
    → AreTurnLines p.me number q left.1.lines
held-lines p m from x refusal number q s k left (snap.IsCounted k2 left2 says) = no-lines p.me number q left2.1.lines (ap (λ o. o.1.lines) says ∙ held-none p m from x refusal (snap.collection_of x m))
held-lines p m from x refusal number q s k left (snap.IsCreated k2 c name left2 says) =
    subst (AreTurnLines p.me number q) (sym (ap (λ o. o.1.lines) says)) (with-snapshot p.me number q [] name c.cont c.epoch (no-lines p.me number q [] refl))

-- ---- what else is heard

down-lines : (t : TargetPlan) (m : TargetMemory) (reading : ℕ) (q : CommitRequest) (from : ActorId) (s : commit.CommitStage) (k : Kept) (left : TargetMemory × Did) → CommitDown t m reading q from s k left → left.1.lines ≡ []
down-lines t m reading q from s k left (IsSpent k2 e down left2 none is says) = ap (λ o. o.1.lines) says
down-lines t m reading q from s k left (IsUnknown k2 e down left2 is says) = ap (λ o. o.1.lines) says

at-once : (left_by : Kept → TargetMemory × Did) (s : AtOnce) (k : Kept) (left : TargetMemory × Did) → ((j : Kept) → (left_by j).1.lines ≡ []) → EndsAs left_by s k left → left.1.lines ≡ []
at-once left_by s k left none (IsDone k2 left2 says) = ap (λ o. o.1.lines) says ∙ none k2

reset-none : (t : TargetPlan) (m : TargetMemory) (by : ℕ) (down : Bool) (asked : Message) (k : Kept) → (reset_by t m by down asked k).1.lines ≡ []
reset-none t m by down (message.Freeze x c s) k = refl
reset-none t m by down (message.Prune x c tracker e) k = refl
reset-none t m by down asked k = refl

-- and so of every further message
pub further-lines : (number : ℕ) (t : TargetPlan) (opening : Epoch × FloorWhy) (m : TargetMemory) (reading : ℕ) (from : ActorId) (q : Message) (old new : Kept) (left : TargetMemory × Did) → HearsFurther number t opening m reading from q old new left
    → AreTurnLines t.me number q left.1.lines
further-lines number t opening m reading from (message.Commit x ep first tracker ws) old new left h = no-lines t.me number _ left.1.lines (down-lines t m reading (commit_request x ep first tracker ws) from h.last new left h.ends)
further-lines number t opening m reading from (message.Ask x) old new left h = no-lines t.me number _ left.1.lines (at-once _ h.last new left (λ j. refl) h.ends)
further-lines number t opening m reading from (message.Status x inc) old new left h = no-lines t.me number _ left.1.lines (at-once _ h.last new left (λ j. refl) h.ends)
further-lines number t opening m reading from (message.StatusIs x inc how) old new left h = no-lines t.me number _ left.1.lines (ack-lines m h.last new left h.ends)
further-lines number t opening m reading from (message.Snap x c called tracker) old new left h =
    snap-lines t m reading tracker x c called from number (message.Snap x c called tracker) h.last new left (freeze-right t m reading tracker None c (snap.is_held_by_all t 0) old h.last new h.reached) h.ends
further-lines number t opening m reading from (message.Freeze x c s) old new left h =
    freeze-lines t m x c from number (message.Freeze x c s) h.last new left (freeze-right t m reading s (Some s) c false old h.last new h.reached) h.ends
further-lines number t opening m reading from (message.Held x refusal) old new left h = held-lines t m from.number x refusal number (message.Held x refusal) h.last new left h.ends
further-lines number t opening m reading from (message.Prune x c (Some tracker) None) old new left h =
    aggregate-lines t m reading tracker x c from number (message.Prune x c (Some tracker) None) h.last new left refl (prune-right t m reading tracker None c number old h.last new h.reached) h.ends
further-lines number t opening m reading from (message.Prune x c None (Some g)) old new left h =
    prune-lines t m x from c number (message.Prune x c None (Some g)) h.last new left refl (prune-right t m reading g (Some g) c number old h.last new h.reached) h.ends
further-lines number t opening m reading from (message.Reset' by down place (more_of-Message asked rest)) old new left h = no-lines t.me number _ left.1.lines (at-once _ h.last new left (λ j. reset-none t m by down asked j) h.ends)
further-lines number t opening m reading from q old new left h = absurd h
