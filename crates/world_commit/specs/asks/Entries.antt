-- What a turn does to the entry of an attempt that it neither stores nor takes away.
use Rattle.std.specs.Prelude.{ℕ, ◌≡◌, ◌^◌, bit_or, Bool, true, false, List, Option, Some, None, refl, if◌then◌else◌}
use Rattle.std.specs.Option.{option_map}
use Rattle.std.proofs.Common.{sym, ◌∙◌, ap, subst, inl, inr}
use Rattle.base_types.specs.declared.entry.Entry.{Entry}
use Rattle.base_types.specs.declared.entry.Settle.TheVariants.{Abort, Commit, Confirm, Forget}
use Rattle.base_types.specs.declared.entry.Verdict.{Verdict}
use Rattle.base_types.specs.declared.entry.Verdict.TheVariants as said
use Rattle.base_types.specs.declared.epoch.Epoch.{Epoch}
use Rattle.base_types.specs.declared.id.AttemptId.{AttemptId}
use Rattle.base_types.specs.declared.outcome.FloorWhy.{FloorWhy}
use Rattle.base_types.specs.declared.outcome.Outcome.{Outcome}
use Rattle.model_laws.specs.Members.{Has, has-map}
use Rattle.base_messages.specs.declared.actor.ActorId.{ActorId}
use Rattle.base_messages.specs.declared.message.Message.{Message}
use Rattle.base_messages.specs.declared.message.Message.TheVariants as message
use Rattle.daos_model.specs.declared.durable.Durable.{Durable}
use Rattle.daos_model.specs.Changes.{committed_at, confirmed_at, leased, prepared, settled}
use Rattle.daos_model.specs.Durables.{entry_of, same_attempt}
use Rattle.dtx_base.specs.Leading.{attempts_of, marked_attempt}
use Rattle.world_commit.specs.attempts.Turning.{one-or_other}
use Rattle.world_base.specs.declared.did.Did.{Did}
use Rattle.world_base.specs.declared.request.CommitRequest.{CommitRequest}
use Rattle.world_base.specs.declared.request.FetchRequest.{FetchRequest}
use Rattle.world_base.specs.declared.request.PrepareRequest.{PrepareRequest}
use Rattle.world_base.specs.declared.target.TargetMemory.{TargetMemory}
use Rattle.world_base.specs.declared.target.TargetPlan.{TargetPlan}
use Rattle.world_base.specs.Acks as ack
use Rattle.world_base.specs.Changes.{Change, Creates, Extends, Freezes, Kept, Prepares, Prunes, Settles, Steps}
use Rattle.world_base.specs.Commits as commit
use Rattle.world_base.specs.DoubtLaws.{in_doubt-prepared}
use Rattle.world_base.specs.EntryLaws.{entry-aborted, entry-aborted_other, entry-committed, entry-confirmed, entry-leased, entry-prepared_other}
use Rattle.world_base.specs.Idle.{IdleNext, SettlesFirst}
use Rattle.world_base.specs.LoopLaws.{marks-keep}
use Rattle.world_base.specs.Marks as mark
use Rattle.world_base.specs.PathLaws.{reached-keeps}
use Rattle.world_base.specs.Prepares as prepare
use Rattle.world_base.specs.Reads as read
use Rattle.world_base.specs.RightTurns.{HearsRightly}
use Rattle.world_base.specs.Roles.{is_in_doubt}
use Rattle.world_base.specs.TargetTurns.{IdlesWhole, commit_request, fetch_request, prepare_request}
use Rattle.world_base.specs.Turns.{Whole}
use Rattle.world_base.specs.Verdicts as verdict

-- ---- entries

-- no entry of an attempt is prepared here
abbrev pub Unprepared : Durable → AttemptId → Type 0
Unprepared d x = (e : Entry) → entry_of d x ≡ Some e → e.committed ≡ true

-- there is an entry of an attempt here
abbrev pub IsKept : Durable → AttemptId → Type 0
IsKept d x = (e : Entry) × (entry_of d x ≡ Some e)

unprepared-same : (d e : Durable) (x : AttemptId) → entry_of e x ≡ entry_of d x → Unprepared d x → Unprepared e x
unprepared-same d e x same k f at = k f (sym same ∙ at)

kept-same : (d e : Durable) (x : AttemptId) → entry_of e x ≡ entry_of d x → IsKept d x → IsKept e x
kept-same d e x same k = (k.0, same ∙ k.1)

pub mapped : {T U : Type 0} (f : T → U) (o : Option T) (u : U) → option_map f o ≡ Some u → (x : T) × (o ≡ Some x) × (f x ≡ u)
mapped f None u h = let no : ⊥ = cc in absurd no
mapped f (Some x) u h = (x, refl, cc)

unprepared-mapped : (f : Entry → Entry) → ((e : Entry) → e.committed ≡ true → (f e).committed ≡ true) → (d e : Durable) (x : AttemptId) → entry_of e x ≡ option_map f (entry_of d x) → Unprepared d x → Unprepared e x
unprepared-mapped f stays d e x is k g at = let o = mapped f (entry_of d x) g (sym is ∙ at) in ap (λ z. z.committed) (sym o.2) ∙ stays o.0 (k o.0 o.1)

kept-mapped : (f : Entry → Entry) (d e : Durable) (x : AttemptId) → entry_of e x ≡ option_map f (entry_of d x) → IsKept d x → IsKept e x
kept-mapped f d e x is k = (f k.0, is ∙ ap (option_map f) k.1)

committed-stays : (a : AttemptId) (e : Entry) → e.committed ≡ true → (committed_at a e).committed ≡ true
committed-stays a e h = by (same_attempt e.attempt a)
  where
    by : (s : Bool) → (if s then record e { committed = true } else e).committed ≡ true
    by true = refl
    by false = h

confirmed-stays : (a : AttemptId) (t : ℕ) (e : Entry) → e.committed ≡ true → (confirmed_at a t e).committed ≡ true
confirmed-stays a t e h = by (same_attempt e.attempt a)
  where
    by : (s : Bool) → (if s then record e { confirmed = bit_or e.confirmed (2 ^ t) } else e).committed ≡ true
    by true = h
    by false = h

-- ---- changes

-- a change doesn't store an attempt
abbrev pub StoresNot : AttemptId → Option Change → Type 0
StoresNot x None = Unit {0}
StoresNot x (Some (Extends ticks)) = Unit {0}
StoresNot x (Some (Prepares e ws)) = x ≡ e.attempt → ⊥
StoresNot x (Some (Settles a Commit)) = Unit {0}
StoresNot x (Some (Settles a Abort)) = Unit {0}
StoresNot x (Some (Settles a (Confirm t))) = Unit {0}
StoresNot x (Some (Settles a Forget)) = ⊥
StoresNot x (Some (Freezes f z)) = ⊥
StoresNot x (Some (Creates f z)) = ⊥
StoresNot x (Some (Prunes f z n)) = ⊥

-- nor takes it away
abbrev pub Spares : AttemptId → Option Change → Type 0
Spares x None = Unit {0}
Spares x (Some (Extends ticks)) = Unit {0}
Spares x (Some (Prepares e ws)) = x ≡ e.attempt → ⊥
Spares x (Some (Settles a Commit)) = Unit {0}
Spares x (Some (Settles a Abort)) = x ≡ a → ⊥
Spares x (Some (Settles a (Confirm t))) = Unit {0}
Spares x (Some (Settles a Forget)) = ⊥
Spares x (Some (Freezes f z)) = ⊥
Spares x (Some (Creates f z)) = ⊥
Spares x (Some (Prunes f z n)) = ⊥

pub aborted-unprepared : (a : AttemptId) (d : Durable) (x : AttemptId) → Unprepared d x → Unprepared (settled a Abort d) x
aborted-unprepared a d x k = elim (one-or_other x a) [
  | inl same ↦ subst (λ y. Unprepared (settled a Abort d) y) (sym same) (λ e at. let no : ⊥ = cc (at, entry-aborted a d) in absurd no)
  | inr apart ↦ unprepared-same d (settled a Abort d) x (entry-aborted_other a d x apart) k
]

pub unprepared-step : (x : AttemptId) (o : Option Change) (k l : Kept) → Steps o k l → StoresNot x o → Unprepared k.durable x → Unprepared l.durable x
unprepared-step x None k l st spares h = subst (λ z. Unprepared z.durable x) (sym st) h
unprepared-step x (Some (Extends ticks)) k l st spares h = subst (λ d. Unprepared d x) (sym st.0) (unprepared-same k.durable (leased ticks k.durable) x (entry-leased ticks k.durable x) h)
unprepared-step x (Some (Prepares e ws)) k l st spares h = subst (λ d. Unprepared d x) (sym st.0) (unprepared-same k.durable (prepared e ws k.durable) x (entry-prepared_other e ws k.durable x spares) h)
unprepared-step x (Some (Settles a Commit)) k l st spares h =
    subst (λ d. Unprepared d x) (sym st.0) (unprepared-mapped (committed_at a) (committed-stays a) k.durable (settled a Commit k.durable) x (entry-committed a k.durable x) h)
unprepared-step x (Some (Settles a Abort)) k l st spares h = subst (λ d. Unprepared d x) (sym st.0) (aborted-unprepared a k.durable x h)
unprepared-step x (Some (Settles a (Confirm t))) k l st spares h =
    subst (λ d. Unprepared d x) (sym st.0) (unprepared-mapped (confirmed_at a t) (confirmed-stays a t) k.durable (settled a (Confirm t) k.durable) x (entry-confirmed a t k.durable x) h)
unprepared-step x (Some (Settles a Forget)) k l st spares h = absurd spares
unprepared-step x (Some (Freezes f z)) k l st spares h = absurd spares
unprepared-step x (Some (Creates f z)) k l st spares h = absurd spares
unprepared-step x (Some (Prunes f z n)) k l st spares h = absurd spares

pub kept-step : (x : AttemptId) (o : Option Change) (k l : Kept) → Steps o k l → Spares x o → IsKept k.durable x → IsKept l.durable x
kept-step x None k l st spares h = subst (λ z. IsKept z.durable x) (sym st) h
kept-step x (Some (Extends ticks)) k l st spares h = subst (λ d. IsKept d x) (sym st.0) (kept-same k.durable (leased ticks k.durable) x (entry-leased ticks k.durable x) h)
kept-step x (Some (Prepares e ws)) k l st spares h = subst (λ d. IsKept d x) (sym st.0) (kept-same k.durable (prepared e ws k.durable) x (entry-prepared_other e ws k.durable x spares) h)
kept-step x (Some (Settles a Commit)) k l st spares h = subst (λ d. IsKept d x) (sym st.0) (kept-mapped (committed_at a) k.durable (settled a Commit k.durable) x (entry-committed a k.durable x) h)
kept-step x (Some (Settles a Abort)) k l st spares h = subst (λ d. IsKept d x) (sym st.0) (kept-same k.durable (settled a Abort k.durable) x (entry-aborted_other a k.durable x spares) h)
kept-step x (Some (Settles a (Confirm t))) k l st spares h = subst (λ d. IsKept d x) (sym st.0) (kept-mapped (confirmed_at a t) k.durable (settled a (Confirm t) k.durable) x (entry-confirmed a t k.durable x) h)
kept-step x (Some (Settles a Forget)) k l st spares h = absurd spares
kept-step x (Some (Freezes f z)) k l st spares h = absurd spares
kept-step x (Some (Creates f z)) k l st spares h = absurd spares
kept-step x (Some (Prunes f z n)) k l st spares h = absurd spares

-- ---- turns whose steps spare an attempt

module _ {S R : Type 0} (Next : S → Kept → Option Change → S → Type 0) (Ends : S → Kept → R → Type 0) (start : S) (old new : Kept) (result : R) (x : AttemptId) (w : Whole Next Ends start old new result) where
  pub whole-unprepared : ((s : S) (k : Kept) (o : Option Change) (u : S) → Next s k o u → StoresNot x o) → Unprepared old.durable x → Unprepared new.durable x
  whole-unprepared spares h = reached-keeps Next (λ s k. Unprepared k.durable x) (λ s k o u l next steps z. unprepared-step x o k l steps (spares s k o u next) z) start old w.last new w.reached h

  pub whole-kept : ((s : S) (k : Kept) (o : Option Change) (u : S) → Next s k o u → Spares x o) → IsKept old.durable x → IsKept new.durable x
  whole-kept spares h = reached-keeps Next (λ s k. IsKept k.durable x) (λ s k o u l next steps z. kept-step x o k l steps (spares s k o u next) z) start old w.last new w.reached h

pub fetch-spares : (t : TargetPlan) (m : TargetMemory) (reading : ℕ) (q : FetchRequest) (x : AttemptId) (s : read.FetchStage) (k : Kept) (o : Option Change) (u : read.FetchStage)
    → read.FetchNext t m reading q s k o u → Spares x o × StoresNot x o
fetch-spares t m reading q x s k o u (read.AtSnapshot j e at is) = (tt, tt)
fetch-spares t m reading q x s k o u (read.HasEpoch j e at is) = (tt, tt)
fetch-spares t m reading q x s k o u (read.ExtendsLease j e lease low is) = (tt, tt)
fetch-spares t m reading q x s k o u (read.IsCovered j e low) = (tt, tt)
fetch-spares t m reading q x s k o u (read.SettlesOwn j e decided a none unsettled among) = (tt, tt)

pub commit-spares : (t : TargetPlan) (opening : Epoch × FloorWhy) (m : TargetMemory) (reading : ℕ) (q : CommitRequest) (x : AttemptId) → (x ≡ q.attempt → ⊥) → (s : commit.CommitStage) (k : Kept) (o : Option Change) (u : commit.CommitStage)
    → commit.CommitNext t opening m reading q s k o u → Spares x o × StoresNot x o
commit-spares t opening m reading q x apart s k o u (commit.HasEpoch j e is) = (tt, tt)
commit-spares t opening m reading q x apart s k o u (commit.ExtendsLease j e lease low is) = (tt, tt)
commit-spares t opening m reading q x apart s k o u (commit.IsCovered j e low) = (tt, tt)
commit-spares t opening m reading q x apart s k o u (commit.Stores j e allowed space) = (apart, apart)

pub prepare-spares : (t : TargetPlan) (opening : Epoch × FloorWhy) (m : TargetMemory) (q : PrepareRequest) (x : AttemptId) → (x ≡ q.entry.attempt → ⊥) → (s : prepare.PrepareStage) (k : Kept) (o : Option Change) (u : prepare.PrepareStage)
    → prepare.PrepareNext t opening m q s k o u → Spares x o × StoresNot x o
prepare-spares t opening m q x apart s k o u (prepare.ExtendsLease j lease low is) = (tt, tt)
prepare-spares t opening m q x apart s k o u (prepare.IsCovered j low) = (tt, tt)
prepare-spares t opening m q x apart s k o u (prepare.Stores j allowed space) = (apart, apart)

pub ack-stores_not : (t : TargetPlan) (m : TargetMemory) (member : ℕ) (a : AttemptId) (inc : ℕ) (refusal : Option Outcome) (x : AttemptId) (s : ack.AckStage) (k : Kept) (o : Option Change) (u : ack.AckStage)
    → ack.AckNext t m member a inc refusal s k o u → StoresNot x o
ack-stores_not t m member a inc refusal x s k o u (ack.Aborts j is) = tt
ack-stores_not t m member a inc refusal x s k o u (ack.Counts j is) = tt

pub marked-spares : (t : TargetPlan) (m : TargetMemory) (member : ℕ) (x : AttemptId) (s : List AttemptId) (k : Kept) (o : Option Change) (u : List AttemptId) → ack.MarkedNext t m member s k o u → Spares x o × StoresNot x o
marked-spares t m member x s k o u (ack.Confirms j a rest is) = (tt, tt)
marked-spares t m member x s k o u (ack.PassesBy j a rest is) = (tt, tt)

marking-stores_not : (x a : AttemptId) (committed : Bool) → StoresNot x (Some (Settles a (mark.marked_step committed)))
marking-stores_not x a true = tt
marking-stores_not x a false = tt

pub marking-spares : (x a : AttemptId) (committed : Bool) → (x ≡ a → ⊥) → Spares x (Some (Settles a (mark.marked_step committed)))
marking-spares x a true apart = tt
marking-spares x a false apart = apart

mark-stores_not : (me : ℕ) (x : AttemptId) (s : List (AttemptId × Bool)) (k : Kept) (o : Option Change) (u : List (AttemptId × Bool)) → mark.MarkNext (is_in_doubt me) s k o u → StoresNot x o
mark-stores_not me x s k o u (mark.SettlesMarked j a committed rest is) = marking-stores_not x a committed
mark-stores_not me x s k o u (mark.PassesBy j a committed rest is) = tt

query-spares : (x : AttemptId) (s : verdict.QueryStage) (k : Kept) (o : Option Change) (u : verdict.QueryStage) → verdict.QueryNext s k o u → Spares x o × StoresNot x o
query-spares x s k o u (verdict.Answers j) = (tt, tt)

-- a Verdict's settling stores nothing, and takes away only its own attempt
step-stores_not : (x a : AttemptId) (v : Verdict) (b : Bool) → StoresNot x (verdict.settling_change a (verdict.step_if b (verdict.step_by v)))
step-stores_not x a v false = tt
step-stores_not x a said.Committed true = tt
step-stores_not x a said.Aborted true = tt
step-stores_not x a said.Undecided true = tt

pub step-spares : (x a : AttemptId) (v : Verdict) (b : Bool) → (x ≡ a → ⊥) → Spares x (verdict.settling_change a (verdict.step_if b (verdict.step_by v)))
step-spares x a v false apart = tt
step-spares x a said.Committed true apart = tt
step-spares x a said.Aborted true apart = apart
step-spares x a said.Undecided true apart = tt

verdict-stores_not : (t : TargetPlan) (m : TargetMemory) (reading : ℕ) (a : AttemptId) (ask : Option AttemptId) (v : Verdict) (x : AttemptId) (s : verdict.VerdictStage) (k : Kept) (o : Option Change) (u : verdict.VerdictStage)
    → verdict.VerdictNext (is_in_doubt t.me) t m reading a ask v s k o u → StoresNot x o
verdict-stores_not t m reading a ask v x s k o u (verdict.SettlesBy j p is) = subst (StoresNot x) (sym is) (step-stores_not x a v (is_in_doubt t.me a k.durable))
verdict-stores_not t m reading a ask v x s k o u (verdict.TriesNext j n posts rest y op group ep first tracker r snapshot) = tt
verdict-stores_not t m reading a ask v x s k o u (verdict.GoesOn j n posts rest q i z p next) = (fetch-spares t n reading q x i k o z next).1
verdict-stores_not t m reading a ask v x s k o u (verdict.IsDone j n posts rest q i left ends) = tt

-- whichever attempts are due to be settled
pub verdict-spares : (is_due : AttemptId → Durable → Bool) (t : TargetPlan) (m : TargetMemory) (reading : ℕ) (a : AttemptId) (ask : Option AttemptId) (v : Verdict) (x : AttemptId) → (x ≡ a → ⊥) → (s : verdict.VerdictStage) (k : Kept) (o : Option Change) (u : verdict.VerdictStage)
    → verdict.VerdictNext is_due t m reading a ask v s k o u → Spares x o
verdict-spares is_due t m reading a ask v x apart s k o u (verdict.SettlesBy j p is) = subst (Spares x) (sym is) (step-spares x a v (is_due a k.durable) apart)
verdict-spares is_due t m reading a ask v x apart s k o u (verdict.TriesNext j n posts rest y op group ep first tracker r snapshot) = tt
verdict-spares is_due t m reading a ask v x apart s k o u (verdict.GoesOn j n posts rest q i z p next) = (fetch-spares t n reading q x i k o z next).0
verdict-spares is_due t m reading a ask v x apart s k o u (verdict.IsDone j n posts rest q i left ends) = tt

pub idle-spares : (x : AttemptId) (s : List AttemptId) (k : Kept) (o : Option Change) (u : List AttemptId) → IdleNext s k o u → Spares x o × StoresNot x o
idle-spares x s k o u (SettlesFirst j a rest) = (tt, tt)

-- ---- an attempt of which nothing is prepared

-- a message doesn't bring an attempt to be stored
abbrev pub BringsNot : AttemptId → Message → Type 0
BringsNot x (message.Commit y ep first tracker ws) = x ≡ y → ⊥
BringsNot x (message.Prepare e first ws inc) = x ≡ e.attempt → ⊥
BringsNot x q = Unit {0}

pub hears-unprepared : (t : TargetPlan) (opening : Epoch × FloorWhy) (m : TargetMemory) (reading : ℕ) (from : ActorId) (q : Message) (old new : Kept) (left : TargetMemory × Did) (x : AttemptId)
    → HearsRightly t opening m reading from q old new left → BringsNot x q → Unprepared old.durable x → Unprepared new.durable x
hears-unprepared t opening m reading from (message.Fetch y op group ep first tracker r snapshot) old new left x h spares =
    whole-unprepared _ _ _ old new left x h (λ s k o u next. (fetch-spares t m reading (fetch_request y op group ep first tracker r snapshot) x s k o u next).1)
hears-unprepared t opening m reading from (message.Commit y ep first tracker ws) old new left x h spares =
    whole-unprepared _ _ _ old new left x h (λ s k o u next. (commit-spares t opening m reading (commit_request y ep first tracker ws) x spares s k o u next).1)
hears-unprepared t opening m reading from (message.Prepare e first ws inc) old new left x h spares =
    whole-unprepared _ _ _ old new left x h (λ s k o u next. (prepare-spares t opening m (prepare_request e first ws inc) x spares s k o u next).1)
hears-unprepared t opening m reading from (message.Ack y inc refusal) old new left x h spares = whole-unprepared _ _ _ old new left x h (ack-stores_not t m from.number y inc refusal x)
hears-unprepared t opening m reading from (message.Mark inc marks) old new left x h spares = whole-unprepared _ _ _ old new left x h (mark-stores_not t.me x)
hears-unprepared t opening m reading from (message.Marked inc ids) old new left x h spares = whole-unprepared _ _ _ old new left x h (λ s k o u next. (marked-spares t m from.number x s k o u next).1)
hears-unprepared t opening m reading from (message.Query y ask) old new left x h spares = whole-unprepared _ _ _ old new left x h (λ s k o u next. (query-spares x s k o u next).1)
hears-unprepared t opening m reading from (message.Verdict y ask inc v) old new left x h spares = whole-unprepared _ _ _ old new left x h (verdict-stores_not t m reading y ask v x)
hears-unprepared t opening m reading from q old new left x h spares = absurd h

pub idles-unprepared : (settling : Bool) (t : TargetPlan) (m : TargetMemory) (old new : Kept) (left : TargetMemory × Did) (x : AttemptId) → IdlesWhole settling t m old new left → Unprepared old.durable x → Unprepared new.durable x
idles-unprepared settling t m old new left x h = whole-unprepared _ _ _ old new left x h (λ s k o u next. (idle-spares x s k o u next).1)

-- ---- an attempt that has an entry

-- a message doesn't end an attempt here, but for an Ack
abbrev pub EndsNot : AttemptId → Message → Type 0
EndsNot x (message.Mark inc marks) = Has x (attempts_of marks) → ⊥
EndsNot x (message.Verdict y ask inc v) = x ≡ y → ⊥
EndsNot x (message.Ack y inc refusal) = ⊥
EndsNot x q = Unit {0}

pub hears-kept : (t : TargetPlan) (opening : Epoch × FloorWhy) (m : TargetMemory) (reading : ℕ) (from : ActorId) (q : Message) (old new : Kept) (left : TargetMemory × Did) (x : AttemptId)
    → HearsRightly t opening m reading from q old new left → BringsNot x q → EndsNot x q → IsKept old.durable x → IsKept new.durable x
hears-kept t opening m reading from (message.Fetch y op group ep first tracker r snapshot) old new left x h brings ends =
    whole-kept _ _ _ old new left x h (λ s k o u next. (fetch-spares t m reading (fetch_request y op group ep first tracker r snapshot) x s k o u next).0)
hears-kept t opening m reading from (message.Commit y ep first tracker ws) old new left x h brings ends =
    whole-kept _ _ _ old new left x h (λ s k o u next. (commit-spares t opening m reading (commit_request y ep first tracker ws) x brings s k o u next).0)
hears-kept t opening m reading from (message.Prepare e first ws inc) old new left x h brings ends =
    whole-kept _ _ _ old new left x h (λ s k o u next. (prepare-spares t opening m (prepare_request e first ws inc) x brings s k o u next).0)
hears-kept t opening m reading from (message.Ack y inc refusal) old new left x h brings ends = absurd ends
hears-kept t opening m reading from (message.Mark inc marks) old new left x h brings ends =
    marks-keep (λ k. IsKept k.durable x) (is_in_doubt t.me) (in_doubt-prepared t.me) marks
    (λ k l a committed among is steps z. kept-step x (Some (Settles a (mark.marked_step committed))) k l steps
    (marking-spares x a committed (λ same. ends (subst (λ y. Has y (attempts_of marks)) (sym same) (has-map marked_attempt marks (a, committed) among)))) z)
    old new h.last h.reached
hears-kept t opening m reading from (message.Marked inc ids) old new left x h brings ends = whole-kept _ _ _ old new left x h (λ s k o u next. (marked-spares t m from.number x s k o u next).0)
hears-kept t opening m reading from (message.Query y ask) old new left x h brings ends = whole-kept _ _ _ old new left x h (λ s k o u next. (query-spares x s k o u next).0)
hears-kept t opening m reading from (message.Verdict y ask inc v) old new left x h brings ends = whole-kept _ _ _ old new left x h (verdict-spares (is_in_doubt t.me) t m reading y ask v x ends)
hears-kept t opening m reading from q old new left x h brings ends = absurd h

pub idles-kept : (settling : Bool) (t : TargetPlan) (m : TargetMemory) (old new : Kept) (left : TargetMemory × Did) (x : AttemptId) → IdlesWhole settling t m old new left → IsKept old.durable x → IsKept new.durable x
idles-kept settling t m old new left x h = whole-kept _ _ _ old new left x h (λ s k o u next. (idle-spares x s k o u next).0)
