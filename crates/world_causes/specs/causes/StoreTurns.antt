-- What a target's turn stores: the attempt that it is asked to; and what it then tells and asks of attempts that are stored.
use Rattle.std.specs.Prelude.{ℕ, ◌≡◌, ◌⊎◌, ◌++◌, ◌==◌, Bool, true, false, List, [], ◌∷◌, filter, map, Option, Some, None, refl, if◌then◌else◌}
use Rattle.std.specs.Option.{option_map}
use Rattle.std.proofs.Common.{inl, inr, sym, ◌∙◌, ap, subst}
use Rattle.base_types.specs.declared.entry.Entry.{Entry}
use Rattle.base_types.specs.declared.entry.Settle.{Settle}
use Rattle.base_types.specs.declared.entry.Settle.TheVariants.{Abort, Commit, Confirm, Forget}
use Rattle.base_types.specs.declared.entry.Verdict.{Verdict}
use Rattle.base_types.specs.declared.entry.Verdict.TheVariants as how
use Rattle.base_types.specs.declared.epoch.Epoch.{Epoch}
use Rattle.base_types.specs.declared.id.AttemptId.{AttemptId}
use Rattle.base_types.specs.declared.operation.MinorWrite.{MinorWrite}
use Rattle.base_types.specs.declared.outcome.FloorWhy.{FloorWhy}
use Rattle.base_types.specs.declared.outcome.Outcome.{Outcome}
use Rattle.base_types.specs.declared.outcome.Outcome.TheVariants as outcome
use Rattle.model_laws.specs.Members.{Has, has-cases, has-from_map}
use Rattle.base_messages.specs.declared.actor.ActorId.{ActorId}
use Rattle.base_messages.specs.declared.message.Message.{Message}
use Rattle.base_messages.specs.declared.message.Message.TheVariants as message
use Rattle.base_messages.specs.declared.message.Post.{Post}
use Rattle.daos_model.specs.declared.durable.Durable.{Durable}
use Rattle.daos_model.specs.Changes.{committed_at, confirmed_at, prepared, settled}
use Rattle.daos_model.specs.Durables.{entry_of}
use Rattle.dtx_base.specs.declared.leading.Naming.{Naming}
use Rattle.dtx_base.specs.declared.leading.Undecided.{Undecided}
use Rattle.dtx_base.specs.declared.member.Parked.{Parked}
use Rattle.dtx_base.specs.Joining.{all_unresolved_told, inquired, inquiry_for, is_waiting, to_inquire, unresolved, unresolved_told, verdict_heard}
use Rattle.dtx_base.specs.Leading.{LeaderOf, abort_to, ack_heard, answer_heard, answer_if_awaited, batched, begun, begun_alone, begun_with_others, commit_mark, counted_at, decided, ended, entry_led, mark_with, marks_for, ok_heard, owed, prepare_to, quietly, to_target, undecided_of, with_undecided}
use Rattle.dtx_base.specs.Members.{all_targets, are_all_counted, is_other_member, other_members, with_target}
use Rattle.dtx_base.specs.Rows.{is_empty}
use Rattle.world_contents.specs.world_commit.attempts.Turning.{one-or_other}
use Rattle.world_base.specs.declared.did.Did.{Did}
use Rattle.world_base.specs.declared.request.CommitRequest.{CommitRequest}
use Rattle.world_base.specs.declared.request.FetchRequest.{FetchRequest}
use Rattle.world_base.specs.declared.request.PrepareRequest.{PrepareRequest}
use Rattle.world_base.specs.declared.target.TargetMemory.{TargetMemory}
use Rattle.world_base.specs.declared.target.TargetPlan.{TargetPlan}
use Rattle.world_base.specs.Acks as ack
use Rattle.world_base.specs.Changes.{Change, Creates, Extends, Freezes, Kept, Prepares, Prunes, Settles, Steps, made}
use Rattle.world_base.specs.Commits as commit
use Rattle.world_base.specs.EntryLaws.{entry-aborted, entry-aborted_other, entry-committed, entry-confirmed, entry-leased, entry-prepared_other}
use Rattle.world_base.specs.Idle.{AllSettled, IdleEnds, IdleNext, SettlesFirst, batch_of, inquiry_of}
use Rattle.world_base.specs.Marks as mark
use Rattle.world_base.specs.PathLaws.{reached-keeps}
use Rattle.world_base.specs.Prepares as prepare
use Rattle.world_base.specs.Reads as read
use Rattle.world_base.specs.RightTurns.{HearsRightly}
use Rattle.world_base.specs.Roles.{is_in_doubt, leader_at, member_at, with_unsettled}
use Rattle.world_base.specs.TargetTurns.{IdlesWhole, commit_request, fetch_request, prepare_request}
use Rattle.world_base.specs.Turns.{Reached}
use Rattle.world_base.specs.Verdicts as verdict
use Rattle.world_causes.specs.causes.Storing.{IsPrepareOf, RefusesAt}

-- ---- what a message asks for

-- a Commit of an attempt
abbrev pub IsCommitOf : Message → AttemptId → Type 0
IsCommitOf (message.Commit y ep first tracker ws) x = y ≡ x
IsCommitOf m x = ⊥

-- an attempt that a message asks to store
abbrev pub AsksFor : Message → AttemptId → Type 0
AsksFor (message.Commit y ep first tracker ws) x = y ≡ x
AsksFor (message.Prepare e first ws inc) x = e.attempt ≡ x
AsksFor m x = ⊥

-- what a target as good as hears that does its idle work
abbrev pub nothing_heard : Message
nothing_heard = message.Marked 0 []

-- ---- entries

aborted-none : (a : AttemptId) (d : Durable) (x : AttemptId) → entry_of d x ≡ None → entry_of (settled a Abort d) x ≡ None
aborted-none a d x none = elim (one-or_other x a) [
  | inl same ↦ subst (λ y. entry_of (settled a Abort d) y ≡ None) (sym same) (entry-aborted a d)
  | inr off ↦ entry-aborted_other a d x off ∙ none
]

-- of entries a change that forgets leaves what one that aborts does
forgotten : (a : AttemptId) (d : Durable) (x : AttemptId) → entry_of (settled a Forget d) x ≡ entry_of (settled a Abort d) x
unfolding entry_of settled
forgotten a d x = refl

settled-none : (a : AttemptId) (step : Settle) (d : Durable) (x : AttemptId) → entry_of d x ≡ None → entry_of (settled a step d) x ≡ None
settled-none a Commit d x none = entry-committed a d x ∙ ap (option_map (committed_at a)) none
settled-none a (Confirm t) d x none = entry-confirmed a t d x ∙ ap (option_map (confirmed_at a t)) none
settled-none a Abort d x none = aborted-none a d x none
settled-none a Forget d x none = forgotten a d x ∙ aborted-none a d x none

-- of attempts without an entry none gets one, but those
module _ (old : Durable) where
  abbrev pub OnlyNew : (AttemptId → Type 0) → Kept → Type 0
  OnlyNew P k = (x : AttemptId) → entry_of old x ≡ None → (P x → ⊥) → entry_of k.durable x ≡ None

  abbrev pub NoneAsked : AttemptId → Type 0
  NoneAsked x = ⊥

  abbrev pub NoneNew : Kept → Type 0
  NoneNew k = (x : AttemptId) → entry_of old x ≡ None → entry_of k.durable x ≡ None

  abbrev pub Fits : (AttemptId → Type 0) → Option Change → Type 0
  Fits P None = Unit {0}
  Fits P (Some (Extends ticks)) = Unit {0}
  Fits P (Some (Prepares e ws)) = P e.attempt
  Fits P (Some (Settles a s)) = Unit {0}
  Fits P (Some (Freezes f z)) = ⊥
  Fits P (Some (Creates f z)) = ⊥
  Fits P (Some (Prunes f z n)) = ⊥

  made-only : (P : AttemptId → Type 0) (c : Change) (d : Durable) (x : AttemptId) → Fits P (Some c) → (P x → ⊥) → entry_of d x ≡ None → entry_of (made c d) x ≡ None
  made-only P (Extends ticks) d x fits off none = entry-leased ticks d x ∙ none
  made-only P (Prepares e ws) d x fits off none = entry-prepared_other e ws d x (λ same. off (subst P (sym same) fits)) ∙ none
  made-only P (Settles a s) d x fits off none = settled-none a s d x none
  made-only P (Freezes f z) d x fits off none = absurd fits
  made-only P (Creates f z) d x fits off none = absurd fits
  made-only P (Prunes f z n) d x fits off none = absurd fits

  step-only : (P : AttemptId → Type 0) (o : Option Change) (k l : Kept) → Fits P o → Steps o k l → OnlyNew P k → OnlyNew P l
  step-only P None k l fits same h x none off = ap (λ z. entry_of z.durable x) same ∙ h x none off
  step-only P (Some c) k l fits st h x none off = ap (λ d. entry_of d x) st.0 ∙ made-only P c k.durable x fits off (h x none off)

  more-only : (P Q : AttemptId → Type 0) (k : Kept) → ((x : AttemptId) → P x → Q x) → OnlyNew P k → OnlyNew Q k
  more-only P Q k f h x none off = h x none (λ p. off (f x p))

  pub steps-only : {S : Type 0} (Next : S → Kept → Option Change → S → Type 0) (P : AttemptId → Type 0) → ((s : S) (k : Kept) (o : Option Change) (u : S) → Next s k o u → Fits P o) → (s : S) (k : Kept) (u : S) (l : Kept) → Reached Next s k u l
      → OnlyNew P k → OnlyNew P l
  steps-only Next P fits s k u l reached = reached-keeps Next (λ s k. OnlyNew P k) (λ s k o u l next steps h. step-only P o k l (fits s k o u next) steps h) s k u l reached

  -- ---- what is sent

  -- A message that is sent in a turn that hears a message: what it tells to be refused for want of space that message tells, or it asks
  -- for it, and the target gets no entry; what it asks to be prepared that message asks to be committed.
  pub record IsSaid (t : ℕ) (m : Message) (new : Kept) (q : Message) : Type 0 where
    pub refuses : (u : ℕ) (x : AttemptId) → RefusesAt q u x → RefusesAt m u x ⊎ ((u ≡ t) × AsksFor m x × NoneNew new)
    pub asks : (x : AttemptId) → IsPrepareOf q x → IsCommitOf m x

  module _ (t : ℕ) (m : Message) (new : Kept) where
    abbrev pub AreSaid : List Post → Type 0
    AreSaid posts = (q : Post) → Has q posts → IsSaid t m new q.message

    -- a message that neither refuses nor asks
    dull : (q : Message) → ((u : ℕ) (x : AttemptId) → RefusesAt q u x → ⊥) → ((x : AttemptId) → IsPrepareOf q x → ⊥) → IsSaid t m new q
    dull q f g = record { refuses = λ u x h. absurd (f u x h); asks = λ x h. absurd (g x h) }

    pub none-said : AreSaid []
    none-said q i = absurd i

    one-said : (q : Post) → IsSaid t m new q.message → AreSaid (q ∷ [])
    one-said q k s (inl same) = subst (λ x. IsSaid t m new x.message) (sym same) k
    one-said q k s (inr none) = absurd none

    pub one-dull : (q : Post) → ((u : ℕ) (x : AttemptId) → RefusesAt q.message u x → ⊥) → ((x : AttemptId) → IsPrepareOf q.message x → ⊥) → AreSaid (q ∷ [])
    one-dull q f g = one-said q (dull q.message f g)

    pub both-said : (ps qs : List Post) → AreSaid ps → AreSaid qs → AreSaid (ps ++ qs)
    both-said ps qs f g q i = elim (has-cases ps qs q i) [ inl j ↦ f q j | inr j ↦ g q j ]

    map-dull : {A : Type 0} (f : A → Post) → ((a : A) (u : ℕ) (x : AttemptId) → RefusesAt (f a).message u x → ⊥) → ((a : A) (x : AttemptId) → IsPrepareOf (f a).message x → ⊥) → (xs : List A) → AreSaid (map f xs)
    map-dull f g k xs q i = let o = has-from_map f xs q i in subst (λ z. IsSaid t m new z.message) o.2 (dull (f o.0).message (g o.0) (k o.0))

    -- ---- a Fetch

    fetch-said : (p : TargetPlan) (n : TargetMemory) (reading : ℕ) (q : FetchRequest) (from : ActorId) (s : read.FetchStage) (k : Kept) (left : TargetMemory × Did) → read.FetchEnds p n reading q from s k left → AreSaid left.1.posts
    fetch-said p n reading q from s k left (read.IsSpent j z live none is) = subst (λ x. AreSaid x.1.posts) (sym is) (one-dull _ (λ u x h. h) (λ x h. h))
    fetch-said p n reading q from s k left (read.IsRefused j e decided c z why is) = subst (λ x. AreSaid x.1.posts) (sym is) (one-dull _ (λ u x h. h) (λ x h. h))
    fetch-said p n reading q from s k left (read.MeetsUnresolved j e decided a z none unsettled among other is) = subst (λ x. AreSaid x.1.posts) (sym is) (one-dull _ (λ u x h. h) (λ x h. h))
    fetch-said p n reading q from s k left (read.IsServed j e decided b z none ok is) = subst (λ x. AreSaid x.1.posts) (sym is) (one-dull _ (λ u x h. h) (λ x h. h))
    fetch-said p n reading q from s k left (read.IsParked j e decided a leader z none unsettled other is) = subst (λ x. AreSaid x.1.posts) (sym is) (one-dull _ (λ u x h. h) (λ x h. h))

    -- ---- an Ack

    pub ended-said : (client : Option ActorId) (a : AttemptId) (e : Epoch) (o : Outcome) → ((u : ℕ) (x : AttemptId) → RefusesAt (message.Ended a (Some e) o) u x → RefusesAt m u x) → AreSaid (ended client a e o)
    ended-said None a e o k = none-said
    ended-said (Some c) a e o k = one-said _ (record { refuses = λ u x h. inl (k u x h); asks = λ x h. absurd h })

    ok-said : (member : ℕ) (a : AttemptId) (e : Entry) (v : Undecided) (l : LeaderOf) → AreSaid (ok_heard member a e v l).posts
    ok-said member a e v l = by (are_all_counted e (with_target v.counted member))
      where
        by : (b : Bool) → AreSaid (if b then record { leader = decided a l; posts = ended v.client a e.epoch outcome.Committed } else quietly (with_undecided (map (counted_at a member) l.memory.undecided) l)).posts
        by true = ended-said v.client a e.epoch outcome.Committed (λ u x h. absurd h)
        by false = none-said

    -- what a refusal tells
    refusal-told : (a : AttemptId) (e : Epoch) (inc : ℕ) (o : Outcome) (u : ℕ) (x : AttemptId) → RefusesAt (message.Ended a (Some e) o) u x → RefusesAt (message.Ack a inc (Some o)) u x
    refusal-told a e inc (outcome.NoSpace target need free) u x h = h
    refusal-told a e inc outcome.Committed u x h = absurd h
    refusal-told a e inc (outcome.CondFailed op) u x h = absurd h
    refusal-told a e inc (outcome.Restart why) u x h = absurd h
    refusal-told a e inc outcome.EpochsSpent u x h = absurd h
    refusal-told a e inc outcome.NoSnapshot u x h = absurd h
    refusal-told a e inc (outcome.Unknown target) u x h = absurd h

    answer-said : (member : ℕ) (a : AttemptId) (inc : ℕ) (refusal : Option Outcome) (e : Entry) (v : Undecided) (l : LeaderOf) → ((u : ℕ) (x : AttemptId) → RefusesAt (message.Ack a inc refusal) u x → RefusesAt m u x)
        → AreSaid (answer_heard member a refusal e v l).posts
    answer-said member a inc None e v l told = ok-said member a e v l
    answer-said member a inc (Some o) e v l told =
        both-said (ended v.client a e.epoch o) (map (abort_to l.incarnation a) (other_members e)) (ended-said v.client a e.epoch o (λ u x h. told u x (refusal-told a e.epoch inc o u x h)))
        (map-dull (abort_to l.incarnation a) (λ n u x h. h) (λ n x h. h) (other_members e))

    awaited-said : (member : ℕ) (a : AttemptId) (inc : ℕ) (refusal : Option Outcome) (e : Option Entry) (v : Option Undecided) (l : LeaderOf) → ((u : ℕ) (x : AttemptId) → RefusesAt (message.Ack a inc refusal) u x → RefusesAt m u x)
        → AreSaid (answer_if_awaited member a refusal e v l).posts
    awaited-said member a inc refusal None v l told = none-said
    awaited-said member a inc refusal (Some e) None l told = none-said
    awaited-said member a inc refusal (Some e) (Some v) l told = by (is_other_member e member)
      where
        by : (b : Bool) → AreSaid (if b then answer_heard member a refusal e v l else quietly l).posts
        by true = answer-said member a inc refusal e v l told
        by false = none-said

    ack-said : (member : ℕ) (a : AttemptId) (inc : ℕ) (refusal : Option Outcome) (l : LeaderOf) → ((u : ℕ) (x : AttemptId) → RefusesAt (message.Ack a inc refusal) u x → RefusesAt m u x) → AreSaid (ack_heard member a inc refusal l).posts
    unfolding ack_heard
    ack-said member a inc refusal l told = by (inc == l.incarnation)
      where
        by : (b : Bool) → AreSaid (if b then answer_if_awaited member a refusal (entry_led a l) (undecided_of a l) l else quietly l).posts
        by true = awaited-said member a inc refusal (entry_led a l) (undecided_of a l) l told
        by false = none-said

    abbrev pub FollowsSaid : ack.AckStage → Type 0
    FollowsSaid ack.Heard = Unit {0}
    FollowsSaid (ack.Followed s) = AreSaid s.posts

    pub ack-next : (p : TargetPlan) (n : TargetMemory) (member : ℕ) (a : AttemptId) (inc : ℕ) (refusal : Option Outcome) → ((u : ℕ) (x : AttemptId) → RefusesAt (message.Ack a inc refusal) u x → RefusesAt m u x) → (s : ack.AckStage) (k : Kept)
        (o : Option Change) (u : ack.AckStage) (l : Kept) → ack.AckNext p n member a inc refusal s k o u → Steps o k l → FollowsSaid s → FollowsSaid u
    ack-next p n member a inc refusal told s k o u l (ack.Aborts j is) steps h = ack-said member a inc refusal (leader_at p n j.durable) told
    ack-next p n member a inc refusal told s k o u l (ack.Counts j is) steps h = ack-said member a inc refusal (leader_at p n j.durable) told

    pub ack-ends : (n : TargetMemory) (s : ack.AckStage) (k : Kept) (left : TargetMemory × Did) → ack.AckEnds n s k left → FollowsSaid s → AreSaid left.1.posts
    ack-ends n s k left (ack.IsFollowed j step z is) h = subst (λ x. AreSaid x.1.posts) (sym is) h

    -- ---- a Mark, a Marked, a Query and a Verdict

    mark-said : (n : TargetMemory) (from : ActorId) (inc : ℕ) (marks rest : List (AttemptId × Bool)) (k : Kept) (left : TargetMemory × Did) → mark.MarkEnds n from inc marks rest k left → AreSaid left.1.posts
    mark-said n from inc marks rest k left (mark.AllMarked j z is) = subst (λ x. AreSaid x.1.posts) (sym is) (one-dull _ (λ u x h. h) (λ x h. h))

    marked-said : (p : TargetPlan) (n : TargetMemory) (member inc : ℕ) (names rest : List AttemptId) (k : Kept) (left : TargetMemory × Did) → ack.MarkedEnds p n member inc names rest k left → AreSaid left.1.posts
    marked-said p n member inc names rest k left (ack.AllConfirmed j z is) = subst (λ x. AreSaid x.1.posts) (sym is) none-said

    query-said : (p : TargetPlan) (n : TargetMemory) (from : ActorId) (a : AttemptId) (ask : Option AttemptId) (s : verdict.QueryStage) (k : Kept) (left : TargetMemory × Did) → verdict.QueryEnds p n from a ask s k left → AreSaid left.1.posts
    query-said p n from a ask s k left (verdict.IsTold j z is) = subst (λ x. AreSaid x.1.posts) (sym is) (one-dull _ (λ u x h. h) (λ x h. h))

    pub unresolved-said : (a : AttemptId) (z : Message) → AreSaid (unresolved_told a z)
    unresolved-said a (message.Fetch x op group ep first tracker r snapshot) = one-dull _ (λ u x h. h) (λ x h. h)
    unresolved-said a z = none-said

    pub all-unresolved-said : (a : AttemptId) (ps : List Parked) → AreSaid (all_unresolved_told a ps)
    all-unresolved-said a [] = none-said
    all-unresolved-said a (p ∷ ps) = both-said (unresolved_told a p.ask) (all_unresolved_told a ps) (unresolved-said a p.ask) (all-unresolved-said a ps)

    freed-said : (p : TargetPlan) (a : AttemptId) (ask : Option AttemptId) (v : Verdict) (n : TargetMemory) → AreSaid (verdict_heard a ask v (member_at p n)).freed.posts
    unfolding unresolved
    freed-said p a ask how.Committed n = none-said
    freed-said p a ask how.Aborted n = none-said
    freed-said p a (Some x) how.Undecided n = all-unresolved-said a (filter (is_waiting a x) n.member.parked)
    freed-said p a None how.Undecided n = none-said

    abbrev SoFarSaid : verdict.VerdictStage → Type 0
    SoFarSaid verdict.Heard = Unit {0}
    SoFarSaid (verdict.Freed asks n posts) = AreSaid posts
    SoFarSaid (verdict.Trying q s asks n posts) = AreSaid posts

    verdict-next : (p : TargetPlan) (n : TargetMemory) (reading : ℕ) (a : AttemptId) (ask : Option AttemptId) (v : Verdict) (s : verdict.VerdictStage) (k : Kept) (o : Option Change) (u : verdict.VerdictStage) (l : Kept)
        → verdict.VerdictNext (is_in_doubt p.me) p n reading a ask v s k o u → Steps o k l → SoFarSaid s → SoFarSaid u
    verdict-next p n reading a ask v s k o u l (verdict.SettlesBy j c says) steps h = freed-said p a ask v n
    verdict-next p n reading a ask v s k o u l (verdict.TriesNext j i posts rest x op group ep first tracker rd snapshot) steps h = h
    verdict-next p n reading a ask v s k o u l (verdict.GoesOn j i posts rest q f g c next) steps h = h
    verdict-next p n reading a ask v s k o u l (verdict.IsDone j i posts rest q f left ends) steps h = both-said posts left.1.posts h (fetch-said p i reading q (verdict.fetcher q) f j left ends)

    verdict-ends : (s : verdict.VerdictStage) (k : Kept) (left : TargetMemory × Did) → verdict.VerdictEnds s k left → SoFarSaid s → AreSaid left.1.posts
    verdict-ends s k left (verdict.AllTried j n posts z is) h = subst (λ x. AreSaid x.1.posts) (sym is) h

    -- ---- idle work

    mark-with-said : (inc u : ℕ) (names : List AttemptId) → AreSaid (mark_with inc u names)
    mark-with-said inc u names = by (is_empty names)
      where
        by : (b : Bool) → AreSaid (if b then [] else to_target u (message.Mark inc (map commit_mark names)) ∷ [])
        by true = none-said
        by false = one-dull (to_target u (message.Mark inc (map commit_mark names))) (λ u x h. h) (λ x h. h)

    marks-said : (inc down : ℕ) (named : List Naming) (es : List Entry) (us : List ℕ) → AreSaid (marks_for inc down named es us)
    marks-said inc down named es [] = none-said
    marks-said inc down named es (u ∷ us) = both-said (mark_with inc u (owed down named es u)) (marks_for inc down named es us) (mark-with-said inc u (owed down named es u)) (marks-said inc down named es us)

    batched-said : (l : LeaderOf) → AreSaid (batched l).posts
    unfolding batched
    batched-said l = marks-said l.incarnation l.memory.down l.memory.named l.entries all_targets

    inquired-said : (settling : Bool) (p : TargetPlan) (n : TargetMemory) (d : Durable) → AreSaid (inquiry_of settling p n d).freed.posts
    unfolding inquired
    inquired-said false p n d = none-said
    inquired-said true p n d = map-dull inquiry_for (λ e u x h. h) (λ e x h. h) (to_inquire d.entries (member_at p n))

    idle-ends : (settling : Bool) (p : TargetPlan) (n : TargetMemory) (rest : List AttemptId) (k : Kept) (left : TargetMemory × Did) → IdleEnds settling p n rest k left → AreSaid left.1.posts
    idle-ends settling p n rest k left (AllSettled j z is) = subst (λ x. AreSaid x.1.posts) (sym is)
        (both-said (batch_of p n k.durable).posts (inquiry_of settling p n k.durable).freed.posts (batched-said (leader_at p (with_unsettled [] n) k.durable)) (inquired-said settling p n k.durable))

  -- ---- whole turns

  -- what a turn stores, and says
  pub record StoresAs (t : ℕ) (m : Message) (new : Kept) (posts : List Post) : Type 0 where
    pub only : OnlyNew (AsksFor m) new
    pub said : AreSaid t m new posts

  module _ (k : Kept) (own : k.durable ≡ old) where
    pub begins-so : (P : AttemptId → Type 0) → OnlyNew P k
    begins-so P x none off = ap (λ d. entry_of d x) own ∙ none

    -- a Commit
    abbrev pub CommitAsks : CommitRequest → commit.CommitStage → AttemptId → Type 0
    CommitAsks q commit.Asked x = ⊥
    CommitAsks q (commit.Known e) x = ⊥
    CommitAsks q (commit.Checking e) x = ⊥
    CommitAsks q (commit.Stored e) x = q.attempt ≡ x

    pub commit-next : (p : TargetPlan) (opening : Epoch × FloorWhy) (n : TargetMemory) (reading : ℕ) (q : CommitRequest) (s : commit.CommitStage) (j : Kept) (o : Option Change) (u : commit.CommitStage) (l : Kept)
        → commit.CommitNext p opening n reading q s j o u → Steps o j l → OnlyNew (CommitAsks q s) j → OnlyNew (CommitAsks q u) l
    commit-next p opening n reading q s j o u l (commit.HasEpoch i e is) steps h = step-only NoneAsked None j l tt steps h
    commit-next p opening n reading q s j o u l (commit.ExtendsLease i e lease low is) steps h = step-only NoneAsked (Some (Extends lease)) j l tt steps h
    commit-next p opening n reading q s j o u l (commit.IsCovered i e low) steps h = step-only NoneAsked None j l tt steps h
    commit-next p opening n reading q s j o u l (commit.Stores i e allowed fits) steps h =
        step-only (λ x. q.attempt ≡ x) (Some (Prepares (commit.led_entry p q e) (commit.own_writes p q.writes))) j l refl steps (more-only NoneAsked (λ x. q.attempt ≡ x) j (λ x f. absurd f) h)

    pub commit-any : (q : CommitRequest) (s : commit.CommitStage) (j : Kept) → OnlyNew (CommitAsks q s) j → OnlyNew (λ x. q.attempt ≡ x) j
    commit-any q commit.Asked j h = more-only NoneAsked (λ x. q.attempt ≡ x) j (λ x f. absurd f) h
    commit-any q (commit.Known e) j h = more-only NoneAsked (λ x. q.attempt ≡ x) j (λ x f. absurd f) h
    commit-any q (commit.Checking e) j h = more-only NoneAsked (λ x. q.attempt ≡ x) j (λ x f. absurd f) h
    commit-any q (commit.Stored e) j h = h

    prepares-said : (t : ℕ) (m : Message) (new : Kept) (targets inc : ℕ) (e : Entry) (first : Option Epoch) (ws : List MinorWrite) → IsCommitOf m e.attempt → (us : List ℕ) → AreSaid t m new (map (prepare_to targets inc e first ws) us)
    prepares-said t m new targets inc e first ws own us q i =
        let o = has-from_map (prepare_to targets inc e first ws) us q i in
        subst (λ z. IsSaid t m new z.message) o.2 (record { refuses = λ u x h. absurd h; asks = λ x same. subst (IsCommitOf m) same own })

    begun-said : (t : ℕ) (m : Message) (new : Kept) (e : Entry) (first : Option Epoch) (client : ActorId) (ws : List MinorWrite) (l : LeaderOf) → IsCommitOf m e.attempt → AreSaid t m new (begun e first client ws l).posts
    unfolding begun
    begun-said t m new e first client ws l own = by (is_empty (other_members e))
      where
        by : (b : Bool) → AreSaid t m new (if b then begun_alone e client l else begun_with_others e first client ws l).posts
        by true = ended-said t m new (Some client) e.attempt e.epoch outcome.Committed (λ u x h. absurd h)
        by false = prepares-said t m new l.targets l.incarnation e first ws own (other_members e)

    abbrev commit_message : CommitRequest → Message
    commit_message q = message.Commit q.attempt q.ep q.first q.tracker q.writes

    commit-ends : (p : TargetPlan) (opening : Epoch × FloorWhy) (n : TargetMemory) (reading : ℕ) (q : CommitRequest) (from : ActorId) (s : commit.CommitStage) (new : Kept) (left : TargetMemory × Did) → OnlyNew (CommitAsks q s) new
        → commit.CommitEnds p opening n reading q from s new left → AreSaid p.me (commit_message q) new left.1.posts
    commit-ends p opening n reading q from s new left h (commit.IsSpent j z none is) = subst (λ x. AreSaid p.me (commit_message q) new x.1.posts) (sym is) (one-dull p.me (commit_message q) new _ (λ u x f. f) (λ x f. f))
    commit-ends p opening n reading q from s new left h (commit.IsRefused j e c z why is) = subst (λ x. AreSaid p.me (commit_message q) new x.1.posts) (sym is) (one-dull p.me (commit_message q) new _ (λ u x f. f) (λ x f. f))
    commit-ends p opening n reading q from s new left h (commit.HasNoSpace j e z allowed full is) = subst (λ x. AreSaid p.me (commit_message q) new x.1.posts) (sym is)
        (one-said p.me (commit_message q) new _ (record { refuses = λ u x f. inr (sym f.1, f.0, λ y none. h y none (λ f. f)); asks = λ x f. absurd f }))
    commit-ends p opening n reading q from s new left h (commit.HasBegun j e z is) = subst (λ x. AreSaid p.me (commit_message q) new x.1.posts) (sym is)
        (begun-said p.me (commit_message q) new (commit.led_entry p q e) q.first from q.writes (leader_at p n new.durable) refl)

    -- a Prepare
    abbrev PrepareAsks : PrepareRequest → prepare.PrepareStage → AttemptId → Type 0
    PrepareAsks q prepare.Heard x = ⊥
    PrepareAsks q prepare.Checking x = ⊥
    PrepareAsks q prepare.Stored x = q.entry.attempt ≡ x

    prepare-next : (p : TargetPlan) (opening : Epoch × FloorWhy) (n : TargetMemory) (q : PrepareRequest) (s : prepare.PrepareStage) (j : Kept) (o : Option Change) (u : prepare.PrepareStage) (l : Kept) → prepare.PrepareNext p opening n q s j o u
        → Steps o j l → OnlyNew (PrepareAsks q s) j → OnlyNew (PrepareAsks q u) l
    prepare-next p opening n q s j o u l (prepare.ExtendsLease i lease low is) steps h = step-only NoneAsked (Some (Extends lease)) j l tt steps h
    prepare-next p opening n q s j o u l (prepare.IsCovered i low) steps h = step-only NoneAsked None j l tt steps h
    prepare-next p opening n q s j o u l (prepare.Stores i allowed fits) steps h = step-only (λ x. q.entry.attempt ≡ x) (Some (Prepares q.entry q.writes)) j l refl steps (more-only NoneAsked (λ x. q.entry.attempt ≡ x) j (λ x f. absurd f) h)

    prepare-any : (q : PrepareRequest) (s : prepare.PrepareStage) (j : Kept) → OnlyNew (PrepareAsks q s) j → OnlyNew (λ x. q.entry.attempt ≡ x) j
    prepare-any q prepare.Heard j h = more-only NoneAsked (λ x. q.entry.attempt ≡ x) j (λ x f. absurd f) h
    prepare-any q prepare.Checking j h = more-only NoneAsked (λ x. q.entry.attempt ≡ x) j (λ x f. absurd f) h
    prepare-any q prepare.Stored j h = h

    prepare-ends : (p : TargetPlan) (opening : Epoch × FloorWhy) (n : TargetMemory) (e : Entry) (first : Option Epoch) (ws : List MinorWrite) (inc : ℕ) (s : prepare.PrepareStage) (new : Kept) (left : TargetMemory × Did)
        → OnlyNew (PrepareAsks (prepare_request e first ws inc) s) new → prepare.PrepareEnds p opening n (prepare_request e first ws inc) s new left → AreSaid p.me (message.Prepare e first ws inc) new left.1.posts
    prepare-ends p opening n e first ws inc s new left h (prepare.IsRefused j c z why is) = subst (λ x. AreSaid p.me (message.Prepare e first ws inc) new x.1.posts) (sym is) (one-dull p.me (message.Prepare e first ws inc) new _ (λ u x f. f) (λ x f. f))
    prepare-ends p opening n e first ws inc s new left h (prepare.HasNoSpace j z allowed full is) = subst (λ x. AreSaid p.me (message.Prepare e first ws inc) new x.1.posts) (sym is)
        (one-said p.me (message.Prepare e first ws inc) new _ (record { refuses = λ u x f. inr (sym f.1, f.0, λ y none. h y none (λ f. f)); asks = λ x f. absurd f }))
    prepare-ends p opening n e first ws inc s new left h (prepare.IsPrepared j z is) = subst (λ x. AreSaid p.me (message.Prepare e first ws inc) new x.1.posts) (sym is) (one-dull p.me (message.Prepare e first ws inc) new _ (λ u x f. f) (λ x f. f))

    -- changes of the other turns store nothing
    fetch-fits : (P : AttemptId → Type 0) (p : TargetPlan) (n : TargetMemory) (reading : ℕ) (q : FetchRequest) (s : read.FetchStage) (j : Kept) (o : Option Change) (u : read.FetchStage) → read.FetchNext p n reading q s j o u → Fits P o
    fetch-fits P p n reading q s j o u (read.AtSnapshot i e snap ep) = tt
    fetch-fits P p n reading q s j o u (read.HasEpoch i e live is) = tt
    fetch-fits P p n reading q s j o u (read.ExtendsLease i e lease low is) = tt
    fetch-fits P p n reading q s j o u (read.IsCovered i e low) = tt
    fetch-fits P p n reading q s j o u (read.SettlesOwn i e decided a none unsettled among) = tt

    settling-fits : (P : AttemptId → Type 0) (a : AttemptId) (o : Option Settle) → Fits P (verdict.settling_change a o)
    settling-fits P a None = tt
    settling-fits P a (Some step) = tt

    verdict-fits : (P : AttemptId → Type 0) (p : TargetPlan) (n : TargetMemory) (reading : ℕ) (a : AttemptId) (ask : Option AttemptId) (v : Verdict) (s : verdict.VerdictStage) (j : Kept) (o : Option Change) (u : verdict.VerdictStage)
        → verdict.VerdictNext (is_in_doubt p.me) p n reading a ask v s j o u → Fits P o
    verdict-fits P p n reading a ask v s j o u (verdict.SettlesBy i c is) = subst (Fits P) (sym is) (settling-fits P a (verdict.settles_by (is_in_doubt p.me) v a j.durable))
    verdict-fits P p n reading a ask v s j o u (verdict.TriesNext i z posts rest x op group ep first tracker rd snapshot) = tt
    verdict-fits P p n reading a ask v s j o u (verdict.GoesOn i z posts rest q f g c next) = fetch-fits P p z reading q f i c g next
    verdict-fits P p n reading a ask v s j o u (verdict.IsDone i z posts rest q f left ends) = tt

    pub ack-fits : (P : AttemptId → Type 0) (p : TargetPlan) (n : TargetMemory) (member : ℕ) (a : AttemptId) (inc : ℕ) (refusal : Option Outcome) (s : ack.AckStage) (j : Kept) (o : Option Change) (u : ack.AckStage)
        → ack.AckNext p n member a inc refusal s j o u → Fits P o
    ack-fits P p n member a inc refusal s j o u (ack.Aborts i is) = tt
    ack-fits P p n member a inc refusal s j o u (ack.Counts i is) = tt

    mark-fits : (P : AttemptId → Type 0) (me : ℕ) (s : List (AttemptId × Bool)) (j : Kept) (o : Option Change) (u : List (AttemptId × Bool)) → mark.MarkNext (is_in_doubt me) s j o u → Fits P o
    mark-fits P me s j o u (mark.SettlesMarked i a committed rest prepared) = tt
    mark-fits P me s j o u (mark.PassesBy i a committed rest prepared) = tt

    marked-fits : (P : AttemptId → Type 0) (p : TargetPlan) (n : TargetMemory) (member : ℕ) (s : List AttemptId) (j : Kept) (o : Option Change) (u : List AttemptId) → ack.MarkedNext p n member s j o u → Fits P o
    marked-fits P p n member s j o u (ack.Confirms i a rest may) = tt
    marked-fits P p n member s j o u (ack.PassesBy i a rest may) = tt

    query-fits : (P : AttemptId → Type 0) (s : verdict.QueryStage) (j : Kept) (o : Option Change) (u : verdict.QueryStage) → verdict.QueryNext s j o u → Fits P o
    query-fits P s j o u (verdict.Answers i) = tt

    idle-fits : (P : AttemptId → Type 0) (s : List AttemptId) (j : Kept) (o : Option Change) (u : List AttemptId) → IdleNext s j o u → Fits P o
    idle-fits P s j o u (SettlesFirst i a rest) = tt

    -- a target hears
    pub hears-stores : (p : TargetPlan) (opening : Epoch × FloorWhy) (n : TargetMemory) (reading : ℕ) (from : ActorId) (m : Message) (new : Kept) (left : TargetMemory × Did) → HearsRightly p opening n reading from m k new left → StoresAs p.me m new left.1.posts
    hears-stores p opening n reading from (message.Fetch x op group ep first tracker r snapshot) new left h =
        let m = message.Fetch x op group ep first tracker r snapshot in
        let q = fetch_request x op group ep first tracker r snapshot in
        record {
          only = steps-only (read.FetchNext p n reading q) (AsksFor m) (fetch-fits (AsksFor m) p n reading q) read.Asked k h.last new h.reached (begins-so (AsksFor m));
          said = fetch-said p.me m new p n reading q from h.last new left h.ends;
        }
    hears-stores p opening n reading from (message.Commit x ep first tracker ws) new left h =
        let q = commit_request x ep first tracker ws in
        let at = reached-keeps (commit.CommitNext p opening n reading q) (λ s j. OnlyNew (CommitAsks q s) j) (commit-next p opening n reading q) commit.Asked k h.last new h.reached (begins-so NoneAsked) in
        record { only = commit-any q h.last new at; said = commit-ends p opening n reading q from h.last new left at h.ends }
    hears-stores p opening n reading from (message.Prepare e first ws inc) new left h =
        let q = prepare_request e first ws inc in
        let at = reached-keeps (prepare.PrepareNext p opening n q) (λ s j. OnlyNew (PrepareAsks q s) j) (prepare-next p opening n q) prepare.Heard k h.last new h.reached (begins-so NoneAsked) in
        record { only = prepare-any q h.last new at; said = prepare-ends p opening n e first ws inc h.last new left at h.ends }
    hears-stores p opening n reading from (message.Ack x inc refusal) new left h =
        let m = message.Ack x inc refusal in
        record {
          only = steps-only (ack.AckNext p n from.number x inc refusal) (AsksFor m) (ack-fits (AsksFor m) p n from.number x inc refusal) ack.Heard k h.last new h.reached (begins-so (AsksFor m));
          said = ack-ends p.me m new n h.last new left h.ends
              (reached-keeps (ack.AckNext p n from.number x inc refusal) (λ s j. FollowsSaid p.me m new s) (ack-next p.me m new p n from.number x inc refusal (λ u y f. f)) ack.Heard k h.last new h.reached tt);
        }
    hears-stores p opening n reading from (message.Mark inc marks) new left h =
        let m = message.Mark inc marks in
        record { only = steps-only (mark.MarkNext (is_in_doubt p.me)) (AsksFor m) (mark-fits (AsksFor m) p.me) marks k h.last new h.reached (begins-so (AsksFor m)); said = mark-said p.me m new n from inc marks h.last new left h.ends }
    hears-stores p opening n reading from (message.Marked inc names) new left h =
        let m = message.Marked inc names in
        record {
          only = steps-only (ack.MarkedNext p n from.number) (AsksFor m) (marked-fits (AsksFor m) p n from.number) _ k h.last new h.reached (begins-so (AsksFor m));
          said = marked-said p.me m new p n from.number inc names h.last new left h.ends;
        }
    hears-stores p opening n reading from (message.Query x ask) new left h =
        let m = message.Query x ask in
        record { only = steps-only verdict.QueryNext (AsksFor m) (query-fits (AsksFor m)) verdict.IsAsked k h.last new h.reached (begins-so (AsksFor m)); said = query-said p.me m new p n from x ask h.last new left h.ends }
    hears-stores p opening n reading from (message.Verdict x ask inc v) new left h =
        let m = message.Verdict x ask inc v in
        record {
          only = steps-only (verdict.VerdictNext (is_in_doubt p.me) p n reading x ask v) (AsksFor m) (verdict-fits (AsksFor m) p n reading x ask v) verdict.Heard k h.last new h.reached (begins-so (AsksFor m));
          said = verdict-ends p.me m new h.last new left h.ends
              (reached-keeps (verdict.VerdictNext (is_in_doubt p.me) p n reading x ask v) (λ s j. SoFarSaid p.me m new s) (verdict-next p.me m new p n reading x ask v) verdict.Heard k h.last new h.reached tt);
        }
    hears-stores p opening n reading from m new left h = absurd h

    -- a target does its idle work
    pub idles-stores : (t : ℕ) (settling : Bool) (p : TargetPlan) (n : TargetMemory) (new : Kept) (left : TargetMemory × Did) → IdlesWhole settling p n k new left → StoresAs t nothing_heard new left.1.posts
    idles-stores t settling p n new left h = record {
      only = steps-only IdleNext (AsksFor nothing_heard) (idle-fits (AsksFor nothing_heard)) n.leader.decided k h.last new h.reached (begins-so (AsksFor nothing_heard));
      said = idle-ends t nothing_heard new settling p n h.last new left h.ends;
    }
