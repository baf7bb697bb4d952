-- What is heard after stops is answered with nothing of a snapshot or an aggregation.
use Rattle.std.specs.Prelude.{ℕ, ◌≡◌, ◌==◌, ◌||◌, ◌++◌, Bool, true, false, List, [], ◌∷◌, filter, Option, Some, None, refl, if◌then◌else◌}
use Rattle.std.proofs.Common.{sym, ◌∙◌, ap, subst, inl, inr}
use Rattle.base_types.specs.declared.entry.Entry.{Entry}
use Rattle.base_types.specs.declared.epoch.Epoch.{Epoch}
use Rattle.base_types.specs.declared.id.AttemptId.{AttemptId}
use Rattle.base_types.specs.declared.outcome.FloorWhy.{FloorWhy}
use Rattle.base_types.specs.declared.outcome.Outcome.TheVariants as outcome
use Rattle.base_types.specs.declared.entry.EntryState.{EntryState}
use Rattle.base_types.specs.declared.entry.EntryState.TheVariants as state
use Rattle.base_messages.specs.declared.actor.ActorId.{ActorId}
use Rattle.base_messages.specs.declared.message.Message.{Message, more_of-Message}
use Rattle.base_messages.specs.declared.message.Message.TheVariants as message
use Rattle.base_messages.specs.declared.message.Post.{Post}
use Rattle.dtx_base.specs.declared.leading.Undecided.{Undecided}
use Rattle.dtx_base.specs.Asking.{ask_heard, asked_of, asked_open}
use Rattle.dtx_base.specs.Joining as member
use Rattle.dtx_base.specs.Leading.{LeaderOf, down_told, ended, entry_led, first_down, mark_reset, prepare_reset, quietly, status_asked, to_target, undecided_of}
use Rattle.dtx_base.specs.Rows.{is_among}
use Rattle.model_laws.specs.Members.{Has, has-cases}
use Rattle.world_base.specs.declared.did.Did.{Did}
use Rattle.world_base.specs.declared.request.CommitRequest.{CommitRequest}
use Rattle.world_base.specs.declared.target.TargetMemory.{TargetMemory}
use Rattle.world_base.specs.declared.target.TargetPlan.{TargetPlan}
use Rattle.world_base.specs.Changes.{Kept}
use Rattle.world_base.specs.Commits as commit
use Rattle.world_base.specs.Further.{CommitDown, HearsFurther, IsSpent, IsUnknown, reset_by}
use Rattle.world_base.specs.Roles.{leader_at, member_at}
use Rattle.world_base.specs.Statuses.{AtOnce, EndsAs, ask_left, status_left, status_refusal}
use Rattle.world_base.specs.TargetTurns.{commit_request}
use Rattle.world_letters.specs.lines.EndingLaws.{all-unresolved-end, ended-end, hears-tells}
use Rattle.world_letters.specs.lines.Lines.{MayEnd, TellsPlainly}
use Rattle.world_making.specs.making.Ends.{as-done}
use Rattle.world_making.specs.making.Making.{is_of_snapshots, tells_of_snapshots}

-- none of these asks for a snapshot or an aggregation, or tells of one
abbrev pub NoneIsOfMaking : List Post → Type 0
NoneIsOfMaking posts = (q : Post) → Has q posts → tells_of_snapshots q.message ≡ false

none : NoneIsOfMaking []
none q i = absurd i

single : (to : ActorId) (m : Message) → tells_of_snapshots m ≡ false → NoneIsOfMaking (record { to = to; message = m } ∷ [])
single to m off q (inl same) = ap (λ x. tells_of_snapshots x.message) same ∙ off
single to m off q (inr other) = absurd other

these : (ps qs : List Post) → qs ≡ ps → NoneIsOfMaking ps → NoneIsOfMaking qs
these ps qs same = subst NoneIsOfMaking (sym same)

plainly : (m : Message) → TellsPlainly m → tells_of_snapshots m ≡ false
plainly (message.Fetched x op group e b) h = refl
plainly (message.Ended x e how) h = refl
plainly (message.Ack x inc refusal) h = refl
plainly (message.Prepare e first ws inc) h = refl
plainly (message.Mark inc marks) h = refl
plainly (message.Marked inc ids) h = refl
plainly (message.Query x ask) h = refl
plainly (message.Verdict x ask inc v) h = refl
plainly m h = absurd h

pub all-plainly : (posts : List Post) → ((q : Post) → Has q posts → TellsPlainly q.message) → NoneIsOfMaking posts
all-plainly posts tell q i = plainly q.message (tell q i)

-- ---- a Commit, an Ask and a Status

down-none : (t : TargetPlan) (m : TargetMemory) (reading : ℕ) (q : CommitRequest) (from : ActorId) (s : commit.CommitStage) (k : Kept) (left : TargetMemory × Did)
    → CommitDown t m reading q from s k left → NoneIsOfMaking left.1.posts
down-none t m reading q from s k left (IsSpent k2 e d left2 spent known says) = these _ left2.1.posts (ap (λ o. o.1.posts) says) (single from _ refl)
down-none t m reading q from s k left (IsUnknown k2 e d left2 known says) = these _ left2.1.posts (ap (λ o. o.1.posts) says) (single from _ refl)

open-none : (x : AttemptId) (from : ActorId) (e : Entry) (down : Option ℕ) (l : LeaderOf) → NoneIsOfMaking (asked_open x from e down l).posts
open-none x from e None l = none
open-none x from e (Some down) l = single from _ refl

asked-none : (x : AttemptId) (from : ActorId) (e : Option Entry) (decided : Bool) (l : LeaderOf) → NoneIsOfMaking (asked_of x from e decided l).posts
asked-none x from None decided l = single from _ refl
asked-none x from (Some e) true l = by e.committed
  where
    by : (b : Bool) → NoneIsOfMaking (if b || true then record { leader = l; posts = record { to = from; message = message.Ended x (Some e.epoch) outcome.Committed } ∷ [] } else asked_open x from e (first_down e.members l.memory.down) l).posts
    by true = single from _ refl
    by false = single from _ refl
asked-none x from (Some e) false l = by e.committed
  where
    by : (b : Bool) → NoneIsOfMaking (if b || false then record { leader = l; posts = record { to = from; message = message.Ended x (Some e.epoch) outcome.Committed } ∷ [] } else asked_open x from e (first_down e.members l.memory.down) l).posts
    by true = single from _ refl
    by false = open-none x from e (first_down e.members l.memory.down) l

ask-none : (t : TargetPlan) (m : TargetMemory) (from : ActorId) (x : AttemptId) (k : Kept) → NoneIsOfMaking (ask_left t m from x k).1.posts
unfolding ask_heard
ask-none t m from x k = asked-none x from (entry_led x (leader_at t m k.durable)) (is_among x m.leader.decided) (leader_at t m k.durable)

-- ---- a Reset of what leaders and members ask

told-none : (t : ℕ) (a : AttemptId) (e : Option Entry) (u : Option Undecided) (l : LeaderOf) → NoneIsOfMaking (down_told t a e u l).posts
told-none t a None u l = none
told-none t a (Some e) None l = none
told-none t a (Some e) (Some u) l = all-plainly (ended u.client a e.epoch (outcome.Unknown t)) (ended-end u.client a e.epoch (outcome.Unknown t) (inl refl))

status-none : (t : ℕ) (a : AttemptId) (inc : ℕ) (l : LeaderOf) → NoneIsOfMaking (status_asked t a inc l).posts
status-none t a inc l = by (inc == l.incarnation)
  where
    by : (b : Bool) → NoneIsOfMaking (if b then record { leader = l; posts = to_target t (message.Status a inc) ∷ [] } else quietly l).posts
    by true = single _ _ refl
    by false = none

prepare-none : (t : ℕ) (down : Bool) (a : AttemptId) (inc : ℕ) (l : LeaderOf) → NoneIsOfMaking (prepare_reset t down a inc l).posts
unfolding prepare_reset
prepare-none t true a inc l = told-none t a (entry_led a l) (undecided_of a l) l
prepare-none t false a inc l = status-none t a inc l

mark-none : (t : ℕ) (down : Bool) (inc : ℕ) (marks : List (AttemptId × Bool)) (l : LeaderOf) → NoneIsOfMaking (mark_reset t down inc marks l).posts
unfolding mark_reset
mark-none t true inc marks l = none
mark-none t false inc marks l = single _ _ refl

query-none : (down : Bool) (a : AttemptId) (ask : Option AttemptId) (s : member.MemberOf) → NoneIsOfMaking (member.query_reset down a ask s).freed.posts
unfolding member.unresolved
query-none down a None s = none
query-none down a (Some x) s = all-plainly (member.all_unresolved_told a (filter (member.is_waiting a x) s.memory.parked)) (all-unresolved-end a (filter (member.is_waiting a x) s.memory.parked))

both : (ps qs : List Post) → NoneIsOfMaking ps → NoneIsOfMaking qs → NoneIsOfMaking (ps ++ qs)
both ps qs f g q i = elim (has-cases ps qs q i) [ inl j ↦ f q j | inr j ↦ g q j ]

reset-none : (t : TargetPlan) (m : TargetMemory) (by : ℕ) (down : Bool) (asked : Message) (k : Kept) → is_of_snapshots asked ≡ false → NoneIsOfMaking (reset_by t m by down asked k).1.posts
reset-none t m by down (message.Snap x c name tracker) k off = let no : ⊥ = cc in absurd no
reset-none t m by down (message.Freeze x c s) k off = let no : ⊥ = cc in absurd no
reset-none t m by down (message.Held x refusal) k off = let no : ⊥ = cc in absurd no
reset-none t m by down (message.Prune x c tracker e) k off = let no : ⊥ = cc in absurd no
reset-none t m by down (message.Prepare e first ws inc) k off =
    both (prepare_reset by down e.attempt inc (leader_at t m k.durable)).posts [] (prepare-none by down e.attempt inc (leader_at t m k.durable)) none
reset-none t m by down (message.Status a inc) k off = both (prepare_reset by down a inc (leader_at t m k.durable)).posts [] (prepare-none by down a inc (leader_at t m k.durable)) none
reset-none t m by down (message.Mark inc marks) k off = both (mark_reset by down inc marks (leader_at t m k.durable)).posts [] (mark-none by down inc marks (leader_at t m k.durable)) none
reset-none t m by down (message.Query a ask) k off = query-none down a ask (member_at t m)
reset-none t m by down asked k off = none

-- ---- every such message

-- what a member tells that holds nothing, it refuses an attempt with
status-may : (x : AttemptId) (how : EntryState) → MayEnd (status_refusal x how)
status-may x state.Prepared = tt
status-may x state.Committed = tt
status-may x state.Absent = refl

at-once : (left_by : Kept → TargetMemory × Did) (s : AtOnce) (k : Kept) (left : TargetMemory × Did) → ((j : Kept) → NoneIsOfMaking (left_by j).1.posts) → EndsAs left_by s k left
    → NoneIsOfMaking left.1.posts
at-once left_by s k left each ends = these _ left.1.posts (ap (λ o. o.1.posts) (as-done left_by s k left ends)) (each k)

pub further-none : (number : ℕ) (t : TargetPlan) (opening : Epoch × FloorWhy) (m : TargetMemory) (reading : ℕ) (from : ActorId) (q : Message) (old new : Kept) (left : TargetMemory × Did)
    → tells_of_snapshots q ≡ false
    → HearsFurther number t opening m reading from q old new left → NoneIsOfMaking left.1.posts
further-none number t opening m reading from (message.Commit x ep first tracker ws) old new left off h = down-none t m reading (commit_request x ep first tracker ws) from h.last new left h.ends
further-none number t opening m reading from (message.Ask x) old new left off h = at-once (ask_left t m from x) h.last new left (ask-none t m from x) h.ends
further-none number t opening m reading from (message.Status x inc) old new left off h = at-once (status_left m from x inc) h.last new left (λ j. single from _ refl) h.ends
further-none number t opening m reading from (message.StatusIs x inc how) old new left off h =
    all-plainly left.1.posts (hears-tells t opening m reading from (message.Ack x inc (status_refusal x how)) old new left (status-may x how) h).0
further-none number t opening m reading from (message.Reset' by down place (more_of-Message asked rest)) old new left off h =
    at-once (reset_by t m by down asked) h.last new left (λ j. reset-none t m by down asked j off) h.ends
further-none number t opening m reading from (message.Snap x c called tracker) old new left off h = let no : ⊥ = cc in absurd no
further-none number t opening m reading from (message.Freeze x c s) old new left off h = let no : ⊥ = cc in absurd no
further-none number t opening m reading from (message.Held x refusal) old new left off h = let no : ⊥ = cc in absurd no
further-none number t opening m reading from (message.Prune x c tracker e) old new left off h = let no : ⊥ = cc in absurd no
further-none number t opening m reading from q old new left off h = absurd h
