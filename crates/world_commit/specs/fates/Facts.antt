-- The facts of one attempt between its leader, each other member and the letters between them, in a run in which targets may stop.
use Rattle.std.specs.Prelude.{ℕ, ◌≡◌, ◌⊎◌, ◌+◌, ◌≤◌, Bool, true, false, ◌&&◌, ◌||◌, ◌==◌, not, List, slice_get, Option, Some, None}
use Rattle.base_types.specs.declared.entry.Entry.{Entry}
use Rattle.base_types.specs.declared.entry.EntryState.{EntryState}
use Rattle.base_types.specs.declared.entry.EntryState.TheVariants as state
use Rattle.base_types.specs.declared.epoch.Epoch.{Epoch}
use Rattle.base_types.specs.declared.id.AttemptId.{AttemptId}
use Rattle.base_types.specs.declared.operation.MinorWrite.{MinorWrite}
use Rattle.base_types.specs.declared.outcome.Outcome.{Outcome}
use Rattle.model_laws.specs.Members.{Has}
use Rattle.base_messages.specs.declared.actor.ActorId.{ActorId}
use Rattle.base_messages.specs.declared.message.Message.{Message, more_of-Message}
use Rattle.base_messages.specs.declared.message.Message.TheVariants as message
use Rattle.daos_model.specs.Durables.{same_attempt}
use Rattle.dtx_base.specs.declared.leading.Undecided.{Undecided}
use Rattle.dtx_base.specs.Members.{has_target, writes_at}
use Rattle.world_commit.specs.attempts.Attempts.{Entries, IsBorn, IsFromLeader, IsHeld, IsMarkTrue, IsOkRight, IsOpenAt, IsOrdered, IsOther, IsSettled, IsToLeader, IsUnsettled, IsVerdictTrue, count, entry_at, first_entry, inc_at, is_known_at, is_prepare_to, is_target, leader_of, one_if, row_at, writes_of}
use Rattle.world_commit.specs.attempts.History.{Aborted, Decided, History}
use Rattle.base_types.specs.declared.entry.Verdict.{Verdict}
use Rattle.world_base.specs.declared.letter.Letter.{Letter}
use Rattle.world_base.specs.declared.target.Life.TheVariants.{Running}
use Rattle.world_base.specs.declared.target.TargetState.{TargetState}
use Rattle.world_base.specs.declared.world.World.{World}
use Rattle.world_base.specs.Events.{Rules}
use Rattle.world_base.specs.Letters.{client}
use Rattle.world_base.specs.Stops.{no_memory}

-- ---- who asks for an attempt, and who answers

-- a leader of this incarnation asks a member for an attempt: to prepare it, or what became of it there
abbrev pub asks_for : ℕ → AttemptId → Message → Bool
asks_for inc x (message.Prepare e first ws i) = same_attempt e.attempt x && (i == inc)
asks_for inc x (message.Status a i) = same_attempt a x && (i == inc)
asks_for inc x m = false

-- the leader is answered, or told that it gets no answer
abbrev pub answers_for : ℕ → AttemptId → Message → Bool
answers_for inc x (message.Ack a i refusal) = same_attempt a x && (i == inc)
answers_for inc x (message.StatusIs a i how) = same_attempt a x && (i == inc)
answers_for inc x (message.Reset' t down place (more_of-Message q rest)) = asks_for inc x q
answers_for inc x m = false

-- a leader asks to prepare an attempt
abbrev pub prepares_it : AttemptId → Message → Bool
prepares_it x (message.Prepare e first ws i) = same_attempt e.attempt x
prepares_it x m = false

-- or is told that it gets no answer to that
abbrev pub prepares_in_vain : AttemptId → Message → Bool
prepares_in_vain x (message.Reset' t down place (more_of-Message q rest)) = prepares_it x q
prepares_in_vain x m = false

-- a letter to a member that asks so, or one from it to the leader that answers so
unfoldable pub is_between : (Message → Bool) → (Message → Bool) → ℕ → ℕ → Letter → Bool
is_between asks answers leader m l = (is_target m l.to && asks l.message) || (is_target leader l.to && (is_target m l.from && answers l.message))

-- a leader of this incarnation asks a member for an attempt, or is answered
abbrev pub is_talk : Rules → ℕ → AttemptId → ℕ → Letter → Bool
is_talk r inc x m = is_between (asks_for inc x) (answers_for inc x) (leader_of r x) m

-- a leader of any incarnation asks a member to prepare an attempt, or is told that it gets no answer
abbrev pub is_try : Rules → AttemptId → ℕ → Letter → Bool
is_try r x m = is_between (prepares_it x) (prepares_in_vain x) (leader_of r x) m

-- how many letters do
abbrev pub talking : Rules → ℕ → World → AttemptId → ℕ → ℕ
talking r inc w x m = count (is_talk r inc x m) w.messages

abbrev pub preparing : Rules → World → AttemptId → ℕ → ℕ
preparing r w x m = count (is_try r x m) w.messages

-- a member tells a leader of this incarnation that it refuses an attempt, or holds nothing of it
abbrev pub refuses_for : ℕ → AttemptId → Message → Bool
refuses_for inc x (message.Ack a i (Some how)) = same_attempt a x && (i == inc)
refuses_for inc x (message.StatusIs a i state.Absent) = same_attempt a x && (i == inc)
refuses_for inc x m = false

abbrev pub down_in : Option TargetState → ℕ → Bool
down_in None m = false
down_in (Some s) m = has_target s.memory.leader.down m

-- a leader knows that a target is down
abbrev pub knows_down : World → ℕ → ℕ → Bool
knows_down w leader m = down_in (slice_get w.targets leader) m

-- exactly one; or none, of a member that is known to be down
abbrev pub IsOneUnless : Bool → ℕ → Type 0
IsOneUnless down n = (n ≡ 1) ⊎ ((n ≡ 0) × (down ≡ true))

-- ---- what is asked of targets at once

-- what a target asks another, and is answered in the turn in which that hears it
abbrev pub is_prompt_kind : Message → Bool
is_prompt_kind (message.Prepare e first ws inc) = true
is_prompt_kind (message.Mark inc marks) = true
is_prompt_kind (message.Query x ask) = true
is_prompt_kind (message.Status x inc) = true
is_prompt_kind (message.Freeze x cont e) = true
is_prompt_kind (message.Prune x cont tracker e) = true
is_prompt_kind m = false

unfoldable pub is_prompt : Letter → Bool
is_prompt l = is_prompt_kind l.message && (not l.from.client && not l.to.client)

-- it is without an answer as often as it is in flight
abbrev pub PromptsFly : World → Type 0
PromptsFly w = (p : Letter → Bool) → ((l : Letter) → p l ≡ true → is_prompt l ≡ true) → count p w.asked ≡ count p w.messages

-- ---- what letters say

-- a Prepare carries the entry as the leader stored it, at an epoch that was issued, and the writes of the member's groups
pub record IsPrepareRight (r : Rules) (h : History) (w : World) (from to : ActorId) (e : Entry) (ws : List MinorWrite) (inc : ℕ) : Type 0 where
  pub way : IsFromLeader r e.attempt from to
  pub entry : e ≡ first_entry r e.attempt e.epoch
  pub issued : Has (e.attempt, e.epoch) w.issued
  pub writes : ws ≡ writes_at r.script.targets way.member (writes_of r e.attempt)
  pub incarnation : inc ≤ inc_at w (leader_of r e.attempt)
  pub born : IsBorn r h w e.attempt

-- one who says Ok holds the attempt, unless it is aborted; one who refuses tells of no commit
pub record IsAckRight (r : Rules) (h : History) (w : World) (from to : ActorId) (x : AttemptId) (inc : ℕ) (refusal : Option Outcome) : Type 0 where
  pub way : IsToLeader r x from to
  pub incarnation : inc ≤ inc_at w (leader_of r x)
  pub born : IsBorn r h w x
  pub held : IsOkRight h w x way.member refusal

-- what is said to be committed is decided; what is said to be aborted is aborted
pub record IsMarkRight (r : Rules) (h : History) (w : World) (from to : ActorId) (x : AttemptId) (inc : ℕ) (committed : Bool) : Type 0 where
  pub way : IsFromLeader r x from to
  pub incarnation : inc ≤ inc_at w (leader_of r x)
  pub fate : IsMarkTrue h x committed

-- a member that has settled an attempt has committed it, or the attempt is aborted
pub record IsMarkedRight (r : Rules) (h : History) (w : World) (from to : ActorId) (x : AttemptId) (inc : ℕ) : Type 0 where
  pub way : IsToLeader r x from to
  pub incarnation : inc ≤ inc_at w (leader_of r x)
  pub settled : IsSettled w way.member x ⊎ Aborted h x

pub record IsQueryRight (r : Rules) (h : History) (w : World) (from to : ActorId) (x : AttemptId) : Type 0 where
  pub way : IsToLeader r x from to
  pub born : IsBorn r h w x

pub record IsVerdictRight (r : Rules) (h : History) (w : World) (from to : ActorId) (x : AttemptId) (v : Verdict) : Type 0 where
  pub way : IsFromLeader r x from to
  pub born : IsBorn r h w x
  pub fate : IsVerdictTrue h x v

pub record IsStatusRight (r : Rules) (h : History) (w : World) (from to : ActorId) (x : AttemptId) (inc : ℕ) : Type 0 where
  pub way : IsFromLeader r x from to
  pub incarnation : inc ≤ inc_at w (leader_of r x)
  pub born : IsBorn r h w x

-- a member that says that it has an entry holds the attempt, unless it is aborted
abbrev pub IsStateTrue : History → World → AttemptId → ℕ → EntryState → Type 0
IsStateTrue h w x m state.Absent = Unit {0}
IsStateTrue h w x m state.Prepared = IsHeld w m x ⊎ Aborted h x
IsStateTrue h w x m state.Committed = IsHeld w m x ⊎ Aborted h x

pub record IsStateRight (r : Rules) (h : History) (w : World) (from to : ActorId) (x : AttemptId) (inc : ℕ) (how : EntryState) : Type 0 where
  pub way : IsToLeader r x from to
  pub incarnation : inc ≤ inc_at w (leader_of r x)
  pub born : IsBorn r h w x
  pub held : IsStateTrue h w x way.member how

-- what a target asks another is so; what clients ask is other crates' matter
abbrev pub IsAskedSo : Rules → History → World → ActorId → ActorId → Message → Type 0
IsAskedSo r h w from to (message.Prepare e first ws inc) = IsPrepareRight r h w from to e ws inc
IsAskedSo r h w from to (message.Mark inc marks) = (x : AttemptId) (committed : Bool) → Has (x, committed) marks → IsMarkRight r h w from to x inc committed
IsAskedSo r h w from to (message.Query x ask) = IsQueryRight r h w from to x
IsAskedSo r h w from to (message.Status x inc) = IsStatusRight r h w from to x inc
IsAskedSo r h w from to m = Unit {0}

-- so is what is answered; and a Reset tells of what was asked
abbrev pub IsSaidSo : Rules → History → World → ActorId → ActorId → Message → Type 0
IsSaidSo r h w from to (message.Ack x inc refusal) = IsAckRight r h w from to x inc refusal
IsSaidSo r h w from to (message.Marked inc ids) = (x : AttemptId) → Has x ids → IsMarkedRight r h w from to x inc
IsSaidSo r h w from to (message.Verdict x ask inc v) = IsVerdictRight r h w from to x v
IsSaidSo r h w from to (message.StatusIs x inc how) = IsStateRight r h w from to x inc how
IsSaidSo r h w from to (message.Reset' t down place (more_of-Message q rest)) = IsAskedSo r h w to from q
IsSaidSo r h w from to m = IsAskedSo r h w from to m

-- ---- the facts of one attempt

-- A row of an attempt: its entry isn't committed, and it isn't known as decided. It may be decided, by an earlier incarnation of its leader.
-- Where a client waits, it is the attempt's.
pub record IsRow (r : Rules) (w : World) (x : AttemptId) (t : ℕ) (u : Undecided) : Type 0 where
  pub here : IsOpenAt r w x t
  pub unknown : is_known_at w t x ≡ false
  pub client : (c : ActorId) → u.client ≡ Some c → c ≡ client x.client

abbrev pub RunsAt : World → ℕ → Type 0
RunsAt w t = (s : TargetState) → slice_get w.targets t ≡ Some s → s.life ≡ Running

-- what its leader remembers of an attempt
pub record Rows (r : Rules) (h : History) (w : World) (x : AttemptId) : Type 0 where
  -- rows are of entries that the leader hasn't committed
  pub undecided : (t : ℕ) (u : Undecided) → row_at w t x ≡ Some u → IsRow r w x t u
  pub unsettled : (t : ℕ) → is_known_at w t x ≡ true → IsUnsettled r h w x t
  -- and while the leader runs each such entry has one
  pub either : (e : Entry) → RunsAt w (leader_of r x) → entry_at w (leader_of r x) x ≡ Some e → e.committed ≡ false
      → (is_known_at w (leader_of r x) x ≡ true) ⊎ ((u : Undecided) × (row_at w (leader_of r x) x ≡ Some u))

-- who is asked for an attempt, has answered, and is counted
pub record Awaited (r : Rules) (h : History) (w : World) (x : AttemptId) : Type 0 where
  -- Of each other member of an attempt with a row just one: it is asked by the present incarnation, its answer is in flight, or the news
  -- that there is none, or it is counted. Of one that is known to be down there may be none.
  pub once : (m : ℕ) (u : Undecided) → IsOther r x m → row_at w (leader_of r x) x ≡ Some u
      → IsOneUnless (knows_down w (leader_of r x) m) (talking r (inc_at w (leader_of r x)) w x m + one_if (has_target u.counted m))
  -- by each incarnation at most one is asked, and by all of them together it is asked at most once to prepare
  pub few : (inc m : ℕ) → IsOther r x m → talking r inc w x m ≤ 1
  pub tries : (m : ℕ) → IsOther r x m → preparing r w x m ≤ 1
  -- while a Prepare is in flight, the member holds nothing of the attempt
  pub before : (m : ℕ) (l : Letter) → Has l w.messages → is_prepare_to x m l ≡ true → entry_at w m x ≡ None
  -- a member that is counted holds the attempt
  pub counted : (m : ℕ) (u : Undecided) → IsOther r x m → row_at w (leader_of r x) x ≡ Some u → has_target u.counted m ≡ true → IsHeld w m x
  -- of a decided attempt nobody refuses to the present incarnation
  pub firm : (l : Letter) (e : Epoch) → Has l w.messages → refuses_for (inc_at w (leader_of r x)) x l.message ≡ true → Decided h x e → ⊥

pub record Attempt (r : Rules) (h : History) (w : World) (x : AttemptId) : Type 0 where
  pub entries : Entries r h w x
  pub rows : Rows r h w x
  pub awaited : Awaited r h w x

-- ---- all together

-- a target that doesn't run knows nothing
abbrev pub IsQuiet : TargetState → Type 0
IsQuiet s = (s.life ≡ Running → ⊥) → s.memory ≡ no_memory

-- the facts of all attempts, in the middle of a turn too
pub record Ongoing (r : Rules) (h : History) (w : World) : Type 0 where
  pub each : (x : AttemptId) → Attempt r h w x
  pub letters : (l : Letter) → Has l w.messages → IsSaidSo r h w l.from l.to l.message
  pub asked : (l : Letter) → Has l w.asked → IsAskedSo r h w l.from l.to l.message
  pub ordered : (t : ℕ) (s : TargetState) → slice_get w.targets t ≡ Some s → IsOrdered s
  pub quiet : (t : ℕ) (s : TargetState) → slice_get w.targets t ≡ Some s → IsQuiet s

-- the facts of all attempts between two events
pub record Attempts (r : Rules) (h : History) (w : World) : Type 0 where
  pub on : Ongoing r h w
  pub prompt : PromptsFly w
