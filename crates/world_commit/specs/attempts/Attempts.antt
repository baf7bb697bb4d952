-- The facts of one attempt between its leader, each other member and the letters between them.
use Rattle.std.specs.Prelude.{ℕ, ◌≡◌, ◌≢◌, ◌⊎◌, ◌+◌, Bool, true, false, ◌&&◌, ◌==◌, not, List, [], ◌∷◌, slice_get, Option, Some, None}
use Rattle.base_types.specs.declared.entry.Entry.{Entry}
use Rattle.base_types.specs.declared.entry.Verdict.{Verdict}
use Rattle.base_types.specs.declared.entry.Verdict.TheVariants as verdict
use Rattle.base_types.specs.declared.epoch.Epoch.{Epoch}
use Rattle.base_types.specs.declared.id.AttemptId.{AttemptId}
use Rattle.base_types.specs.declared.operation.MinorWrite.{MinorWrite}
use Rattle.base_types.specs.declared.outcome.Outcome.{Outcome}
use Rattle.base_types.specs.declared.outcome.Outcome.TheVariants.{Committed}
use Rattle.base_types.specs.Placement.{writes_members}
use Rattle.model_laws.specs.Members.{Has}
use Rattle.base_messages.specs.declared.actor.ActorId.{ActorId}
use Rattle.base_messages.specs.declared.message.Message.{Message}
use Rattle.base_messages.specs.declared.message.Message.TheVariants as message
use Rattle.daos_model.specs.Accesses.{minor_writes}
use Rattle.daos_model.specs.CausesShown.{leader_of_attempt}
use Rattle.daos_model.specs.Durables.{entry_key, entry_of, same_attempt}
use Rattle.daos_model.specs.Ordered.{is_rising}
use Rattle.daos_model.specs.Transactions.{attempt_ops}
use Rattle.dtx_base.specs.declared.leading.Undecided.{Undecided}
use Rattle.dtx_base.specs.Leading.{undecided_attempt}
use Rattle.dtx_base.specs.Members.{has_target, other_members}
use Rattle.dtx_base.specs.Rows.{is_among, itself, row_key, row_of}
use Rattle.world_commit.specs.attempts.History.{Aborted, Decided, History}
use Rattle.world_base.specs.declared.letter.Letter.{Letter}
use Rattle.world_base.specs.declared.target.TargetState.{TargetState}
use Rattle.world_base.specs.declared.world.World.{World}
use Rattle.world_base.specs.Events.{Rules}
use Rattle.world_base.specs.Letters.{target}
use Rattle.world_base.specs.Commits.{bits_of}

-- ---- what the script says of an attempt

-- what it writes, the target that leads it, and its members as bits
abbrev pub writes_of : Rules → AttemptId → List MinorWrite
writes_of r x = minor_writes 0 (attempt_ops r.script x)

abbrev pub leader_of : Rules → AttemptId → ℕ
leader_of r x = leader_of_attempt r.script x

abbrev pub members_of : Rules → AttemptId → ℕ
members_of r x = bits_of (writes_members (writes_of r x) r.script.targets)

-- its entry as its leader stores it first
abbrev pub first_entry : Rules → AttemptId → Epoch → Entry
first_entry r x e = record {
  attempt = x;
  epoch = e;
  leader = leader_of r x;
  members = members_of r x;
  confirmed = 0;
  committed = false;
}

-- its members but the leader
abbrev pub others_of : Rules → AttemptId → List ℕ
others_of r x = other_members (first_entry r x (record { 0 = 0 }))

abbrev pub IsOther : Rules → AttemptId → ℕ → Type 0
IsOther r x m = Has m (others_of r x)

-- ---- what targets know of an attempt

abbrev pub entry_in : Option TargetState → AttemptId → Option Entry
entry_in None x = None
entry_in (Some s) x = entry_of s.durable x

-- its entry at a target, if that keeps one
abbrev pub entry_at : World → ℕ → AttemptId → Option Entry
entry_at w t x = entry_in (slice_get w.targets t) x

abbrev pub row_in : Option TargetState → AttemptId → Option Undecided
row_in None x = None
row_in (Some s) x = row_of undecided_attempt x s.memory.leader.undecided

-- the row of it where a target leads it and hasn't decided it
abbrev pub row_at : World → ℕ → AttemptId → Option Undecided
row_at w t x = row_in (slice_get w.targets t) x

abbrev pub is_known_in : Option TargetState → AttemptId → Bool
is_known_in None x = false
is_known_in (Some s) x = is_among x s.memory.leader.decided

-- a target leads it, has decided it, and hasn't settled it
abbrev pub is_known_at : World → ℕ → AttemptId → Bool
is_known_at w t x = is_known_in (slice_get w.targets t) x

abbrev pub inc_in : Option TargetState → ℕ
inc_in None = 0
inc_in (Some s) = s.durable.incarnation

abbrev pub inc_at : World → ℕ → ℕ
inc_at w t = inc_in (slice_get w.targets t)

-- a target keeps an entry of it
pub record IsHeld (w : World) (t : ℕ) (x : AttemptId) : Type 0 where
  pub entry : Entry
  pub found : entry_at w t x ≡ Some entry

-- a target keeps an entry of it that is committed
pub record IsSettled (w : World) (t : ℕ) (x : AttemptId) : Type 0 where
  pub entry : Entry
  pub found : entry_at w t x ≡ Some entry
  pub committed : entry.committed ≡ true

-- its leader has stored it: it keeps its entry, or the attempt is aborted
abbrev pub IsBorn : Rules → History → World → AttemptId → Type 0
IsBorn r h w x = IsHeld w (leader_of r x) x ⊎ Aborted h x

-- ---- letters

-- a letter goes from an attempt's leader to another member, or from another member to the leader
pub record IsFromLeader (r : Rules) (x : AttemptId) (from to : ActorId) : Type 0 where
  pub member : ℕ
  pub other : IsOther r x member
  pub sender : from ≡ target (leader_of r x)
  pub receiver : to ≡ target member

pub record IsToLeader (r : Rules) (x : AttemptId) (from to : ActorId) : Type 0 where
  pub member : ℕ
  pub other : IsOther r x member
  pub sender : from ≡ target member
  pub receiver : to ≡ target (leader_of r x)

-- one who says Ok holds the attempt, unless it is aborted; one who refuses tells of no commit
abbrev pub IsOkRight : History → World → AttemptId → ℕ → Option Outcome → Type 0
IsOkRight h w x m None = IsHeld w m x ⊎ Aborted h x
IsOkRight h w x m (Some how) = how ≢ Committed

-- what is said to be committed is decided; what is said to be aborted is aborted
abbrev pub IsMarkTrue : History → AttemptId → Bool → Type 0
IsMarkTrue h x true = (e : Epoch) × Decided h x e
IsMarkTrue h x false = Aborted h x

abbrev pub IsVerdictTrue : History → AttemptId → Verdict → Type 0
IsVerdictTrue h x verdict.Committed = (e : Epoch) × Decided h x e
IsVerdictTrue h x verdict.Aborted = Aborted h x
IsVerdictTrue h x verdict.Undecided = Unit {0}

-- ---- who is asked

abbrev pub is_target : ℕ → ActorId → Bool
is_target m a = not a.client && (a.number == m)

-- a member is asked to prepare an attempt
abbrev pub is_asked_by : AttemptId → ℕ → ActorId → Message → Bool
is_asked_by x m to (message.Prepare e first ws inc) = same_attempt e.attempt x && is_target m to
is_asked_by x m to n = false

unfoldable pub is_prepare_to : AttemptId → ℕ → Letter → Bool
is_prepare_to x m l = is_asked_by x m l.to l.message

abbrev pub one_if : Bool → ℕ
one_if true = 1
one_if false = 0

-- how many of some pass a test
abbrev pub count : {T : Type 0} → (T → Bool) → List T → ℕ
count p [] = 0
count p (x ∷ xs) = one_if (p x) + count p xs

-- ---- the facts of one attempt

-- An entry is the attempt's, at an epoch that was issued to it; it stands at the leader or at another member.
pub record IsItsEntry (r : Rules) (w : World) (x : AttemptId) (t : ℕ) (e : Entry) : Type 0 where
  pub attempt : e.attempt ≡ x
  pub leader : e.leader ≡ leader_of r x
  pub members : e.members ≡ members_of r x
  pub issued : Has (x, e.epoch) w.issued
  pub place : (t ≡ leader_of r x) ⊎ IsOther r x t

-- a target holds the attempt at this epoch
pub record HoldsAt (w : World) (t : ℕ) (x : AttemptId) (e : Epoch) : Type 0 where
  pub entry : Entry
  pub found : entry_at w t x ≡ Some entry
  pub epoch : entry.epoch ≡ e

-- entries of an attempt
pub record Entries (r : Rules) (h : History) (w : World) (x : AttemptId) : Type 0 where
  -- one entry: each has the attempt's epoch, leader and members
  pub one : (t : ℕ) (e : Entry) → entry_at w t x ≡ Some e → IsItsEntry r w x t e
  -- where one stands, the leader has one, or the attempt is aborted
  pub born : (t : ℕ) (e : Entry) → entry_at w t x ≡ Some e → IsBorn r h w x
  -- a committed one is of a decided attempt
  pub committed : (t : ℕ) (e : Entry) → entry_at w t x ≡ Some e → e.committed ≡ true → Decided h x e.epoch
  -- a member that confirmed the commit has committed it
  pub confirmed : (m : ℕ) (e : Entry) → entry_at w (leader_of r x) x ≡ Some e → IsOther r x m → has_target e.confirmed m ≡ true → IsSettled w m x
  -- once the attempt is decided, its leader and each other member hold it
  pub held_by_leader : (e : Epoch) → Decided h x e → HoldsAt w (leader_of r x) x e
  pub held_by_others : (e : Epoch) (m : ℕ) → Decided h x e → IsOther r x m → HoldsAt w m x e
  -- once it is aborted, its leader has no entry of it
  pub aborted : Aborted h x → entry_at w (leader_of r x) x ≡ None

-- its leader has an entry of it that isn't committed
pub record IsOpenAt (r : Rules) (w : World) (x : AttemptId) (t : ℕ) : Type 0 where
  pub leads : t ≡ leader_of r x
  pub entry : Entry
  pub found : entry_at w t x ≡ Some entry
  pub prepared : entry.committed ≡ false

-- an attempt that is known as decided: it is, at the epoch of its entry
pub record IsUnsettled (r : Rules) (h : History) (w : World) (x : AttemptId) (t : ℕ) : Type 0 where
  pub here : IsOpenAt r w x t
  pub decided : Decided h x here.entry.epoch

-- ---- all together

-- what a target keeps and remembers stands in the order of attempts, so none stands twice
pub record IsOrdered (s : TargetState) : Type 0 where
  pub entries : is_rising entry_key s.durable.entries ≡ true
  pub decided : is_rising (row_key itself) s.memory.leader.decided ≡ true

-- an attempt's leader, or another member of it
abbrev pub IsMember : Rules → AttemptId → ℕ → Type 0
IsMember r x t = (t ≡ leader_of r x) ⊎ IsOther r x t
