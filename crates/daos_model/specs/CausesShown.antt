-- What an attempt that didn't take effect shows: a later access, a floor, an unresolved transaction, or what else was wanting.
use Rattle.std.specs.Prelude.{ℕ, ◌+◌, ◌*◌, ◌^◌, ◌≡◌, ◌≤◌, ◌<◌, ◌==◌, ◌||◌, ◌&&◌, Bool, true, false, not, max, List, [], ◌∷◌, ◌++◌, Option, Some, None, Any, Contains, find, is_some, length, map, if◌then◌else◌}
use Rattle.std.specs.List.{list_any}
use Rattle.base_types.specs.declared.epoch.Epoch.{Epoch}
use Rattle.base_types.specs.declared.id.AttemptId.{AttemptId}
use Rattle.base_types.specs.declared.id.ContId.{ContId}
use Rattle.base_types.specs.declared.operation.MinorWrite.{MinorWrite}
use Rattle.base_types.specs.declared.operation.Op.{Op}
use Rattle.base_types.specs.declared.outcome.Cause.{Cause}
use Rattle.base_types.specs.declared.outcome.Cause.TheVariants as cause
use Rattle.base_types.specs.declared.outcome.FloorWhy.{FloorWhy}
use Rattle.base_types.specs.declared.outcome.FloorWhy.TheVariants as why
use Rattle.base_types.specs.declared.outcome.Outcome.{Outcome}
use Rattle.base_types.specs.declared.outcome.Outcome.TheVariants as outcome
use Rattle.base_types.specs.declared.path.Path.{Path}
use Rattle.base_types.specs.declared.report.Attempt.{Attempt}
use Rattle.base_types.specs.declared.report.Line.{Line}
use Rattle.base_types.specs.declared.report.Line.TheVariants as line
use Rattle.base_types.specs.declared.report.Report.{Report}
use Rattle.base_types.specs.declared.script.Command.{Command}
use Rattle.base_types.specs.declared.script.Command.TheVariants.{Run, Snap, Aggregate, Tell, Skip}
use Rattle.base_types.specs.declared.script.Script.{Script}
use Rattle.base_types.specs.Epochs.{last_ticks}
use Rattle.base_types.specs.Operations.{write_path}
use Rattle.base_types.specs.Paths.{near, overlaps}
use Rattle.base_types.specs.Placement.{path_members, writes_leader}
use Rattle.daos_model.specs.Accesses.{access_paths, attempt_targets, is_asked, minor_writes, op_path}
use Rattle.daos_model.specs.Attempts.{EachTry, has_own_epoch, is_lost, is_unknown, tries, up_to_last_of}
use Rattle.daos_model.specs.Blocks.{blocks}
use Rattle.daos_model.specs.Durables.{same_attempt}
use Rattle.daos_model.specs.Opening.{Given}
use Rattle.daos_model.specs.Stops.{restart_numbers}
use Rattle.daos_model.specs.Transactions.{attempt_ops, command_of}

-- paths near which an attempt writes
abbrev pub WritesNear : List Op → Path → Type 0
WritesNear ops p = Any (λ w. near p (write_path w.write) ≡ true) (minor_writes 0 ops)

-- an operation reads a path, or asks about it
abbrev pub AsksAt : Path → Op → Type 0
AsksAt p op = (is_asked op ≡ true) × (op_path op ≡ p)

-- a later read: an attempt with this epoch, above the writer's, that isn't a snapshot read, and asks at a path near a write
pub record IsLaterRead (s : Script) (attempts : List Attempt) (a : Attempt) (by : AttemptId) (epoch : Epoch) (path : Path) : Type 0 where
  pub own : Epoch
  pub issued : a.epoch ≡ Some own
  pub later : own.0 < epoch.0
  pub reader : Any (λ b. (b.id ≡ by) × (b.epoch ≡ Some epoch) × (has_own_epoch s b ≡ true)) attempts
  pub asks : Any (AsksAt path) (attempt_ops s by)
  pub near : WritesNear (attempt_ops s a.id) path

-- the first attempt of a command that wasn't lost at a stop
abbrev pub starts_command : AttemptId → Attempt → Bool
starts_command x a = (a.id.client == x.client) && (a.id.command == x.command) && not (is_lost a.id a.outcome)

abbrev pub epoch_of_attempt : Option Attempt → Option Epoch
epoch_of_attempt None = None
epoch_of_attempt (Some a) = a.epoch

-- the first epoch of a command: that of its first attempt that wasn't lost at a stop
abbrev pub first_epoch : List Attempt → AttemptId → Option Epoch
first_epoch attempts x = epoch_of_attempt (find (starts_command x) attempts)

-- a later write within what the clocks leave uncertain: an attempt with this epoch and a write on a path near an access
pub record IsLaterWrite (s : Script) (epsilon : ℕ) (attempts : List Attempt) (a : Attempt) (by : AttemptId) (epoch : Epoch) (path : Path) : Type 0 where
  pub own : Epoch
  pub issued : a.epoch ≡ Some own
  pub later : own.0 < epoch.0
  pub first : Epoch
  pub begun : first_epoch attempts a.id ≡ Some first
  pub uncertain : epoch.0 ≤ first.0 + 256 * epsilon
  pub writer : Any (λ b. (b.id ≡ by) × (b.epoch ≡ Some epoch)) attempts
  pub writes : Any (λ w. write_path w.write ≡ path) (minor_writes 0 (attempt_ops s by))
  pub near : Any (λ p. near p path ≡ true) (access_paths (attempt_ops s a.id))

-- a line tells that a target stopped
abbrev pub IsStopAt : ℕ → Line → Type 0
IsStopAt t l = (n : ℕ) × (l ≡ line.Stop n t)

-- lines go on from some that stand first, and one of these targets stops in what follows
pub record StopsAfter (ts : List ℕ) (first : List Line) (lines : List Line) : Type 0 where
  pub since : List Line
  pub rest : lines ≡ first ++ since
  pub stop : Any (λ t. Any (IsStopAt t) since) ts

-- the leader of an attempt's writes
abbrev pub leader_of_attempt : Script → AttemptId → ℕ
leader_of_attempt s x = writes_leader (minor_writes 0 (attempt_ops s x)) s.targets

-- an attempt's line stands at or before the last line that the client has before its own: it was answered before the client began
abbrev pub WasAnswered : AttemptId → ℕ → List Line → Type 0
WasAnswered x client before = Any (λ b. b.id ≡ x) (tries (up_to_last_of client before))

-- why another attempt may be unresolved: it wasn't answered before this one began, or it is unknown, or its leader stopped since it
-- began
pub data IsOpen (s : Script) (lines : List Line) (before : List Line) (a : Attempt) (b : Attempt) : Type 0 where
  NotAnswered : (WasAnswered b.id a.id.client before → ⊥) → IsOpen s lines before a b
  IsUnknown : is_unknown b.outcome ≡ true → IsOpen s lines before a b
  LeaderStopped : (before_b : List Line) (after_b : List Line) → lines ≡ before_b ++ line.Try b ∷ after_b → StopsAfter (leader_of_attempt s b.id ∷ []) (up_to_last_of b.id.client before_b) before → IsOpen s lines before a b

-- another attempt that is unresolved: one below this one's epoch with a write that overlaps an access of it
pub record IsUnresolved (s : Script) (lines : List Line) (before : List Line) (a : Attempt) (b : Attempt) : Type 0 where
  pub own : Epoch
  pub issued : a.epoch ≡ Some own
  pub its : Epoch
  pub its_issued : b.epoch ≡ Some its
  pub below : its.0 < own.0
  pub overlap : Any (λ w. Any (λ p. overlaps p (write_path w.write) ≡ true) (access_paths (attempt_ops s a.id))) (minor_writes 0 (attempt_ops s b.id))
  pub unresolved : IsOpen s lines before a b

-- the attempt itself is unresolved: a target of it stopped since its client's last line
abbrev pub IsLostAtStop : Script → List Line → Attempt → Type 0
IsLostAtStop s before a = StopsAfter (attempt_targets s a.id) (up_to_last_of a.id.client before) before

-- a line that shows a floor of a target, and why it is there
abbrev pub ShowsFloor : ℕ → Epoch → ContId → FloorWhy → Line → Type 0
ShowsFloor t floor cont why.Opening l = ⊥
ShowsFloor t floor cont (why.Restart n) l = (incarnation : ℕ) × (l ≡ line.Restart n t incarnation floor)
ShowsFloor t floor cont (why.Snapshot e) l = (l ≡ line.Freeze t cont e) × (e ≡ floor)
ShowsFloor t floor cont (why.Aggregate n) l = l ≡ line.Aggregate n t cont floor

abbrev pub container_of_command : Command → List ContId
container_of_command (Run ops skips snapshot) = map (λ p. p.cont) (access_paths ops)
container_of_command (Snap name cont) = cont ∷ []
container_of_command (Aggregate cont) = cont ∷ []
container_of_command (Tell client) = []
container_of_command (Skip turns) = []

abbrev pub containers_or_none : Option Command → List ContId
containers_or_none None = []
containers_or_none (Some c) = container_of_command c

-- a floor of a target of the attempt, at or above its epoch, and the line that set it
pub record IsFloor (s : Script) (lines : List Line) (a : Attempt) (t : ℕ) (floor : Epoch) (reason : FloorWhy) : Type 0 where
  pub own : Epoch
  pub issued : a.epoch ≡ Some own
  pub reached : own.0 ≤ floor.0
  pub target : Contains (attempt_targets s a.id) t
  pub cont : ContId
  pub accessed : Contains (containers_or_none (command_of s a.id)) cont
  pub shown : Any (ShowsFloor t floor cont reason) lines

-- an unresolved transaction: the attempt itself, or another one
abbrev pub ShowsUnresolved : Script → List Line → List Line → Attempt → AttemptId → Bool → Type 0
ShowsUnresolved s lines before a by true = IsLostAtStop s before a
ShowsUnresolved s lines before a by false = Any (λ b. (b.id ≡ by) × IsUnresolved s lines before a b) (tries lines)

-- a cause that a restart shows
abbrev pub ShowsCause : Given → List Line → List Line → Attempt → Cause → Type 0
ShowsCause g lines before a (cause.ReadLater by epoch path) = IsLaterRead g.script (tries lines) a by epoch path
ShowsCause g lines before a (cause.WriteLater by epoch path) = IsLaterWrite g.script g.job.epsilon (tries lines) a by epoch path
ShowsCause g lines before a (cause.Unresolved by) = ShowsUnresolved g.script lines before a by (same_attempt by a.id)
ShowsCause g lines before a (cause.Floor target epoch reason) = IsFloor g.script lines a target epoch reason

-- the writes of a transaction that a target holds
abbrev pub writes_at : ℕ → ℕ → List MinorWrite → List MinorWrite
writes_at targets t [] = []
writes_at targets t (w ∷ ws) = (if list_any (λ m. m == t) (path_members (write_path w.write) targets) then w ∷ [] else []) ++ writes_at targets t ws

-- the blocks of the writes that a target holds; none where it holds none
abbrev pub blocks_of_some : List MinorWrite → ℕ
blocks_of_some [] = 0
blocks_of_some (w ∷ ws) = blocks (w ∷ ws)

abbrev pub blocks_at : Script → ℕ → AttemptId → ℕ
blocks_at s t x = blocks_of_some (writes_at s.targets t (minor_writes 0 (attempt_ops s x)))

abbrev pub lacks_space_at : ℕ → Outcome → Bool
lacks_space_at t outcome.Committed = false
lacks_space_at t (outcome.CondFailed op) = false
lacks_space_at t (outcome.Restart why) = false
lacks_space_at t (outcome.NoSpace target need free) = target == t
lacks_space_at t outcome.EpochsSpent = false
lacks_space_at t outcome.NoSnapshot = false
lacks_space_at t (outcome.Unknown target) = false

-- the blocks at a target of the attempts that weren't refused there for want of space, but for one of them
unfoldable pub blocks_of_others : Script → ℕ → AttemptId → List Attempt → ℕ
blocks_of_others s t x [] = 0
blocks_of_others s t x (a ∷ attempts) =
    (if same_attempt a.id x || lacks_space_at t a.outcome then 0 else blocks_at s t a.id) + blocks_of_others s t x attempts

-- a target lacks blocks for an attempt's writes there: those that the opening left and the others can't have taken are too few
pub record LacksBlocks (g : Given) (lines : List Line) (a : Attempt) (t : ℕ) (need : ℕ) (free : ℕ) : Type 0 where
  pub issued : is_some a.epoch ≡ true
  pub wanting : free < need
  pub need_is : need ≡ blocks_at g.script t a.id
  pub accounted : g.opening.free t ≤ free + blocks_of_others g.script t a.id (tries lines)

abbrev pub is_snap : Option Command → Bool
is_snap None = false
is_snap (Some (Run ops skips snapshot)) = false
is_snap (Some (Snap name cont)) = true
is_snap (Some (Aggregate cont)) = false
is_snap (Some (Tell client)) = false
is_snap (Some (Skip turns)) = false

-- how many attempts to make a snapshot there are, but for one of them
abbrev pub other_snaps : Script → AttemptId → List Attempt → ℕ
other_snaps s x [] = 0
other_snaps s x (a ∷ attempts) = (if is_snap (command_of s a.id) && not (same_attempt a.id x) then 1 else 0) + other_snaps s x attempts

-- no place is left for a snapshot: those of the opening and those that others make may fill all 256
pub record LacksPlace (g : Given) (lines : List Line) (a : Attempt) (t : ℕ) (need : ℕ) (free : ℕ) : Type 0 where
  pub issued : is_some a.epoch ≡ true
  pub target : Contains (attempt_targets g.script a.id) t
  pub need_is : need ≡ 1
  pub free_is : free ≡ 0
  pub full : 256 ≤ length g.opening.stand.snaps + other_snaps g.script a.id (tries lines)

abbrev pub LacksSpace : Bool → Given → List Line → Attempt → ℕ → ℕ → ℕ → Type 0
LacksSpace true g lines a t need free = LacksPlace g lines a t need free
LacksSpace false g lines a t need free = LacksBlocks g lines a t need free

-- the ticks may be spent: those of the opening, a lease for each restart and one for each attempt pass the last
abbrev pub AreSpent : Given → List Line → Type 0
AreSpent g lines = last_ticks < max (2 ^ 55) g.opening.lease + 65536 * length (restart_numbers lines) + length (tries lines)

-- a target of the attempt was given up before the attempt ended
pub record IsGone (s : Script) (before : List Line) (a : Attempt) (t : ℕ) : Type 0 where
  pub target : Contains (attempt_targets s a.id) t
  pub down : Contains before (line.Down t)

-- what an outcome shows
abbrev pub ShowsWhy : Given → List Line → List Line → Attempt → Outcome → Type 0
ShowsWhy g lines before a outcome.Committed = Unit {0}
ShowsWhy g lines before a (outcome.CondFailed op) = Unit {0}
ShowsWhy g lines before a (outcome.Restart reason) = ShowsCause g lines before a reason
ShowsWhy g lines before a (outcome.NoSpace target need free) = LacksSpace (is_snap (command_of g.script a.id)) g lines a target need free
ShowsWhy g lines before a outcome.EpochsSpent = AreSpent g lines
ShowsWhy g lines before a outcome.NoSnapshot = Unit {0}
ShowsWhy g lines before a (outcome.Unknown target) = IsGone g.script before a target

abbrev pub AttemptShows : Given → List Line → List Line → Attempt → Type 0
AttemptShows g lines before a = ShowsWhy g lines before a a.outcome

-- each attempt that didn't take effect shows its cause
abbrev pub CausesShown : Given → Report → Type 0
CausesShown g q = EachTry (AttemptShows g q.lines) q.lines
