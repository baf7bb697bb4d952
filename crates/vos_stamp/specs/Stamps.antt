-- What read timestamps refuse, and why.
use Rattle.std.specs.Prelude.{ℕ, ◌≡◌, ◌<◌, Bool, true, false, ◌&&◌, nat_lt, nat_le, List, Option, Some, None, Contains, All, if◌then◌else◌}
use Rattle.base_types.specs.declared.epoch.Epoch.{Epoch}
use Rattle.base_types.specs.declared.outcome.Cause.{Cause}
use Rattle.base_types.specs.declared.outcome.Cause.TheVariants.{ReadLater, WriteLater, Floor}
use Rattle.base_types.specs.declared.outcome.FloorWhy.{FloorWhy}
use Rattle.base_types.specs.declared.outcome.FloorWhy.TheVariants.{Aggregate}
use Rattle.base_types.specs.declared.path.Path.{Path}
use Rattle.base_types.specs.declared.shown.Shown.{Shown}
use Rattle.base_types.specs.Paths.{near, overlaps}

-- a read stands against a write on a path at an epoch: it is later, and their paths overlap
abbrev pub stands_against : Path → ℕ → Shown → Bool
stands_against p e r = nat_lt e r.epoch.0 && overlaps p r.path

-- none of the reads stands against it
abbrev pub NoneAgainst : Path → ℕ → List Shown → Type 0
NoneAgainst p e reads = All (λ r. stands_against p e r ≡ false) reads

-- a later read near a path, which is shown for the one that stands against it
pub record IsShown (p : Path) (e : ℕ) (reads : List Shown) (r : Shown) : Type 0 where
  pub among : Contains reads r
  pub later : e < r.epoch.0
  pub near : near p r.path ≡ true

-- a later read is shown wherever one stands against the write, and only a later one near its path
abbrev pub AnswersLater : Path → ℕ → List Shown → Option Shown → Type 0
AnswersLater p e reads None = NoneAgainst p e reads
AnswersLater p e reads (Some r) = IsShown p e reads r

abbrev pub read_later : Shown → Cause
read_later r = ReadLater r.by r.epoch r.path

abbrev pub write_later : Shown → Cause
write_later w = WriteLater w.by w.epoch w.path

-- the floor's cause, where the epoch isn't above it
abbrev pub floor_cause : ℕ → ℕ → Epoch × FloorWhy → Option Cause
floor_cause target e floor = if nat_le e floor.0.0 then Some (Floor target floor.0 floor.1) else None

-- the cause of a later write, if there is one
abbrev pub later_cause : Option Shown → Option Cause
later_cause None = None
later_cause (Some w) = Some (write_later w)

-- a later read's cause, or where none stands against the write that of a later write
pub data ReadThenWrite (p : Path) (e : ℕ) (reads : List Shown) (later : Option Shown) (cause : Option Cause) : Type 0 where
  ByRead : (r : Shown) → IsShown p e reads r → cause ≡ Some (read_later r) → ReadThenWrite p e reads later cause
  ByWrite : NoneAgainst p e reads → cause ≡ later_cause later → ReadThenWrite p e reads later cause

abbrev pub ElseReadThenWrite : Path → ℕ → List Shown → Option Shown → Option Cause → Option Cause → Type 0
ElseReadThenWrite p e reads later None cause = ReadThenWrite p e reads later cause
ElseReadThenWrite p e reads later (Some floor) cause = cause ≡ Some floor

-- the checks of a write in their order: the floor, a later read, a later write
abbrev pub AnswersWrite : ℕ → Path → ℕ → Epoch × FloorWhy → List Shown → Option Shown → Option Cause → Type 0
AnswersWrite target p e floor reads later cause = ElseReadThenWrite p e reads later (floor_cause target e floor) cause

-- the place of a cause's check among those of a write
abbrev pub check_of : Cause → ℕ
check_of (Floor t e why) = 0
check_of (ReadLater by e p) = 1
check_of c = 2

-- of writes that are made together the cause of the earlier check is told, and of one check that of the earlier write
abbrev pub first_cause : Option Cause → Option Cause → Option Cause
first_cause None next = next
first_cause (Some before) None = Some before
first_cause (Some before) (Some next) = if nat_lt (check_of next) (check_of before) then Some next else Some before

-- the cause of the aggregated-to epoch, where a read isn't above it
abbrev pub aggregated_cause : ℕ → ℕ → Option (Epoch × ℕ) → Option Cause
aggregated_cause target e None = None
aggregated_cause target e (Some aggregated) = floor_cause target e (aggregated.0, Aggregate aggregated.1)

abbrev pub or_later : Option Cause → Option Shown → Option Cause
or_later None later = later_cause later
or_later (Some cause) later = Some cause

-- the checks of a read in their order: the aggregated-to epoch, a later write
abbrev pub read_cause : ℕ → ℕ → Option (Epoch × ℕ) → Option Shown → Option Cause
read_cause target e aggregated later = or_later (aggregated_cause target e aggregated) later
