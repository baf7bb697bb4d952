-- When a target's versions stand for decided transactions, and what keeps it so.
use Rattle.std.specs.Prelude.{ℕ, ◌≡◌, ◌≤◌, ◌⊎◌, Bool, true, false, ◌&&◌, nat_lt, List, map, filter, Contains}
use Rattle.std.specs.List.{list_all}
use Rattle.base_types.specs.declared.entry.Entry.{Entry}
use Rattle.base_types.specs.declared.id.AttemptId.{AttemptId}
use Rattle.base_types.specs.declared.operation.MinorWrite.{MinorWrite}
use Rattle.base_types.specs.declared.operation.Read.{Read}
use Rattle.base_types.specs.Operations.{read_path}
use Rattle.daos_model.specs.declared.cell.Cell.{Cell}
use Rattle.daos_model.specs.declared.durable.Version.{Version}
use Rattle.daos_model.specs.declared.stand.Stand.{Stand}
use Rattle.daos_model.specs.Answers.{answer}
use Rattle.daos_model.specs.AsOf.{as_of}
use Rattle.daos_model.specs.Cells.{value_at}
use Rattle.daos_model.specs.Durables.{is_version_in_form, version_key}
use Rattle.daos_model.specs.Forms.{is_read_in_form}
use Rattle.daos_model.specs.Finals.{SameMap}
use Rattle.daos_model.specs.Ordered.{puts}
use Rattle.daos_model.specs.Versions.{blocks_read, done_by, is_not_pending, is_pending, map_below, versions_of}
use Rattle.model_laws.specs.Dated.{AreSingleInOrder, Dated, SameWritesAt, dated, dated_of, is_about, is_from, map_of}
use Rattle.model_laws.specs.Decided.{AreDecided, Decided, all_dated, dated_by, taken_in}

-- A target's versions count by a test: those that are done, and unsettled ones of decided attempts. Its own cells, by another,
-- are those of the groups that it belongs to.

-- a version counts for what stands below an epoch where it counts and lies below it
abbrev pub counts_under : (Version → Bool) → ℕ → Version → Bool
counts_under p e v = p v && nat_lt v.epoch.0 e

-- at a target's own cells the versions that count, below an epoch, hold what the map as of it holds
abbrev pub GivesAsOf : (Cell → Bool) → (Version → Bool) → List Version → Stand → List Decided → ℕ → Type 0
GivesAsOf own p vs opening all e = (c : Cell) → own c ≡ true → value_at (map_of (counts_under p e) vs) c ≡ value_at (as_of opening (taken_in all) e) c

-- They match the decided transactions above a mark: at the target's own cells they are the same writes at or above it, and
-- below it they give the map as of it.
pub record Matches (own : Cell → Bool) (p : Version → Bool) (vs : List Version) (opening : Stand) (all : List Decided) (mark : ℕ) : Type 0 where
  pub above : (c : Cell) → own c ≡ true → SameWritesAt c (filter (is_from mark) (dated_of p vs)) (filter (is_from mark) (all_dated all))
  pub at_mark : GivesAsOf own p vs opening all mark

-- so they give the map as of every epoch from the mark on
abbrev pub MatchesGiveAsOf : Type 0
MatchesGiveAsOf =
    (own : Cell → Bool) (p : Version → Bool) (vs : List Version) (opening : Stand) (all : List Decided) (mark e : ℕ) → AreSingleInOrder vs → AreDecided all
    → Matches own p vs opening all mark → mark ≤ e → GivesAsOf own p vs opening all e

-- and the mark may be raised, as to the epoch of a snapshot
abbrev pub MarksMayRise : Type 0
MarksMayRise =
    (own : Cell → Bool) (p : Version → Bool) (vs : List Version) (opening : Stand) (all : List Decided) (mark e : ℕ) → AreSingleInOrder vs → AreDecided all
    → Matches own p vs opening all mark → mark ≤ e → Matches own p vs opening all e

-- ---- a decision

-- a write is held as a version that counts
abbrev pub HoldsWrite : (Version → Bool) → List Version → Dated → Type 0
HoldsWrite q vs x = (v : Version) × Contains vs v × (q v ≡ true) × (dated v ≡ x)

-- A transaction is decided whose versions stand: those that counted still count, those that count now are of its writes, and
-- each of its writes that says what an own cell holds is there.
pub record CountsOnce (own : Cell → Bool) (d : Decided) (vs : List Version) (p q : Version → Bool) : Type 0 where
  pub kept : (v : Version) → Contains vs v → p v ≡ true → q v ≡ true
  pub new : (v : Version) → Contains vs v → q v ≡ true → p v ≡ false → Contains (dated_by d) (dated v)
  pub held : (c : Cell) (x : Dated) → own c ≡ true → Contains (dated_by d) x → is_about c x ≡ true → HoldsWrite q vs x

-- one more transaction, wherever it stands among them
pub record IsAdded (d : Decided) (all more : List Decided) : Type 0 where
  pub from : (f : Decided) → Contains more f → Contains all f ⊎ (f ≡ d)
  pub old : (f : Decided) → Contains all f → Contains more f
  pub new : Contains more d

abbrev pub DecisionsKeepMatches : Type 0
DecisionsKeepMatches =
    (own : Cell → Bool) (d : Decided) (p q : Version → Bool) (vs : List Version) (opening : Stand) (all more : List Decided) (mark : ℕ) → AreDecided all → AreDecided more
    → mark ≤ d.epoch.0 → CountsOnce own d vs p q → IsAdded d all more → Matches own p vs opening all mark → Matches own q vs opening more mark

-- what is given as of an epoch, as at a frozen snapshot, stays where the transaction lies at or above it
abbrev pub DecisionsKeepWhatIsBelow : Type 0
DecisionsKeepWhatIsBelow =
    (own : Cell → Bool) (d : Decided) (p q : Version → Bool) (vs : List Version) (opening : Stand) (all more : List Decided) (e : ℕ) → AreDecided all → AreDecided more
    → e ≤ d.epoch.0 → CountsOnce own d vs p q → IsAdded d all more → GivesAsOf own p vs opening all e → GivesAsOf own q vs opening more e

-- the versions themselves make the same map below such an epoch
abbrev pub DecisionsChangeNothingBelow : Type 0
DecisionsChangeNothingBelow =
    (own : Cell → Bool) (d : Decided) (p q : Version → Bool) (vs : List Version) (e : ℕ) → e ≤ d.epoch.0 → CountsOnce own d vs p q
    → map_of (counts_under q e) vs ≡ map_of (counts_under p e) vs

-- ---- changes after which the same writes count

abbrev pub SameWritesKeepMatches : Type 0
SameWritesKeepMatches =
    (own : Cell → Bool) (p q : Version → Bool) (vs us : List Version) (opening : Stand) (all : List Decided) (mark : ℕ) → dated_of p vs ≡ dated_of q us
    → Matches own p vs opening all mark → Matches own q us opening all mark

abbrev pub SameWritesKeepWhatIsBelow : Type 0
SameWritesKeepWhatIsBelow =
    (own : Cell → Bool) (p q : Version → Bool) (vs us : List Version) (opening : Stand) (all : List Decided) (e : ℕ) → dated_of p vs ≡ dated_of q us
    → GivesAsOf own p vs opening all e → GivesAsOf own q us opening all e

-- they make the same map below every epoch
abbrev pub SameWritesMakeTheSame : Type 0
SameWritesMakeTheSame =
    (p q : Version → Bool) (vs us : List Version) (e : ℕ) → dated_of p vs ≡ dated_of q us → SameMap (map_of (counts_under p e) vs) (map_of (counts_under q e) us)

-- versions that are made done, where they counted before
abbrev pub CommitsKeepWrites : Type 0
CommitsKeepWrites =
    (a : AttemptId) (p q : Version → Bool) (vs : List Version) → ((v : Version) → Contains vs v → q (done_by a v) ≡ p v) → dated_of p vs ≡ dated_of q (map (done_by a) vs)

-- unsettled versions that go, where they didn't count
abbrev pub AbortsKeepWrites : Type 0
AbortsKeepWrites =
    (a : AttemptId) (p : Version → Bool) (vs : List Version) → ((v : Version) → Contains vs v → is_pending a v ≡ true → p v ≡ false)
    → dated_of p vs ≡ dated_of p (filter (is_not_pending a) vs)

-- versions that are prepared and don't count yet
abbrev pub PreparesKeepWrites : Type 0
PreparesKeepWrites =
    (e : Entry) (ws : List MinorWrite) (p : Version → Bool) (vs : List Version) → ((v : Version) → Contains (versions_of e ws) v → p v ≡ false)
    → dated_of p vs ≡ dated_of p (puts version_key (versions_of e ws) vs)

-- ---- a read

-- A target that serves a read sees its done versions alone. Where no unsettled one keeps the read from its answer, this is what those
-- that count give.
abbrev pub ServedReadsSeeAll : Type 0
ServedReadsSeeAll =
    (r : Read) (p : Version → Bool) (vs : List Version) (e : ℕ) → AreSingleInOrder vs → list_all is_version_in_form vs ≡ true → is_read_in_form r ≡ true
    → ((v : Version) → v.done ≡ true → p v ≡ true)
    → ((v : Version) → Contains vs v → blocks_read (read_path r) e v ≡ false) → answer r (map_below vs e) ≡ answer r (map_of (counts_under p e) vs)
