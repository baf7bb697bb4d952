-- What becomes of a target's versions while an attempt is stored, and once it is decided or aborted.
use Rattle.std.specs.Prelude.{ℕ, ◌≡◌, ◌≤◌, Bool, true, false, List, map, filter, Contains}
use Rattle.base_types.specs.declared.entry.Entry.{Entry}
use Rattle.base_types.specs.declared.id.AttemptId.{AttemptId}
use Rattle.base_types.specs.declared.operation.MinorWrite.{MinorWrite}
use Rattle.daos_model.specs.declared.cell.Cell.{Cell}
use Rattle.daos_model.specs.declared.durable.Version.{Version}
use Rattle.daos_model.specs.declared.stand.Stand.{Stand}
use Rattle.daos_model.specs.Durables.{version_key}
use Rattle.daos_model.specs.Ordered.{puts}
use Rattle.daos_model.specs.Versions.{done_by, is_not_pending, is_pending, versions_of}
use Rattle.model_laws.specs.Dated.{Dated, dated, is_about}
use Rattle.model_laws.specs.Decided.{AreDecided, Decided, dated_by}
use Rattle.model_laws.specs.Matches.{HoldsWrite, IsAdded, Matches}

-- ---- stored

-- versions that are stored and don't count yet leave what counts as it is
abbrev pub StoresKeepMatches : Type 0
StoresKeepMatches =
    (own : Cell → Bool) (e : Entry) (ws : List MinorWrite) (p : Version → Bool) (vs : List Version) (opening : Stand) (all : List Decided) (mark : ℕ)
    → ((v : Version) → Contains (versions_of e ws) v → p v ≡ false) → Matches own p vs opening all mark → Matches own p (puts version_key (versions_of e ws) vs) opening all mark

-- so do those of an attempt that go, where none of them counted
abbrev pub AbortsKeepMatches : Type 0
AbortsKeepMatches =
    (own : Cell → Bool) (a : AttemptId) (p : Version → Bool) (vs : List Version) (opening : Stand) (all : List Decided) (mark : ℕ)
    → ((v : Version) → Contains vs v → is_pending a v ≡ true → p v ≡ false) → Matches own p vs opening all mark → Matches own p (filter (is_not_pending a) vs) opening all mark

-- and those that are made done, where each counted already
abbrev pub SettlesKeepMatches : Type 0
SettlesKeepMatches =
    (own : Cell → Bool) (a : AttemptId) (p : Version → Bool) (vs : List Version) (opening : Stand) (all : List Decided) (mark : ℕ)
    → ((v : Version) → Contains vs v → p (done_by a v) ≡ p v) → Matches own p vs opening all mark → Matches own p (map (done_by a) vs) opening all mark

-- ---- decided

-- A decision changes no version, but which of them count: those that did, and others only of the attempt.
pub record CountsMore (a : AttemptId) (vs : List Version) (p q : Version → Bool) : Type 0 where
  pub kept : (v : Version) → Contains vs v → p v ≡ true → q v ≡ true
  pub new : (v : Version) → Contains vs v → q v ≡ true → p v ≡ false → v.by ≡ a

-- At a target that holds the attempt its versions that didn't count are of its writes, and each of its writes that says what an own
-- cell holds is there.
pub record IsHeld (own : Cell → Bool) (a : AttemptId) (d : Decided) (vs : List Version) (p q : Version → Bool) : Type 0 where
  pub of_it : (v : Version) → Contains vs v → v.by ≡ a → p v ≡ false → Contains (dated_by d) (dated v)
  pub there : (c : Cell) (x : Dated) → own c ≡ true → Contains (dated_by d) x → is_about c x ≡ true → HoldsWrite q vs x

-- so its versions stand for one transaction more
abbrev pub HoldersKeepMatches : Type 0
HoldersKeepMatches =
    (own : Cell → Bool) (a : AttemptId) (d : Decided) (p q : Version → Bool) (vs : List Version) (opening : Stand) (all more : List Decided) (mark : ℕ) → AreDecided all → AreDecided more
    → mark ≤ d.epoch.0 → CountsMore a vs p q → IsHeld own a d vs p q → IsAdded d all more → Matches own p vs opening all mark → Matches own q vs opening more mark

-- At any other target none of its versions waits to count, and none of its writes says what an own cell holds.
pub record IsElsewhere (own : Cell → Bool) (a : AttemptId) (d : Decided) (vs : List Version) (p : Version → Bool) : Type 0 where
  pub none : (v : Version) → Contains vs v → v.by ≡ a → p v ≡ true
  pub apart : (c : Cell) (x : Dated) → own c ≡ true → Contains (dated_by d) x → is_about c x ≡ false

-- so its versions stand for the transactions with that one as they stood for them without
abbrev pub OthersKeepMatches : Type 0
OthersKeepMatches =
    (own : Cell → Bool) (a : AttemptId) (d : Decided) (p q : Version → Bool) (vs : List Version) (opening : Stand) (all more : List Decided) (mark : ℕ) → AreDecided all → AreDecided more
    → mark ≤ d.epoch.0 → CountsMore a vs p q → IsElsewhere own a d vs p → IsAdded d all more → Matches own p vs opening all mark → Matches own q vs opening more mark
