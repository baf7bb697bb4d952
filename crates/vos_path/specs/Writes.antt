-- A write that comes to the versions of objects, and what it may cost.
use Rattle.std.specs.Prelude.{◌≡◌, ◌≢◌, Some, ◌<◌, ◌+◌, ◌*◌, ◌^◌, ◌&&◌, ℕ, Bool, true, false, List, length, filter, All, if◌then◌else◌, IfSome}
use Rattle.std.specs.List.{find, list_any}
use Rattle.base_types.specs.declared.operation.Write.{Write}
use Rattle.base_types.specs.declared.operation.Write.TheVariants.{Single, Extent, PunchObject, PunchDkey, PunchAkey}
use Rattle.base_types.specs.declared.path.Path.{Path}
use Rattle.daos_model.specs.declared.durable.Version.{Version}
use Rattle.daos_model.specs.Durables.{version_key}
use Rattle.pmem_pages.specs.Shape.{entries}
use Rattle.vos_values.specs.declared.keys.ExtentKey.{ExtentKey}
use Rattle.vos_values.specs.declared.keys.Moment.{Moment}
use Rattle.vos_values.specs.declared.keys.ObjectKey.{ObjectKey}
use Rattle.vos_values.specs.Keys.{IsName}
use Rattle.vos_extent.specs.vos_levels.Levels.{HasMore, Hung, things}
use Rattle.vos_extent.specs.vos_chain.Made.{chain_blocks}
use Rattle.vos_ilog.specs.declared.ilog.LogEntry.{LogEntry}
use Rattle.vos_ilog.specs.Logs.{is_at, moment_of}
use Rattle.vos_single.specs.Singles.{has_version_at}
use Rattle.vos_extent.specs.Extents.{has_extent_at}
use Rattle.vos_path.specs.declared.stamp.Stamp.{Stamp}
use Rattle.vos_path.specs.Calls.{IsPut}
use Rattle.vos_path.specs.Objects.{Akey, Below, Dkey, Object, Objects, Values, is_punch, objects_versions}

-- a version that was just written: it isn't settled
abbrev pub fresh : Stamp → Write → Version
fresh s w = record { epoch = s.at.epoch; minor = s.at.minor; by = s.by; done = false; write = w }

-- a write is an update, and no punch
abbrev pub is_update : Write → Bool
is_update (Single p bytes) = true
is_update (Extent p low bytes) = true
is_update (PunchObject p) = false
is_update (PunchDkey p) = false
is_update (PunchAkey p) = false

-- a write changes something below an object's own log, or below a dkey's
abbrev pub goes_below_object : Write → Bool
goes_below_object (Single p bytes) = true
goes_below_object (Extent p low bytes) = true
goes_below_object (PunchObject p) = false
goes_below_object (PunchDkey p) = true
goes_below_object (PunchAkey p) = true

abbrev pub goes_below_dkey : Write → Bool
goes_below_dkey (Single p bytes) = true
goes_below_dkey (Extent p low bytes) = true
goes_below_dkey (PunchObject p) = false
goes_below_dkey (PunchDkey p) = false
goes_below_dkey (PunchAkey p) = true

-- the names of a path are keys
pub record NamesAreKeys (p : Path) : Type 0 where
  pub dkey : IfSome p.dkey IsName
  pub akey : IfSome p.akey IsName

-- a path is of an object, or of a dkey below it, however far it goes on
pub record IsAtObject (o : ObjectKey) (p : Path) : Type 0 where
  pub cont : p.cont ≡ o.cont
  pub obj : p.obj ≡ Some o.obj

pub record IsAtDkey (o : ObjectKey) (d : List ℕ) (p : Path) : Type 0 where
  pub object : IsAtObject o p
  pub dkey : p.dkey ≡ Some d

-- objects have no version of this one's epoch, number and object
abbrev pub IsNewIn : Version → Objects → Type 0
IsNewIn v g = All (λ u. version_key u ≢ version_key v) (objects_versions g)

-- ---- logs

-- an entry that was just written: a punch, or a creation
abbrev pub fresh_entry : Stamp → Bool → LogEntry
fresh_entry s punch = record { epoch = s.at.epoch; minor = s.at.minor; punch = punch; by = s.by; done = false }

abbrev pub is_punch_at : Moment → LogEntry → Bool
is_punch_at m e = is_punch e && is_at m e

abbrev pub has_punch_at : Moment → List LogEntry → Bool
has_punch_at m es = list_any (is_punch_at m) es

-- one more where this holds, and else the same list
abbrev pub MoreIf : {A : Type 0} → Bool → A → List A → List A → Type 0
MoreIf true a xs ys = HasMore a xs ys
MoreIf false a xs ys = ys ≡ xs

-- An entry was noted: it comes into the log, or in the place of the one of its moment. If it is a punch, there is one punch
-- more, and else there are the same.
pub record IsNoted (e : LogEntry) (xs ys : List LogEntry) : Type 0 where
  pub put : IsPut (find (is_at (moment_of e)) xs) e xs ys
  pub punches : MoreIf e.punch e (filter is_punch xs) (filter is_punch ys)

-- the same where this holds, and else nothing
abbrev pub IsNotedIf : Bool → LogEntry → List LogEntry → List LogEntry → Type 0
IsNotedIf true e xs ys = IsNoted e xs ys
IsNotedIf false e xs ys = ys ≡ xs

-- ---- what isn't there yet

-- an extent's place, from an index on
abbrev pub place_at : Stamp → ℕ → ExtentKey
place_at s low = record { low = low; epoch = s.at.epoch; minor = s.at.minor }

-- nothing of a moment stands there but creations
pub record ValuesAreNew (s : Stamp) (a : Values) : Type 0 where
  pub punch : has_punch_at s.at (things a.0) ≡ false
  pub single : has_version_at s.at (things a.1.0) ≡ false
  pub extent : (low : ℕ) → has_extent_at (place_at s low) (things a.1.1) ≡ false

abbrev pub AkeysAreNew : Stamp → Hung Akey → Type 0
AkeysAreNew s g = All (λ a. ValuesAreNew s a.holds) (things g)

pub record BelowDkeyIsNew (s : Stamp) (b : Below Akey) : Type 0 where
  pub punch : has_punch_at s.at (things b.0) ≡ false
  pub akeys : AkeysAreNew s b.1

abbrev pub DkeysAreNew : Stamp → Hung Dkey → Type 0
DkeysAreNew s g = All (λ k. BelowDkeyIsNew s k.holds) (things g)

pub record BelowObjectIsNew (s : Stamp) (b : Below Dkey) : Type 0 where
  pub punch : has_punch_at s.at (things b.0) ≡ false
  pub dkeys : DkeysAreNew s b.1

-- ---- costs

-- the blocks of a write's bytes
abbrev pub data_blocks : Write → ℕ
data_blocks (Single p bytes) = chain_blocks (length bytes)
data_blocks (Extent p low bytes) = chain_blocks (length bytes)
data_blocks (PunchObject p) = 0
data_blocks (PunchDkey p) = 0
data_blocks (PunchAkey p) = 0

-- As many for each pair that a write brings into trees, at most. Below an akey: an update its version and a creation in
-- the log, a punch its entry.
abbrev pub values_pairs : Write → ℕ → ℕ
values_pairs (Single p bytes) e = 2 * e
values_pairs (Extent p low bytes) e = 2 * e
values_pairs (PunchObject p) e = e
values_pairs (PunchDkey p) e = e
values_pairs (PunchAkey p) e = e

-- an update a creation in each log on the way
abbrev pub log_pairs : Write → ℕ → ℕ
log_pairs w e = if is_update w then e else 0

-- and the akey
abbrev pub akey_pairs : Write → ℕ → ℕ
akey_pairs w e = values_pairs w e + e

-- below a dkey, and the dkey
abbrev pub below_dkey_pairs : Write → ℕ → ℕ
below_dkey_pairs w e = if goes_below_dkey w then akey_pairs w e + log_pairs w e else e

abbrev pub dkey_pairs : Write → ℕ → ℕ
dkey_pairs w e = below_dkey_pairs w e + e

-- below an object, and the object: in all 7 for an update, and 2 to 4 for a punch
abbrev pub below_object_pairs : Write → ℕ → ℕ
below_object_pairs w e = if goes_below_object w then dkey_pairs w e + log_pairs w e else e

abbrev pub object_pairs : Write → ℕ → ℕ
object_pairs w e = below_object_pairs w e + e

-- no tree has 2^d pairs
abbrev pub IsSmall : {A : Type 0} → ℕ → Hung A → Type 0
IsSmall d g = length (entries g.0) < 2 ^ d

abbrev pub ValuesAreSmall : ℕ → Values → Type 0
ValuesAreSmall d a = IsSmall d a.0 × (IsSmall d a.1.0 × IsSmall d a.1.1)

abbrev pub AkeyIsSmall : ℕ → Akey → Type 0
AkeyIsSmall d a = ValuesAreSmall d a.holds

abbrev pub AkeysAreSmall : ℕ → Hung Akey → Type 0
AkeysAreSmall d g = IsSmall d g × All (AkeyIsSmall d) (things g)

abbrev pub BelowDkeyIsSmall : ℕ → Below Akey → Type 0
BelowDkeyIsSmall d b = IsSmall d b.0 × AkeysAreSmall d b.1

abbrev pub DkeyIsSmall : ℕ → Dkey → Type 0
DkeyIsSmall d k = BelowDkeyIsSmall d k.holds

abbrev pub DkeysAreSmall : ℕ → Hung Dkey → Type 0
DkeysAreSmall d g = IsSmall d g × All (DkeyIsSmall d) (things g)

abbrev pub BelowObjectIsSmall : ℕ → Below Dkey → Type 0
BelowObjectIsSmall d b = IsSmall d b.0 × DkeysAreSmall d b.1

abbrev pub ObjectIsSmall : ℕ → Object → Type 0
ObjectIsSmall d o = BelowObjectIsSmall d o.holds

abbrev pub ObjectsAreSmall : ℕ → Hung Object → Type 0
ObjectsAreSmall d g = IsSmall d g × All (ObjectIsSmall d) (things g)
