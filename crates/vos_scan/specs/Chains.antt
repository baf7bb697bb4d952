-- Chains through versions: each leads back to the one before it that has the same number.
use Rattle.std.specs.Prelude.{ℕ, ◌≡◌, ◌≢◌, ◌+◌, ◌-◌, ◌*◌, ◌%◌, ◌<◌, ◌≤◌, nat_lt, length, List, [], ◌∷◌, Option, Some, None, slice_index, if◌then◌else◌}
use Rattle.base_types.specs.declared.id.ObjId.{ObjId}
use Rattle.base_types.specs.declared.operation.Write.{Write}
use Rattle.base_types.specs.declared.operation.Write.TheVariants.{Single, Extent, PunchObject, PunchDkey, PunchAkey}
use Rattle.base_types.specs.declared.path.Path.{Path}
use Rattle.daos_model.specs.declared.durable.Version.{Version}
use Rattle.vos_scan.specs.declared.chains.Walk.{Walk}

-- a number below 1,024 that bytes make of another one
abbrev pub hashed : ℕ → List ℕ → ℕ
hashed n [] = n
hashed n (b ∷ bs) = hashed ((n * 31 + b) % 1024) bs

abbrev pub hashed_key : ℕ → Option (List ℕ) → ℕ
hashed_key n None = n
hashed_key n (Some k) = hashed n k

abbrev pub object_place : Option ObjId → ℕ
object_place None = 0
object_place (Some o) = o.number % 1024

-- the number of an akey, below 1,024
unfoldable pub akey_place : Path → ℕ
akey_place p = hashed_key (hashed_key (object_place p.obj) p.dkey) p.akey

-- the number of a write: that of its akey; all punches have one that no akey has
abbrev pub place_of : Write → ℕ
place_of (Single p bytes) = akey_place p
place_of (Extent p low bytes) = akey_place p
place_of (PunchObject p) = 1024
place_of (PunchDkey p) = 1024
place_of (PunchAkey p) = 1024

abbrev pub version_place : Version → ℕ
version_place v = place_of v.write

-- of those before a place, so many are up to the last one of a number: none behind that is of it
pub record LeadsTo (places : List ℕ) (b at k : ℕ) : Type 0 where
  pub within : k ≤ at
  pub none : (i : ℕ) → k ≤ i → i < at → slice_index places i ≢ b
  pub same : 0 < k → slice_index places (k - 1) ≡ b

-- `lasts` leads from the end to the last one of each number up to 1,024, and `links` from each one to that before it of its own
pub record AreChained (places lasts links : List ℕ) : Type 0 where
  pub long : length links ≡ length places
  pub lasts_lead : (b : ℕ) → b ≤ 1024 → LeadsTo places b (length places) (slice_index lasts b)
  pub links_lead : (i : ℕ) → i < length places → LeadsTo places (slice_index places i) i (slice_index links i)

-- a walk back from a place, along those of a number and along punches
pub record IsWalk (places : List ℕ) (b at : ℕ) (w : Walk) : Type 0 where
  pub akey : LeadsTo places b at w.akey
  pub punch : LeadsTo places 1024 at w.punch

-- up to the last one that a walk leads to there are so many
abbrev pub left : Walk → ℕ
left w = if nat_lt w.punch w.akey then w.akey else w.punch
