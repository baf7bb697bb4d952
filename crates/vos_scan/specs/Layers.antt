-- The versions that say what a stretch of an array holds.
use Rattle.std.specs.Prelude.{ℕ, ◌+◌, ◌-◌, ◌*◌, ◌/◌, Bool, true, false, ◌&&◌, nat_lt, length, map, take, drop, List, Option, Some, None}
use Rattle.std.specs.Borrow.{Bor}
use Rattle.base_types.specs.declared.operation.Write.{Write}
use Rattle.base_types.specs.declared.operation.Write.TheVariants.{Single, Extent, PunchObject, PunchDkey, PunchAkey}
use Rattle.base_types.specs.declared.path.Path.{Path}
use Rattle.base_types.specs.Paths.{leads_to, record_size, same_path}
use Rattle.daos_model.specs.declared.durable.Version.{Version}
use Rattle.daos_model.specs.Prunes.{is_index_in}
use Rattle.daos_model.specs.Versions.{sees}

-- so many indexes from one on, and so many from another on, have one in common
abbrev pub meets : ℕ → ℕ → ℕ → ℕ → Bool
meets at count low len = nat_lt low (at + count) && nat_lt at (low + len)

-- a write says what some index of a stretch of an array holds: an extent of the array that meets it, or a punch above
abbrev pub is_about : Path → ℕ → ℕ → Write → Bool
is_about p low len (Single q bytes) = false
is_about p low len (Extent q at bytes) = meets at (length bytes / record_size q) low len && same_path q p
is_about p low len (PunchObject q) = leads_to q p
is_about p low len (PunchDkey q) = leads_to q p
is_about p low len (PunchAkey q) = leads_to q p

-- a version that is seen below an epoch, of such a write
abbrev pub is_layer : Path → ℕ → ℕ → ℕ → Version → Bool
is_layer p low len e v = sees e v && is_about p low len v.write

-- of such a write: it says what an index holds
abbrev pub covers : ℕ → Write → Bool
covers i (Single q bytes) = false
covers i (Extent q at bytes) = is_index_in at (length bytes / record_size q) (Some i)
covers i (PunchObject q) = true
covers i (PunchDkey q) = true
covers i (PunchAkey q) = true

abbrev pub covers_at : ℕ → Version → Bool
covers_at i v = covers i v.write

-- the record that it leaves there, if it leaves one
abbrev pub record_in : ℕ → Write → Option (List ℕ)
record_in i (Single q bytes) = None
record_in i (Extent q at bytes) = Some (take (record_size q) (drop ((i - at) * record_size q) bytes))
record_in i (PunchObject q) = None
record_in i (PunchDkey q) = None
record_in i (PunchAkey q) = None

abbrev pub record_by : ℕ → Option Version → Option (List ℕ)
record_by i None = None
record_by i (Some v) = record_in i v.write

-- versions that are lent
abbrev pub version_lent : Bor Version → Version
version_lent v = v.now

abbrev pub lent : List (Bor Version) → List Version
lent vs = map version_lent vs
