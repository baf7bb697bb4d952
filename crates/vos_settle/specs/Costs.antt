-- What a change of one write may stage.
use Rattle.std.specs.Prelude.{◌+◌, ◌*◌, ℕ, List, Option, Some, None, if◌then◌else◌}
use Rattle.pmem_pages.specs.Blocks.{Budget, IsSpent}
use Rattle.vos_path.specs.vos_chain.Made.{HasFewer}
use Rattle.vos_settle.specs.declared.task.WriteKind.{WriteKind}
use Rattle.vos_settle.specs.declared.task.WriteKind.TheVariants as kind
use Rattle.vos_settle.specs.Tasks.{is_update}

-- at most so many ranges, of at most 256 bytes each
abbrev pub Spends : ℕ → Budget → Budget → Type 0
Spends ranges before now = IsSpent ranges (256 * ranges) before now

-- fewer ranges or bytes were left than that and one change of a tree of fewer than 2^d pairs may want
abbrev pub Lacks : ℕ → ℕ → Budget → Type 0
Lacks ranges d b = HasFewer (ranges + (16 * d + 32)) (256 * (ranges + (16 * d + 32))) b

-- what one entry or version may want that goes from a tree of fewer than 2^d pairs, with its bytes
abbrev pub for_one : ℕ → ℕ
for_one d = 8 * d + 21

-- As much for each entry and version that a write has in trees. Below an akey: an update its version and a creation, a punch
-- its entry.
abbrev pub values_cost : WriteKind → ℕ → ℕ
values_cost kind.Punch e = e
values_cost kind.Single e = 2 * e
values_cost (kind.Extent low) e = 2 * e

-- an update a creation in each log on the way
abbrev pub noted_cost : WriteKind → ℕ → ℕ
noted_cost k e = if is_update k then e else 0

-- and so much for the value of the akey
abbrev pub akeys_cost : WriteKind → ℕ → ℕ → ℕ
akeys_cost k e v = values_cost k e + v

abbrev pub below_dkey_cost : WriteKind → Option (List ℕ) → ℕ → ℕ → ℕ
below_dkey_cost k None e v = e
below_dkey_cost k (Some akey) e v = akeys_cost k e v + noted_cost k e

abbrev pub dkeys_cost : WriteKind → Option (List ℕ) → ℕ → ℕ → ℕ
dkeys_cost k akey e v = below_dkey_cost k akey e v + v

abbrev pub below_object_cost : WriteKind → Option (List ℕ) → Option (List ℕ) → ℕ → ℕ → ℕ
below_object_cost k None akey e v = e
below_object_cost k (Some dkey) akey e v = dkeys_cost k akey e v + noted_cost k e

-- in all as much for four entries and three values for an update, and for one entry and one to three values for a punch
abbrev pub objects_cost : WriteKind → Option (List ℕ) → Option (List ℕ) → ℕ → ℕ → ℕ
objects_cost k dkey akey e v = below_object_cost k dkey akey e v + v
