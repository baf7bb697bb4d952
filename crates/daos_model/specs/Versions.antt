-- Versions, and the map that they stand for.
use Rattle.std.specs.Prelude.{ℕ, Bool, false, ◌&&◌, ◌||◌, not, nat_lt, nat_le, filter, map, find, List, [], Option}
use Rattle.base_types.specs.declared.entry.Entry.{Entry}
use Rattle.base_types.specs.declared.id.AttemptId.{AttemptId}
use Rattle.base_types.specs.declared.operation.MinorWrite.{MinorWrite}
use Rattle.base_types.specs.declared.operation.Write.{Write}
use Rattle.base_types.specs.declared.path.Path.{Path}
use Rattle.base_types.specs.Operations.{write_path}
use Rattle.base_types.specs.Paths.{overlaps}
use Rattle.daos_model.specs.declared.cell.CellValue.{CellValue}
use Rattle.daos_model.specs.declared.durable.Version.{Version}
use Rattle.daos_model.specs.Durables.{same_attempt}
use Rattle.daos_model.specs.Effect.{effects}

-- where a version writes
abbrev pub version_path : Version → Path
version_path v = write_path v.write

-- what a write of an entry is kept as
abbrev pub version_of : Entry → MinorWrite → Version
version_of e w = record { epoch = e.epoch; minor = w.minor; by = e.attempt; done = false; write = w.write }

abbrev pub versions_of : Entry → List MinorWrite → List Version
versions_of e ws = map (version_of e) ws

-- a version counts for what is seen below an epoch where it is done and below it; the bound is strict
unfoldable pub sees : ℕ → Version → Bool
sees e v = v.done && nat_lt v.epoch.0 e

abbrev pub written_by : Version → Write
written_by v = v.write

abbrev pub writes_in : List Version → List Write
writes_in vs = map written_by vs

-- the map below an epoch: the done versions below it, in their order
unfoldable pub map_below : List Version → ℕ → List CellValue
map_below vs e = effects (writes_in (filter (sees e) vs)) []

-- a version of an attempt that isn't settled
unfoldable pub is_pending : AttemptId → Version → Bool
is_pending a v = same_attempt v.by a && not v.done

-- any other version
abbrev pub is_not_pending : AttemptId → Version → Bool
is_not_pending a v = not (is_pending a v)

-- the version once the attempt's are done
unfoldable pub done_by : AttemptId → Version → Version
done_by a v = record v { done = v.done || same_attempt v.by a }

-- a version keeps a read below an epoch from its answer where it isn't settled, lies below it, and overlaps its path
unfoldable pub blocks_read : Path → ℕ → Version → Bool
blocks_read p e v = not v.done && nat_lt v.epoch.0 e && overlaps p (version_path v)

-- the first version that does, which is one of the least epoch
unfoldable pub first_blocking : Path → ℕ → List Version → Option Version
first_blocking p e vs = find (blocks_read p e) vs

-- a version overlaps a path, above one epoch and up to another
unfoldable pub is_between : Path → ℕ → ℕ → Version → Bool
is_between p above upto v = nat_lt above v.epoch.0 && nat_le v.epoch.0 upto && overlaps p (version_path v)

-- the first version that does: of the least epoch, and of these of the least number
unfoldable pub first_between : Path → ℕ → ℕ → List Version → Option Version
first_between p above upto vs = find (is_between p above upto) vs
