-- The blocks that a store over lists counts as taken.
use Rattle.std.specs.Prelude.{ℕ, ◌+◌, ◌*◌, Bool, true, false, List, [], ◌∷◌, length}
use Rattle.base_types.specs.declared.entry.Entry.{Entry}
use Rattle.base_types.specs.declared.entry.Settle.{Settle}
use Rattle.base_types.specs.declared.entry.Settle.TheVariants.{Abort, Commit, Confirm, Forget}
use Rattle.daos_model.specs.declared.durable.Durable.{Durable}
use Rattle.daos_model.specs.declared.durable.Version.{Version}
use Rattle.daos_model.specs.Blocks.{write_blocks}

abbrev pub version_blocks : Version → ℕ
version_blocks v = write_blocks v.write

abbrev pub versions_blocks : List Version → ℕ
versions_blocks [] = 0
versions_blocks (v ∷ vs) = version_blocks v + versions_blocks vs

-- an entry takes 2, and each version what its write may take
abbrev pub taken_blocks : List Version → List Entry → ℕ
taken_blocks vs es = versions_blocks vs + 2 * length es

-- the blocks that all that is kept takes
abbrev pub taken_by : Durable → ℕ
taken_by d = taken_blocks d.versions d.entries

-- a step by which versions or an entry may go
abbrev pub goes_by : Settle → Bool
goes_by Commit = false
goes_by Abort = true
goes_by (Confirm t) = false
goes_by Forget = true
