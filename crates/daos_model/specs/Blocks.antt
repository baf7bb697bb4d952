-- How many blocks of a region writes take at most.
use Rattle.std.specs.Prelude.{ℕ, ◌+◌, List, [], ◌∷◌, length}
use Rattle.std.specs.Int.{div_ceil}
use Rattle.base_types.specs.declared.operation.MinorWrite.{MinorWrite}
use Rattle.base_types.specs.declared.operation.Write.{Write}
use Rattle.base_types.specs.declared.operation.Write.TheVariants.{Single, Extent, PunchObject, PunchDkey, PunchAkey}

-- an update takes 8 blocks, and one for each 248 bytes begun; a punch takes 5
abbrev pub write_blocks : Write → ℕ
write_blocks (Single p bytes) = 8 + div_ceil (length bytes) 248
write_blocks (Extent p low bytes) = 8 + div_ceil (length bytes) 248
write_blocks (PunchObject p) = 5
write_blocks (PunchDkey p) = 5
write_blocks (PunchAkey p) = 5

abbrev pub sum_of_blocks : List MinorWrite → ℕ
sum_of_blocks [] = 0
sum_of_blocks (w ∷ ws) = write_blocks w.write + sum_of_blocks ws

-- an entry takes 2 blocks, and its writes theirs
unfoldable pub blocks : List MinorWrite → ℕ
blocks ws = 2 + sum_of_blocks ws
