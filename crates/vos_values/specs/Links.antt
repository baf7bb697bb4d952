-- Blocks of chains: a kind, the next block, and bytes of a value.
use Rattle.std.specs.Prelude.{◌==◌, ◌&&◌, ◌+◌, ℕ, Bool, List, [], ◌∷◌, ◌++◌, take, drop, Option, Some, None, if◌then◌else◌}
use Rattle.std.specs.List.{list_all}
use Rattle.byteorder.specs.Endian.{big_bytes, big_number}
use Rattle.vos_values.specs.Fields.{padded}

-- a block of a chain: 8, three zeros, the next block or 0, and up to 248 bytes with zeros behind them
unfoldable pub link_bytes : ℕ → List ℕ → List ℕ
link_bytes next part = (8 ∷ 0 ∷ 0 ∷ 0 ∷ []) ++ (big_bytes 4 next ++ padded 248 part)

abbrev pub is_zero : ℕ → Bool
is_zero b = b == 0

-- bytes are a block of a chain that holds so many bytes
abbrev pub is_link : ℕ → List ℕ → Bool
is_link n bs = (big_number 1 bs == 8) && list_all is_zero (take 3 (drop 1 bs)) && list_all is_zero (drop (8 + n) bs)

-- the block that it leads to
unfoldable pub next_in : ℕ → List ℕ → Option ℕ
next_in n bs = if is_link n bs then Some (big_number 4 (drop 4 bs)) else None

-- the bytes that it holds
abbrev pub part_in : ℕ → List ℕ → List ℕ
part_in n bs = take n (drop 8 bs)
