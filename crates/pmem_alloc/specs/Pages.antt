-- Blocks of a region as the trees above see them.
use Rattle.std.specs.Prelude.{◌≡◌, ℕ, ◌-◌, ◌<◌, ◌≤◌, false, length}
use Rattle.base_outside.specs.Images.{Image, all_over}
use Rattle.pmem_pages.specs.Blocks.{Blocks, Budget}
use Rattle.pmem_undo.specs.Layout.{most_ranges, most_bytes, total_bytes}
use Rattle.pmem_alloc.specs.Map.{MapState, first_block, free_of, shown_in}
use Rattle.pmem_alloc.specs.Blocks.{BlocksState, free_count}

-- the blocks that are taken, with their bytes, and what stands beside them
abbrev pub shown : {R : Type 0} → (R → Image) → BlocksState R → Blocks
shown image b = shown_in b.map (all_over b.undo.staged (image b.undo.region))

-- what is free, and what is left to stage
abbrev pub left : {R : Type 0} → BlocksState R → Budget
left b = record {
  free = free_count b;
  ranges = most_ranges - length b.undo.staged;
  bytes = most_bytes - total_bytes b.undo.staged;
}

-- a block behind the map and below the end that isn't free
abbrev pub IsTakenBlock : MapState → ℕ → Type 0
IsTakenBlock m b = (first_block ≤ b) × ((b < m.end) × (free_of m b ≡ false))
