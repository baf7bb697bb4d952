-- A whole tree, as look-ups see it, and what its calls cost.
use Rattle.std.proofs.Common.{ℕ, ◌+◌, ◌*◌, ◌≤◌, arith}
use Rattle.pmem_pages.specs.Blocks.{Blocks}
use Rattle.pmem_pages.specs.Shape.{Shape, height, Balanced, IsTree}
use Rattle.pmem_pages.proofs.Heights.{low, never_high}
use Rattle.pmem_tree_base.specs.Find.{Below}
use Rattle.pmem_tree.specs.Calls.{StepsAtMost}

-- a whole tree
pub tree_below : (m : Blocks) (kind at : ℕ) (t : Shape) → IsTree m kind at t → Below m kind at 66 t
tree_below m kind at t w = record { root = w.root; stands = w.stands; rises = w.rises; high = never_high m kind t w.stands w.apart w.balanced }

-- a step a level, or eight
pub steps_2 : (t : Shape) (before now : ℕ) → Balanced t → now ≤ before + height t → StepsAtMost 2 0 t before now
steps_2 t before now b h d n = let k = low t d b n in omega arith

pub steps_16 : (t : Shape) (before now : ℕ) → Balanced t → now ≤ before + 8 * height t + 16 → StepsAtMost 16 16 t before now
steps_16 t before now b h d n = let k = low t d b n in omega arith
