-- A balanced tree is low, whatever its blocks hold.
use Rattle.std.proofs.Common.{ℕ, zero, suc, ◌*◌, ◌^◌, ◌≤◌, ◌<◌, ◌∷◌, length, arith, length-append, inl, inr}
use Rattle.std.proofs.Math.Nat.{pow-suc}
use Rattle.std.proofs.lemmas.Bool.{cases_lt}
use Rattle.pmem_pages.specs.Blocks.{Blocks}
use Rattle.pmem_pages.specs.Counts.{at_most}
use Rattle.pmem_pages.specs.Shape.{Shape, Leaf, Fork, height, entries, blocks_of, count, Stands, Balanced}
use Rattle.pmem_pages.proofs.Lists.{length_blocks}
use Rattle.pmem_pages.proofs.Shapes.{low_in}

pub many_pairs : (d : ℕ) (t : Shape) → Balanced t → 2 * d < height t → 2 ^ d ≤ length (entries t)
many_pairs d Leaf b h = absurd (omega arith)
many_pairs zero (Fork l e r) b h = omega (arith, length-append (entries l) (e ∷ entries r))
many_pairs (suc d) (Fork l e r) b h =
    let n = b.0 in
    let in_left = many_pairs d l b.1 (omega (arith, n.left, n.right)) in
    let in_right = many_pairs d r b.2 (omega (arith, n.left, n.right)) in
    omega (arith, pow-suc 2 d, length-append (entries l) (e ∷ entries r), in_left, in_right)

-- with n pairs of d binary digits it is at most 2 * d high
pub low : (t : Shape) (d : ℕ) → Balanced t → length (entries t) < 2 ^ d → height t ≤ 2 * d
low t d b n =
    elim (cases_lt (2 * d) (height t)) [
      | inl high ↦ absurd (omega (arith, many_pairs d t b high))
      | inr h ↦ h
    ]

-- there are no more nodes than block numbers, so no tree is higher than this
pub never_high : (m : Blocks) (kind : ℕ) (t : Shape) → Stands m kind t → ((q : ℕ) → count q (entries t) ≤ 1) → Balanced t → height t ≤ 66
unfolding count
never_high m kind t s once b =
    let few = at_most (2 ^ 32) (blocks_of (entries t)) once (λ q h. low_in m kind t q s h) in
    low t 33 b (omega (arith, few, length_blocks (entries t)))
