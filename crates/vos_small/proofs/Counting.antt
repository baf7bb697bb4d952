-- Distinct blocks of a region are fewer than 2^17.
use Rattle.std.proofs.Common.{◌≡◌, ℕ, ◌≤◌, ◌<◌, List, [], ◌∷◌, length, ap, arith, inl, inr, refl}
use Rattle.std.proofs.lemmas.Bool.{cases_lt}
use Rattle.std.proofs.lemmas.Bool.Decides.{eqb_tells}
use Rattle.pmem_pages.specs.Blocks.{Blocks}
use Rattle.pmem_pages.specs.Counts.{at_most, times_none, times_one, times_other, times_own}
use Rattle.pmem_pages.specs.Owned.{blocks-append, tree_taken}
use Rattle.pmem_pages.specs.Owners.{times, times-append}
use Rattle.pmem_pages.specs.Shape.{Entry, Fork, Leaf, Shape, Stands, blocks_of, entries}
use Rattle.vos_small.specs.Small.{AreOfRegion}

-- a number from 1264 on that a tree can name
record CanBeNamed (q : ℕ) : Type 0 where
  low : 1264 ≤ q
  high : q < 4294967296

lie : (m : Blocks) (kind : ℕ) (t : Shape) → Stands m kind t → (q : ℕ) → 0 < times q (blocks_of (entries t)) → CanBeNamed q
lie m kind Leaf s q h = absurd (omega (arith, h, times_none q))
lie m kind (Fork l e r) s q h =
    elim (eqb_tells q e.block) [
      | inl a ↦ (let e = a.1 in let low = s.0.entry.low in let high = s.0.entry.high in record { low = omega (arith, e, low); high = omega (arith, e, high) })
      | inr b ↦
          elim (cases_lt 0 (times q (blocks_of (entries l)))) [
            | inl in_left ↦ lie m kind l s.1 q in_left
            | inr none ↦
                (let split = ap (times q) (blocks-append (entries l) (e ∷ entries r)) in
                lie m kind r s.2 q (omega (arith, h, none, split, times-append q (blocks_of (entries l)) (e.block ∷ blocks_of (entries r)), times_one q e.block (blocks_of (entries r)), times_other q e.block b.1)))
          ]
    ]

pub length_blocks : (es : List Entry) → length (blocks_of es) ≡ length es
length_blocks [] = refl
length_blocks (e ∷ es) = omega (arith, length_blocks es)

-- distinct numbers below 131072 of which none is 0
few : (bs : List ℕ) → ((q : ℕ) → times q bs ≤ 1) → ((q : ℕ) → 0 < times q bs → q < 131072) → times 0 bs ≤ 0 → length bs < 131072
few bs once low none = let most = at_most 131072 (0 ∷ bs) twice below in omega (arith, most)
  where
    twice : (q : ℕ) → times q (0 ∷ bs) ≤ 1
    twice q =
        elim (eqb_tells q 0) [
          | inl a ↦ (let at = ap (λ (k : ℕ). times k (0 ∷ bs)) a.1 in omega (arith, at, times_one 0 0 bs, times_own 0, none))
          | inr b ↦ omega (arith, times_one q 0 bs, times_other q 0 b.1, once q)
        ]

    below : (q : ℕ) → 0 < times q (0 ∷ bs) → q < 131072
    below q some =
        elim (eqb_tells q 0) [
          | inl a ↦ (let e = a.1 in omega (arith, e))
          | inr b ↦ low q (omega (arith, some, times_one q 0 bs, times_other q 0 b.1))
        ]

pub small_tree : (m : Blocks) (kind : ℕ) (t : Shape) → AreOfRegion m → Stands m kind t → ((q : ℕ) → times q (blocks_of (entries t)) ≤ 1) → length (entries t) < 131072
small_tree m kind t of_region s once =
    let none : times 0 (blocks_of (entries t)) ≤ 0 = elim (cases_lt 0 (times 0 (blocks_of (entries t)))) [ inl some ↦ (let l = lie m kind t s 0 some in let low = l.low in absurd (omega (arith, low))) | inr nothing ↦ nothing ] in
    let less = few (blocks_of (entries t)) once (λ q some. (let l = lie m kind t s q some in of_region q l.high (tree_taken m kind t s q some))) none in
    omega (arith, less, length_blocks (entries t))
