-- A tree owns the blocks of its nodes.
use Rattle.std.specs.Prelude.{ℕ, ◌<◌, ◌≡◌, ◌+◌, List, [], ◌∷◌, ◌++◌, refl}
use Rattle.std.proofs.Common.{arith, ap, ◌∙◌, inl, inr}
use Rattle.std.proofs.lemmas.Bool.{cases_lt}
use Rattle.std.proofs.lemmas.Bool.Decides.{eqb_tells}
use Rattle.pmem_pages.specs.Blocks.{Blocks, IsTaken}
use Rattle.pmem_pages.specs.Owners.{Owner, SameIn, times, times-append}
use Rattle.pmem_pages.specs.Counts.{times_none, times_one, times_own, times_other}
use Rattle.pmem_pages.specs.Shape.{Entry, Shape, Leaf, Fork, entries, blocks_of, Stands}

pub blocks-append : (xs ys : List Entry) → blocks_of (xs ++ ys) ≡ blocks_of xs ++ blocks_of ys
blocks-append [] ys = refl
blocks-append (x ∷ xs) ys = ap (λ (z : List ℕ). x.block ∷ z) (blocks-append xs ys)

times_fork : (q : ℕ) (l : Shape) (e : Entry) (r : Shape) → times q (blocks_of (entries (Fork l e r))) ≡ times q (blocks_of (entries l)) + (times q (e.block ∷ []) + times q (blocks_of (entries r)))
times_fork q l e r =
    ap (times q) (blocks-append (entries l) (e ∷ entries r)) ∙ omega (arith, times-append q (blocks_of (entries l)) (e.block ∷ blocks_of (entries r)), times_one q e.block (blocks_of (entries r)))

-- the blocks of a tree are taken
pub tree_taken : (m : Blocks) (kind : ℕ) (t : Shape) → Stands m kind t → (q : ℕ) → 0 < times q (blocks_of (entries t)) → IsTaken m q
tree_taken m kind Leaf s q h = absurd (omega (arith, times_none q))
tree_taken m kind (Fork l e r) s q h =
    elim (eqb_tells q e.block) [
      | inl a ↦ record { bytes = _; holds = ap m a.1 ∙ s.0.block }
      | inr b ↦
          elim (cases_lt 0 (times q (blocks_of (entries l)))) [
            | inl in_left ↦ tree_taken m kind l s.1 q in_left
            | inr none ↦ tree_taken m kind r s.2 q (omega (arith, h, none, times_fork q l e r, times_other q e.block b.1))
          ]
    ]

-- what its blocks hold is all that counts
pub tree_frame : (m n : Blocks) (kind : ℕ) (t : Shape) → SameIn m n (blocks_of (entries t)) → Stands m kind t → Stands n kind t
tree_frame m n kind Leaf f s = tt
tree_frame m n kind (Fork l e r) f s = (
  record { entry = s.0.entry; block = f e.block (omega (arith, times_fork e.block l e r, times_own e.block)) ∙ s.0.block },
  tree_frame m n kind l (λ q h. f q (omega (arith, h, times_fork q l e r))) s.1,
  tree_frame m n kind r (λ q h. f q (omega (arith, h, times_fork q l e r))) s.2,
)

abbrev pub tree_owner : ℕ → Owner Shape
tree_owner kind = record { stands = λ m t. Stands m kind t; owned = λ t. blocks_of (entries t); is_taken = λ m t. tree_taken m kind t; frame = λ m n t. tree_frame m n kind t }
