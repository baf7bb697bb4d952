-- What stands in the blocks after one of them was changed.
use Rattle.std.proofs.Common.{◌≡◌, ◌≢◌, ℕ, cond, List, Option, Some, ap, ◌∙◌, arith, inl, inr}
use Rattle.std.proofs.lemmas.Bool.{ne_eqb}
use Rattle.std.proofs.lemmas.Bool.Decides.{nat_tests, eqb_tells}
use Rattle.pmem_pages.specs.Blocks.{Blocks, IsTaken, put}

pub put_here : (m : Blocks) (b : ℕ) (x : Option (List ℕ)) → put m b x b ≡ x
unfolding put
put_here m b x = grind (arith, nat_tests)

pub put_other : (m : Blocks) (b : ℕ) (x : Option (List ℕ)) (q : ℕ) → q ≢ b → put m b x q ≡ m q
unfolding put
put_other m b x q ne = ap (λ t. cond t x (m q)) (ne_eqb q b ne)

-- a taken block stays taken where bytes are put
pub taken_put : (m : Blocks) (c : ℕ) (x : List ℕ) (b : ℕ) → IsTaken m b → IsTaken (put m c (Some x)) b
taken_put m c x b t =
    elim (eqb_tells b c) [
      | inl a ↦ record { bytes = x; holds = ap (put m c (Some x)) a.1 ∙ put_here m c (Some x) }
      | inr a ↦ record { bytes = t.bytes; holds = put_other m c (Some x) b a.1 ∙ t.holds }
    ]
