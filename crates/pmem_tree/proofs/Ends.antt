-- The end of a key's way, and that of the way below its first node.
use Rattle.std.proofs.Common.{◌≡◌, ◌+◌, ◌≤◌, ◌==◌, ℕ, true, false, cond, ap, ◌∙◌, arith}
use Rattle.std.proofs.lemmas.Bool.Decides.{nat_tests}
use Rattle.std.specs.declared.cmp.Ordering.TheVariants.{Less, Greater}
use Rattle.pmem_pages.specs.Blocks.{Budget, IsSpent}
use Rattle.pmem_pages.specs.declared.node.TreeKey.{TreeKey}
use Rattle.pmem_pages.specs.Node.{key_cmp}
use Rattle.pmem_pages.specs.Shape.{Entry, Shape, Fork, height, chosen}
use Rattle.pmem_tree.specs.Ends.{all_even, even_end}

pub spent_none : (b0 b1 : Budget) → b1 ≡ b0 → IsSpent 0 0 b0 b1
spent_none b0 b1 h = let r = ap (λ (b : Budget). b.ranges) h in let s = ap (λ (b : Budget). b.bytes) h in record { ranges_most = omega arith; ranges_least = omega arith; bytes_most = omega arith; bytes_least = omega arith }

-- nothing was staged
pub spent_nothing : (n k : ℕ) (b : Budget) → IsSpent n k b b
spent_nothing n k b = record { ranges_most = omega arith; ranges_least = omega arith; bytes_most = omega arith; bytes_least = omega arith }

same_height : (a b : ℕ) → a ≡ b → (a == b) ≡ true
same_height a b h = grind (arith, nat_tests)

module _ (k : TreeKey) (l : Shape) (e : Entry) (r : Shape) where
  module _ (less : key_cmp k e.key ≡ Less) where
    pub end_left : even_end k l ≤ even_end k (Fork l e r)
    end_left = rw less (omega arith)

    pub even_left : all_even k l ≡ true → height l ≡ height r → all_even k (Fork l e r) ≡ true
    even_left even same = ap (λ t. cond t (chosen (key_cmp k e.key) (all_even k l) false (all_even k r)) false) (same_height (height l) (height r) same) ∙ (ap (λ o. chosen o (all_even k l) false (all_even k r)) less ∙ even)

    pub longer_left : all_even k (Fork l e r) ≡ true → even_end k (Fork l e r) ≡ even_end k l + 1
    longer_left even =
        let a : even_end k (Fork l e r) ≡ 1 + chosen (key_cmp k e.key) (even_end k l) 0 (even_end k r) = ap (λ t. cond t 1 0 + chosen (key_cmp k e.key) (even_end k l) 0 (even_end k r)) even in
        let b : chosen (key_cmp k e.key) (even_end k l) 0 (even_end k r) ≡ even_end k l = ap (λ o. chosen o (even_end k l) 0 (even_end k r)) less in
        a ∙ (ap (λ z. 1 + z) b ∙ omega arith)

  module _ (more : key_cmp k e.key ≡ Greater) where
    pub end_right : even_end k r ≤ even_end k (Fork l e r)
    end_right = rw more (omega arith)

    pub even_right : all_even k r ≡ true → height l ≡ height r → all_even k (Fork l e r) ≡ true
    even_right even same = ap (λ t. cond t (chosen (key_cmp k e.key) (all_even k l) false (all_even k r)) false) (same_height (height l) (height r) same) ∙ (ap (λ o. chosen o (all_even k l) false (all_even k r)) more ∙ even)

    pub longer_right : all_even k (Fork l e r) ≡ true → even_end k (Fork l e r) ≡ even_end k r + 1
    longer_right even =
        let a : even_end k (Fork l e r) ≡ 1 + chosen (key_cmp k e.key) (even_end k l) 0 (even_end k r) = ap (λ t. cond t 1 0 + chosen (key_cmp k e.key) (even_end k l) 0 (even_end k r)) even in
        let b : chosen (key_cmp k e.key) (even_end k l) 0 (even_end k r) ≡ even_end k r = ap (λ o. chosen o (even_end k l) 0 (even_end k r)) more in
        a ∙ (ap (λ z. 1 + z) b ∙ omega arith)
