-- A pair is taken out of a whole tree.
use Rattle.std.proofs.Common.{◌≡◌, ◌≢◌, ℕ, ◌+◌, ◌*◌, ◌≤◌, ◌<◌, [], ◌∷◌, Some, None, sym, ap, ◌∙◌, subst, arith, ◌⊎◌, inl, inr}
use Rattle.std.proofs.lemmas.Bool.Decides.{eqb_tells}
use Rattle.pmem_pages.specs.Blocks.{Blocks, Budget, IsTaken, IsSpent, put}
use Rattle.pmem_pages.proofs.BlockLaws.{put_here, put_other}
use Rattle.pmem_pages.specs.declared.node.TreeKey.{TreeKey}
use Rattle.pmem_pages.specs.Shape.{Entry, Shape, height, entries, count, Stands, Balanced, Rises, IsTree, entry_at}
use Rattle.pmem_pages.proofs.Lists.{count_own, count_other, count_removed, rises_removed}
use Rattle.pmem_pages.proofs.Shapes.{stands_on, taken_in}
use Rattle.pmem_pages.proofs.Heights.{low, never_high}
use Rattle.pmem_tree_base.proofs.Staged.{spent_then}
use Rattle.pmem_tree.specs.declared.shrink.Cut.{Cut}
use Rattle.pmem_tree.specs.Shrink.{CanShrink, Shrunk}
use Rattle.pmem_tree.specs.Calls.{StagesAtMost, TooFew}
use Rattle.pmem_tree.specs.Changes.{Removes}

module _ (m : Blocks) (kind root depth : ℕ) (key : TreeKey) (gone : Entry) (t : Shape) (w : IsTree m kind root t) (there : entry_at key (entries t) ≡ Some gone) where
  pub can_shrink : depth ≡ height t → CanShrink m kind root depth key gone t
  can_shrink d = record {
    root_is = w.root;
    whole = record { stands = w.stands; balanced = w.balanced; apart = w.apart; high = omega arith; low = omega (arith, never_high m kind t w.stands w.apart w.balanced) };
    rises = w.rises;
    gone_is = there;
  }

  module _ (n : Blocks) (c : Cut) (g : Shrunk m kind t key gone n c) where
    counted : (q : ℕ) → count q (entries t) ≡ count q (gone ∷ []) + count q (entries g.tree)
    counted q = count_removed q key gone (entries t) there ∙ ap (λ z. count q (gone ∷ []) + count q z) (sym g.entries_are)

    own : count gone.block (gone ∷ []) ≡ 1
    own = count_own gone

    -- its block is as it was, and not of the tree that remains
    pub gone_taken : IsTaken n c.block
    gone_taken =
        let k = w.apart gone.block in
        let t = taken_in m kind t gone.block w.stands (omega (arith, counted gone.block, own)) in
        rw g.block_is (record { bytes = t.bytes; holds = g.keeps gone.block (omega (arith, counted gone.block, own, k)) ∙ t.holds })

    module _ (o : Blocks) (e : o ≡ put n c.block None) where
      other : (q : ℕ) → q ≢ gone.block → o q ≡ n q
      other q ne = ap (λ (z : Blocks). z q) e ∙ put_other n c.block None q (λ z. ne (z ∙ g.block_is))

      here : o gone.block ≡ None
      here = ap (λ (z : Blocks). z gone.block) e ∙ rw g.block_is (put_here n gone.block None)

      stands_again : Stands o kind g.tree
      stands_again = stands_on n o kind g.tree (λ q in_g. other q (λ z. let y : count q (entries g.tree) ≡ count gone.block (entries g.tree) = ap (λ v. count v (entries g.tree)) z in absurd (omega (arith, in_g, y, own, counted gone.block, w.apart gone.block)))) g.stands

      once : (q : ℕ) → count q (entries g.tree) ≤ 1
      once q = omega (arith, counted q, w.apart q)

      outside_as : (q : ℕ) → count q (entries t) ≡ 0 → count q (entries g.tree) ≡ 0 → o q ≡ m q
      outside_as q no_t no_g =
          other q (λ z. let y = subst (λ v. count v (gone ∷ []) ≡ 1) (sym z) own in absurd (omega (arith, y, no_t, counted q))) ∙ g.keeps q no_g

      given_free : (q : ℕ) → 0 < count q (entries t) → count q (entries g.tree) ≡ 0 → o q ≡ None
      given_free q in_t no_g = elim (eqb_tells q gone.block) [
        | inl a ↦ ap o a.1 ∙ here
        | inr a ↦ absurd (omega (arith, in_t, no_g, counted q, count_other q gone a.1))
      ]

      pub removes : Removes m kind t key gone o c.rest.root
      unfolding count
      removes = record {
        tree = g.tree;
        now_free = here;
        is_tree = record {
          root = g.is_sub.root_is;
          stands = stands_again;
          apart = once;
          balanced = g.balanced;
          rises = subst Rises (sym g.entries_are) (rises_removed key (entries t) w.rises);
        };
        entries_are = g.entries_are;
        changed = record {
          holds = record { here = stands_again; apart = once };
          outside = outside_as;
          taken = λ q no_t in_g. absurd (omega (arith, no_t, in_g, counted q));
          given = given_free;
        };
      }

-- what it staged: the tree, and the block that was given back
pub stages_least : (t : Shape) (depth : ℕ) (b0 b1 b2 : Budget) → Balanced t → depth ≡ height t → IsSpent (3 * depth) (256 * (3 * depth)) b0 b1 → IsSpent 1 1 b1 b2 → StagesAtMost 8 16 t b0 b2
stages_least t depth b0 b1 b2 b h some one d n =
    let k = low t d b n in
    spent_then _ _ _ _ _ _ b0 b1 b2 some one (omega arith) (omega arith)

-- a refusal for want of ranges or bytes
pub few_removed : (t : Shape) (depth : ℕ) (b0 : Budget) → Balanced t → depth ≡ height t → (b0.ranges < 3 * depth + 3) ⊎ (b0.bytes < 256 * (3 * depth + 3)) → TooFew t b0
few_removed t depth b0 b e h d n =
    let k = low t d b n in
    elim h [ inl f ↦ inl (omega arith) | inr f ↦ inr (omega arith) ]

pub few_given : (t : Shape) (depth : ℕ) (b0 b1 : Budget) → Balanced t → depth ≡ height t → IsSpent (3 * depth) (256 * (3 * depth)) b0 b1 → (b1.ranges < 1) ⊎ (b1.bytes < 1) → TooFew t b0
few_given t depth b0 b1 b e s h d n =
    let k = low t d b n in
    let r = s.ranges_most in
    let y = s.bytes_most in
    elim h [ inl f ↦ inl (omega arith) | inr f ↦ inr (omega arith) ]
