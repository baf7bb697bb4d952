-- A value is put in the place of another, in a whole tree.
use Rattle.std.proofs.Common.{◌≡◌, ℕ, ◌≤◌, Some, sym, ap, ◌∙◌, subst, arith}
use Rattle.pmem_pages.specs.Blocks.{Blocks}
use Rattle.pmem_pages.specs.Owners.{times}
use Rattle.pmem_pages.specs.declared.node.Pair.{Pair}
use Rattle.pmem_pages.specs.Node.{IsValue}
use Rattle.pmem_pages.specs.Shape.{Entry, Shape, height, entries, blocks_of, count, IsTree, Rises, entry_at}
use Rattle.pmem_pages.proofs.Lists.{blocks_valued, rises_valued}
use Rattle.pmem_tree_base.specs.Put.{CanPut, Put}
use Rattle.pmem_tree.specs.Changes.{Puts}

-- a whole tree
module _ (m : Blocks) (kind root depth : ℕ) (p : Pair) (value : IsValue kind p.value) (gone : Entry) (t : Shape) (w : IsTree m kind root t) (there : entry_at p.key (entries t) ≡ Some gone) where
  pub can_put : depth ≡ height t → CanPut m kind root depth p gone t
  can_put d = record { root_is = w.root; stands = w.stands; rises = w.rises; apart = w.apart; high = omega arith; value = value; there = there }

  pub puts : (n : Blocks) → Put m kind t p n → Puts m kind t p.key p.value n root
  unfolding count
  puts n g =
      let same : blocks_of (entries g.tree) ≡ blocks_of (entries t) = ap blocks_of g.entries_are ∙ blocks_valued p.key p.value (entries t) in
      let times_as = λ (q : ℕ). ap (times q) same in
      let once : (q : ℕ) → times q (blocks_of (entries g.tree)) ≤ 1 = λ q. omega (arith, times_as q, w.apart q) in
      record {
        tree = g.tree;
        is_tree = record {
          root = w.root ∙ sym g.root_as;
          stands = g.stands;
          apart = once;
          balanced = g.balanced w.balanced;
          rises = subst Rises (sym g.entries_are) (rises_valued p.key p.value (entries t) w.rises);
        };
        entries_are = g.entries_are;
        changed = record {
          holds = record { here = g.stands; apart = once };
          outside = λ q a _. g.keeps q a;
          taken = λ q a b. absurd (omega (arith, a, b, times_as q));
          given = λ q a b. absurd (omega (arith, a, b, times_as q));
        };
      }
