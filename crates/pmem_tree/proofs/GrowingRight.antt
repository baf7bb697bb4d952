-- An entry goes into the right one of the trees below a node.
use Rattle.std.proofs.Common.{◌≡◌, ◌≢◌, ℕ, ◌+◌, ◌-◌, ◌≤◌, ◌<◌, [], ◌∷◌, ◌++◌, refl, sym, ap, ◌∙◌, subst, arith, inl, inr}
use Rattle.std.proofs.lemmas.Bool.{cases_lt}
use Rattle.std.proofs.lemmas.Bool.Decides.{eqb_tells}
use Rattle.std.specs.declared.cmp.Ordering.TheVariants.{Greater}
use Rattle.pmem_pages.specs.Blocks.{Blocks, Budget, IsSpent}
use Rattle.pmem_pages.specs.Node.{key_cmp, links_of}
use Rattle.pmem_pages.specs.Shape.{Entry, Shape, Fork, root_of, height, entries, count, node_at}
use Rattle.pmem_pages.proofs.Lists.{count_one, count_own, count_other, count_parts, count_inserted, Rises-back}
use Rattle.pmem_pages.proofs.Shapes.{stands_on}
use Rattle.pmem_tree_base.specs.declared.read.Sub.{Sub}
use Rattle.pmem_tree_base.specs.Nodes.{IsSub}
use Rattle.pmem_tree_base.proofs.Sides.{entry_at_right}
use Rattle.pmem_tree_base.proofs.Staged.{spent_then}
use Rattle.pmem_tree_base.specs.Join.{Parts, Held, Joined, Leans}
use Rattle.pmem_tree.proofs.Ends.{spent_none, end_right, even_right, longer_right}
use Rattle.pmem_tree.specs.Rejoin.{Fits}
use Rattle.pmem_tree.specs.Ends.{GrowsAtEnd}
use Rattle.pmem_tree.specs.Grow.{CanGrow, Grown, GrowsCheaply}
use Rattle.pmem_tree.proofs.Growing.{inserted_right, part, own_apart, not_new}

module _ (m : Blocks) (kind at depth : ℕ) (x : Entry) (l : Shape) (e : Entry) (r : Shape) (c : CanGrow m kind at depth x (Fork l e r)) where
  module _ (more : key_cmp x.key e.key ≡ Greater) where
    pub grows_right : CanGrow m kind (root_of r) (depth - 1) x r
    grows_right = record {
      root_is = refl;
      stands = c.stands.2;
      rises = (Rises-back (entries l) (e ∷ entries r) c.rises).1;
      balanced = c.balanced.2;
      apart = λ q. omega (arith, c.apart q, part m kind at depth x l e r c q);
      high = let h = c.high in omega arith;
      low = let h = c.low in omega arith;
      entry = c.entry;
      taken = c.taken;
      outside = omega (arith, c.outside, part m kind at depth x l e r c x.block);
      missing = sym (entry_at_right x.key (entries l) e (entries r) c.rises more) ∙ c.missing;
    }

    -- the parts after the entry went in on the right
    module _ (m2 : Blocks) (s : Sub) (g : Grown m kind r x m2 s) where
      abbrev r2 : Shape
      r2 = g.tree

      counted : (q : ℕ) → count q (entries (Fork l e r2)) ≡ count q (x ∷ []) + count q (entries (Fork l e r))
      counted q = omega (arith, count_parts q (entries l) e (entries r2), part m kind at depth x l e r c q, ap (count q) g.entries_are, count_inserted q x (entries r) grows_right.missing)

      -- the node's own block is as it was
      pub own_right : m2 e.block ≡ m e.block
      own_right = g.keeps e.block (omega (arith, count_one e.block x (entries r), count_other e.block x (own_apart m kind at depth x l e r c), c.apart e.block, part m kind at depth x l e r c e.block, count_own e))

      pub parts_right : Parts m2 kind l e r2
      parts_right =
          let near = c.balanced.0 in
          let lo = g.lower in
          let hi = g.upper in
          record {
            left = stands_on m m2 kind l (λ q in_l. let ne = not_new m kind at depth x l e r c l q (omega (arith, c.outside, part m kind at depth x l e r c x.block)) in_l in g.keeps q (omega (arith, count_one q x (entries r), count_other q x ne, c.apart q, part m kind at depth x l e r c q, in_l))) c.stands.1;
            right = g.stands;
            entry = c.stands.0.entry;
            taken = record { bytes = _; holds = own_right ∙ c.stands.0.block };
            apart = λ q. elim (eqb_tells q x.block) [
              | inl a ↦ let z = subst (λ v. count v (entries (Fork l e r)) ≡ 0) (sym a.1) c.outside in let y = subst (λ v. count v (x ∷ []) ≡ 1) (sym a.1) (count_own x) in omega (arith, z, y, counted q)
              | inr a ↦ omega (arith, count_other q x a.1, c.apart q, counted q)
            ];
            balanced_left = c.balanced.1;
            balanced_right = g.balanced;
            near = record { left = omega arith; right = omega arith };
            low = let h = c.low in omega arith;
          }

      pub held_right : (a : Sub) → IsSub a l → Held m2 kind e a s l r2
      held_right a i = record { left_is = i; right_is = g.is_sub; parts = parts_right }

      -- .. and joined with the rest
      module _ (a : Sub) (left_is : IsSub a l) (n : Blocks) (w : Sub) (j : Joined m2 kind l e r2 n w) where
        abbrev u : Shape
        u = j.tree

        -- where the right tree is now two higher
        far_right : height l + 1 < height r2 → height u ≡ height (Fork l e r)
        far_right far =
            let near = c.balanced.0 in
            let hi = g.upper in
            let nl = near.right in
            let e1 : height u ≡ height r2 = j.joins.right_leant (omega arith) (g.leans (omega arith) (omega arith)) in
            omega (arith, e1)

        -- where it isn't
        near_right : height r2 ≤ height l + 1 → (height l ≤ height r2 + 1) × (u ≡ Fork l e r2)
        near_right close =
            let near = c.balanced.0 in
            let lo = g.lower in
            let nr = near.left in
            (omega arith, j.joins.plain (record { left = omega arith; right = close }))

        pub grown_right : Grown m kind (Fork l e r) x n w
        grown_right =
            let near = c.balanced.0 in
            let nl = near.left in
            let nr = near.right in
            let lo = g.lower in
            let hi = g.upper in
            record {
              tree = u;
              is_sub = j.is_sub;
              stands = j.joins.stands;
              entries_are = j.joins.same ∙ (ap (λ z. entries l ++ e ∷ z) g.entries_are ∙ sym (inserted_right x (entries l) e (entries r) c.rises more));
              balanced = j.joins.balanced;
              lower = elim (cases_lt (height l + 1) (height r2)) [
                | inl far ↦ omega (arith, far_right far)
                | inr close ↦ let v = ap height (near_right close).1 in omega (arith, v)
              ];
              upper = elim (cases_lt (height l + 1) (height r2)) [
                | inl far ↦ omega (arith, far_right far)
                | inr close ↦ let v = ap height (near_right close).1 in omega (arith, v)
              ];
              leans = λ grew _. elim (cases_lt (height l + 1) (height r2)) [
                | inl far ↦ absurd (omega (arith, far_right far))
                | inr close ↦ let v = ap height (near_right close).1 in let ne : height l ≢ height r2 = λ z. absurd (omega (arith, v, z)) in subst Leans (sym (near_right close).1) ne
              ];
              keeps = λ q none. j.joins.keeps q (omega (arith, none, count_one q x (entries (Fork l e r)), counted q)) ∙ g.keeps q (omega (arith, none, count_one q x (entries r), count_one q x (entries (Fork l e r)), part m kind at depth x l e r c q));
            }

        pub cheap_right : (b0 b1 b2 : Budget) → GrowsCheaply r s b0 b1 → IsSpent 3 768 b1 b2 → (a.height ≤ s.height + 1 → s.height ≤ a.height + 1 → IsSpent 1 256 b1 b2) → GrowsCheaply (Fork l e r) w b0 b2
        cheap_right b0 b1 b2 ch three one =
            let near = c.balanced.0 in
            let nl = near.left in
            let nr = near.right in
            let lo = g.lower in
            let hi = g.upper in
            let hs = g.is_sub.height_is in
            let hb = left_is.height_is in
            let hw = j.is_sub.height_is in
            elim (cases_lt (height l + 1) (height r2)) [
              | inl far ↦ record {
                at_most = spent_then _ _ _ _ _ _ b0 b1 b2 (ch.grew (omega arith)) three (omega arith) (omega arith);
                grew = λ grew. absurd (omega (arith, far_right far));
              }
              | inr close ↦
                  let f = near_right close in
                  let v = ap height f.1 in
                  let cheap = one (let k = f.0 in omega arith) (omega arith) in
                  record {
                    at_most = spent_then _ _ _ _ _ _ b0 b1 b2 ch.at_most cheap (omega arith) (omega arith);
                    grew = λ grew. spent_then _ _ _ _ _ _ b0 b1 b2 (ch.grew (omega (arith, v))) cheap (omega arith) (omega arith);
                  }
            ]

        pub ends_right : (b0 b1 b2 : Budget) → GrowsAtEnd x.key r s b0 b1 → IsSpent 3 768 b1 b2 → (a.height ≤ s.height + 1 → s.height ≤ a.height + 1 → IsSpent 1 256 b1 b2) → (Fits (links_of (node_at l e r)) a s → b2 ≡ b1) → GrowsAtEnd x.key (Fork l e r) w b0 b2
        ends_right b0 b1 b2 ch three one idle =
            let near = c.balanced.0 in
            let nl = near.left in
            let nr = near.right in
            let lo = g.lower in
            let hi = g.upper in
            let hs = g.is_sub.height_is in
            let hb = left_is.height_is in
            let rb = left_is.root_is in
            let hw = j.is_sub.height_is in
            let len = end_right x.key l e r more in
            elim (cases_lt (height l + 1) (height r2)) [
              | inl far ↦
                  let all = (ch.grew (omega arith)).1 in
                  record {
                    most = spent_then _ _ _ _ _ _ b0 b1 b2 all three (omega arith) (omega arith);
                    turned = λ _ _. spent_then _ _ _ _ _ _ b0 b1 b2 all three (omega arith) (omega arith);
                    grew = λ grew. absurd (omega (arith, far_right far));
                  }
              | inr close ↦
                  let f = near_right close in
                  let v = ap height f.1 in
                  let stays : w.root ≡ e.block = j.is_sub.root_is ∙ ap root_of f.1 in
                  let cheap = one (let k = f.0 in omega arith) (omega arith) in
                  elim (eqb_tells s.height (height r)) [
                    | inl as_high ↦
                        let level = as_high.1 in
                        record {
                          most = elim (eqb_tells s.root (root_of r)) [
                            | inl as_rooted ↦ spent_then _ _ _ _ _ _ b0 b1 b2 ch.most (spent_none b1 b2 (idle (sym rb, (sym as_rooted.1, (omega arith, (omega arith, omega arith)))))) (omega arith) (omega arith)
                            | inr other ↦ spent_then _ _ _ _ _ _ b0 b1 b2 (ch.turned other.1 level) cheap (omega arith) (omega arith)
                          ];
                          turned = λ other _. absurd (other stays);
                          grew = λ grew. absurd (omega (arith, v));
                        }
                    | inr other ↦
                        let ne = other.1 in
                        let more_high : s.height ≡ height r + 1 = omega (arith, ne) in
                        let below = ch.grew more_high in
                        record {
                          most = spent_then _ _ _ _ _ _ b0 b1 b2 below.1 cheap (omega arith) (omega arith);
                          turned = λ other _. absurd (other stays);
                          grew = λ grew.
                              let even = even_right x.key l e r more below.0 (omega (arith, v)) in
                              let longer = longer_right x.key l e r more even in
                              (even, spent_then _ _ _ _ _ _ b0 b1 b2 below.1 cheap (omega arith) (omega arith));
                        }
                  ]
            ]
