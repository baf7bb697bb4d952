-- An entry goes into one of the trees below a node.
use Rattle.std.proofs.Common.{◌≡◌, ◌≢◌, ℕ, ◌+◌, ◌-◌, ◌≤◌, ◌<◌, List, [], ◌∷◌, ◌++◌, refl, sym, ap, ◌∙◌, subst, arith, inl, inr}
use Rattle.std.proofs.lemmas.Bool.{cases_lt}
use Rattle.std.proofs.lemmas.Bool.Decides.{eqb_tells}
use Rattle.std.specs.declared.cmp.Ordering.TheVariants.{Less, Greater}
use Rattle.pmem_pages.specs.Blocks.{Blocks, Budget, IsSpent}
use Rattle.pmem_pages.specs.Node.{key_cmp, links_of}
use Rattle.pmem_pages.specs.Shape.{Entry, Shape, Fork, root_of, height, entries, count, node_at, Rises, inserted}
use Rattle.pmem_pages.proofs.Lists.{count_one, count_own, count_other, count_parts, count_inserted, Rises-front, entry_at_left, inserted_left, inserted_past}
use Rattle.pmem_pages.proofs.Shapes.{stands_on}
use Rattle.pmem_tree_base.specs.declared.read.Sub.{Sub}
use Rattle.pmem_tree_base.specs.Nodes.{IsSub}
use Rattle.pmem_tree_base.proofs.Sides.{past_left}
use Rattle.pmem_tree_base.proofs.Staged.{spent_then}
use Rattle.pmem_tree_base.specs.Join.{Parts, Held, Joined, Leans}
use Rattle.pmem_tree.proofs.Ends.{spent_none, end_left, even_left, longer_left}
use Rattle.pmem_tree.specs.Rejoin.{Fits}
use Rattle.pmem_tree.specs.Ends.{GrowsAtEnd}
use Rattle.pmem_tree.specs.Grow.{CanGrow, Grown, GrowsCheaply}

pub inserted_right : (x : Entry) (l : List Entry) (e : Entry) (r : List Entry) → Rises (l ++ e ∷ r) → key_cmp x.key e.key ≡ Greater → inserted x (l ++ e ∷ r) ≡ l ++ e ∷ inserted x r
inserted_right x l e r rises k = inserted_past x l (e ∷ r) (past_left x.key l e r rises k) ∙ ap (λ z. l ++ z) (rw k refl)

module _ (m : Blocks) (kind at depth : ℕ) (x : Entry) (l : Shape) (e : Entry) (r : Shape) (c : CanGrow m kind at depth x (Fork l e r)) where
  pub part : (q : ℕ) → count q (entries (Fork l e r)) ≡ count q (entries l) + (count q (e ∷ []) + count q (entries r))
  part q = count_parts q (entries l) e (entries r)

  -- the node's own block isn't the new one
  pub own_apart : e.block ≢ x.block
  own_apart z = let y : count x.block (e ∷ []) ≡ 1 = subst (λ v. count v (e ∷ []) ≡ 1) z (count_own e) in omega (arith, c.outside, part x.block)

  pub not_new : (t : Shape) (q : ℕ) → count x.block (entries t) ≡ 0 → 0 < count q (entries t) → q ≢ x.block
  not_new t q out h z = let y : count q (entries t) ≡ count x.block (entries t) = ap (λ v. count v (entries t)) z in omega arith

  module _ (less : key_cmp x.key e.key ≡ Less) where
    pub grows_left : CanGrow m kind (root_of l) (depth - 1) x l
    grows_left = record {
      root_is = refl;
      stands = c.stands.1;
      rises = Rises-front (entries l) (e ∷ entries r) c.rises;
      balanced = c.balanced.1;
      apart = λ q. omega (arith, c.apart q, part q);
      high = let h = c.high in omega arith;
      low = let h = c.low in omega arith;
      entry = c.entry;
      taken = c.taken;
      outside = omega (arith, c.outside, part x.block);
      missing = sym (entry_at_left x.key (entries l) e (entries r) less) ∙ c.missing;
    }

    -- the parts after the entry went in on the left
    module _ (m2 : Blocks) (s : Sub) (g : Grown m kind l x m2 s) where
      abbrev l2 : Shape
      l2 = g.tree

      counted : (q : ℕ) → count q (entries (Fork l2 e r)) ≡ count q (x ∷ []) + count q (entries (Fork l e r))
      counted q = omega (arith, count_parts q (entries l2) e (entries r), part q, ap (count q) g.entries_are, count_inserted q x (entries l) grows_left.missing)

      -- the node's own block is as it was
      pub own_left : m2 e.block ≡ m e.block
      own_left = g.keeps e.block (omega (arith, count_one e.block x (entries l), count_other e.block x own_apart, c.apart e.block, part e.block, count_own e))

      pub parts_left : Parts m2 kind l2 e r
      parts_left =
          let near = c.balanced.0 in
          let lo = g.lower in
          let hi = g.upper in
          record {
            left = g.stands;
            right = stands_on m m2 kind r (λ q in_r. let ne = not_new r q (omega (arith, c.outside, part x.block)) in_r in g.keeps q (omega (arith, count_one q x (entries l), count_other q x ne, c.apart q, part q, in_r))) c.stands.2;
            entry = c.stands.0.entry;
            taken = record { bytes = _; holds = own_left ∙ c.stands.0.block };
            apart = λ q. elim (eqb_tells q x.block) [
              | inl a ↦ let z = subst (λ v. count v (entries (Fork l e r)) ≡ 0) (sym a.1) c.outside in let y = subst (λ v. count v (x ∷ []) ≡ 1) (sym a.1) (count_own x) in omega (arith, z, y, counted q)
              | inr a ↦ omega (arith, count_other q x a.1, c.apart q, counted q)
            ];
            balanced_left = g.balanced;
            balanced_right = c.balanced.2;
            near = record { left = omega arith; right = omega arith };
            low = let h = c.low in omega arith;
          }

      pub held_left : (b : Sub) → IsSub b r → Held m2 kind e s b l2 r
      held_left b i = record { left_is = g.is_sub; right_is = i; parts = parts_left }

      -- .. and joined with the rest
      module _ (b : Sub) (right_is : IsSub b r) (n : Blocks) (w : Sub) (j : Joined m2 kind l2 e r n w) where
        abbrev u : Shape
        u = j.tree

        -- where the left tree is now two higher
        far_left : height r + 1 < height l2 → height u ≡ height (Fork l e r)
        far_left far =
            let near = c.balanced.0 in
            let hi = g.upper in
            let nl = near.left in
            let e1 : height u ≡ height l2 = j.joins.left_leant (omega arith) (g.leans (omega arith) (omega arith)) in
            omega (arith, e1)

        -- where it isn't
        near_left : height l2 ≤ height r + 1 → (height r ≤ height l2 + 1) × (u ≡ Fork l2 e r)
        near_left close =
            let near = c.balanced.0 in
            let lo = g.lower in
            let nr = near.right in
            (omega arith, j.joins.plain (record { left = close; right = omega arith }))

        pub grown_left : Grown m kind (Fork l e r) x n w
        grown_left =
            let near = c.balanced.0 in
            let nl = near.left in
            let nr = near.right in
            let lo = g.lower in
            let hi = g.upper in
            record {
              tree = u;
              is_sub = j.is_sub;
              stands = j.joins.stands;
              entries_are = j.joins.same ∙ (ap (λ z. z ++ e ∷ entries r) g.entries_are ∙ sym (inserted_left x (entries l) e (entries r) less));
              balanced = j.joins.balanced;
              lower = elim (cases_lt (height r + 1) (height l2)) [
                | inl far ↦ omega (arith, far_left far)
                | inr close ↦ let v = ap height (near_left close).1 in omega (arith, v)
              ];
              upper = elim (cases_lt (height r + 1) (height l2)) [
                | inl far ↦ omega (arith, far_left far)
                | inr close ↦ let v = ap height (near_left close).1 in omega (arith, v)
              ];
              leans = λ grew _. elim (cases_lt (height r + 1) (height l2)) [
                | inl far ↦ absurd (omega (arith, far_left far))
                | inr close ↦ let v = ap height (near_left close).1 in let ne : height l2 ≢ height r = λ z. absurd (omega (arith, v, z)) in subst Leans (sym (near_left close).1) ne
              ];
              keeps = λ q none. j.joins.keeps q (omega (arith, none, count_one q x (entries (Fork l e r)), counted q)) ∙ g.keeps q (omega (arith, none, count_one q x (entries l), count_one q x (entries (Fork l e r)), part q));
            }

        pub cheap_left : (b0 b1 b2 : Budget) → GrowsCheaply l s b0 b1 → IsSpent 3 768 b1 b2 → (s.height ≤ b.height + 1 → b.height ≤ s.height + 1 → IsSpent 1 256 b1 b2) → GrowsCheaply (Fork l e r) w b0 b2
        cheap_left b0 b1 b2 ch three one =
            let near = c.balanced.0 in
            let nl = near.left in
            let nr = near.right in
            let lo = g.lower in
            let hi = g.upper in
            let hs = g.is_sub.height_is in
            let hb = right_is.height_is in
            let hw = j.is_sub.height_is in
            elim (cases_lt (height r + 1) (height l2)) [
              | inl far ↦ record {
                at_most = spent_then _ _ _ _ _ _ b0 b1 b2 (ch.grew (omega arith)) three (omega arith) (omega arith);
                grew = λ grew. absurd (omega (arith, far_left far));
              }
              | inr close ↦
                  let f = near_left close in
                  let v = ap height f.1 in
                  let cheap = one (omega arith) (let k = f.0 in omega arith) in
                  record {
                    at_most = spent_then _ _ _ _ _ _ b0 b1 b2 ch.at_most cheap (omega arith) (omega arith);
                    grew = λ grew. spent_then _ _ _ _ _ _ b0 b1 b2 (ch.grew (omega (arith, v))) cheap (omega arith) (omega arith);
                  }
            ]

        pub ends_left : (b0 b1 b2 : Budget) → GrowsAtEnd x.key l s b0 b1 → IsSpent 3 768 b1 b2 → (s.height ≤ b.height + 1 → b.height ≤ s.height + 1 → IsSpent 1 256 b1 b2) → (Fits (links_of (node_at l e r)) s b → b2 ≡ b1) → GrowsAtEnd x.key (Fork l e r) w b0 b2
        ends_left b0 b1 b2 ch three one idle =
            let near = c.balanced.0 in
            let nl = near.left in
            let nr = near.right in
            let lo = g.lower in
            let hi = g.upper in
            let hs = g.is_sub.height_is in
            let hb = right_is.height_is in
            let rb = right_is.root_is in
            let hw = j.is_sub.height_is in
            let len = end_left x.key l e r less in
            elim (cases_lt (height r + 1) (height l2)) [
              | inl far ↦
                  let all = (ch.grew (omega arith)).1 in
                  record {
                    most = spent_then _ _ _ _ _ _ b0 b1 b2 all three (omega arith) (omega arith);
                    turned = λ _ _. spent_then _ _ _ _ _ _ b0 b1 b2 all three (omega arith) (omega arith);
                    grew = λ grew. absurd (omega (arith, far_left far));
                  }
              | inr close ↦
                  let f = near_left close in
                  let v = ap height f.1 in
                  let stays : w.root ≡ e.block = j.is_sub.root_is ∙ ap root_of f.1 in
                  let cheap = one (omega arith) (let k = f.0 in omega arith) in
                  elim (eqb_tells s.height (height l)) [
                    | inl as_high ↦
                        let level = as_high.1 in
                        record {
                          most = elim (eqb_tells s.root (root_of l)) [
                            | inl as_rooted ↦ spent_then _ _ _ _ _ _ b0 b1 b2 ch.most (spent_none b1 b2 (idle (sym as_rooted.1, (sym rb, (omega arith, (omega arith, omega arith)))))) (omega arith) (omega arith)
                            | inr other ↦ spent_then _ _ _ _ _ _ b0 b1 b2 (ch.turned other.1 level) cheap (omega arith) (omega arith)
                          ];
                          turned = λ other _. absurd (other stays);
                          grew = λ grew. absurd (omega (arith, v));
                        }
                    | inr other ↦
                        let ne = other.1 in
                        let more_high : s.height ≡ height l + 1 = omega (arith, ne) in
                        let below = ch.grew more_high in
                        record {
                          most = spent_then _ _ _ _ _ _ b0 b1 b2 below.1 cheap (omega arith) (omega arith);
                          turned = λ other _. absurd (other stays);
                          grew = λ grew.
                              let even = even_left x.key l e r less below.0 (omega (arith, v)) in
                              let longer = longer_left x.key l e r less even in
                              (even, spent_then _ _ _ _ _ _ b0 b1 b2 below.1 cheap (omega arith) (omega arith));
                        }
                  ]
            ]
