-- A tree below a node shrinks, and the node is joined again.
use Rattle.std.proofs.Common.{◌≡◌, ℕ, ◌+◌, ◌-◌, ◌≤◌, ◌<◌, [], ◌∷◌, ◌++◌, refl, sym, ap, ◌∙◌, subst, arith, append-nil, inl, inr}
use Rattle.std.proofs.lemmas.Bool.{cases_lt}
use Rattle.std.specs.declared.cmp.Ordering.TheVariants.{Less, Equal, Greater}
use Rattle.pmem_pages.specs.Blocks.{Blocks, IsTaken}
use Rattle.pmem_pages.specs.declared.node.Node.{Node}
use Rattle.pmem_pages.specs.declared.node.TreeKey.{TreeKey}
use Rattle.pmem_pages.specs.Node.{key_cmp}
use Rattle.pmem_pages.specs.Shape.{Entry, Shape, Leaf, Fork, root_of, height, entries, count, node_at, IsEntry, Stands, Balanced, Keeps}
use Rattle.pmem_pages.proofs.Lists.{count_one, count_own, count_parts, count_removed, Rises-front, Rises-back, entry_at_left, removed_left, removed_past}
use Rattle.pmem_pages.proofs.Shapes.{stands_on, taken_in}
use Rattle.pmem_tree_base.specs.declared.read.Sub.{Sub}
use Rattle.pmem_tree_base.specs.Nodes.{entry_of, IsSub}
use Rattle.pmem_tree_base.proofs.Sides.{past_left, at_left, entry_at_right, entry_at_here}
use Rattle.pmem_tree_base.specs.Join.{Parts, Joins, Joined}
use Rattle.pmem_tree.specs.declared.shrink.Cut.{Cut}
use Rattle.pmem_tree.specs.declared.shrink.First.{First}
use Rattle.pmem_tree.specs.Shrink.{Whole, CanTake, Taken, CanDrop, Dropped, CanShrink, Shrunk}

module _ (m : Blocks) (kind depth : ℕ) (l : Shape) (e : Entry) (r : Shape) (c : Whole m kind depth (Fork l e r)) where
  pub split : (q : ℕ) → count q (entries (Fork l e r)) ≡ count q (entries l) + (count q (e ∷ []) + count q (entries r))
  split q = count_parts q (entries l) e (entries r)

  pub whole_left : Whole m kind (depth - 1) l
  whole_left = record { stands = c.stands.1; balanced = c.balanced.1; apart = λ q. omega (arith, c.apart q, split q); high = let h = c.high in omega arith; low = let h = c.low in omega arith }

  pub whole_right : Whole m kind (depth - 1) r
  whole_right = record { stands = c.stands.2; balanced = c.balanced.2; apart = λ q. omega (arith, c.apart q, split q); high = let h = c.high in omega arith; low = let h = c.low in omega arith }

  own_taken : (n : Blocks) → n e.block ≡ m e.block → IsTaken n e.block
  own_taken n h = record { bytes = _; holds = h ∙ c.stands.0.block }

  -- the left tree became another of no more blocks, as high or one lower
  module _ (m2 : Blocks) (l2 : Shape) (s : Stands m2 kind l2) (b : Balanced l2) (lo : height l ≤ height l2 + 1) (hi : height l2 ≤ height l) (few : (q : ℕ) → count q (entries l2) ≤ count q (entries l)) (keeps : Keeps m m2 (entries l)) where
    pub parts_left : Parts m2 kind l2 e r
    parts_left =
        let near = c.balanced.0 in
        record {
          left = s;
          right = stands_on m m2 kind r (λ q in_r. keeps q (omega (arith, in_r, c.apart q, split q))) c.stands.2;
          entry = c.stands.0.entry;
          taken = own_taken m2 (keeps e.block (omega (arith, c.apart e.block, split e.block, count_own e)));
          apart = λ q. omega (arith, c.apart q, split q, few q, count_parts q (entries l2) e (entries r));
          balanced_left = b;
          balanced_right = c.balanced.2;
          near = record { left = omega (arith, near.left, near.right); right = omega (arith, near.left, near.right) };
          low = let h = c.low in omega arith;
        }

    pub heights_left : (n : Blocks) (u : Shape) → Joins m2 kind l2 e r n u → (height (Fork l e r) ≤ height u + 1) × (height u ≤ height (Fork l e r))
    heights_left n u j =
        let near = c.balanced.0 in
        let nl = near.left in
        let nr = near.right in
        let jl = j.lower in
        let ju = j.upper in
        elim (cases_lt (height l2 + 1) (height r)) [
          | inl far ↦ (omega arith, omega arith)
          | inr close ↦ let v = ap height (j.plain (record { left = omega arith; right = close })) in (omega (arith, v), omega (arith, v))
        ]

  -- the right tree did
  module _ (m2 : Blocks) (x : Entry) (r2 : Shape) (s : Stands m2 kind r2) (b : Balanced r2) (lo : height r ≤ height r2 + 1) (hi : height r2 ≤ height r) where
    pub parts_right : IsEntry kind x → IsTaken m2 x.block → ((q : ℕ) → count q (x ∷ []) + count q (entries r2) ≤ count q (e ∷ []) + count q (entries r)) → ((q : ℕ) → 0 < count q (entries l) → m2 q ≡ m q) → Parts m2 kind l x r2
    parts_right en tk few keeps =
        let near = c.balanced.0 in
        record {
          left = stands_on m m2 kind l keeps c.stands.1;
          right = s;
          entry = en;
          taken = tk;
          apart = λ q. omega (arith, c.apart q, split q, few q, count_parts q (entries l) x (entries r2));
          balanced_left = c.balanced.1;
          balanced_right = b;
          near = record { left = omega (arith, near.left, near.right); right = omega (arith, near.left, near.right) };
          low = let h = c.low in omega arith;
        }

    pub heights_right : (n : Blocks) (u : Shape) → Joins m2 kind l x r2 n u → (height (Fork l e r) ≤ height u + 1) × (height u ≤ height (Fork l e r))
    heights_right n u j =
        let near = c.balanced.0 in
        let nl = near.left in
        let nr = near.right in
        let jl = j.lower in
        let ju = j.upper in
        elim (cases_lt (height r2 + 1) (height l)) [
          | inl far ↦ (omega arith, omega arith)
          | inr close ↦ let v = ap height (j.plain (record { left = close; right = omega arith })) in (omega (arith, v), omega (arith, v))
        ]

-- the first entry of a tree
module _ (m : Blocks) (kind at depth : ℕ) (l : Shape) (e : Entry) (r : Shape) (c : CanTake m kind at depth (Fork l e r)) where
  pub take_left : CanTake m kind (root_of l) (depth - 1) l
  take_left = record { root_is = refl; whole = whole_left m kind depth l e r c.whole }

  -- the node itself, where nothing is left of it
  pub taken_here : l ≡ Leaf → (n : Blocks) → n ≡ m → (f : First) → e ≡ entry_of f.at f.pair → IsSub f.rest r → Taken m kind (Fork l e r) n f
  taken_here none n same f is sub =
      let near = c.whole.balanced.0 in
      let nr = near.right in
      let z = ap height none in
      record {
        tree = r;
        is_sub = sub;
        entry = subst (λ (x : Entry). IsEntry kind x) is c.whole.stands.0.entry;
        entries_are = ap (λ (s : Shape). entries s ++ e ∷ entries r) none ∙ ap (λ (x : Entry). x ∷ entries r) is;
        stands = rw same c.whole.stands.2;
        balanced = c.whole.balanced.2;
        lower = omega (arith, z);
        upper = omega arith;
        keeps = λ q _. ap (λ (b : Blocks). b q) same;
      }

  module _ (m2 : Blocks) (f : First) (g : Taken m kind l m2 f) where
    fewer : (q : ℕ) → count q (entries l) ≡ count q (entry_of f.at f.pair ∷ []) + count q (entries g.tree)
    fewer q = ap (count q) g.entries_are ∙ count_one q (entry_of f.at f.pair) (entries g.tree)

    kept : Keeps m m2 (entries l)
    kept q none = g.keeps q (omega (arith, none, fewer q))

    -- the node's own block is as it was
    pub own_take : m2 e.block ≡ m e.block
    own_take = kept e.block (omega (arith, c.whole.apart e.block, split m kind depth l e r c.whole e.block, count_own e))

    pub take_parts : Parts m2 kind g.tree e r
    take_parts = parts_left m kind depth l e r c.whole m2 g.tree g.stands g.balanced g.lower g.upper (λ q. omega (arith, fewer q)) kept

    pub taken_left : (n : Blocks) (s : Sub) → Joined m2 kind g.tree e r n s → Taken m kind (Fork l e r) n (record { at = f.at; pair = f.pair; rest = s })
    taken_left n s j =
        let h = heights_left m kind depth l e r c.whole m2 g.tree g.stands g.balanced g.lower g.upper (λ q. omega (arith, fewer q)) kept n j.tree j.joins in
        record {
          tree = j.tree;
          is_sub = j.is_sub;
          entry = g.entry;
          entries_are = ap (λ z. z ++ e ∷ entries r) g.entries_are ∙ ap (λ z. entry_of f.at f.pair ∷ z) (sym j.joins.same);
          stands = j.joins.stands;
          balanced = j.joins.balanced;
          lower = h.0;
          upper = h.1;
          keeps = λ q none. let k = ap (count q) j.joins.same in j.joins.keeps q (omega (arith, none, k)) ∙ g.keeps q (omega (arith, none, k, count_parts q (entries g.tree) e (entries r)));
        }

-- what is below a node, without it
module _ (m : Blocks) (kind at depth : ℕ) (node : Node) (l : Shape) (e : Entry) (r : Shape) (c : CanDrop m kind at depth node l e r) where
  pub dropped_left : r ≡ Leaf → (n : Blocks) → n ≡ m → (s : Sub) → IsSub s l → Dropped m kind l e r n s
  dropped_left none n same s sub =
      let near = c.whole.balanced.0 in
      let nl = near.left in
      let z = ap height none in
      record {
        tree = l;
        is_sub = sub;
        entries_are = sym (ap (λ (t : Shape). entries l ++ entries t) none ∙ append-nil (entries l));
        stands = rw same c.whole.stands.1;
        balanced = c.whole.balanced.1;
        lower = omega (arith, z);
        upper = omega arith;
        keeps = λ q _. ap (λ (b : Blocks). b q) same;
      }

  pub dropped_right : l ≡ Leaf → (n : Blocks) → n ≡ m → (s : Sub) → IsSub s r → Dropped m kind l e r n s
  dropped_right none n same s sub =
      let near = c.whole.balanced.0 in
      let nr = near.right in
      let z = ap height none in
      record {
        tree = r;
        is_sub = sub;
        entries_are = sym (ap (λ (t : Shape). entries t ++ entries r) none);
        stands = rw same c.whole.stands.2;
        balanced = c.whole.balanced.2;
        lower = omega (arith, z);
        upper = omega arith;
        keeps = λ q _. ap (λ (b : Blocks). b q) same;
      }

  pub drop_right : CanTake m kind (root_of r) (depth - 1) r
  drop_right = record { root_is = refl; whole = whole_right m kind depth l e r c.whole }

  module _ (m2 : Blocks) (f : First) (g : Taken m kind r m2 f) where
    x : Entry
    x = entry_of f.at f.pair

    first_in : (q : ℕ) → count q (entries r) ≡ count q (entry_of f.at f.pair ∷ []) + count q (entries g.tree)
    first_in q = ap (count q) g.entries_are ∙ count_one q (entry_of f.at f.pair) (entries g.tree)

    first_taken : IsTaken m2 f.at
    first_taken =
        let own = count_own (entry_of f.at f.pair) in
        let once = c.whole.apart f.at in
        let t = taken_in m kind r f.at c.whole.stands.2 (omega (arith, first_in f.at, own)) in
        record { bytes = t.bytes; holds = g.keeps f.at (omega (arith, first_in f.at, own, once, split m kind depth l e r c.whole f.at)) ∙ t.holds }

    pub drop_parts : Parts m2 kind l (entry_of f.at f.pair) g.tree
    drop_parts = parts_right m kind depth l e r c.whole m2 (entry_of f.at f.pair) g.tree g.stands g.balanced g.lower g.upper g.entry first_taken (λ q. omega (arith, first_in q)) (λ q in_l. g.keeps q (omega (arith, in_l, c.whole.apart q, split m kind depth l e r c.whole q, first_in q)))

    pub dropped_joined : (n : Blocks) (s : Sub) → Joined m2 kind l (entry_of f.at f.pair) g.tree n s → Dropped m kind l e r n s
    dropped_joined n s j =
        let h = heights_right m kind depth l e r c.whole m2 (entry_of f.at f.pair) g.tree g.stands g.balanced g.lower g.upper n j.tree j.joins in
        record {
          tree = j.tree;
          is_sub = j.is_sub;
          entries_are = j.joins.same ∙ ap (λ z. entries l ++ z) (sym g.entries_are);
          stands = j.joins.stands;
          balanced = j.joins.balanced;
          lower = h.0;
          upper = h.1;
          keeps = λ q none. let k = ap (count q) j.joins.same in j.joins.keeps q (omega (arith, none, k)) ∙ g.keeps q (omega (arith, none, k, count_parts q (entries l) (entry_of f.at f.pair) (entries g.tree)));
        }

-- a key is taken out of one of the trees below a node
module _ (m : Blocks) (kind at depth : ℕ) (key : TreeKey) (gone : Entry) (l : Shape) (e : Entry) (r : Shape) (c : CanShrink m kind at depth key gone (Fork l e r)) where
  module _ (less : key_cmp key e.key ≡ Less) where
    pub shrinks_left : CanShrink m kind (root_of l) (depth - 1) key gone l
    shrinks_left = record {
      root_is = refl;
      whole = whole_left m kind depth l e r c.whole;
      rises = Rises-front (entries l) (e ∷ entries r) c.rises;
      gone_is = sym (entry_at_left key (entries l) e (entries r) less) ∙ c.gone_is;
    }

    module _ (m2 : Blocks) (k : Cut) (g : Shrunk m kind l key gone m2 k) where
      gone_left : (q : ℕ) → count q (entries l) ≡ count q (gone ∷ []) + count q (entries g.tree)
      gone_left q = count_removed q key gone (entries l) shrinks_left.gone_is ∙ ap (λ z. count q (gone ∷ []) + count q z) (sym g.entries_are)

      kept_left : Keeps m m2 (entries l)
      kept_left q none = g.keeps q (omega (arith, none, gone_left q))

      -- the node's own block is as it was
      pub own_left : m2 e.block ≡ m e.block
      own_left = kept_left e.block (omega (arith, c.whole.apart e.block, split m kind depth l e r c.whole e.block, count_own e))

      pub shrink_parts_left : Parts m2 kind g.tree e r
      shrink_parts_left = parts_left m kind depth l e r c.whole m2 g.tree g.stands g.balanced g.lower g.upper (λ q. omega (arith, gone_left q)) kept_left

      pub shrunk_left : (n : Blocks) (s : Sub) → Joined m2 kind g.tree e r n s → Shrunk m kind (Fork l e r) key gone n (record { rest = s; block = k.block })
      shrunk_left n s j =
          let h = heights_left m kind depth l e r c.whole m2 g.tree g.stands g.balanced g.lower g.upper (λ q. omega (arith, gone_left q)) kept_left n j.tree j.joins in
          record {
            tree = j.tree;
            is_sub = j.is_sub;
            block_is = g.block_is;
            entries_are = j.joins.same ∙ (ap (λ z. z ++ e ∷ entries r) g.entries_are ∙ sym (removed_left key (entries l) e (entries r) less));
            stands = j.joins.stands;
            balanced = j.joins.balanced;
            lower = h.0;
            upper = h.1;
            keeps = λ q none. let v = ap (count q) j.joins.same in j.joins.keeps q (omega (arith, none, v)) ∙ g.keeps q (omega (arith, none, v, count_parts q (entries g.tree) e (entries r)));
          }

  module _ (more : key_cmp key e.key ≡ Greater) where
    pub shrinks_right : CanShrink m kind (root_of r) (depth - 1) key gone r
    shrinks_right = record {
      root_is = refl;
      whole = whole_right m kind depth l e r c.whole;
      rises = (Rises-back (entries l) (e ∷ entries r) c.rises).1;
      gone_is = sym (entry_at_right key (entries l) e (entries r) c.rises more) ∙ c.gone_is;
    }

    module _ (m2 : Blocks) (k : Cut) (g : Shrunk m kind r key gone m2 k) where
      gone_right : (q : ℕ) → count q (entries r) ≡ count q (gone ∷ []) + count q (entries g.tree)
      gone_right q = count_removed q key gone (entries r) shrinks_right.gone_is ∙ ap (λ z. count q (gone ∷ []) + count q z) (sym g.entries_are)

      -- the node's own block is as it was
      pub own_right : m2 e.block ≡ m e.block
      own_right = g.keeps e.block (omega (arith, gone_right e.block, c.whole.apart e.block, split m kind depth l e r c.whole e.block, count_own e))

      pub shrink_parts_right : Parts m2 kind l e g.tree
      shrink_parts_right = parts_right m kind depth l e r c.whole m2 e g.tree g.stands g.balanced g.lower g.upper c.whole.stands.0.entry
          (own_taken m kind depth l e r c.whole m2 own_right)
          (λ q. omega (arith, gone_right q)) (λ q in_l. g.keeps q (omega (arith, in_l, c.whole.apart q, split m kind depth l e r c.whole q, gone_right q)))

      pub shrunk_right : (n : Blocks) (s : Sub) → Joined m2 kind l e g.tree n s → Shrunk m kind (Fork l e r) key gone n (record { rest = s; block = k.block })
      shrunk_right n s j =
          let h = heights_right m kind depth l e r c.whole m2 e g.tree g.stands g.balanced g.lower g.upper n j.tree j.joins in
          record {
            tree = j.tree;
            is_sub = j.is_sub;
            block_is = g.block_is;
            entries_are = j.joins.same ∙ (ap (λ z. entries l ++ e ∷ z) g.entries_are ∙ sym (removed_past key (entries l) (e ∷ entries r) (past_left key (entries l) e (entries r) c.rises more) ∙ ap (λ z. entries l ++ z) (rw more refl)));
            stands = j.joins.stands;
            balanced = j.joins.balanced;
            lower = h.0;
            upper = h.1;
            keeps = λ q none. let v = ap (count q) j.joins.same in j.joins.keeps q (omega (arith, none, v)) ∙ g.keeps q (omega (arith, none, v, count_parts q (entries l) e (entries g.tree)));
          }

  -- .. or the node itself
  module _ (equal : key_cmp key e.key ≡ Equal) where
    pub drops : (node : Node) → node ≡ node_at l e r → CanDrop m kind at depth node l e r
    drops node is = record { at_is = c.root_is; node_is = is; whole = c.whole }

    pub shrunk_here : (n : Blocks) (s : Sub) → Dropped m kind l e r n s → Shrunk m kind (Fork l e r) key gone n (record { rest = s; block = at })
    shrunk_here n s d =
        let here = entry_at_here key (entries l) e (entries r) c.rises equal in
        let same : e ≡ gone = let k = c.gone_is in cc in
        record {
          tree = d.tree;
          is_sub = d.is_sub;
          block_is = c.root_is ∙ ap (λ (z : Entry). z.block) same;
          entries_are = d.entries_are ∙ sym (removed_past key (entries l) (e ∷ entries r) (at_left key (entries l) e (entries r) c.rises equal) ∙ ap (λ z. entries l ++ z) (rw equal refl));
          stands = d.stands;
          balanced = d.balanced;
          lower = d.lower;
          upper = d.upper;
          keeps = d.keeps;
        }
