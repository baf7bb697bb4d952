-- The same, as the clauses of the code say it.
use Rattle.std.proofs.Common.{◌≡◌, ◌≢◌, ℕ, ◌-◌, Some, refl, sym, ap, ◌∙◌, subst, arith, ◌⊎◌}
use Rattle.std.specs.declared.cmp.Ordering.TheVariants.{Less, Equal, Greater}
use Rattle.pmem_pages.specs.Blocks.{Blocks}
use Rattle.pmem_pages.specs.declared.node.Node.{Node}
use Rattle.pmem_pages.specs.declared.node.Pair.{Pair}
use Rattle.pmem_pages.specs.declared.node.TreeKey.{TreeKey}
use Rattle.pmem_pages.specs.Node.{node_bytes, key_cmp}
use Rattle.pmem_pages.specs.Shape.{Entry, Shape, Leaf, Fork, root_of, node_at, Stands}
use Rattle.pmem_tree_base.specs.declared.read.Sub.{Sub}
use Rattle.pmem_tree_base.specs.Nodes.{SomeNode, IsNodeAt, entry_of, IsSub, StandsAt, SomeStandsAt}
use Rattle.pmem_tree_base.proofs.Held.{some_node, entry_held}
use Rattle.pmem_tree_base.specs.Join.{Held, SomeHeld, Joined, JoinsHeld}
use Rattle.pmem_tree.specs.declared.shrink.Cut.{Cut}
use Rattle.pmem_tree.specs.declared.shrink.First.{First}
use Rattle.pmem_tree.specs.Shrink.{Whole, CanTake, SomeTake, Taken, OfTaking, CanDrop, SomeDrop, Dropped, OfDropping, CanShrink, SomeShrinks, Shrunk, OfShrinking}
use Rattle.pmem_tree.proofs.Rejoining.{still_there}
use Rattle.pmem_tree.proofs.Shrinking.{take_left, taken_here, own_take, take_parts, taken_left, dropped_left, dropped_right, drop_right, drop_parts, dropped_joined, shrinks_left, own_left, shrink_parts_left, shrunk_left, shrinks_right, own_right, shrink_parts_right, shrunk_right, drops, shrunk_here}

-- a tree whose root is 0 is empty
pub no_root : (m : Blocks) (kind : ℕ) (t : Shape) → Stands m kind t → root_of t ≡ 0 → t ≡ Leaf
no_root m kind Leaf s z = refl
no_root m kind (Fork l e r) s z = absurd (let h = s.0.entry.low in omega arith)

pub take_node : (m : Blocks) (kind at depth : ℕ) → SomeTake m kind at depth → at ≢ 0 → SomeNode m kind at
take_node m kind at depth w ne = some_node m kind at w.0 w.1.whole.stands w.1.root_is ne

pub take_deep : (m : Blocks) (kind at depth : ℕ) → SomeTake m kind at depth → at ≢ 0 → depth ≢ 0
take_deep m kind at depth (Leaf, c) ne = λ z. ne c.root_is
take_deep m kind at depth (Fork l e r, c) ne = λ z. let h = c.whole.high in absurd (omega arith)

-- the first entry
module _ (m : Blocks) (kind at depth : ℕ) (node : Node) (p : Pair) (ne : at ≢ 0) (read : IsNodeAt m kind at node) (pair_is : p ≡ record { key = node.key; value = node.value }) where
  take_is : (l : Shape) (e : Entry) (r : Shape) → CanTake m kind at depth (Fork l e r) → node ≡ node_at l e r
  take_is l e r c = read l e r (record { at_is = c.root_is; stands = c.whole.stands })

  take_entry : (l : Shape) (e : Entry) (r : Shape) → CanTake m kind at depth (Fork l e r) → e ≡ entry_of at p
  take_entry l e r c = entry_held at p node l e r c.root_is (take_is l e r c) pair_is

  take_child : (l : Shape) (e : Entry) (r : Shape) → CanTake m kind at depth (Fork l e r) → CanTake m kind node.left (depth - 1) l
  take_child l e r c = rw (ap (λ (n : Node). n.left) (take_is l e r c)) (take_left m kind at depth l e r c)

  pub take_sub : (m1 : Blocks) → m1 ≡ m → SomeTake m kind at depth → SomeStandsAt m1 kind node.right
  take_sub m1 same (Leaf, c) = absurd (ne c.root_is)
  take_sub m1 same (Fork l e r, c) = (r, record { root_is = ap (λ (n : Node). n.right) (take_is l e r c); stands = rw same c.whole.stands.2 })

  pub take_goes : (m1 : Blocks) → m1 ≡ m → SomeTake m kind at depth → SomeTake m1 kind node.left (depth - 1)
  take_goes m1 same (Leaf, c) = absurd (ne c.root_is)
  take_goes m1 same (Fork l e r, c) = (l, rw same (take_child l e r c))

  module _ (b : Sub) (right_is : (t : Shape) → StandsAt m kind node.right t → IsSub b t) where
    b_is : (l : Shape) (e : Entry) (r : Shape) → CanTake m kind at depth (Fork l e r) → IsSub b r
    b_is l e r c = right_is r (record { root_is = ap (λ (n : Node). n.right) (take_is l e r c); stands = c.whole.stands.2 })

    pub takes_here : node.left ≡ 0 → (n : Blocks) → n ≡ m → OfTaking m kind at depth (λ t. Taken m kind t n (record { at = at; pair = p; rest = b }))
    takes_here z n same Leaf c = absurd (ne c.root_is)
    takes_here z n same (Fork l e r) c =
        taken_here m kind at depth l e r c (no_root m kind l c.whole.stands.1 (sym (ap (λ (n : Node). n.left) (take_is l e r c)) ∙ z)) n same (record { at = at; pair = p; rest = b }) (take_entry l e r c) (b_is l e r c)

    module _ (m1 m2 : Blocks) (f : First) (same : m1 ≡ m) (taken : OfTaking m1 kind node.left (depth - 1) (λ t. Taken m1 kind t m2 f)) where
      g_is : (l : Shape) (e : Entry) (r : Shape) → CanTake m kind at depth (Fork l e r) → Taken m kind l m2 f
      g_is l e r c = subst (λ (z : Blocks). Taken z kind l m2 f) same (taken l (rw same (take_child l e r c)))

      take_held : (l : Shape) (e : Entry) (r : Shape) (c : CanTake m kind at depth (Fork l e r)) → Held m2 kind (entry_of at p) f.rest b (g_is l e r c).tree r
      take_held l e r c =
          let g = g_is l e r c in
          subst (λ (z : Entry). Held m2 kind z f.rest b g.tree r) (take_entry l e r c) (record { left_is = g.is_sub; right_is = b_is l e r c; parts = take_parts m kind at depth l e r c m2 f g })

      pub take_holds : SomeTake m kind at depth → SomeHeld m2 kind (entry_of at p) f.rest b
      take_holds (Leaf, c) = absurd (ne c.root_is)
      take_holds (Fork l e r, c) = ((g_is l e r c).tree, r, take_held l e r c)

      pub take_stays : SomeTake m kind at depth → m2 at ≡ Some (node_bytes kind node)
      take_stays (Leaf, c) = absurd (ne c.root_is)
      take_stays (Fork l e r, c) = still_there m m2 kind at node l e r c.root_is (take_is l e r c) c.whole.stands.0 (own_take m kind at depth l e r c m2 f (g_is l e r c))

      pub takes_left : (n : Blocks) (s : Sub) → JoinsHeld m2 n kind (entry_of at p) f.rest b s → OfTaking m kind at depth (λ t. Taken m kind t n (record { at = f.at; pair = f.pair; rest = s }))
      takes_left n s joins Leaf c = absurd (ne c.root_is)
      takes_left n s joins (Fork l e r) c =
          let g = g_is l e r c in
          taken_left m kind at depth l e r c m2 f g n s (subst (λ (z : Entry). Joined m2 kind g.tree z r n s) (sym (take_entry l e r c)) (joins g.tree r (take_held l e r c)))

-- what is below a node
module _ (m : Blocks) (kind at depth : ℕ) (node : Node) where
  pub drop_sub_left : SomeDrop m kind at depth node → SomeStandsAt m kind node.left
  drop_sub_left (l, e, r, c) = (l, record { root_is = ap (λ (n : Node). n.left) c.node_is; stands = c.whole.stands.1 })

  pub drop_sub_right : (m1 : Blocks) → m1 ≡ m → SomeDrop m kind at depth node → SomeStandsAt m1 kind node.right
  drop_sub_right m1 same (l, e, r, c) = (r, record { root_is = ap (λ (n : Node). n.right) c.node_is; stands = rw same c.whole.stands.2 })

  pub drop_take : (m1 : Blocks) → m1 ≡ m → SomeDrop m kind at depth node → SomeTake m1 kind node.right (depth - 1)
  drop_take m1 same (l, e, r, c) = (r, rw (same, ap (λ (n : Node). n.right) c.node_is) (drop_right m kind at depth node l e r c))

  pub drops_left : node.right ≡ 0 → (n : Blocks) (s : Sub) → n ≡ m → ((t : Shape) → StandsAt m kind node.left t → IsSub s t) → OfDropping m kind at depth node (λ l e r. Dropped m kind l e r n s)
  drops_left z n s same is l e r c =
      dropped_left m kind at depth node l e r c (no_root m kind r c.whole.stands.2 (sym (ap (λ (n : Node). n.right) c.node_is) ∙ z)) n same s (is l (record { root_is = ap (λ (n : Node). n.left) c.node_is; stands = c.whole.stands.1 }))

  pub drops_right : node.left ≡ 0 → (m1 n : Blocks) (s : Sub) → m1 ≡ m → n ≡ m → ((t : Shape) → StandsAt m1 kind node.right t → IsSub s t) → OfDropping m kind at depth node (λ l e r. Dropped m kind l e r n s)
  drops_right z m1 n s before same is l e r c =
      dropped_right m kind at depth node l e r c (no_root m kind l c.whole.stands.1 (sym (ap (λ (n : Node). n.left) c.node_is) ∙ z)) n same s (is r (record { root_is = ap (λ (n : Node). n.right) c.node_is; stands = rw before c.whole.stands.2 }))

  module _ (m1 m2 : Blocks) (a : Sub) (f : First) (same : m1 ≡ m) (left_is : (t : Shape) → StandsAt m kind node.left t → IsSub a t) (taken : OfTaking m1 kind node.right (depth - 1) (λ t. Taken m1 kind t m2 f)) where
    d_is : (l : Shape) (e : Entry) (r : Shape) → CanDrop m kind at depth node l e r → Taken m kind r m2 f
    d_is l e r c = subst (λ (z : Blocks). Taken z kind r m2 f) same (taken r (rw (same, ap (λ (n : Node). n.right) c.node_is) (drop_right m kind at depth node l e r c)))

    drop_held : (l : Shape) (e : Entry) (r : Shape) (c : CanDrop m kind at depth node l e r) → Held m2 kind (entry_of f.at f.pair) a f.rest l (d_is l e r c).tree
    drop_held l e r c =
        let g = d_is l e r c in
        record { left_is = left_is l (record { root_is = ap (λ (n : Node). n.left) c.node_is; stands = c.whole.stands.1 }); right_is = g.is_sub; parts = drop_parts m kind at depth node l e r c m2 f g }

    pub drop_holds : SomeDrop m kind at depth node → SomeHeld m2 kind (entry_of f.at f.pair) a f.rest
    drop_holds (l, e, r, c) = (l, (d_is l e r c).tree, drop_held l e r c)

    pub drops_joined : (n : Blocks) (s : Sub) → JoinsHeld m2 n kind (entry_of f.at f.pair) a f.rest s → OfDropping m kind at depth node (λ l e r. Dropped m kind l e r n s)
    drops_joined n s joins l e r c =
        let g = d_is l e r c in
        dropped_joined m kind at depth node l e r c m2 f g n s (joins l g.tree (drop_held l e r c))

pub shrink_node : (m : Blocks) (kind at depth : ℕ) (key : TreeKey) → SomeShrinks m kind at depth key → at ≢ 0 → SomeNode m kind at
shrink_node m kind at depth key w ne = some_node m kind at w.1 w.2.whole.stands w.2.root_is ne

-- where a key is, the tree isn't empty
pub shrink_deep : (m : Blocks) (kind at depth : ℕ) (key : TreeKey) → SomeShrinks m kind at depth key → (at ≡ 0) ⊎ (depth ≡ 0) → ⊥
shrink_deep m kind at depth key (gone, Leaf, c) z = let h = c.gone_is in cc
shrink_deep m kind at depth key (gone, Fork l e r, c) z = let h = c.whole.high in let b = c.whole.stands.0.entry.low in let q = c.root_is in absurd (omega arith)

-- a key
module _ (m : Blocks) (kind at depth : ℕ) (key : TreeKey) (node : Node) (p : Pair) (ne : at ≢ 0) (read : IsNodeAt m kind at node) (pair_is : p ≡ record { key = node.key; value = node.value }) where
  is_here : (gone : Entry) (l : Shape) (e : Entry) (r : Shape) → CanShrink m kind at depth key gone (Fork l e r) → node ≡ node_at l e r
  is_here gone l e r c = read l e r (record { at_is = c.root_is; stands = c.whole.stands })

  entry_here : (gone : Entry) (l : Shape) (e : Entry) (r : Shape) → CanShrink m kind at depth key gone (Fork l e r) → e ≡ entry_of at p
  entry_here gone l e r c = entry_held at p node l e r c.root_is (is_here gone l e r c) pair_is

  cmp_here : (gone : Entry) (l : Shape) (e : Entry) (r : Shape) → CanShrink m kind at depth key gone (Fork l e r) → key_cmp key node.key ≡ key_cmp key e.key
  cmp_here gone l e r c = ap (λ (n : Node). key_cmp key n.key) (is_here gone l e r c)

  pub shrink_sub_right : (m1 : Blocks) → m1 ≡ m → SomeShrinks m kind at depth key → SomeStandsAt m1 kind node.right
  shrink_sub_right m1 same (gone, Leaf, c) = absurd (ne c.root_is)
  shrink_sub_right m1 same (gone, Fork l e r, c) = (r, record { root_is = ap (λ (n : Node). n.right) (is_here gone l e r c); stands = rw same c.whole.stands.2 })

  pub shrink_sub_left : (m1 : Blocks) → m1 ≡ m → SomeShrinks m kind at depth key → SomeStandsAt m1 kind node.left
  shrink_sub_left m1 same (gone, Leaf, c) = absurd (ne c.root_is)
  shrink_sub_left m1 same (gone, Fork l e r, c) = (l, record { root_is = ap (λ (n : Node). n.left) (is_here gone l e r c); stands = rw same c.whole.stands.1 })

  -- the node itself
  module _ (equal : key_cmp key node.key ≡ Equal) where
    pub shrink_drop : (m1 : Blocks) → m1 ≡ m → SomeShrinks m kind at depth key → SomeDrop m1 kind at depth node
    shrink_drop m1 same (gone, Leaf, c) = absurd (ne c.root_is)
    shrink_drop m1 same (gone, Fork l e r, c) = (l, e, r, rw same (drops m kind at depth key gone l e r c (sym (cmp_here gone l e r c) ∙ equal) node (is_here gone l e r c)))

    pub shrinks_here : (m1 n : Blocks) (s : Sub) → m1 ≡ m → OfDropping m1 kind at depth node (λ l e r. Dropped m1 kind l e r n s) → OfShrinking m n kind at depth key (record { rest = s; block = at })
    shrinks_here m1 n s same d gone Leaf c = absurd (ne c.root_is)
    shrinks_here m1 n s same d gone (Fork l e r) c =
        let k = sym (cmp_here gone l e r c) ∙ equal in
        shrunk_here m kind at depth key gone l e r c k n s (subst (λ (z : Blocks). Dropped z kind l e r n s) same (d l e r (rw same (drops m kind at depth key gone l e r c k node (is_here gone l e r c)))))

  module _ (less : key_cmp key node.key ≡ Less) where
    left_child : (gone : Entry) (l : Shape) (e : Entry) (r : Shape) (c : CanShrink m kind at depth key gone (Fork l e r)) → CanShrink m kind (root_of l) (depth - 1) key gone l
    left_child gone l e r c = shrinks_left m kind at depth key gone l e r c (sym (cmp_here gone l e r c) ∙ less)

    left_root : (gone : Entry) (l : Shape) (e : Entry) (r : Shape) (c : CanShrink m kind at depth key gone (Fork l e r)) → node.left ≡ root_of l
    left_root gone l e r c = ap (λ (n : Node). n.left) (is_here gone l e r c)

    moved_left : (m1 : Blocks) → m1 ≡ m → (gone : Entry) (l : Shape) (e : Entry) (r : Shape) → CanShrink m kind at depth key gone (Fork l e r) → CanShrink m1 kind node.left (depth - 1) key gone l
    moved_left m1 same gone l e r c =
        let s = left_child gone l e r c in
        record { root_is = left_root gone l e r c; whole = subst (λ (z : Blocks). Whole z kind (depth - 1) l) (sym same) s.whole; rises = s.rises; gone_is = s.gone_is }

    pub shrink_goes_left : (m1 : Blocks) → m1 ≡ m → SomeShrinks m kind at depth key → SomeShrinks m1 kind node.left (depth - 1) key
    shrink_goes_left m1 same (gone, Leaf, c) = absurd (ne c.root_is)
    shrink_goes_left m1 same (gone, Fork l e r, c) = (gone, l, moved_left m1 same gone l e r c)

    module _ (m1 m2 : Blocks) (k : Cut) (b : Sub) (same : m1 ≡ m) (right_is : (t : Shape) → StandsAt m kind node.right t → IsSub b t) (cut : OfShrinking m1 m2 kind node.left (depth - 1) key k) where
      g_left : (gone : Entry) (l : Shape) (e : Entry) (r : Shape) (c : CanShrink m kind at depth key gone (Fork l e r)) → Shrunk m kind l key gone m2 k
      g_left gone l e r c = subst (λ (z : Blocks). Shrunk z kind l key gone m2 k) same (cut gone l (moved_left m1 same gone l e r c))

      h_left : (gone : Entry) (l : Shape) (e : Entry) (r : Shape) (c : CanShrink m kind at depth key gone (Fork l e r)) → Held m2 kind (entry_of at p) k.rest b (g_left gone l e r c).tree r
      h_left gone l e r c =
          let g = g_left gone l e r c in
          subst (λ (z : Entry). Held m2 kind z k.rest b g.tree r) (entry_here gone l e r c) (record {
            left_is = g.is_sub;
            right_is = right_is r (record { root_is = ap (λ (n : Node). n.right) (is_here gone l e r c); stands = c.whole.stands.2 });
            parts = shrink_parts_left m kind at depth key gone l e r c (sym (cmp_here gone l e r c) ∙ less) m2 k g;
          })

      pub shrink_holds_left : SomeShrinks m kind at depth key → SomeHeld m2 kind (entry_of at p) k.rest b
      shrink_holds_left (gone, Leaf, c) = absurd (ne c.root_is)
      shrink_holds_left (gone, Fork l e r, c) = ((g_left gone l e r c).tree, r, h_left gone l e r c)

      pub shrink_stays_left : SomeShrinks m kind at depth key → m2 at ≡ Some (node_bytes kind node)
      shrink_stays_left (gone, Leaf, c) = absurd (ne c.root_is)
      shrink_stays_left (gone, Fork l e r, c) = still_there m m2 kind at node l e r c.root_is (is_here gone l e r c) c.whole.stands.0 (own_left m kind at depth key gone l e r c (sym (cmp_here gone l e r c) ∙ less) m2 k (g_left gone l e r c))

      pub shrinks_from_left : (n : Blocks) (s : Sub) → JoinsHeld m2 n kind (entry_of at p) k.rest b s → OfShrinking m n kind at depth key (record { rest = s; block = k.block })
      shrinks_from_left n s joins gone Leaf c = absurd (ne c.root_is)
      shrinks_from_left n s joins gone (Fork l e r) c =
          let g = g_left gone l e r c in
          shrunk_left m kind at depth key gone l e r c (sym (cmp_here gone l e r c) ∙ less) m2 k g n s (subst (λ (z : Entry). Joined m2 kind g.tree z r n s) (sym (entry_here gone l e r c)) (joins g.tree r (h_left gone l e r c)))

  module _ (more : key_cmp key node.key ≡ Greater) where
    right_child : (gone : Entry) (l : Shape) (e : Entry) (r : Shape) (c : CanShrink m kind at depth key gone (Fork l e r)) → CanShrink m kind (root_of r) (depth - 1) key gone r
    right_child gone l e r c = shrinks_right m kind at depth key gone l e r c (sym (cmp_here gone l e r c) ∙ more)

    moved_right : (m1 : Blocks) → m1 ≡ m → (gone : Entry) (l : Shape) (e : Entry) (r : Shape) → CanShrink m kind at depth key gone (Fork l e r) → CanShrink m1 kind node.right (depth - 1) key gone r
    moved_right m1 same gone l e r c =
        let s = right_child gone l e r c in
        record { root_is = ap (λ (n : Node). n.right) (is_here gone l e r c); whole = subst (λ (z : Blocks). Whole z kind (depth - 1) r) (sym same) s.whole; rises = s.rises; gone_is = s.gone_is }

    pub shrink_goes_right : (m1 : Blocks) → m1 ≡ m → SomeShrinks m kind at depth key → SomeShrinks m1 kind node.right (depth - 1) key
    shrink_goes_right m1 same (gone, Leaf, c) = absurd (ne c.root_is)
    shrink_goes_right m1 same (gone, Fork l e r, c) = (gone, r, moved_right m1 same gone l e r c)

    module _ (m1 m2 : Blocks) (k : Cut) (a : Sub) (same : m1 ≡ m) (left_is : (t : Shape) → StandsAt m kind node.left t → IsSub a t) (cut : OfShrinking m1 m2 kind node.right (depth - 1) key k) where
      g_right : (gone : Entry) (l : Shape) (e : Entry) (r : Shape) (c : CanShrink m kind at depth key gone (Fork l e r)) → Shrunk m kind r key gone m2 k
      g_right gone l e r c = subst (λ (z : Blocks). Shrunk z kind r key gone m2 k) same (cut gone r (moved_right m1 same gone l e r c))

      h_right : (gone : Entry) (l : Shape) (e : Entry) (r : Shape) (c : CanShrink m kind at depth key gone (Fork l e r)) → Held m2 kind (entry_of at p) a k.rest l (g_right gone l e r c).tree
      h_right gone l e r c =
          let g = g_right gone l e r c in
          subst (λ (z : Entry). Held m2 kind z a k.rest l g.tree) (entry_here gone l e r c) (record {
            left_is = left_is l (record { root_is = ap (λ (n : Node). n.left) (is_here gone l e r c); stands = c.whole.stands.1 });
            right_is = g.is_sub;
            parts = shrink_parts_right m kind at depth key gone l e r c (sym (cmp_here gone l e r c) ∙ more) m2 k g;
          })

      pub shrink_holds_right : SomeShrinks m kind at depth key → SomeHeld m2 kind (entry_of at p) a k.rest
      shrink_holds_right (gone, Leaf, c) = absurd (ne c.root_is)
      shrink_holds_right (gone, Fork l e r, c) = (l, (g_right gone l e r c).tree, h_right gone l e r c)

      pub shrink_stays_right : SomeShrinks m kind at depth key → m2 at ≡ Some (node_bytes kind node)
      shrink_stays_right (gone, Leaf, c) = absurd (ne c.root_is)
      shrink_stays_right (gone, Fork l e r, c) = still_there m m2 kind at node l e r c.root_is (is_here gone l e r c) c.whole.stands.0 (own_right m kind at depth key gone l e r c (sym (cmp_here gone l e r c) ∙ more) m2 k (g_right gone l e r c))

      pub shrinks_from_right : (n : Blocks) (s : Sub) → JoinsHeld m2 n kind (entry_of at p) a k.rest s → OfShrinking m n kind at depth key (record { rest = s; block = k.block })
      shrinks_from_right n s joins gone Leaf c = absurd (ne c.root_is)
      shrinks_from_right n s joins gone (Fork l e r) c =
          let g = g_right gone l e r c in
          shrunk_right m kind at depth key gone l e r c (sym (cmp_here gone l e r c) ∙ more) m2 k g n s (subst (λ (z : Entry). Joined m2 kind l z g.tree n s) (sym (entry_here gone l e r c)) (joins l g.tree (h_right gone l e r c)))
