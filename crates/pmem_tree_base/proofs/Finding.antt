-- A look-up goes down one level.
use Rattle.std.proofs.Common.{◌≡◌, ◌≢◌, ℕ, ◌-◌, ◌∷◌, ◌++◌, Option, Some, None, refl, sym, ap, ◌∙◌, arith, ◌⊎◌, inl, inr}
use Rattle.std.specs.declared.cmp.Ordering.{Ordering}
use Rattle.std.specs.declared.cmp.Ordering.TheVariants.{Less, Equal, Greater}
use Rattle.pmem_pages.specs.Blocks.{Blocks}
use Rattle.pmem_pages.specs.declared.node.Node.{Node}
use Rattle.pmem_pages.specs.declared.node.Pair.{Pair}
use Rattle.pmem_pages.specs.declared.node.TreeKey.{TreeKey}
use Rattle.pmem_pages.specs.declared.node.Value.{Value}
use Rattle.pmem_pages.specs.Node.{key_cmp}
use Rattle.pmem_pages.specs.Shape.{Entry, Shape, Leaf, Fork, root_of, entries, Rises, entry_at, first_above, last_under, or_this, node_at}
use Rattle.pmem_pages.proofs.Lists.{Rises-front, Rises-back, entry_at_left, first_above_left, first_above_past, last_under_past, last_under_left}
use Rattle.pmem_tree_base.specs.Nodes.{Here, IsNodeAt}
use Rattle.pmem_tree_base.proofs.Sides.{past_left, at_left, entry_at_right, entry_at_here}
use Rattle.pmem_tree_base.specs.Find.{Below, SomeBelow, OfBelow, value_of, pair_of}

module _ (m : Blocks) (kind at depth : ℕ) (l : Shape) (e : Entry) (r : Shape) (b : Below m kind at depth (Fork l e r)) where
  pub below_here : Here m kind at l e r
  below_here = record { at_is = b.root; stands = b.stands }

  pub below_left : Below m kind (root_of l) (depth - 1) l
  below_left = record {
    root = refl;
    stands = b.stands.1;
    rises = Rises-front (entries l) (e ∷ entries r) b.rises;
    high = let h = b.high in omega arith;
  }

  pub below_right : Below m kind (root_of r) (depth - 1) r
  below_right = record {
    root = refl;
    stands = b.stands.2;
    rises = (Rises-back (entries l) (e ∷ entries r) b.rises).1;
    high = let h = b.high in omega arith;
  }

-- nothing stands below block 0
pub below_none : (m : Blocks) (kind at depth : ℕ) (t : Shape) → Below m kind at depth t → (at ≡ 0 ⊎ depth ≡ 0) → t ≡ Leaf
below_none m kind at depth Leaf b z = refl
below_none m kind at depth (Fork l e r) b z = absurd (let h = b.high in let p = b.stands.0.entry.low in let q = b.root in omega arith)

-- one level down, by what was read
module _ (m : Blocks) (kind at depth : ℕ) (node : Node) (ne : at ≢ 0) (read : IsNodeAt m kind at node) where
  pub goes_left : (n : Blocks) → n ≡ m → SomeBelow m kind at depth → SomeBelow n kind node.left (depth - 1)
  goes_left n same (Leaf, b) = absurd (ne b.root)
  goes_left n same (Fork l e r, b) =
      let is = read l e r (below_here m kind at depth l e r b) in
      (l, rw (same, ap (λ (k : Node). k.left) is) (below_left m kind at depth l e r b))

  pub goes_right : (n : Blocks) → n ≡ m → SomeBelow m kind at depth → SomeBelow n kind node.right (depth - 1)
  goes_right n same (Leaf, b) = absurd (ne b.root)
  goes_right n same (Fork l e r, b) =
      let is = read l e r (below_here m kind at depth l e r b) in
      (r, rw (same, ap (λ (k : Node). k.right) is) (below_right m kind at depth l e r b))

  -- what holds of the left tree gives what holds of the whole
  pub from_left : (n : Blocks) (P Q : Shape → Type 0) → n ≡ m → OfBelow n kind node.left (depth - 1) P → ((l : Shape) (e : Entry) (r : Shape) → Rises (entries l ++ e ∷ entries r) → node ≡ node_at l e r → P l → Q (Fork l e r)) → OfBelow m kind at depth Q
  from_left n P Q same h step Leaf b = absurd (ne b.root)
  from_left n P Q same h step (Fork l e r) b =
      let is = read l e r (below_here m kind at depth l e r b) in
      step l e r b.rises is (h l (rw (same, ap (λ (k : Node). k.left) is) (below_left m kind at depth l e r b)))

  pub from_right : (n : Blocks) (P Q : Shape → Type 0) → n ≡ m → OfBelow n kind node.right (depth - 1) P → ((l : Shape) (e : Entry) (r : Shape) → Rises (entries l ++ e ∷ entries r) → node ≡ node_at l e r → P r → Q (Fork l e r)) → OfBelow m kind at depth Q
  from_right n P Q same h step Leaf b = absurd (ne b.root)
  from_right n P Q same h step (Fork l e r) b =
      let is = read l e r (below_here m kind at depth l e r b) in
      step l e r b.rises is (h r (rw (same, ap (λ (k : Node). k.right) is) (below_right m kind at depth l e r b)))

  pub from_here : (Q : Shape → Type 0) → ((l : Shape) (e : Entry) (r : Shape) → Rises (entries l ++ e ∷ entries r) → node ≡ node_at l e r → Q (Fork l e r)) → OfBelow m kind at depth Q
  from_here Q step Leaf b = absurd (ne b.root)
  from_here Q step (Fork l e r) b = step l e r b.rises (read l e r (below_here m kind at depth l e r b))

-- the value at a key, one level down
module _ (key : TreeKey) (node : Node) (v : Option Value) where
  pub value_left : key_cmp key node.key ≡ Less → (l : Shape) (e : Entry) (r : Shape) → Rises (entries l ++ e ∷ entries r) → node ≡ node_at l e r → v ≡ value_of (entry_at key (entries l)) → v ≡ value_of (entry_at key (entries (Fork l e r)))
  value_left k l e r rises is h =
      let here : key_cmp key e.key ≡ Less = sym (ap (λ (n : Node). key_cmp key n.key) is) ∙ k in
      h ∙ ap value_of (sym (entry_at_left key (entries l) e (entries r) here))

  pub value_right : key_cmp key node.key ≡ Greater → (l : Shape) (e : Entry) (r : Shape) → Rises (entries l ++ e ∷ entries r) → node ≡ node_at l e r → v ≡ value_of (entry_at key (entries r)) → v ≡ value_of (entry_at key (entries (Fork l e r)))
  value_right k l e r rises is h =
      let here : key_cmp key e.key ≡ Greater = sym (ap (λ (n : Node). key_cmp key n.key) is) ∙ k in
      h ∙ ap value_of (sym (entry_at_right key (entries l) e (entries r) rises here))

pub value_here : (key : TreeKey) (node : Node) → key_cmp key node.key ≡ Equal → (l : Shape) (e : Entry) (r : Shape) → Rises (entries l ++ e ∷ entries r) → node ≡ node_at l e r → Some node.value ≡ value_of (entry_at key (entries (Fork l e r)))
value_here key node k l e r rises is =
    let here : key_cmp key e.key ≡ Equal = sym (ap (λ (n : Node). key_cmp key n.key) is) ∙ k in
    ap (λ (n : Node). Some n.value) is ∙ ap value_of (sym (entry_at_here key (entries l) e (entries r) rises here))

cases : (o : Ordering) → (o ≡ Less) ⊎ ((o ≡ Equal) ⊎ (o ≡ Greater))
cases Less = inl refl
cases Equal = inr (inl refl)
cases Greater = inr (inr refl)

abbrev pub the_pair : Node → Pair
the_pair n = record { key = n.key; value = n.value }

or_pair : (o : Option Entry) (e : Entry) → or_this (pair_of o) (record { key = e.key; value = e.value }) ≡ (record { key = (or_this o e).key; value = (or_this o e).value })
or_pair None e = refl
or_pair (Some f) e = refl

-- the first pair above a key, one level down
module _ (key : TreeKey) (node : Node) (p : Option Pair) where
  pub first_left : key_cmp key node.key ≡ Less → (l : Shape) (e : Entry) (r : Shape) → Rises (entries l ++ e ∷ entries r) → node ≡ node_at l e r → p ≡ pair_of (first_above key (entries l)) → Some (or_this p (the_pair node)) ≡ pair_of (first_above key (entries (Fork l e r)))
  first_left k l e r rises is h =
      let here : key_cmp key e.key ≡ Less = sym (ap (λ (n : Node). key_cmp key n.key) is) ∙ k in
      ap (λ (n : Node). Some (or_this p (the_pair n))) is ∙ (ap (λ (o : Option Pair). Some (or_this o (the_pair (node_at l e r)))) h ∙ (ap (λ (x : Pair). Some x) (or_pair (first_above key (entries l)) e) ∙ ap pair_of (sym (first_above_left key (entries l) e (entries r) here))))

  pub first_right : (key_cmp key node.key ≡ Less → ⊥) → (l : Shape) (e : Entry) (r : Shape) → Rises (entries l ++ e ∷ entries r) → node ≡ node_at l e r → p ≡ pair_of (first_above key (entries r)) → p ≡ pair_of (first_above key (entries (Fork l e r)))
  first_right k l e r rises is h =
      let key_is : key_cmp key node.key ≡ key_cmp key e.key = ap (λ (n : Node). key_cmp key n.key) is in
      h ∙ ap pair_of (sym (elim (cases (key_cmp key e.key)) [
        | inl less ↦ absurd (k (key_is ∙ less))
        | inr rest ↦ elim rest [
          | inl equal ↦ first_above_past key (entries l) (e ∷ entries r) (at_left key (entries l) e (entries r) rises equal) ∙ rw equal refl
          | inr more ↦ first_above_past key (entries l) (e ∷ entries r) (past_left key (entries l) e (entries r) rises more) ∙ rw more refl
        ]
      ]))

  pub last_right : key_cmp key node.key ≡ Greater → (l : Shape) (e : Entry) (r : Shape) → Rises (entries l ++ e ∷ entries r) → node ≡ node_at l e r → p ≡ pair_of (last_under key (entries r)) → Some (or_this p (the_pair node)) ≡ pair_of (last_under key (entries (Fork l e r)))
  last_right k l e r rises is h =
      let here : key_cmp key e.key ≡ Greater = sym (ap (λ (n : Node). key_cmp key n.key) is) ∙ k in
      ap (λ (n : Node). Some (or_this p (the_pair n))) is ∙ (ap (λ (o : Option Pair). Some (or_this o (the_pair (node_at l e r)))) h ∙ (ap (λ (x : Pair). Some x) (or_pair (last_under key (entries r)) e) ∙ ap pair_of (sym (last_under_past key (entries l) e (entries r) (past_left key (entries l) e (entries r) rises here) here))))

  pub last_left : (key_cmp key node.key ≡ Greater → ⊥) → (l : Shape) (e : Entry) (r : Shape) → Rises (entries l ++ e ∷ entries r) → node ≡ node_at l e r → p ≡ pair_of (last_under key (entries l)) → p ≡ pair_of (last_under key (entries (Fork l e r)))
  last_left k l e r rises is h =
      let key_is : key_cmp key node.key ≡ key_cmp key e.key = ap (λ (n : Node). key_cmp key n.key) is in
      h ∙ ap pair_of (sym (last_under_left key (entries l) e (entries r) (elim (cases (key_cmp key e.key)) [
        | inl less ↦ inl less
        | inr rest ↦ elim rest [
          | inl equal ↦ inr equal
          | inr more ↦ absurd (k (key_is ∙ more))
        ]
      ])))
