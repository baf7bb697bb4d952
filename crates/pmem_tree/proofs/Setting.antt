-- A pair comes into the tree below a node, by whether its key is there.
use Rattle.std.proofs.Common.{◌≡◌, ◌≢◌, ℕ, ◌+◌, ◌-◌, ◌≤◌, ◌<◌, max, List, ◌∷◌, Option, Some, None, refl, sym, ap, ◌∙◌, subst, arith, inl, inr}
use Rattle.std.proofs.lemmas.Bool.{cases_lt}
use Rattle.std.specs.declared.cmp.Ordering.TheVariants.{Less, Equal, Greater}
use Rattle.pmem_pages.specs.Blocks.{Blocks, Budget, IsTaken, IsSpent, put}
use Rattle.pmem_pages.proofs.BlockLaws.{put_here, put_other}
use Rattle.pmem_pages.proofs.Owning.{not_free}
use Rattle.pmem_pages.specs.declared.node.Node.{Node}
use Rattle.pmem_pages.specs.declared.node.Pair.{Pair}
use Rattle.pmem_pages.specs.Node.{node_bytes, key_cmp, links_of}
use Rattle.pmem_pages.specs.Shape.{Entry, Shape, Leaf, Fork, height, entries, count, node_at, Stands, entry_at}
use Rattle.pmem_pages.proofs.Lists.{count_parts, Rises-front, Rises-back, entry_at_left}
use Rattle.pmem_pages.proofs.Shapes.{stands_on, taken_in}
use Rattle.pmem_tree_base.specs.declared.read.Sub.{Sub}
use Rattle.pmem_tree_base.specs.Nodes.{SomeNode, IsNodeAt, entry_of, node_between, StandsAt, SomeStandsAt, IsSub, valued_node}
use Rattle.pmem_tree_base.specs.Join.{SomeHeld, JoinsHeld}
use Rattle.pmem_tree_base.specs.Put.{CanPut}
use Rattle.pmem_tree_base.proofs.Held.{some_node}
use Rattle.pmem_tree_base.proofs.Putting.{puts_left, puts_right, puts_from_here}
use Rattle.pmem_tree_base.proofs.Sides.{entry_at_right, entry_at_here}
use Rattle.pmem_tree.specs.Rejoin.{Fits}
use Rattle.pmem_tree.specs.Grow.{CanGrow}
use Rattle.pmem_tree.specs.Set.{CanSet, SomeSets, OfSetting, TakesIf, ReservedIf, SetsNew, SetsOld, SetsBy, Sets}
use Rattle.pmem_tree.proofs.Inserting.{grown_alone, cheap_alone, ends_alone, stands_left, stands_right, holds_left, holds_right, stays_left, stays_right, grows_level_left, grows_level_right, cheap_level_left, cheap_level_right, ends_level_left, ends_level_right, grows_from_left, grows_from_right, cheap_from_left, cheap_from_right, ends_from_left, ends_from_right}

-- a block that was free isn't of a tree
pub free_outside : (m : Blocks) (kind b : ℕ) (t : Shape) → Stands m kind t → m b ≡ None → count b (entries t) ≡ 0
free_outside m kind b t s free =
    elim (cases_lt 0 (count b (entries t))) [
      | inl own ↦ absurd (not_free m b (taken_in m kind t b s own) free)
      | inr none ↦ omega arith
    ]

-- a tree stands where another block was taken
pub stands_taken : (m n : Blocks) (kind b : ℕ) (bytes : List ℕ) (t : Shape) → m b ≡ None → n ≡ put m b (Some bytes) → Stands m kind t → Stands n kind t
stands_taken m n kind b bytes t free e s =
    stands_on m n kind t (λ q in_t. let ne : q ≢ b = λ z. let k : count q (entries t) ≡ count b (entries t) = ap (λ v. count v (entries t)) z in absurd (omega (arith, free_outside m kind b t s free)) in ap (λ (z : Blocks). z q) e ∙ put_other m b (Some bytes) q ne) s

-- once its block is taken, a pair whose key isn't there may come in as an entry
pub may_grow : (m : Blocks) (kind at depth : ℕ) (given : Option ℕ) (p : Pair) (t : Shape) → CanSet m kind at depth given p t → entry_at p.key (entries t) ≡ None → (b0 : Budget) (b : ℕ) (n : Blocks) (b1 : Budget) → TakesIf given m b0 b n b1 → CanGrow n kind at depth (entry_of b p) t
may_grow m kind at depth None p t c none b0 b n b1 w = record {
  root_is = c.root_is;
  stands = stands_taken m n kind b w.bytes t w.was_free w.taken c.stands;
  rises = c.rises;
  balanced = c.balanced;
  apart = c.apart;
  high = c.high;
  low = c.low;
  entry = record { low = w.low; high = w.high; key = c.key; value = c.value };
  taken = record { bytes = w.bytes; holds = ap (λ (z : Blocks). z b) w.taken ∙ put_here m b (Some w.bytes) };
  outside = free_outside m kind b t c.stands w.was_free;
  missing = none;
}
may_grow m kind at depth (Some given) p t c none b0 b n b1 w =
    let r = c.reserved in
    let there : CanGrow m kind at depth (entry_of given p) t = record {
      root_is = c.root_is;
      stands = c.stands;
      rises = c.rises;
      balanced = c.balanced;
      apart = c.apart;
      high = c.high;
      low = c.low;
      entry = record { low = r.low; high = r.high; key = c.key; value = c.value };
      taken = r.taken;
      outside = r.outside;
      missing = none;
    } in
    subst (λ (z : Blocks). CanGrow z kind at depth (entry_of b p) t) (sym w.1.0) (subst (λ (z : ℕ). CanGrow m kind at depth (entry_of z p) t) (sym w.0) there)

-- the block of a new entry is taken
pub taken_if : (m : Blocks) (kind at depth : ℕ) (given : Option ℕ) (p : Pair) → CanSet m kind at depth given p Leaf → (b0 : Budget) (b : ℕ) (n : Blocks) (b1 : Budget) → TakesIf given m b0 b n b1 → IsTaken n b
taken_if m kind at depth given p c b0 b n b1 w = (may_grow m kind at depth given p Leaf c refl b0 b n b1 w).taken

-- the pair alone
pub sets_alone : (m : Blocks) (kind at depth : ℕ) (given : Option ℕ) (p : Pair) → CanSet m kind at depth given p Leaf → (b0 : Budget) (b : ℕ) (m1 : Blocks) (b1 : Budget) → TakesIf given m b0 b m1 b1 → (n : Blocks) (s : Sub) (b2 : Budget) → n ≡ put m1 b (Some (node_bytes kind (node_between p (record { root = 0; height = 0 }) (record { root = 0; height = 0 })))) → s.root ≡ b → s.height ≡ max 0 0 + 1 → IsSpent 1 256 b1 b2 → b2.free ≡ b1.free → Sets m kind given p Leaf b0 n s b2
sets_alone m kind at depth given p c b0 b m1 b1 w n s b2 e h k spent free = record {
  block = b;
  begun = m1;
  left = b1;
  takes = w;
  grown = grown_alone m1 n kind at depth b p s e h k (may_grow m kind at depth given p Leaf c refl b0 b m1 b1 w);
  cheap = cheap_alone s b1 b2 spent;
  ends = ends_alone (entry_of b p) s b1 b2 spent;
  free = free;
}

-- below block 0 stands the empty tree
pub set_empty : (m : Blocks) (kind at depth : ℕ) (given : Option ℕ) (p : Pair) (t : Shape) → at ≡ 0 → CanSet m kind at depth given p t → t ≡ Leaf
set_empty m kind at depth given p Leaf z c = refl
set_empty m kind at depth given p (Fork l e r) z c = absurd (let y = c.stands.0.entry.low in let q = c.root_is in omega arith)

pub can_alone : (m : Blocks) (kind at depth : ℕ) (given : Option ℕ) (p : Pair) → at ≡ 0 → SomeSets m kind at depth given p → CanSet m kind 0 0 given p Leaf
can_alone m kind at depth given p z (Leaf, c) = record { root_is = refl; stands = tt; rises = tt; balanced = tt; apart = c.apart; high = omega arith; low = omega arith; key = c.key; value = c.value; reserved = c.reserved }
can_alone m kind at depth given p z (Fork l e r, c) = absurd (let y = c.stands.0.entry.low in let q = c.root_is in omega arith)

pub set_node : (m : Blocks) (kind at depth : ℕ) (given : Option ℕ) (p : Pair) → SomeSets m kind at depth given p → at ≢ 0 → SomeNode m kind at
set_node m kind at depth given p w ne = some_node m kind at w.0 w.1.stands w.1.root_is ne

-- a tree that isn't empty is no lower than one
pub set_deep : (m : Blocks) (kind at depth : ℕ) (given : Option ℕ) (p : Pair) → SomeSets m kind at depth given p → at ≢ 0 → depth ≢ 0
set_deep m kind at depth given p (Leaf, c) ne = λ z. ne c.root_is
set_deep m kind at depth given p (Fork l e r, c) ne = λ z. let h = c.high in absurd (omega arith)

-- what holds of the node's pair
abbrev pub the_pair : Node → Pair
the_pair n = record { key = n.key; value = n.value }

module _ (m : Blocks) (kind at depth : ℕ) (given : Option ℕ) (p : Pair) (node : Node) (ne : at ≢ 0) (read : IsNodeAt m kind at node) where
  here : (l : Shape) (e : Entry) (r : Shape) → CanSet m kind at depth given p (Fork l e r) → node ≡ node_at l e r
  here l e r c = read l e r (record { at_is = c.root_is; stands = c.stands })

  high_is : (l : Shape) (e : Entry) (r : Shape) → CanSet m kind at depth given p (Fork l e r) → node.height ≡ max (height l) (height r) + 1
  high_is l e r c = ap (λ (n : Node). n.height) (here l e r c)

  lies : (l : Shape) (e : Entry) (r : Shape) → CanSet m kind at depth given p (Fork l e r) → key_cmp p.key node.key ≡ key_cmp p.key e.key
  lies l e r c = ap (λ (n : Node). key_cmp p.key n.key) (here l e r c)

  can_put : (gone : Entry) (t : Shape) → CanSet m kind at depth given p t → entry_at p.key (entries t) ≡ Some gone → CanPut m kind at depth p gone t
  can_put gone t c there = record { root_is = c.root_is; stands = c.stands; rises = c.rises; apart = c.apart; high = c.high; value = c.value; there = there }

  -- the node's own key
  module _ (equal : key_cmp p.key node.key ≡ Equal) where
    there_here : (l : Shape) (e : Entry) (r : Shape) → CanSet m kind at depth given p (Fork l e r) → entry_at p.key (entries (Fork l e r)) ≡ Some e
    there_here l e r c = entry_at_here p.key (entries l) e (entries r) c.rises (sym (lies l e r c) ∙ equal)

    pub set_stands : SomeSets m kind at depth given p → m at ≡ Some (node_bytes kind node)
    set_stands (Leaf, c) = absurd (ne c.root_is)
    set_stands (Fork l e r, c) = ap m c.root_is ∙ (c.stands.0.block ∙ ap (λ (k : Node). Some (node_bytes kind k)) (sym (here l e r c)))

    pub sets_here : (m1 n : Blocks) (b0 c0 b1 : Budget) → m1 ≡ m → c0 ≡ b0 → n ≡ put m1 at (Some (node_bytes kind (valued_node node p.value))) → (node.value ≡ p.value → (n ≡ m1) × (b1 ≡ c0)) → IsSpent 1 256 c0 b1 → b1.free ≡ c0.free → OfSetting m kind at depth given p (λ t. Sets m kind given p t b0 n (record { root = at; height = node.height }) b1)
    sets_here m1 n b0 c0 b1 same as_much staged idle spent free Leaf c = absurd (ne c.root_is)
    sets_here m1 n b0 c0 b1 same as_much staged idle spent free (Fork l e r) c =
        let old : SetsOld m kind p e (Fork l e r) b0 n (record { root = at; height = node.height }) b1 = record {
          put = puts_from_here m kind at depth p node ne read equal m1 n same staged e (Fork l e r) (can_put e (Fork l e r) c (there_here l e r c));
          as_rooted = c.root_is;
          as_high = high_is l e r c;
          idle = λ v. let w = idle (ap (λ (n : Node). n.value) (here l e r c) ∙ v) in (w.0 ∙ same, w.1 ∙ as_much);
          spent = subst (λ (z : Budget). IsSpent 1 256 z b1) as_much spent;
          free = free ∙ ap (λ (z : Budget). z.free) as_much;
        } in
        subst (λ (o : Option Entry). SetsBy o m kind given p (Fork l e r) b0 n (record { root = at; height = node.height }) b1) (sym (there_here l e r c)) old

  -- a key that goes to the left
  module _ (less : key_cmp p.key node.key ≡ Less) where
    less_here : (l : Shape) (e : Entry) (r : Shape) → CanSet m kind at depth given p (Fork l e r) → key_cmp p.key e.key ≡ Less
    less_here l e r c = sym (lies l e r c) ∙ less

    at_left : (l : Shape) (e : Entry) (r : Shape) → CanSet m kind at depth given p (Fork l e r) → entry_at p.key (entries (Fork l e r)) ≡ entry_at p.key (entries l)
    at_left l e r c = entry_at_left p.key (entries l) e (entries r) (less_here l e r c)

    reserved_left : (l : Shape) (e : Entry) (r : Shape) → CanSet m kind at depth given p (Fork l e r) → (o : Option ℕ) → ReservedIf o m p (Fork l e r) → ReservedIf o m p l
    reserved_left l e r c None w = w
    reserved_left l e r c (Some b) w = record { low = w.low; high = w.high; taken = w.taken; outside = omega (arith, w.outside, count_parts b (entries l) e (entries r)); missing = sym (at_left l e r c) ∙ w.missing }

    child_left : (l : Shape) (e : Entry) (r : Shape) → CanSet m kind at depth given p (Fork l e r) → CanSet m kind node.left (depth - 1) given p l
    child_left l e r c = record {
      root_is = ap (λ (n : Node). n.left) (here l e r c);
      stands = c.stands.1;
      rises = Rises-front (entries l) (e ∷ entries r) c.rises;
      balanced = c.balanced.1;
      apart = λ q. omega (arith, c.apart q, count_parts q (entries l) e (entries r));
      high = let h = c.high in omega arith;
      low = let h = c.low in omega arith;
      key = c.key;
      value = c.value;
      reserved = reserved_left l e r c given c.reserved;
    }

    pub set_goes_left : (m1 : Blocks) → m1 ≡ m → SomeSets m kind at depth given p → SomeSets m1 kind node.left (depth - 1) given p
    set_goes_left m1 same (Leaf, c) = absurd (ne c.root_is)
    set_goes_left m1 same (Fork l e r, c) = (l, rw same (child_left l e r c))

    pub missing_left : (m1 : Blocks) → m1 ≡ m → OfSetting m1 kind node.left (depth - 1) given p (λ t. entry_at p.key (entries t) ≡ None) → OfSetting m kind at depth given p (λ t. entry_at p.key (entries t) ≡ None)
    missing_left m1 same none Leaf c = refl
    missing_left m1 same none (Fork l e r) c = at_left l e r c ∙ none l (rw same (child_left l e r c))

    module _ (m1 m2 : Blocks) (a : Sub) (b0 c0 b1 : Budget) (same : m1 ≡ m) (as_much : c0 ≡ b0) (sets : OfSetting m1 kind node.left (depth - 1) given p (λ t. Sets m1 kind given p t c0 m2 a b1)) where
      there_left : (l : Shape) (e : Entry) (r : Shape) → CanSet m kind at depth given p (Fork l e r) → Sets m kind given p l b0 m2 a b1
      there_left l e r c = subst (λ (z : Blocks). Sets z kind given p l b0 m2 a b1) same (subst (λ (z : Budget). Sets m1 kind given p l z m2 a b1) as_much (sets l (rw same (child_left l e r c))))

      grows_left : (l : Shape) (e : Entry) (r : Shape) → CanSet m kind at depth given p (Fork l e r) → entry_at p.key (entries l) ≡ None → (w : SetsNew m kind given p l b0 m2 a b1) → CanGrow w.begun kind at depth (entry_of w.block p) (Fork l e r)
      grows_left l e r c none w = may_grow m kind at depth given p (Fork l e r) c (at_left l e r c ∙ none) b0 w.block w.begun w.left w.takes

      -- the tree below has the root that it had, and is no higher than the node allows
      module _ (rooted : a.root ≡ node.left) (low : a.height < node.height) where
        level_left : (l : Shape) (e : Entry) (r : Shape) → CanSet m kind at depth given p (Fork l e r) → (o : Option Entry) → entry_at p.key (entries l) ≡ o → SetsBy o m kind given p l b0 m2 a b1 → SetsBy o m kind given p (Fork l e r) b0 m2 (record { root = at; height = node.height }) b1
        level_left l e r c None none w =
            let x = entry_of w.block p in
            let g = grows_left l e r c none w in
            record {
              block = w.block;
              begun = w.begun;
              left = w.left;
              takes = w.takes;
              grown = grows_level_left w.begun kind at depth x node (the_pair node) refl l e r g (here l e r c) (less_here l e r c) m2 a w.grown rooted low;
              cheap = cheap_level_left w.begun kind at depth x node (the_pair node) refl l e r g (here l e r c) (less_here l e r c) m2 a w.grown rooted low w.left b1 w.cheap;
              ends = ends_level_left w.begun kind at depth x node (the_pair node) refl l e r g (here l e r c) (less_here l e r c) m2 a w.grown rooted low w.left b1 w.ends;
              free = w.free;
            }
        level_left l e r c (Some gone) there w = record {
          put = puts_left m kind at depth p gone l e r (can_put gone (Fork l e r) c (at_left l e r c ∙ there)) (less_here l e r c) m2 w.put;
          as_rooted = c.root_is;
          as_high = high_is l e r c;
          idle = w.idle;
          spent = w.spent;
          free = w.free;
        }

        pub sets_level_left : OfSetting m kind at depth given p (λ t. Sets m kind given p t b0 m2 (record { root = at; height = node.height }) b1)
        sets_level_left Leaf c = absurd (ne c.root_is)
        sets_level_left (Fork l e r) c = subst (λ (o : Option Entry). SetsBy o m kind given p (Fork l e r) b0 m2 (record { root = at; height = node.height }) b1) (sym (at_left l e r c)) (level_left l e r c (entry_at p.key (entries l)) refl (there_left l e r c))

      -- it has another root or is higher: then the pair is new
      module _ (other : (a.root ≡ node.left) × (a.height < node.height) → ⊥) where
        new_left : (l : Shape) (e : Entry) (r : Shape) → CanSet m kind at depth given p (Fork l e r) → (o : Option Entry) → entry_at p.key (entries l) ≡ o → SetsBy o m kind given p l b0 m2 a b1 → (entry_at p.key (entries l) ≡ None) × SetsNew m kind given p l b0 m2 a b1
        new_left l e r c None none w = (none, w)
        new_left l e r c (Some gone) there w = absurd (other (w.as_rooted ∙ sym (ap (λ (n : Node). n.left) (here l e r c)), omega (arith, w.as_high, high_is l e r c)))

        is_new_left : (l : Shape) (e : Entry) (r : Shape) → CanSet m kind at depth given p (Fork l e r) → (entry_at p.key (entries l) ≡ None) × SetsNew m kind given p l b0 m2 a b1
        is_new_left l e r c = new_left l e r c (entry_at p.key (entries l)) refl (there_left l e r c)

        stands_beside_left : (l : Shape) (e : Entry) (r : Shape) → CanSet m kind at depth given p (Fork l e r) → StandsAt m2 kind node.right r
        stands_beside_left l e r c =
            let w = is_new_left l e r c in
            stands_right w.1.begun kind at depth (entry_of w.1.block p) node (the_pair node) refl l e r (grows_left l e r c w.0 w.1) (here l e r c) (less_here l e r c) m2 a w.1.grown

        pub beside_left : SomeSets m kind at depth given p → SomeStandsAt m2 kind node.right
        beside_left (Leaf, c) = absurd (ne c.root_is)
        beside_left (Fork l e r, c) = (r, stands_beside_left l e r c)

        -- the other tree was read then
        module _ (m3 : Blocks) (b : Sub) (after : m3 ≡ m2) (beside_is : (t : Shape) → StandsAt m2 kind node.right t → IsSub b t) where
          pub set_holds_left : SomeSets m kind at depth given p → SomeHeld m3 kind (entry_of at (the_pair node)) a b
          set_holds_left (Leaf, c) = absurd (ne c.root_is)
          set_holds_left (Fork l e r, c) =
              let w = is_new_left l e r c in
              holds_left w.1.begun kind at depth (entry_of w.1.block p) node (the_pair node) refl l e r (grows_left l e r c w.0 w.1) (here l e r c) (less_here l e r c) m2 a w.1.grown m3 b after (beside_is r (stands_beside_left l e r c))

          pub set_stays_left : SomeSets m kind at depth given p → m3 at ≡ Some (node_bytes kind node)
          set_stays_left (Leaf, c) = absurd (ne c.root_is)
          set_stays_left (Fork l e r, c) =
              let w = is_new_left l e r c in
              stays_left w.1.begun kind at depth (entry_of w.1.block p) node (the_pair node) refl l e r (grows_left l e r c w.0 w.1) (here l e r c) (less_here l e r c) m2 a w.1.grown m3 b after (beside_is r (stands_beside_left l e r c))

          module _ (n : Blocks) (s : Sub) (joins : JoinsHeld m3 n kind (entry_of at (the_pair node)) a b s) (c1 b2 : Budget) (as_left : c1 ≡ b1) (three : IsSpent 3 768 c1 b2) (one : a.height ≤ b.height + 1 → b.height ≤ a.height + 1 → IsSpent 1 256 c1 b2) (idle : Fits (links_of node) a b → b2 ≡ c1) (free : b2.free ≡ c1.free) where
            from_left : (l : Shape) (e : Entry) (r : Shape) → CanSet m kind at depth given p (Fork l e r) → SetsNew m kind given p (Fork l e r) b0 n s b2
            from_left l e r c =
                let v = is_new_left l e r c in
                let w = v.1 in
                let x = entry_of w.block p in
                let g = grows_left l e r c v.0 w in
                let i = beside_is r (stands_beside_left l e r c) in
                let three_is = subst (λ (z : Budget). IsSpent 3 768 z b2) as_left three in
                let one_is : a.height ≤ b.height + 1 → b.height ≤ a.height + 1 → IsSpent 1 256 b1 b2 = λ q k. subst (λ (z : Budget). IsSpent 1 256 z b2) as_left (one q k) in
                record {
                  block = w.block;
                  begun = w.begun;
                  left = w.left;
                  takes = w.takes;
                  grown = grows_from_left w.begun kind at depth x node (the_pair node) refl l e r g (here l e r c) (less_here l e r c) m2 a w.grown m3 b after i n s joins;
                  cheap = cheap_from_left w.begun kind at depth x node (the_pair node) refl l e r g (here l e r c) (less_here l e r c) m2 a w.grown m3 b after i n s joins w.left b1 b2 w.cheap three_is one_is;
                  ends = ends_from_left w.begun kind at depth x node (the_pair node) refl l e r g (here l e r c) (less_here l e r c) m2 a w.grown m3 b after i n s joins w.left b1 b2 w.ends three_is one_is (λ f. idle f ∙ as_left);
                  free = free ∙ (ap (λ (z : Budget). z.free) as_left ∙ w.free);
                }

            pub sets_from_left : OfSetting m kind at depth given p (λ t. Sets m kind given p t b0 n s b2)
            sets_from_left Leaf c = absurd (ne c.root_is)
            sets_from_left (Fork l e r) c = subst (λ (o : Option Entry). SetsBy o m kind given p (Fork l e r) b0 n s b2) (sym (at_left l e r c ∙ (is_new_left l e r c).0)) (from_left l e r c)

  -- a key that goes to the right
  module _ (more : key_cmp p.key node.key ≡ Greater) where
    more_here : (l : Shape) (e : Entry) (r : Shape) → CanSet m kind at depth given p (Fork l e r) → key_cmp p.key e.key ≡ Greater
    more_here l e r c = sym (lies l e r c) ∙ more

    at_right : (l : Shape) (e : Entry) (r : Shape) → CanSet m kind at depth given p (Fork l e r) → entry_at p.key (entries (Fork l e r)) ≡ entry_at p.key (entries r)
    at_right l e r c = entry_at_right p.key (entries l) e (entries r) c.rises (more_here l e r c)

    reserved_right : (l : Shape) (e : Entry) (r : Shape) → CanSet m kind at depth given p (Fork l e r) → (o : Option ℕ) → ReservedIf o m p (Fork l e r) → ReservedIf o m p r
    reserved_right l e r c None w = w
    reserved_right l e r c (Some b) w = record { low = w.low; high = w.high; taken = w.taken; outside = omega (arith, w.outside, count_parts b (entries l) e (entries r)); missing = sym (at_right l e r c) ∙ w.missing }

    child_right : (l : Shape) (e : Entry) (r : Shape) → CanSet m kind at depth given p (Fork l e r) → CanSet m kind node.right (depth - 1) given p r
    child_right l e r c = record {
      root_is = ap (λ (n : Node). n.right) (here l e r c);
      stands = c.stands.2;
      rises = (Rises-back (entries l) (e ∷ entries r) c.rises).1;
      balanced = c.balanced.2;
      apart = λ q. omega (arith, c.apart q, count_parts q (entries l) e (entries r));
      high = let h = c.high in omega arith;
      low = let h = c.low in omega arith;
      key = c.key;
      value = c.value;
      reserved = reserved_right l e r c given c.reserved;
    }

    pub set_goes_right : (m1 : Blocks) → m1 ≡ m → SomeSets m kind at depth given p → SomeSets m1 kind node.right (depth - 1) given p
    set_goes_right m1 same (Leaf, c) = absurd (ne c.root_is)
    set_goes_right m1 same (Fork l e r, c) = (r, rw same (child_right l e r c))

    pub missing_right : (m1 : Blocks) → m1 ≡ m → OfSetting m1 kind node.right (depth - 1) given p (λ t. entry_at p.key (entries t) ≡ None) → OfSetting m kind at depth given p (λ t. entry_at p.key (entries t) ≡ None)
    missing_right m1 same none Leaf c = refl
    missing_right m1 same none (Fork l e r) c = at_right l e r c ∙ none r (rw same (child_right l e r c))

    module _ (m1 m2 : Blocks) (a : Sub) (b0 c0 b1 : Budget) (same : m1 ≡ m) (as_much : c0 ≡ b0) (sets : OfSetting m1 kind node.right (depth - 1) given p (λ t. Sets m1 kind given p t c0 m2 a b1)) where
      there_right : (l : Shape) (e : Entry) (r : Shape) → CanSet m kind at depth given p (Fork l e r) → Sets m kind given p r b0 m2 a b1
      there_right l e r c = subst (λ (z : Blocks). Sets z kind given p r b0 m2 a b1) same (subst (λ (z : Budget). Sets m1 kind given p r z m2 a b1) as_much (sets r (rw same (child_right l e r c))))

      grows_right : (l : Shape) (e : Entry) (r : Shape) → CanSet m kind at depth given p (Fork l e r) → entry_at p.key (entries r) ≡ None → (w : SetsNew m kind given p r b0 m2 a b1) → CanGrow w.begun kind at depth (entry_of w.block p) (Fork l e r)
      grows_right l e r c none w = may_grow m kind at depth given p (Fork l e r) c (at_right l e r c ∙ none) b0 w.block w.begun w.left w.takes

      -- the tree below has the root that it had, and is no higher than the node allows
      module _ (rooted : a.root ≡ node.right) (low : a.height < node.height) where
        level_right : (l : Shape) (e : Entry) (r : Shape) → CanSet m kind at depth given p (Fork l e r) → (o : Option Entry) → entry_at p.key (entries r) ≡ o → SetsBy o m kind given p r b0 m2 a b1 → SetsBy o m kind given p (Fork l e r) b0 m2 (record { root = at; height = node.height }) b1
        level_right l e r c None none w =
            let x = entry_of w.block p in
            let g = grows_right l e r c none w in
            record {
              block = w.block;
              begun = w.begun;
              left = w.left;
              takes = w.takes;
              grown = grows_level_right w.begun kind at depth x node (the_pair node) refl l e r g (here l e r c) (more_here l e r c) m2 a w.grown rooted low;
              cheap = cheap_level_right w.begun kind at depth x node (the_pair node) refl l e r g (here l e r c) (more_here l e r c) m2 a w.grown rooted low w.left b1 w.cheap;
              ends = ends_level_right w.begun kind at depth x node (the_pair node) refl l e r g (here l e r c) (more_here l e r c) m2 a w.grown rooted low w.left b1 w.ends;
              free = w.free;
            }
        level_right l e r c (Some gone) there w = record {
          put = puts_right m kind at depth p gone l e r (can_put gone (Fork l e r) c (at_right l e r c ∙ there)) (more_here l e r c) m2 w.put;
          as_rooted = c.root_is;
          as_high = high_is l e r c;
          idle = w.idle;
          spent = w.spent;
          free = w.free;
        }

        pub sets_level_right : OfSetting m kind at depth given p (λ t. Sets m kind given p t b0 m2 (record { root = at; height = node.height }) b1)
        sets_level_right Leaf c = absurd (ne c.root_is)
        sets_level_right (Fork l e r) c = subst (λ (o : Option Entry). SetsBy o m kind given p (Fork l e r) b0 m2 (record { root = at; height = node.height }) b1) (sym (at_right l e r c)) (level_right l e r c (entry_at p.key (entries r)) refl (there_right l e r c))

      -- it has another root or is higher: then the pair is new
      module _ (other : (a.root ≡ node.right) × (a.height < node.height) → ⊥) where
        new_right : (l : Shape) (e : Entry) (r : Shape) → CanSet m kind at depth given p (Fork l e r) → (o : Option Entry) → entry_at p.key (entries r) ≡ o → SetsBy o m kind given p r b0 m2 a b1 → (entry_at p.key (entries r) ≡ None) × SetsNew m kind given p r b0 m2 a b1
        new_right l e r c None none w = (none, w)
        new_right l e r c (Some gone) there w = absurd (other (w.as_rooted ∙ sym (ap (λ (n : Node). n.right) (here l e r c)), omega (arith, w.as_high, high_is l e r c)))

        is_new_right : (l : Shape) (e : Entry) (r : Shape) → CanSet m kind at depth given p (Fork l e r) → (entry_at p.key (entries r) ≡ None) × SetsNew m kind given p r b0 m2 a b1
        is_new_right l e r c = new_right l e r c (entry_at p.key (entries r)) refl (there_right l e r c)

        stands_beside_right : (l : Shape) (e : Entry) (r : Shape) → CanSet m kind at depth given p (Fork l e r) → StandsAt m2 kind node.left l
        stands_beside_right l e r c =
            let w = is_new_right l e r c in
            stands_left w.1.begun kind at depth (entry_of w.1.block p) node (the_pair node) refl l e r (grows_right l e r c w.0 w.1) (here l e r c) (more_here l e r c) m2 a w.1.grown

        pub beside_right : SomeSets m kind at depth given p → SomeStandsAt m2 kind node.left
        beside_right (Leaf, c) = absurd (ne c.root_is)
        beside_right (Fork l e r, c) = (l, stands_beside_right l e r c)

        -- the other tree was read then
        module _ (m3 : Blocks) (b : Sub) (after : m3 ≡ m2) (beside_is : (t : Shape) → StandsAt m2 kind node.left t → IsSub b t) where
          pub set_holds_right : SomeSets m kind at depth given p → SomeHeld m3 kind (entry_of at (the_pair node)) b a
          set_holds_right (Leaf, c) = absurd (ne c.root_is)
          set_holds_right (Fork l e r, c) =
              let w = is_new_right l e r c in
              holds_right w.1.begun kind at depth (entry_of w.1.block p) node (the_pair node) refl l e r (grows_right l e r c w.0 w.1) (here l e r c) (more_here l e r c) m2 a w.1.grown m3 b after (beside_is l (stands_beside_right l e r c))

          pub set_stays_right : SomeSets m kind at depth given p → m3 at ≡ Some (node_bytes kind node)
          set_stays_right (Leaf, c) = absurd (ne c.root_is)
          set_stays_right (Fork l e r, c) =
              let w = is_new_right l e r c in
              stays_right w.1.begun kind at depth (entry_of w.1.block p) node (the_pair node) refl l e r (grows_right l e r c w.0 w.1) (here l e r c) (more_here l e r c) m2 a w.1.grown m3 b after (beside_is l (stands_beside_right l e r c))

          module _ (n : Blocks) (s : Sub) (joins : JoinsHeld m3 n kind (entry_of at (the_pair node)) b a s) (c1 b2 : Budget) (as_left : c1 ≡ b1) (three : IsSpent 3 768 c1 b2) (one : b.height ≤ a.height + 1 → a.height ≤ b.height + 1 → IsSpent 1 256 c1 b2) (idle : Fits (links_of node) b a → b2 ≡ c1) (free : b2.free ≡ c1.free) where
            from_right : (l : Shape) (e : Entry) (r : Shape) → CanSet m kind at depth given p (Fork l e r) → SetsNew m kind given p (Fork l e r) b0 n s b2
            from_right l e r c =
                let v = is_new_right l e r c in
                let w = v.1 in
                let x = entry_of w.block p in
                let g = grows_right l e r c v.0 w in
                let i = beside_is l (stands_beside_right l e r c) in
                let three_is = subst (λ (z : Budget). IsSpent 3 768 z b2) as_left three in
                let one_is : b.height ≤ a.height + 1 → a.height ≤ b.height + 1 → IsSpent 1 256 b1 b2 = λ q k. subst (λ (z : Budget). IsSpent 1 256 z b2) as_left (one q k) in
                record {
                  block = w.block;
                  begun = w.begun;
                  left = w.left;
                  takes = w.takes;
                  grown = grows_from_right w.begun kind at depth x node (the_pair node) refl l e r g (here l e r c) (more_here l e r c) m2 a w.grown m3 b after i n s joins;
                  cheap = cheap_from_right w.begun kind at depth x node (the_pair node) refl l e r g (here l e r c) (more_here l e r c) m2 a w.grown m3 b after i n s joins w.left b1 b2 w.cheap three_is one_is;
                  ends = ends_from_right w.begun kind at depth x node (the_pair node) refl l e r g (here l e r c) (more_here l e r c) m2 a w.grown m3 b after i n s joins w.left b1 b2 w.ends three_is one_is (λ f. idle f ∙ as_left);
                  free = free ∙ (ap (λ (z : Budget). z.free) as_left ∙ w.free);
                }

            pub sets_from_right : OfSetting m kind at depth given p (λ t. Sets m kind given p t b0 n s b2)
            sets_from_right Leaf c = absurd (ne c.root_is)
            sets_from_right (Fork l e r) c = subst (λ (o : Option Entry). SetsBy o m kind given p (Fork l e r) b0 n s b2) (sym (at_right l e r c ∙ (is_new_right l e r c).0)) (from_right l e r c)
