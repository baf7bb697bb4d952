-- A value goes into one of the trees below a node, or into the node.
use Rattle.std.proofs.Common.{◌≡◌, ◌≢◌, ℕ, ◌+◌, ◌-◌, max, List, [], ◌∷◌, ◌++◌, Option, Some, refl, sym, ap, ◌∙◌, subst, arith, ◌⊎◌}
use Rattle.std.specs.declared.cmp.Ordering.TheVariants.{Less, Equal, Greater}
use Rattle.pmem_pages.specs.Blocks.{Blocks, put}
use Rattle.pmem_pages.specs.declared.node.Node.{Node}
use Rattle.pmem_pages.specs.declared.node.Pair.{Pair}
use Rattle.pmem_pages.specs.Node.{node_bytes, key_cmp}
use Rattle.pmem_pages.specs.Shape.{Entry, Shape, Leaf, Fork, root_of, height, entries, count, node_at, with_node, IsEntry, Stands, Keeps}
use Rattle.pmem_pages.specs.Parts.{with_value}
use Rattle.pmem_pages.proofs.Lists.{count_own, count_parts, Rises-front, Rises-back, entry_at_left, valued_left, valued_past}
use Rattle.pmem_pages.proofs.Shapes.{stands_on}
use Rattle.pmem_tree_base.specs.Nodes.{SomeNode, IsNodeAt}
use Rattle.pmem_tree_base.proofs.Held.{some_node}
use Rattle.pmem_tree_base.proofs.Sides.{past_left, at_left, entry_at_right, entry_at_here}
use Rattle.pmem_tree_base.proofs.Staged.{fork_stands, keeps_put}
use Rattle.pmem_tree_base.specs.Put.{CanPut, SomePuts, Put, OfPutting, OfSame}

pub put_node : (m : Blocks) (kind at depth : ℕ) (p : Pair) → SomePuts m kind at depth p → at ≢ 0 → SomeNode m kind at
put_node m kind at depth p w ne = some_node m kind at w.1 w.2.stands w.2.root_is ne

-- where a key is, the tree isn't empty
pub put_none : (m n : Blocks) (kind at depth : ℕ) (p : Pair) → (at ≡ 0) ⊎ (depth ≡ 0) → OfPutting m kind at depth p (λ t. Put m kind t p n)
put_none m n kind at depth p z gone Leaf c = absurd (let h = c.there in cc)
put_none m n kind at depth p z gone (Fork l e r) c = absurd (let h = c.high in let b = c.stands.0.entry.low in let q = c.root_is in omega arith)

module _ (m : Blocks) (kind at depth : ℕ) (p : Pair) (gone : Entry) (l : Shape) (e : Entry) (r : Shape) (c : CanPut m kind at depth p gone (Fork l e r)) where
  split : (q : ℕ) → count q (entries (Fork l e r)) ≡ count q (entries l) + (count q (e ∷ []) + count q (entries r))
  split q = count_parts q (entries l) e (entries r)

  module _ (less : key_cmp p.key e.key ≡ Less) where
    pub put_left : CanPut m kind (root_of l) (depth - 1) p gone l
    put_left = record {
      root_is = refl;
      stands = c.stands.1;
      rises = Rises-front (entries l) (e ∷ entries r) c.rises;
      apart = λ q. omega (arith, c.apart q, split q);
      high = let h = c.high in omega arith;
      value = c.value;
      there = sym (entry_at_left p.key (entries l) e (entries r) less) ∙ c.there;
    }

    pub puts_left : (n : Blocks) → Put m kind l p n → Put m kind (Fork l e r) p n
    puts_left n g =
        let same : node_at l e r ≡ node_at g.tree e r = let a = g.height_as in let b = g.root_as in cc in
        record {
          tree = Fork g.tree e r;
          root_as = refl;
          height_as = ap (λ (h : ℕ). max h (height r) + 1) g.height_as;
          stands = (
            record { entry = c.stands.0.entry; block = g.keeps e.block (omega (arith, c.apart e.block, split e.block, count_own e)) ∙ (c.stands.0.block ∙ ap (λ (k : Node). Some (node_bytes kind k)) same) },
            g.stands,
            stands_on m n kind r (λ q in_r. g.keeps q (omega (arith, in_r, c.apart q, split q))) c.stands.2,
          );
          balanced = λ b. let h = g.height_as in let nl = b.0.left in let nr = b.0.right in (record { left = omega arith; right = omega arith }, g.balanced b.1, b.2);
          entries_are = ap (λ z. z ++ e ∷ entries r) g.entries_are ∙ sym (valued_left p.key p.value (entries l) e (entries r) less);
          keeps = λ q none. g.keeps q (omega (arith, none, split q));
        }

  module _ (more : key_cmp p.key e.key ≡ Greater) where
    pub put_right : CanPut m kind (root_of r) (depth - 1) p gone r
    put_right = record {
      root_is = refl;
      stands = c.stands.2;
      rises = (Rises-back (entries l) (e ∷ entries r) c.rises).1;
      apart = λ q. omega (arith, c.apart q, split q);
      high = let h = c.high in omega arith;
      value = c.value;
      there = sym (entry_at_right p.key (entries l) e (entries r) c.rises more) ∙ c.there;
    }

    pub puts_right : (n : Blocks) → Put m kind r p n → Put m kind (Fork l e r) p n
    puts_right n g =
        let same : node_at l e r ≡ node_at l e g.tree = let a = g.height_as in let b = g.root_as in cc in
        record {
          tree = Fork l e g.tree;
          root_as = refl;
          height_as = ap (λ (h : ℕ). max (height l) h + 1) g.height_as;
          stands = (
            record { entry = c.stands.0.entry; block = g.keeps e.block (omega (arith, c.apart e.block, split e.block, count_own e)) ∙ (c.stands.0.block ∙ ap (λ (k : Node). Some (node_bytes kind k)) same) },
            stands_on m n kind l (λ q in_l. g.keeps q (omega (arith, in_l, c.apart q, split q))) c.stands.1,
            g.stands,
          );
          balanced = λ b. let h = g.height_as in let nl = b.0.left in let nr = b.0.right in (record { left = omega arith; right = omega arith }, b.1, g.balanced b.2);
          entries_are = ap (λ z. entries l ++ e ∷ z) g.entries_are ∙ sym (valued_past p.key p.value (entries l) (e ∷ entries r) (past_left p.key (entries l) e (entries r) c.rises more) ∙ ap (λ z. entries l ++ z) (rw more refl));
          keeps = λ q none. g.keeps q (omega (arith, none, split q));
        }

  pub puts_here : key_cmp p.key e.key ≡ Equal → (n : Blocks) → n ≡ with_node m kind l (with_value e p.value) r → Put m kind (Fork l e r) p n
  puts_here equal n same =
      let f = with_value e p.value in
      let own = count_own e in
      let en : IsEntry kind f = record { low = c.stands.0.entry.low; high = c.stands.0.entry.high; key = c.stands.0.entry.key; value = c.value } in
      record {
        tree = Fork l f r;
        root_as = refl;
        height_as = refl;
        stands = subst (λ (z : Blocks). Stands z kind (Fork l f r)) (sym same) (fork_stands m kind l f r c.stands.1 c.stands.2 en (omega (arith, own, c.apart e.block, split e.block)) (omega (arith, own, c.apart e.block, split e.block)));
        balanced = λ b. b;
        entries_are = sym (valued_past p.key p.value (entries l) (e ∷ entries r) (at_left p.key (entries l) e (entries r) c.rises equal) ∙ ap (λ z. entries l ++ z) (rw equal refl));
        keeps = subst (λ (z : Blocks). Keeps m z (entries (Fork l e r))) (sym same) (keeps_put m e.block _ (entries (Fork l e r)) (omega (arith, own, split e.block)));
      }

-- the same, as the clauses of the code say it
module _ (m : Blocks) (kind at depth : ℕ) (p : Pair) (node : Node) (ne : at ≢ 0) (read : IsNodeAt m kind at node) where
  here : (gone : Entry) (l : Shape) (e : Entry) (r : Shape) → CanPut m kind at depth p gone (Fork l e r) → node ≡ node_at l e r
  here gone l e r c = read l e r (record { at_is = c.root_is; stands = c.stands })

  cmp : (gone : Entry) (l : Shape) (e : Entry) (r : Shape) → CanPut m kind at depth p gone (Fork l e r) → key_cmp p.key node.key ≡ key_cmp p.key e.key
  cmp gone l e r c = ap (λ (n : Node). key_cmp p.key n.key) (here gone l e r c)

  module _ (less : key_cmp p.key node.key ≡ Less) (m1 : Blocks) (same : m1 ≡ m) where
    child_left : (gone : Entry) (l : Shape) (e : Entry) (r : Shape) → CanPut m kind at depth p gone (Fork l e r) → CanPut m1 kind node.left (depth - 1) p gone l
    child_left gone l e r c = rw (same, ap (λ (n : Node). n.left) (here gone l e r c)) (put_left m kind at depth p gone l e r c (sym (cmp gone l e r c) ∙ less))

    pub put_goes_left : SomePuts m kind at depth p → SomePuts m1 kind node.left (depth - 1) p
    put_goes_left (gone, Leaf, c) = absurd (ne c.root_is)
    put_goes_left (gone, Fork l e r, c) = (gone, l, child_left gone l e r c)

    pub puts_from_left : (n : Blocks) → OfPutting m1 kind node.left (depth - 1) p (λ t. Put m1 kind t p n) → OfPutting m kind at depth p (λ t. Put m kind t p n)
    puts_from_left n g gone Leaf c = absurd (ne c.root_is)
    puts_from_left n g gone (Fork l e r) c =
        puts_left m kind at depth p gone l e r c (sym (cmp gone l e r c) ∙ less) n (subst (λ (z : Blocks). Put z kind l p n) same (g gone l (child_left gone l e r c)))

  module _ (more : key_cmp p.key node.key ≡ Greater) (m1 : Blocks) (same : m1 ≡ m) where
    child_right : (gone : Entry) (l : Shape) (e : Entry) (r : Shape) → CanPut m kind at depth p gone (Fork l e r) → CanPut m1 kind node.right (depth - 1) p gone r
    child_right gone l e r c = rw (same, ap (λ (n : Node). n.right) (here gone l e r c)) (put_right m kind at depth p gone l e r c (sym (cmp gone l e r c) ∙ more))

    pub put_goes_right : SomePuts m kind at depth p → SomePuts m1 kind node.right (depth - 1) p
    put_goes_right (gone, Leaf, c) = absurd (ne c.root_is)
    put_goes_right (gone, Fork l e r, c) = (gone, r, child_right gone l e r c)

    pub puts_from_right : (n : Blocks) → OfPutting m1 kind node.right (depth - 1) p (λ t. Put m1 kind t p n) → OfPutting m kind at depth p (λ t. Put m kind t p n)
    puts_from_right n g gone Leaf c = absurd (ne c.root_is)
    puts_from_right n g gone (Fork l e r) c =
        puts_right m kind at depth p gone l e r c (sym (cmp gone l e r c) ∙ more) n (subst (λ (z : Blocks). Put z kind r p n) same (g gone r (child_right gone l e r c)))

  pub puts_from_here : key_cmp p.key node.key ≡ Equal → (m1 n : Blocks) → m1 ≡ m → n ≡ put m1 at (Some (node_bytes kind (record { height = node.height; left = node.left; right = node.right; key = node.key; value = p.value }))) → OfPutting m kind at depth p (λ t. Put m kind t p n)
  puts_from_here equal m1 n same e gone Leaf c = absurd (ne c.root_is)
  puts_from_here equal m1 n same e gone (Fork l f r) c =
      let is = here gone l f r c in
      let content : Option (List ℕ) = Some (node_bytes kind (record { height = node.height; left = node.left; right = node.right; key = node.key; value = p.value })) in
      let bytes = ap (λ (k : Node). record { height = k.height; left = k.left; right = k.right; key = k.key; value = p.value }) is in
      puts_here m kind at depth p gone l f r c (sym (cmp gone l f r c) ∙ equal) n (e ∙ (ap (λ (z : Blocks). put z at content) same ∙ (ap (λ (b : ℕ). put m b content) c.root_is ∙ ap (λ (k : Node). put m f.block (Some (node_bytes kind k))) bytes)))

  -- the node stands there, as it was read
  pub put_stands_there : SomePuts m kind at depth p → m at ≡ Some (node_bytes kind node)
  put_stands_there (gone, Leaf, c) = absurd (ne c.root_is)
  put_stands_there (gone, Fork l f r, c) = ap m c.root_is ∙ (c.stands.0.block ∙ ap (λ (k : Node). Some (node_bytes kind k)) (sym (here gone l f r c)))

  -- nothing changed where the value was the same
  module _ {A B : Type 0} where
    pub same_from_left : key_cmp p.key node.key ≡ Less → (m1 : Blocks) → m1 ≡ m → (A → B) → OfSame m1 kind node.left (depth - 1) p A → OfSame m kind at depth p B
    same_from_left less m1 same f g gone Leaf c v = absurd (ne c.root_is)
    same_from_left less m1 same f g gone (Fork l e r) c v = f (g gone l (child_left less m1 same gone l e r c) v)

    pub same_from_right : key_cmp p.key node.key ≡ Greater → (m1 : Blocks) → m1 ≡ m → (A → B) → OfSame m1 kind node.right (depth - 1) p A → OfSame m kind at depth p B
    same_from_right more m1 same f g gone Leaf c v = absurd (ne c.root_is)
    same_from_right more m1 same f g gone (Fork l e r) c v = f (g gone r (child_right more m1 same gone l e r c) v)

  pub same_from_here : {B : Type 0} → key_cmp p.key node.key ≡ Equal → (node.value ≡ p.value → B) → OfSame m kind at depth p B
  same_from_here equal f gone Leaf c v = absurd (ne c.root_is)
  same_from_here equal f gone (Fork l e r) c v =
      let found = entry_at_here p.key (entries l) e (entries r) c.rises (sym (cmp gone l e r c) ∙ equal) in
      let there = c.there in
      let same : e ≡ gone = cc in
      f (ap (λ (n : Node). n.value) (here gone l e r c) ∙ (ap (λ (z : Entry). z.value) same ∙ v))
