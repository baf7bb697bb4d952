-- What staged nodes make of trees that the code holds.
use Rattle.std.proofs.Common.{◌≡◌, ℕ, ◌+◌, ◌≤◌, ◌<◌, max, Some, Result, Ok, Err, OnErr, OnOk, IfOk, IsErr, sym, ap, ◌∙◌, subst, arith, ◌⊎◌, inl, inr}
use Rattle.pmem_pages.specs.Blocks.{Blocks, Budget, put, IsTaken, IsSpent}
use Rattle.pmem_pages.specs.declared.node.Pair.{Pair}
use Rattle.pmem_pages.specs.Node.{node_bytes}
use Rattle.pmem_pages.specs.Shape.{Entry, Shape, Leaf, Fork, with_node}
use Rattle.pmem_tree_base.specs.declared.read.Opened.{Opened}
use Rattle.pmem_tree_base.specs.declared.read.Sub.{Sub}
use Rattle.pmem_tree_base.specs.Nodes.{SomeNode, entry_of, node_between, OpensAt}
use Rattle.pmem_tree_base.proofs.Staged.{staged, sub_of}
use Rattle.pmem_tree_base.specs.Join.{Parts, Joins, Held, SomeHeld, Joined, JoinsHeld, LeansRight, SomeLeansRight, TurnsRight}
use Rattle.pmem_tree_base.proofs.Joins.{plain, turn_right, twice_right}

-- what an error stands for
pub at_err : {T E : Type 0} (r : Result T E) (P : Type 0) → OnErr r P → IsErr r → P
at_err (Ok x) P h e = absurd (cc)
at_err (Err x) P h e = h

-- what an answer stands for, by three clauses
pub if_ok : {T E : Type 0} (r : Result T E) (A : Type 0) (B C Q : T → Type 0) → OnOk r A → IfOk r B → IfOk r C → ((s : T) → A → B s → C s → Q s) → IfOk r Q
if_ok (Ok x) A B C Q a b c f = f x a b c
if_ok (Err x) A B C Q a b c f = tt

-- a node is staged between two near trees
pub joined_plain : (m n : Blocks) (kind at : ℕ) (p : Pair) (a b s : Sub) → n ≡ put m at (Some (node_bytes kind (node_between p a b))) → s.root ≡ at → s.height ≡ max a.height b.height + 1 → a.height ≤ b.height + 1 → b.height ≤ a.height + 1 → JoinsHeld m n kind (entry_of at p) a b s
joined_plain m n kind at p a b s e h k na nb l r w =
    let i = w.left_is.height_is in
    let j = w.right_is.height_is in
    let t = staged m n kind at p a b l r e w.left_is w.right_is in
    record {
      tree = Fork l (entry_of at p) r;
      is_sub = sub_of s at p a b l r h k w.left_is w.right_is;
      joins = subst (λ (z : Blocks). Joins m kind l (entry_of at p) r z (Fork l (entry_of at p) r)) (sym t) (plain m kind l (entry_of at p) r w.parts (record { left = omega arith; right = omega arith }));
    }

-- the left tree is two higher
module _ (m : Blocks) (kind at : ℕ) (p : Pair) (top : ℕ) (o : Opened) (c : Sub) where
  pub at_right : SomeLeansRight m kind (entry_of at p) top o c → IsTaken m at
  at_right w = w.4.parts.taken

  pub top_right : SomeLeansRight m kind (entry_of at p) top o c → IsTaken m top
  top_right w = record { bytes = _; holds = ap m (sym (ap (λ (z : Entry). z.block) w.4.opens.entry_is)) ∙ w.4.parts.left.0.block }

  module _ (m1 n : Blocks) (low s : Sub)
      (e1 : m1 ≡ put m at (Some (node_bytes kind (node_between p o.right c)))) (r1 : low.root ≡ at) (h1 : low.height ≡ max o.right.height c.height + 1)
      (e2 : n ≡ put m1 top (Some (node_bytes kind (node_between o.pair o.left low)))) (r2 : s.root ≡ top) (h2 : s.height ≡ max o.left.height low.height + 1)
      (outer : o.right.height ≤ o.left.height) where
    pub turned_right : TurnsRight m n kind (entry_of at p) top o c s
    turned_right x j y r w =
        let e = entry_of at p in
        let k = entry_of top o.pair in
        let parts = subst (λ (z : Entry). Parts m kind (Fork x z y) e r) w.opens.entry_is w.parts in
        let i1 = sub_of low at p o.right c y r r1 h1 w.opens.right_is w.right_is in
        let t1 = staged m m1 kind at p o.right c y r e1 w.opens.right_is w.right_is in
        let t2 = staged m1 n kind top o.pair o.left low x (Fork y e r) e2 w.opens.left_is i1 in
        let all : n ≡ with_node (with_node m kind y e r) kind x k (Fork y e r) = t2 ∙ ap (λ (z : Blocks). with_node z kind x k (Fork y e r)) t1 in
        let hx = w.opens.left_is.height_is in
        let hy = w.opens.right_is.height_is in
        subst (λ (z : Entry). Joined m kind (Fork x z y) e r n s) (sym w.opens.entry_is) (record {
          tree = Fork x k (Fork y e r);
          is_sub = sub_of s top o.pair o.left low x (Fork y e r) r2 h2 w.opens.left_is i1;
          joins = subst (λ (z : Blocks). Joins m kind (Fork x k y) e r z (Fork x k (Fork y e r))) (sym all) (turn_right m kind x k y e r parts w.two_higher (omega arith));
        })

  pub low_right : SomeLeansRight m kind (entry_of at p) top o c → (low : ℕ) (b0 b1 : Budget) → low ≡ max o.right.height c.height + 1 → IsSpent 1 256 b0 b1 → (b1.ranges < 1) ⊎ ((b1.bytes < 256) ⊎ (255 ≤ max o.left.height low)) → (b0.ranges < 2) ⊎ (b0.bytes < 512)
  low_right w low b0 b1 h s u =
      let hx = w.4.opens.left_is.height_is in
      let hy = w.4.opens.right_is.height_is in
      let hr = w.4.right_is.height_is in
      let l = w.4.parts.low in
      let two = w.4.two_higher in
      let rm = s.ranges_most in
      let bm = s.bytes_most in
      elim u [
        | inl k ↦ inl (omega arith)
        | inr u ↦ elim u [ inl k ↦ inr (omega arith) | inr k ↦ absurd (omega arith) ]
      ]

  pub first_right : SomeLeansRight m kind (entry_of at p) top o c → (b0 : Budget) → (b0.ranges < 1) ⊎ ((b0.bytes < 256) ⊎ (255 ≤ max o.right.height c.height)) → (b0.ranges < 2) ⊎ (b0.bytes < 512)
  first_right w b0 u =
      let hy = w.4.opens.right_is.height_is in
      let hr = w.4.right_is.height_is in
      let l = w.4.parts.low in
      let two = w.4.two_higher in
      elim u [
        | inl k ↦ inl (omega arith)
        | inr u ↦ elim u [ inl k ↦ inr (omega arith) | inr k ↦ absurd (omega arith) ]
      ]

-- .. and higher on its inner side, which was opened
module _ (m : Blocks) (kind at : ℕ) (p : Pair) (top : ℕ) (o i : Opened) (c : Sub) where
  pub inner_right : SomeLeansRight m kind (entry_of at p) top o c → o.left.height < o.right.height → SomeNode m kind o.right.root
  inner_right (x, j, Leaf, r, w) h = absurd (let k = w.opens.right_is.height_is in omega arith)
  inner_right (x, j, Fork u f v, r, w) h = (u, f, v, record { at_is = w.opens.right_is.root_is; stands = w.parts.left.2 })

  module _ (m1 m2 n : Blocks) (first second s : Sub) (opens : OpensAt m kind o.right.root i)
      (e1 : m1 ≡ put m top (Some (node_bytes kind (node_between o.pair o.left i.left)))) (r1 : first.root ≡ top) (h1 : first.height ≡ max o.left.height i.left.height + 1)
      (e2 : m2 ≡ put m1 at (Some (node_bytes kind (node_between p i.right c)))) (r2 : second.root ≡ at) (h2 : second.height ≡ max i.right.height c.height + 1)
      (e3 : n ≡ put m2 o.right.root (Some (node_bytes kind (node_between i.pair first second)))) (r3 : s.root ≡ o.right.root) (h3 : s.height ≡ max first.height second.height + 1)
      (inner : o.left.height < o.right.height) where
    pub turned_twice_right : TurnsRight m n kind (entry_of at p) top o c s
    turned_twice_right x j Leaf r w = absurd (let k = w.opens.right_is.height_is in omega arith)
    turned_twice_right x j (Fork u f v) r w =
        let e = entry_of at p in
        let k = entry_of top o.pair in
        let g = entry_of o.right.root i.pair in
        let op = opens u f v (record { at_is = w.opens.right_is.root_is; stands = w.parts.left.2 }) in
        let parts = subst (λ (z : Entry). Parts m kind (Fork x z (Fork u f v)) e r) w.opens.entry_is w.parts in
        let parts2 = subst (λ (z : Entry). Parts m kind (Fork x k (Fork u z v)) e r) op.entry_is parts in
        let i1 = sub_of first top o.pair o.left i.left x u r1 h1 w.opens.left_is op.left_is in
        let i2 = sub_of second at p i.right c v r r2 h2 op.right_is w.right_is in
        let t1 = staged m m1 kind top o.pair o.left i.left x u e1 w.opens.left_is op.left_is in
        let t2 = staged m1 m2 kind at p i.right c v r e2 op.right_is w.right_is in
        let t3 = staged m2 n kind o.right.root i.pair first second (Fork x k u) (Fork v e r) e3 i1 i2 in
        let all : n ≡ with_node (with_node (with_node m kind x k u) kind v e r) kind (Fork x k u) g (Fork v e r) = t3 ∙ ap (λ (z : Blocks). with_node z kind (Fork x k u) g (Fork v e r)) (t2 ∙ ap (λ (z : Blocks). with_node z kind v e r) t1) in
        let hx = w.opens.left_is.height_is in
        let hy = w.opens.right_is.height_is in
        subst (λ (z : Entry). Joined m kind (Fork x z (Fork u f v)) e r n s) (sym w.opens.entry_is) (subst (λ (z : Entry). Joined m kind (Fork x k (Fork u z v)) e r n s) (sym op.entry_is) (record {
          tree = Fork (Fork x k u) g (Fork v e r);
          is_sub = sub_of s o.right.root i.pair first second (Fork x k u) (Fork v e r) r3 h3 i1 i2;
          joins = subst (λ (z : Blocks). Joins m kind (Fork x k (Fork u g v)) e r z (Fork (Fork x k u) g (Fork v e r))) (sym all) (twice_right m kind x k u g v e r parts2 w.two_higher (omega arith));
        }))

  -- a refusal, for want of ranges or bytes alone: the heights fit
  pub few_right : SomeLeansRight m kind (entry_of at p) top o c → o.left.height < o.right.height → OpensAt m kind o.right.root i → (first second : ℕ) (b0 b1 b2 : Budget) → first ≡ max o.left.height i.left.height + 1 → second ≡ max i.right.height c.height + 1 → IsSpent 1 256 b0 b1 → IsSpent 1 256 b1 b2 → (b2.ranges < 1) ⊎ ((b2.bytes < 256) ⊎ (255 ≤ max first second)) → (b0.ranges < 3) ⊎ (b0.bytes < 768)
  few_right (x, j, Leaf, r, w) h op first second b0 b1 b2 h1 h2 s1 s2 t = absurd (let k = w.opens.right_is.height_is in omega arith)
  few_right (x, j, Fork u f v, r, w) h op first second b0 b1 b2 h1 h2 s1 s2 t =
      let q = op u f v (record { at_is = w.opens.right_is.root_is; stands = w.parts.left.2 }) in
      let hx = w.opens.left_is.height_is in
      let hy = w.opens.right_is.height_is in
      let hr = w.right_is.height_is in
      let hu = q.left_is.height_is in
      let hv = q.right_is.height_is in
      let l = w.parts.low in
      let two = w.two_higher in
      let ra = s1.ranges_most in
      let rb = s2.ranges_most in
      let ba = s1.bytes_most in
      let bb = s2.bytes_most in
      elim t [
        | inl k ↦ inl (omega arith)
        | inr t ↦ elim t [ inl k ↦ inr (omega arith) | inr k ↦ absurd (omega arith) ]
      ]

  pub few_right_1 : SomeLeansRight m kind (entry_of at p) top o c → o.left.height < o.right.height → OpensAt m kind o.right.root i → (b0 : Budget) → (b0.ranges < 1) ⊎ ((b0.bytes < 256) ⊎ (255 ≤ max o.left.height i.left.height)) → (b0.ranges < 3) ⊎ (b0.bytes < 768)
  few_right_1 (x, j, Leaf, r, w) h op b0 t = absurd (let k = w.opens.right_is.height_is in omega arith)
  few_right_1 (x, j, Fork u f v, r, w) h op b0 t =
      let q = op u f v (record { at_is = w.opens.right_is.root_is; stands = w.parts.left.2 }) in
      let hx = w.opens.left_is.height_is in
      let hy = w.opens.right_is.height_is in
      let hu = q.left_is.height_is in
      let l = w.parts.low in
      let two = w.two_higher in
      elim t [
        | inl k ↦ inl (omega arith)
        | inr t ↦ elim t [ inl k ↦ inr (omega arith) | inr k ↦ absurd (omega arith) ]
      ]

  pub few_right_2 : SomeLeansRight m kind (entry_of at p) top o c → o.left.height < o.right.height → OpensAt m kind o.right.root i → (b0 b1 : Budget) → IsSpent 1 256 b0 b1 → (b1.ranges < 1) ⊎ ((b1.bytes < 256) ⊎ (255 ≤ max i.right.height c.height)) → (b0.ranges < 3) ⊎ (b0.bytes < 768)
  few_right_2 (x, j, Leaf, r, w) h op b0 b1 s1 t = absurd (let k = w.opens.right_is.height_is in omega arith)
  few_right_2 (x, j, Fork u f v, r, w) h op b0 b1 s1 t =
      let q = op u f v (record { at_is = w.opens.right_is.root_is; stands = w.parts.left.2 }) in
      let hy = w.opens.right_is.height_is in
      let hr = w.right_is.height_is in
      let hv = q.right_is.height_is in
      let l = w.parts.low in
      let two = w.two_higher in
      let ra = s1.ranges_most in
      let ba = s1.bytes_most in
      elim t [
        | inl k ↦ inl (omega arith)
        | inr t ↦ elim t [ inl k ↦ inr (omega arith) | inr k ↦ absurd (omega arith) ]
      ]

-- the left tree of two is opened
module _ (m : Blocks) (kind at : ℕ) (p : Pair) (a b : Sub) (o : Opened) where
  pub higher_node_right : SomeHeld m kind (entry_of at p) a b → b.height + 1 < a.height → SomeNode m kind a.root
  higher_node_right (Leaf, r, w) h = absurd (let k = w.left_is.height_is in omega arith)
  higher_node_right (Fork x j y, r, w) h = (x, j, y, record { at_is = w.left_is.root_is; stands = w.parts.left })

  leans_from_right : (x : Shape) (j : Entry) (y r : Shape) → Held m kind (entry_of at p) a b (Fork x j y) r → b.height + 1 < a.height → OpensAt m kind a.root o → LeansRight m kind (entry_of at p) a.root o b x j y r
  leans_from_right x j y r w h op =
      let hl = w.left_is.height_is in
      let hr = w.right_is.height_is in
      let n = w.parts.near.left in
      record {
        opens = op x j y (record { at_is = w.left_is.root_is; stands = w.parts.left });
        right_is = w.right_is;
        parts = w.parts;
        two_higher = omega arith;
      }

  pub leans_right : (m1 : Blocks) → m1 ≡ m → SomeHeld m kind (entry_of at p) a b → b.height + 1 < a.height → OpensAt m kind a.root o → SomeLeansRight m1 kind (entry_of at p) a.root o b
  leans_right m1 same (Leaf, r, w) h op = absurd (let k = w.left_is.height_is in omega arith)
  leans_right m1 same (Fork x j y, r, w) h op = (x, j, y, r, subst (λ (z : Blocks). LeansRight z kind (entry_of at p) a.root o b x j y r) (sym same) (leans_from_right x j y r w h op))

  pub joins_right : (m1 n : Blocks) (s : Sub) → m1 ≡ m → b.height + 1 < a.height → OpensAt m kind a.root o → TurnsRight m1 n kind (entry_of at p) a.root o b s → JoinsHeld m n kind (entry_of at p) a b s
  joins_right m1 n s same h op t Leaf r w = absurd (let k = w.left_is.height_is in omega arith)
  joins_right m1 n s same h op t (Fork x j y) r w =
      subst (λ (z : Blocks). Joined z kind (Fork x j y) (entry_of at p) r n s) same (t x j y r (subst (λ (z : Blocks). LeansRight z kind (entry_of at p) a.root o b x j y r) (sym same) (leans_from_right x j y r w h op)))
