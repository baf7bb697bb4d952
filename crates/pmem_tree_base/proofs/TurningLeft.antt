-- What staged nodes make of trees of which the right one is two higher.
use Rattle.std.proofs.Common.{◌≡◌, ℕ, ◌+◌, ◌≤◌, ◌<◌, max, Some, sym, ap, ◌∙◌, subst, arith, ◌⊎◌, inl, inr}
use Rattle.pmem_pages.specs.Blocks.{Blocks, Budget, put, IsTaken, IsSpent}
use Rattle.pmem_pages.specs.declared.node.Pair.{Pair}
use Rattle.pmem_pages.specs.Node.{node_bytes}
use Rattle.pmem_pages.specs.Shape.{Entry, Shape, Leaf, Fork, with_node}
use Rattle.pmem_tree_base.specs.declared.read.Opened.{Opened}
use Rattle.pmem_tree_base.specs.declared.read.Sub.{Sub}
use Rattle.pmem_tree_base.specs.Nodes.{SomeNode, entry_of, node_between, OpensAt}
use Rattle.pmem_tree_base.proofs.Staged.{staged, sub_of}
use Rattle.pmem_tree_base.specs.Join.{Parts, Joins, Held, SomeHeld, Joined, JoinsHeld, LeansLeft, SomeLeansLeft, TurnsLeft}
use Rattle.pmem_tree_base.proofs.Joins.{turn_left, twice_left}

module _ (m : Blocks) (kind at : ℕ) (p : Pair) (a : Sub) (top : ℕ) (o : Opened) where
  pub at_left : SomeLeansLeft m kind (entry_of at p) a top o → IsTaken m at
  at_left w = w.4.parts.taken

  pub top_left : SomeLeansLeft m kind (entry_of at p) a top o → IsTaken m top
  top_left w = record { bytes = _; holds = ap m (sym (ap (λ (z : Entry). z.block) w.4.opens.entry_is)) ∙ w.4.parts.right.0.block }

  module _ (m1 n : Blocks) (low s : Sub)
      (e1 : m1 ≡ put m at (Some (node_bytes kind (node_between p a o.left)))) (r1 : low.root ≡ at) (h1 : low.height ≡ max a.height o.left.height + 1)
      (e2 : n ≡ put m1 top (Some (node_bytes kind (node_between o.pair low o.right)))) (r2 : s.root ≡ top) (h2 : s.height ≡ max low.height o.right.height + 1)
      (outer : o.left.height ≤ o.right.height) where
    pub turned_left : TurnsLeft m n kind (entry_of at p) a top o s
    turned_left l y j x w =
        let e = entry_of at p in
        let k = entry_of top o.pair in
        let parts = subst (λ (z : Entry). Parts m kind l e (Fork y z x)) w.opens.entry_is w.parts in
        let i1 = sub_of low at p a o.left l y r1 h1 w.left_is w.opens.left_is in
        let t1 = staged m m1 kind at p a o.left l y e1 w.left_is w.opens.left_is in
        let t2 = staged m1 n kind top o.pair low o.right (Fork l e y) x e2 i1 w.opens.right_is in
        let all : n ≡ with_node (with_node m kind l e y) kind (Fork l e y) k x = t2 ∙ ap (λ (z : Blocks). with_node z kind (Fork l e y) k x) t1 in
        let hy = w.opens.left_is.height_is in
        let hx = w.opens.right_is.height_is in
        subst (λ (z : Entry). Joined m kind l e (Fork y z x) n s) (sym w.opens.entry_is) (record {
          tree = Fork (Fork l e y) k x;
          is_sub = sub_of s top o.pair low o.right (Fork l e y) x r2 h2 i1 w.opens.right_is;
          joins = subst (λ (z : Blocks). Joins m kind l e (Fork y k x) z (Fork (Fork l e y) k x)) (sym all) (turn_left m kind l e y k x parts w.two_higher (omega arith));
        })

  pub low_left : SomeLeansLeft m kind (entry_of at p) a top o → (low : ℕ) (b0 b1 : Budget) → low ≡ max a.height o.left.height + 1 → IsSpent 1 256 b0 b1 → (b1.ranges < 1) ⊎ ((b1.bytes < 256) ⊎ (255 ≤ max low o.right.height)) → (b0.ranges < 2) ⊎ (b0.bytes < 512)
  low_left w low b0 b1 h s u =
      let hy = w.4.opens.left_is.height_is in
      let hx = w.4.opens.right_is.height_is in
      let hl = w.4.left_is.height_is in
      let l = w.4.parts.low in
      let two = w.4.two_higher in
      let rm = s.ranges_most in
      let bm = s.bytes_most in
      elim u [
        | inl k ↦ inl (omega arith)
        | inr u ↦ elim u [ inl k ↦ inr (omega arith) | inr k ↦ absurd (omega arith) ]
      ]

  pub first_left : SomeLeansLeft m kind (entry_of at p) a top o → (b0 : Budget) → (b0.ranges < 1) ⊎ ((b0.bytes < 256) ⊎ (255 ≤ max a.height o.left.height)) → (b0.ranges < 2) ⊎ (b0.bytes < 512)
  first_left w b0 u =
      let hy = w.4.opens.left_is.height_is in
      let hl = w.4.left_is.height_is in
      let l = w.4.parts.low in
      let two = w.4.two_higher in
      elim u [
        | inl k ↦ inl (omega arith)
        | inr u ↦ elim u [ inl k ↦ inr (omega arith) | inr k ↦ absurd (omega arith) ]
      ]

-- .. and higher on its inner side, which was opened
module _ (m : Blocks) (kind at : ℕ) (p : Pair) (a : Sub) (top : ℕ) (o i : Opened) where
  pub inner_left : SomeLeansLeft m kind (entry_of at p) a top o → o.right.height < o.left.height → SomeNode m kind o.left.root
  inner_left (l, Leaf, j, x, w) h = absurd (let k = w.opens.left_is.height_is in omega arith)
  inner_left (l, Fork u f v, j, x, w) h = (u, f, v, record { at_is = w.opens.left_is.root_is; stands = w.parts.right.1 })

  module _ (m1 m2 n : Blocks) (first second s : Sub) (opens : OpensAt m kind o.left.root i)
      (e1 : m1 ≡ put m at (Some (node_bytes kind (node_between p a i.left)))) (r1 : first.root ≡ at) (h1 : first.height ≡ max a.height i.left.height + 1)
      (e2 : m2 ≡ put m1 top (Some (node_bytes kind (node_between o.pair i.right o.right)))) (r2 : second.root ≡ top) (h2 : second.height ≡ max i.right.height o.right.height + 1)
      (e3 : n ≡ put m2 o.left.root (Some (node_bytes kind (node_between i.pair first second)))) (r3 : s.root ≡ o.left.root) (h3 : s.height ≡ max first.height second.height + 1)
      (inner : o.right.height < o.left.height) where
    pub turned_twice_left : TurnsLeft m n kind (entry_of at p) a top o s
    turned_twice_left l Leaf j x w = absurd (let k = w.opens.left_is.height_is in omega arith)
    turned_twice_left l (Fork u f v) j x w =
        let e = entry_of at p in
        let k = entry_of top o.pair in
        let g = entry_of o.left.root i.pair in
        let op = opens u f v (record { at_is = w.opens.left_is.root_is; stands = w.parts.right.1 }) in
        let parts = subst (λ (z : Entry). Parts m kind l e (Fork (Fork u f v) z x)) w.opens.entry_is w.parts in
        let parts2 = subst (λ (z : Entry). Parts m kind l e (Fork (Fork u z v) k x)) op.entry_is parts in
        let i1 = sub_of first at p a i.left l u r1 h1 w.left_is op.left_is in
        let i2 = sub_of second top o.pair i.right o.right v x r2 h2 op.right_is w.opens.right_is in
        let t1 = staged m m1 kind at p a i.left l u e1 w.left_is op.left_is in
        let t2 = staged m1 m2 kind top o.pair i.right o.right v x e2 op.right_is w.opens.right_is in
        let t3 = staged m2 n kind o.left.root i.pair first second (Fork l e u) (Fork v k x) e3 i1 i2 in
        let all : n ≡ with_node (with_node (with_node m kind l e u) kind v k x) kind (Fork l e u) g (Fork v k x) = t3 ∙ ap (λ (z : Blocks). with_node z kind (Fork l e u) g (Fork v k x)) (t2 ∙ ap (λ (z : Blocks). with_node z kind v k x) t1) in
        let hy = w.opens.left_is.height_is in
        let hx = w.opens.right_is.height_is in
        subst (λ (z : Entry). Joined m kind l e (Fork (Fork u f v) z x) n s) (sym w.opens.entry_is) (subst (λ (z : Entry). Joined m kind l e (Fork (Fork u z v) k x) n s) (sym op.entry_is) (record {
          tree = Fork (Fork l e u) g (Fork v k x);
          is_sub = sub_of s o.left.root i.pair first second (Fork l e u) (Fork v k x) r3 h3 i1 i2;
          joins = subst (λ (z : Blocks). Joins m kind l e (Fork (Fork u g v) k x) z (Fork (Fork l e u) g (Fork v k x))) (sym all) (twice_left m kind l e u g v k x parts2 w.two_higher (omega arith));
        }))

  -- a refusal, for want of ranges or bytes alone: the heights fit
  pub few_left : SomeLeansLeft m kind (entry_of at p) a top o → o.right.height < o.left.height → OpensAt m kind o.left.root i → (first second : ℕ) (b0 b1 b2 : Budget) → first ≡ max a.height i.left.height + 1 → second ≡ max i.right.height o.right.height + 1 → IsSpent 1 256 b0 b1 → IsSpent 1 256 b1 b2 → (b2.ranges < 1) ⊎ ((b2.bytes < 256) ⊎ (255 ≤ max first second)) → (b0.ranges < 3) ⊎ (b0.bytes < 768)
  few_left (l, Leaf, j, x, w) h op first second b0 b1 b2 h1 h2 s1 s2 t = absurd (let k = w.opens.left_is.height_is in omega arith)
  few_left (l, Fork u f v, j, x, w) h op first second b0 b1 b2 h1 h2 s1 s2 t =
      let q = op u f v (record { at_is = w.opens.left_is.root_is; stands = w.parts.right.1 }) in
      let hy = w.opens.left_is.height_is in
      let hx = w.opens.right_is.height_is in
      let hl = w.left_is.height_is in
      let hu = q.left_is.height_is in
      let hv = q.right_is.height_is in
      let lo = w.parts.low in
      let two = w.two_higher in
      let ra = s1.ranges_most in
      let rb = s2.ranges_most in
      let ba = s1.bytes_most in
      let bb = s2.bytes_most in
      elim t [
        | inl k ↦ inl (omega arith)
        | inr t ↦ elim t [ inl k ↦ inr (omega arith) | inr k ↦ absurd (omega arith) ]
      ]

  pub few_left_1 : SomeLeansLeft m kind (entry_of at p) a top o → o.right.height < o.left.height → OpensAt m kind o.left.root i → (b0 : Budget) → (b0.ranges < 1) ⊎ ((b0.bytes < 256) ⊎ (255 ≤ max a.height i.left.height)) → (b0.ranges < 3) ⊎ (b0.bytes < 768)
  few_left_1 (l, Leaf, j, x, w) h op b0 t = absurd (let k = w.opens.left_is.height_is in omega arith)
  few_left_1 (l, Fork u f v, j, x, w) h op b0 t =
      let q = op u f v (record { at_is = w.opens.left_is.root_is; stands = w.parts.right.1 }) in
      let hy = w.opens.left_is.height_is in
      let hl = w.left_is.height_is in
      let hu = q.left_is.height_is in
      let lo = w.parts.low in
      let two = w.two_higher in
      elim t [
        | inl k ↦ inl (omega arith)
        | inr t ↦ elim t [ inl k ↦ inr (omega arith) | inr k ↦ absurd (omega arith) ]
      ]

  pub few_left_2 : SomeLeansLeft m kind (entry_of at p) a top o → o.right.height < o.left.height → OpensAt m kind o.left.root i → (b0 b1 : Budget) → IsSpent 1 256 b0 b1 → (b1.ranges < 1) ⊎ ((b1.bytes < 256) ⊎ (255 ≤ max i.right.height o.right.height)) → (b0.ranges < 3) ⊎ (b0.bytes < 768)
  few_left_2 (l, Leaf, j, x, w) h op b0 b1 s1 t = absurd (let k = w.opens.left_is.height_is in omega arith)
  few_left_2 (l, Fork u f v, j, x, w) h op b0 b1 s1 t =
      let q = op u f v (record { at_is = w.opens.left_is.root_is; stands = w.parts.right.1 }) in
      let hy = w.opens.left_is.height_is in
      let hx = w.opens.right_is.height_is in
      let hv = q.right_is.height_is in
      let lo = w.parts.low in
      let two = w.two_higher in
      let ra = s1.ranges_most in
      let ba = s1.bytes_most in
      elim t [
        | inl k ↦ inl (omega arith)
        | inr t ↦ elim t [ inl k ↦ inr (omega arith) | inr k ↦ absurd (omega arith) ]
      ]

-- the right tree of two is opened
module _ (m : Blocks) (kind at : ℕ) (p : Pair) (a b : Sub) (o : Opened) where
  pub higher_node_left : SomeHeld m kind (entry_of at p) a b → a.height + 1 < b.height → SomeNode m kind b.root
  higher_node_left (l, Leaf, w) h = absurd (let k = w.right_is.height_is in omega arith)
  higher_node_left (l, Fork y j x, w) h = (y, j, x, record { at_is = w.right_is.root_is; stands = w.parts.right })

  leans_from_left : (l y : Shape) (j : Entry) (x : Shape) → Held m kind (entry_of at p) a b l (Fork y j x) → a.height + 1 < b.height → OpensAt m kind b.root o → LeansLeft m kind (entry_of at p) a b.root o l y j x
  leans_from_left l y j x w h op =
      let hl = w.left_is.height_is in
      let hr = w.right_is.height_is in
      let n = w.parts.near.right in
      record {
        opens = op y j x (record { at_is = w.right_is.root_is; stands = w.parts.right });
        left_is = w.left_is;
        parts = w.parts;
        two_higher = omega arith;
      }

  pub leans_left : (m1 : Blocks) → m1 ≡ m → SomeHeld m kind (entry_of at p) a b → a.height + 1 < b.height → OpensAt m kind b.root o → SomeLeansLeft m1 kind (entry_of at p) a b.root o
  leans_left m1 same (l, Leaf, w) h op = absurd (let k = w.right_is.height_is in omega arith)
  leans_left m1 same (l, Fork y j x, w) h op = (l, y, j, x, subst (λ (z : Blocks). LeansLeft z kind (entry_of at p) a b.root o l y j x) (sym same) (leans_from_left l y j x w h op))

  pub joins_left : (m1 n : Blocks) (s : Sub) → m1 ≡ m → a.height + 1 < b.height → OpensAt m kind b.root o → TurnsLeft m1 n kind (entry_of at p) a b.root o s → JoinsHeld m n kind (entry_of at p) a b s
  joins_left m1 n s same h op t l Leaf w = absurd (let k = w.right_is.height_is in omega arith)
  joins_left m1 n s same h op t l (Fork y j x) w =
      subst (λ (z : Blocks). Joined z kind l (entry_of at p) (Fork y j x) n s) same (t l y j x (subst (λ (z : Blocks). LeansLeft z kind (entry_of at p) a b.root o l y j x) (sym same) (leans_from_left l y j x w h op)))
