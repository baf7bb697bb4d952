-- Two trees and an entry between them, as they are and turned.
use Rattle.std.proofs.Common.{◌≡◌, ℕ, ◌+◌, ◌≤◌, ◌<◌, ◌∷◌, ◌++◌, refl, sym, arith, append_assoc}
use Rattle.pmem_pages.specs.Blocks.{Blocks}
use Rattle.pmem_pages.specs.Shape.{Entry, Shape, Fork, height, entries, with_node, Stands, Near}
use Rattle.pmem_pages.proofs.Lists.{count_own, count_parts}
use Rattle.pmem_tree_base.proofs.Staged.{put_stands, fork_stands, keeps_put, keeps_both}
use Rattle.pmem_tree_base.specs.Join.{Parts, Joins}

-- as they are
pub plain : (m : Blocks) (kind : ℕ) (l : Shape) (e : Entry) (r : Shape) → Parts m kind l e r → Near 1 (height l) (height r) → Joins m kind l e r (with_node m kind l e r) (Fork l e r)
plain m kind l e r p n =
    let a = p.apart e.block in
    let own = count_own e in
    let all = count_parts e.block (entries l) e (entries r) in
    record {
      stands = fork_stands m kind l e r p.left p.right p.entry (omega arith) (omega arith);
      same = refl;
      balanced = (n, p.balanced_left, p.balanced_right);
      lower = omega arith;
      upper = omega arith;
      plain = λ _. refl;
      left_leant = λ far _. absurd (omega arith);
      right_leant = λ far _. absurd (omega arith);
      keeps = keeps_put m e.block _ (entries l ++ e ∷ entries r) (omega arith);
    }

-- the left tree is two higher, and its outer side is no lower than its inner one: one rotation
pub turn_right : (m : Blocks) (kind : ℕ) (x : Shape) (j : Entry) (y : Shape) (e : Entry) (r : Shape) → Parts m kind (Fork x j y) e r → height (Fork x j y) ≡ height r + 2 → height y ≤ height x → Joins m kind (Fork x j y) e r (with_node (with_node m kind y e r) kind x j (Fork y e r)) (Fork x j (Fork y e r))
turn_right m kind x j y e r p two outer =
    let low = Fork y e r in
    let m1 = with_node m kind y e r in
    let all = λ (q : ℕ). count_parts q (entries (Fork x j y)) e (entries r) in
    let part = λ (q : ℕ). count_parts q (entries x) j (entries y) in
    let inner = λ (q : ℕ). count_parts q (entries y) e (entries r) in
    let once = p.apart in
    let own_e = count_own e in
    let own_j = count_own j in
    let b = p.balanced_left in
    let n = b.0 in
    let s1 : Stands m1 kind low = fork_stands m kind y e r p.left.2 p.right p.entry (omega (arith, once e.block, all e.block, part e.block)) (omega (arith, once e.block, all e.block, part e.block)) in
    let s2 : Stands m1 kind x = put_stands m kind e.block _ x (omega (arith, once e.block, all e.block, part e.block)) p.left.1 in
    record {
      stands = fork_stands m1 kind x j low s2 s1 p.left.0.entry (omega (arith, once j.block, all j.block, part j.block)) (omega (arith, once j.block, all j.block, part j.block, inner j.block));
      same = sym (append_assoc (entries x) (j ∷ entries y) (e ∷ entries r));
      balanced = (record { left = omega arith; right = omega arith }, b.1, (record { left = omega arith; right = omega arith }, b.2, p.balanced_right));
      lower = omega arith;
      upper = omega arith;
      plain = λ near. absurd (let h = near.left in omega arith);
      left_leant = λ far leans. omega (arith, leans);
      right_leant = λ far leans. absurd (omega arith);
      keeps = keeps_both m m1 _ _ (keeps_put m e.block _ _ (omega (arith, all e.block))) (keeps_put m1 j.block _ _ (omega (arith, all j.block, part j.block)));
    }

-- .. and its inner side is higher: two rotations
pub twice_right : (m : Blocks) (kind : ℕ) (x : Shape) (j : Entry) (u : Shape) (i : Entry) (v : Shape) (e : Entry) (r : Shape) → Parts m kind (Fork x j (Fork u i v)) e r → height (Fork x j (Fork u i v)) ≡ height r + 2 → height x < height (Fork u i v) → Joins m kind (Fork x j (Fork u i v)) e r (with_node (with_node (with_node m kind x j u) kind v e r) kind (Fork x j u) i (Fork v e r)) (Fork (Fork x j u) i (Fork v e r))
twice_right m kind x j u i v e r p two inner_high =
    let left = Fork x j u in
    let right = Fork v e r in
    let m1 = with_node m kind x j u in
    let m2 = with_node m1 kind v e r in
    let all = λ (q : ℕ). count_parts q (entries (Fork x j (Fork u i v))) e (entries r) in
    let part = λ (q : ℕ). count_parts q (entries x) j (entries (Fork u i v)) in
    let mid = λ (q : ℕ). count_parts q (entries u) i (entries v) in
    let of_left = λ (q : ℕ). count_parts q (entries x) j (entries u) in
    let of_right = λ (q : ℕ). count_parts q (entries v) e (entries r) in
    let once = p.apart in
    let own_e = count_own e in
    let own_j = count_own j in
    let own_i = count_own i in
    let b = p.balanced_left in
    let n = b.0 in
    let k = b.2.0 in
    let s1 : Stands m1 kind left = fork_stands m kind x j u p.left.1 p.left.2.1 p.left.0.entry (omega (arith, once j.block, all j.block, part j.block, mid j.block)) (omega (arith, once j.block, all j.block, part j.block, mid j.block)) in
    let v1 : Stands m1 kind v = put_stands m kind j.block _ v (omega (arith, once j.block, all j.block, part j.block, mid j.block)) p.left.2.2 in
    let r1 : Stands m1 kind r = put_stands m kind j.block _ r (omega (arith, once j.block, all j.block, part j.block, mid j.block)) p.right in
    let s2 : Stands m2 kind right = fork_stands m1 kind v e r v1 r1 p.entry (omega (arith, once e.block, all e.block, part e.block, mid e.block)) (omega (arith, once e.block, all e.block, part e.block, mid e.block)) in
    let t2 : Stands m2 kind left = put_stands m1 kind e.block _ left (omega (arith, once e.block, all e.block, part e.block, mid e.block, of_left e.block)) s1 in
    record {
      stands = fork_stands m2 kind left i right t2 s2 p.left.2.0.entry (omega (arith, once i.block, all i.block, part i.block, mid i.block, of_left i.block)) (omega (arith, once i.block, all i.block, part i.block, mid i.block, of_right i.block));
      same = simp append_assoc;
      balanced = (record { left = omega arith; right = omega arith }, (record { left = omega arith; right = omega arith }, b.1, b.2.1), (record { left = omega arith; right = omega arith }, b.2.2, p.balanced_right));
      lower = omega arith;
      upper = omega arith;
      plain = λ near. absurd (let h = near.left in omega arith);
      left_leant = λ far leans. omega arith;
      right_leant = λ far leans. absurd (omega arith);
      keeps = keeps_both m m2 _ _ (keeps_both m m1 m2 _ (keeps_put m j.block _ _ (omega (arith, all j.block, part j.block))) (keeps_put m1 e.block _ _ (omega (arith, all e.block)))) (keeps_put m2 i.block _ _ (omega (arith, all i.block, part i.block, mid i.block)));
    }

-- the right tree is two higher, and its outer side is no lower than its inner one
pub turn_left : (m : Blocks) (kind : ℕ) (l : Shape) (e : Entry) (y : Shape) (j : Entry) (x : Shape) → Parts m kind l e (Fork y j x) → height (Fork y j x) ≡ height l + 2 → height y ≤ height x → Joins m kind l e (Fork y j x) (with_node (with_node m kind l e y) kind (Fork l e y) j x) (Fork (Fork l e y) j x)
turn_left m kind l e y j x p two outer =
    let low = Fork l e y in
    let m1 = with_node m kind l e y in
    let all = λ (q : ℕ). count_parts q (entries l) e (entries (Fork y j x)) in
    let part = λ (q : ℕ). count_parts q (entries y) j (entries x) in
    let inner = λ (q : ℕ). count_parts q (entries l) e (entries y) in
    let once = p.apart in
    let own_e = count_own e in
    let own_j = count_own j in
    let b = p.balanced_right in
    let n = b.0 in
    let s1 : Stands m1 kind low = fork_stands m kind l e y p.left p.right.1 p.entry (omega (arith, once e.block, all e.block, part e.block)) (omega (arith, once e.block, all e.block, part e.block)) in
    let s2 : Stands m1 kind x = put_stands m kind e.block _ x (omega (arith, once e.block, all e.block, part e.block)) p.right.2 in
    record {
      stands = fork_stands m1 kind low j x s1 s2 p.right.0.entry (omega (arith, once j.block, all j.block, part j.block, inner j.block)) (omega (arith, once j.block, all j.block, part j.block));
      same = append_assoc (entries l) (e ∷ entries y) (j ∷ entries x);
      balanced = (record { left = omega arith; right = omega arith }, (record { left = omega arith; right = omega arith }, p.balanced_left, b.1), b.2);
      lower = omega arith;
      upper = omega arith;
      plain = λ near. absurd (let h = near.right in omega arith);
      left_leant = λ far leans. absurd (omega arith);
      right_leant = λ far leans. omega (arith, leans);
      keeps = keeps_both m m1 _ _ (keeps_put m e.block _ _ (omega (arith, all e.block))) (keeps_put m1 j.block _ _ (omega (arith, all j.block, part j.block)));
    }

-- .. and its inner side is higher
pub twice_left : (m : Blocks) (kind : ℕ) (l : Shape) (e : Entry) (u : Shape) (i : Entry) (v : Shape) (j : Entry) (x : Shape) → Parts m kind l e (Fork (Fork u i v) j x) → height (Fork (Fork u i v) j x) ≡ height l + 2 → height x < height (Fork u i v) → Joins m kind l e (Fork (Fork u i v) j x) (with_node (with_node (with_node m kind l e u) kind v j x) kind (Fork l e u) i (Fork v j x)) (Fork (Fork l e u) i (Fork v j x))
twice_left m kind l e u i v j x p two inner_high =
    let left = Fork l e u in
    let right = Fork v j x in
    let m1 = with_node m kind l e u in
    let m2 = with_node m1 kind v j x in
    let all = λ (q : ℕ). count_parts q (entries l) e (entries (Fork (Fork u i v) j x)) in
    let part = λ (q : ℕ). count_parts q (entries (Fork u i v)) j (entries x) in
    let mid = λ (q : ℕ). count_parts q (entries u) i (entries v) in
    let of_left = λ (q : ℕ). count_parts q (entries l) e (entries u) in
    let of_right = λ (q : ℕ). count_parts q (entries v) j (entries x) in
    let once = p.apart in
    let own_e = count_own e in
    let own_j = count_own j in
    let own_i = count_own i in
    let b = p.balanced_right in
    let n = b.0 in
    let k = b.1.0 in
    let s1 : Stands m1 kind left = fork_stands m kind l e u p.left p.right.1.1 p.entry (omega (arith, once e.block, all e.block, part e.block, mid e.block)) (omega (arith, once e.block, all e.block, part e.block, mid e.block)) in
    let v1 : Stands m1 kind v = put_stands m kind e.block _ v (omega (arith, once e.block, all e.block, part e.block, mid e.block)) p.right.1.2 in
    let x1 : Stands m1 kind x = put_stands m kind e.block _ x (omega (arith, once e.block, all e.block, part e.block, mid e.block)) p.right.2 in
    let s2 : Stands m2 kind right = fork_stands m1 kind v j x v1 x1 p.right.0.entry (omega (arith, once j.block, all j.block, part j.block, mid j.block)) (omega (arith, once j.block, all j.block, part j.block, mid j.block)) in
    let t2 : Stands m2 kind left = put_stands m1 kind j.block _ left (omega (arith, once j.block, all j.block, part j.block, mid j.block, of_left j.block)) s1 in
    record {
      stands = fork_stands m2 kind left i right t2 s2 p.right.1.0.entry (omega (arith, once i.block, all i.block, part i.block, mid i.block, of_left i.block)) (omega (arith, once i.block, all i.block, part i.block, mid i.block, of_right i.block));
      same = simp append_assoc;
      balanced = (record { left = omega arith; right = omega arith }, (record { left = omega arith; right = omega arith }, p.balanced_left, b.1.1), (record { left = omega arith; right = omega arith }, b.1.2, b.2));
      lower = omega arith;
      upper = omega arith;
      plain = λ near. absurd (let h = near.right in omega arith);
      left_leant = λ far leans. absurd (omega arith);
      right_leant = λ far leans. omega arith;
      keeps = keeps_both m m2 _ _ (keeps_both m m1 m2 _ (keeps_put m e.block _ _ (omega (arith, all e.block))) (keeps_put m1 j.block _ _ (omega (arith, all j.block, part j.block)))) (keeps_put m2 i.block _ _ (omega (arith, all i.block, part i.block, mid i.block)));
    }
