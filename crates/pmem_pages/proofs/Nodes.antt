-- A node is read back from its block, and a block from its node.
use Rattle.std.proofs.Common.{◌≡◌, ℕ, zero, suc, ◌+◌, ◌≤◌, ◌<◌, min, List, [], ◌∷◌, ◌++◌, length, take, drop, get_or, refl, sym, ap, ◌∙◌, arith, length-drop, length-take, get_or-take, get_or-drop}
use Rattle.std.proofs.lemmas.List.{take_at, drop_at, take_all, drop-drop, take-append-drop}
use Rattle.std.proofs.lemmas.Nat.{be_bytes_2, be_bytes_4}
use Rattle.byteorder.specs.Endian.{big_bytes, big_number}
use Rattle.byteorder.specs.Numbers.{big_number-reads_back, length-bytes_high_first}
use Rattle.pmem_pages.specs.declared.node.Node.{Node}
use Rattle.pmem_pages.specs.Node.{node_bytes, node_of, IsNode, IsNodeBlock}
use Rattle.pmem_pages.proofs.Compared.{take_bytes}

-- what stands behind a part that stands from a place on
past : (bs xs ys : List ℕ) (n k m : ℕ) → drop n bs ≡ xs ++ ys → length xs ≡ k → m ≡ n + k → drop m bs ≡ ys
past bs xs ys n k m h l e = ap (λ (j : ℕ). drop j bs) e ∙ (sym (drop-drop k n bs) ∙ (ap (drop k) h ∙ drop_at xs ys k l))

module _ (kind : ℕ) (n : Node) (h : IsNode kind n) where
  all : List ℕ
  unfolding node_bytes
  all = node_bytes kind n

  abbrev keys : List ℕ
  keys = n.key.bytes ++ n.value.bytes

  at_2 : drop 2 (node_bytes kind n) ≡ big_bytes 2 n.key.len ++ (big_bytes 4 n.left ++ (big_bytes 4 n.right ++ keys))
  unfolding node_bytes
  at_2 = refl

  at_4 : drop 4 (node_bytes kind n) ≡ big_bytes 4 n.left ++ (big_bytes 4 n.right ++ keys)
  at_4 = past (node_bytes kind n) (big_bytes 2 n.key.len) _ 2 2 4 at_2 (length-bytes_high_first 2 n.key.len) refl

  at_8 : drop 8 (node_bytes kind n) ≡ big_bytes 4 n.right ++ keys
  at_8 = past (node_bytes kind n) (big_bytes 4 n.left) _ 4 4 8 at_4 (length-bytes_high_first 4 n.left) refl

  at_12 : drop 12 (node_bytes kind n) ≡ keys
  at_12 = past (node_bytes kind n) (big_bytes 4 n.right) _ 8 4 12 at_8 (length-bytes_high_first 4 n.right) refl

  at_76 : drop 76 (node_bytes kind n) ≡ n.value.bytes
  at_76 = past (node_bytes kind n) n.key.bytes _ 12 64 76 at_12 h.key.room refl

  height_again : get_or (node_bytes kind n) 1 0 ≡ n.height
  unfolding node_bytes
  height_again = refl

  len_again : min (big_number 2 (drop 2 (node_bytes kind n))) 64 ≡ n.key.len
  len_again =
      let e : big_number 2 (drop 2 (node_bytes kind n)) ≡ n.key.len = ap (big_number 2) at_2 ∙ big_number-reads_back 2 n.key.len (big_bytes 4 n.left ++ (big_bytes 4 n.right ++ keys)) (let f = h.key.fits in omega arith) in
      omega (arith, e, h.key.fits)

  left_again : big_number 4 (drop 4 (node_bytes kind n)) ≡ n.left
  left_again = ap (big_number 4) at_4 ∙ big_number-reads_back 4 n.left (big_bytes 4 n.right ++ keys) (let f = h.left in omega arith)

  right_again : big_number 4 (drop 8 (node_bytes kind n)) ≡ n.right
  right_again = ap (big_number 4) at_8 ∙ big_number-reads_back 4 n.right keys (let f = h.right in omega arith)

  key_again : take 64 (drop 12 (node_bytes kind n)) ≡ n.key.bytes
  key_again = ap (take 64) at_12 ∙ take_at n.key.bytes n.value.bytes 64 h.key.room

  value_again : take 180 (drop 76 (node_bytes kind n)) ≡ n.value.bytes
  value_again = ap (take 180) at_76 ∙ take_all 180 n.value.bytes (omega (arith, h.value.room))

  pub node_again : node_of kind (node_bytes kind n) ≡ n
  unfolding node_of
  node_again = λ i. record {
    height = height_again i;
    left = left_again i;
    right = right_again i;
    key = record { len = len_again i; bytes = key_again i };
    value = record { len = sym h.value.fits i; bytes = value_again i };
  }

-- what stands behind bytes are bytes
drop_bytes : (n : ℕ) (bs : List ℕ) → ((i : ℕ) → get_or bs i 0 < 256) → (i : ℕ) → get_or (drop n bs) i 0 < 256
drop_bytes n bs h i = rw (get_or-drop n bs i 0) (h (n + i))

two_back : (bs : List ℕ) → 2 ≤ length bs → ((i : ℕ) → get_or bs i 0 < 256) → big_bytes 2 (big_number 2 bs) ≡ take 2 bs
two_back bs l h =
    let a = get_or-take 2 bs 0 0 (omega arith) in
    let b = get_or-take 2 bs 1 0 (omega arith) in
    be_bytes_2 (take 2 bs) (big_number 2 bs) (length-take 2 bs ∙ omega arith) (take_bytes 2 bs h) (omega (arith, a, b))

four_back : (bs : List ℕ) → 4 ≤ length bs → ((i : ℕ) → get_or bs i 0 < 256) → big_bytes 4 (big_number 4 bs) ≡ take 4 bs
four_back bs l h =
    let a = get_or-take 4 bs 0 0 (omega arith) in
    let b = get_or-take 4 bs 1 0 (omega arith) in
    let c = get_or-take 4 bs 2 0 (omega arith) in
    let d = get_or-take 4 bs 3 0 (omega arith) in
    be_bytes_4 (take 4 bs) (big_number 4 bs) (length-take 4 bs ∙ omega arith) (take_bytes 4 bs h) (omega (arith, a, b, c, d))

-- a part and what stands behind it
joined : (k n m : ℕ) (bs : List ℕ) → m ≡ n + k → take k (drop n bs) ++ drop m bs ≡ drop n bs
joined k n m bs e = ap (λ (z : List ℕ). take k (drop n bs) ++ z) (ap (λ (j : ℕ). drop j bs) e ∙ sym (drop-drop k n bs)) ∙ take-append-drop k (drop n bs)

fronted : (bs : List ℕ) → 2 ≤ length bs → get_or bs 0 0 ∷ get_or bs 1 0 ∷ drop 2 bs ≡ bs
fronted [] h = absurd (omega arith)
fronted (a ∷ []) h = absurd (omega arith)
fronted (a ∷ b ∷ bs) h = refl

-- two parts that are the parts of a whole
parts : (x a y b whole : List ℕ) → x ≡ a → y ≡ b → a ++ b ≡ whole → x ++ y ≡ whole
parts x a y b whole p q r = ap (λ (z : List ℕ). z ++ y) p ∙ (ap (λ (z : List ℕ). a ++ z) q ∙ r)

pub node_back : (kind : ℕ) (bs : List ℕ) → IsNodeBlock kind bs → node_bytes kind (node_of kind bs) ≡ bs
unfolding node_of node_bytes
node_back kind bs h =
    let room = λ (n : ℕ). length-drop n bs in
    let fit : min (big_number 2 (drop 2 bs)) 64 ≡ big_number 2 (drop 2 bs) = omega (arith, h.key_fits) in
    let len = two_back (drop 2 bs) (omega (arith, room 2, h.room)) (drop_bytes 2 bs h.are_bytes) in
    let left = four_back (drop 4 bs) (omega (arith, room 4, h.room)) (drop_bytes 4 bs h.are_bytes) in
    let right = four_back (drop 8 bs) (omega (arith, room 8, h.room)) (drop_bytes 8 bs h.are_bytes) in
    let value : take 180 (drop 76 bs) ≡ drop 76 bs = take_all 180 (drop 76 bs) (omega (arith, room 76, h.room)) in
    let from_12 = parts (take 64 (drop 12 bs)) _ (take 180 (drop 76 bs)) _ (drop 12 bs) refl value (joined 64 12 76 bs refl) in
    let from_8 = parts (big_bytes 4 (big_number 4 (drop 8 bs))) _ _ _ (drop 8 bs) right from_12 (joined 4 8 12 bs refl) in
    let from_4 = parts (big_bytes 4 (big_number 4 (drop 4 bs))) _ _ _ (drop 4 bs) left from_8 (joined 4 4 8 bs refl) in
    let from_2 = parts (big_bytes 2 (min (big_number 2 (drop 2 bs)) 64)) _ _ _ (drop 2 bs) (ap (big_bytes 2) fit ∙ len) from_4 (joined 2 2 4 bs refl) in
    ap (λ (z : List ℕ). kind ∷ get_or bs 1 0 ∷ z) from_2 ∙ (ap (λ (k : ℕ). k ∷ get_or bs 1 0 ∷ drop 2 bs) (sym h.kind_is) ∙ fronted bs (omega (arith, h.room)))
