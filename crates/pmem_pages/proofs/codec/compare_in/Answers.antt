use Rattle.std.proofs.Common.{◌≡◌, ◌∙◌, ◌≤◌, ℕ, List, min, take, drop, length, length-drop, ap, arith, refl, sym, rules}
use Rattle.std.specs.Cmp.Lexicographic.{slice_cmp}
use Rattle.std.specs.Ordering.{nat_cmp, ordering_then}
use Rattle.std.specs.declared.cmp.Ordering.{Ordering}
use Rattle.byteorder.specs.Endian.{big_number}
use Rattle.pmem_pages.specs.Node.{key_cmp, key_text, node_of}
use Rattle.pmem_pages.specs.declared.node.TreeKey.{TreeKey}
use Rattle.pmem_pages.proofs.Compared.{decided, take_of_take}
use Rattle.pmem_pages.proofs.codec.compare_in.Goals as goal

-- by the bytes of the key that a block says
said : (kind : ℕ) (k : TreeKey) (len : ℕ) (bs : List ℕ) → len ≡ min (big_number 2 (drop 2 bs)) 64 → key_cmp k (node_of kind bs).key ≡ slice_cmp nat_cmp (key_text k) (take len (drop 12 bs))
unfolding key_cmp node_of
said kind k len bs h = ap (slice_cmp nat_cmp (key_text k)) (ap (λ (n : ℕ). take n (take 64 (drop 12 bs))) (sym h) ∙ take_of_take len 64 (drop 12 bs) (omega arith))

pub returns-then-key-lt8 : goal.returns-then-key-lt8
returns-then-key-lt8 c kind = c.compare_bytes_in.ensures ∙ sym (said kind c.args.key.now _ c.args.block.now (search rules))

pub returns-in-Equal : goal.returns-in-Equal
returns-in-Equal c kind = c.compare_bytes_in-in-Equal.ensures ∙ sym (said kind c.args.key.now _ c.args.block.now (search rules))

-- by the first eight of both
first_eight : (k : TreeKey) (len : ℕ) (bs : List ℕ) (o : Ordering) → ((p : Ordering) → ordering_then o p ≡ o) → slice_cmp nat_cmp (take 8 k.bytes) (take 8 (take 244 (drop 12 bs))) ≡ o → 8 ≤ k.len → 8 ≤ len → 8 ≤ length k.bytes → length bs ≡ 256 → o ≡ slice_cmp nat_cmp (key_text k) (take len (drop 12 bs))
first_eight k len bs o first is hk hl lk lb = decided 8 k.len len k.bytes (drop 12 bs) o first (ap (slice_cmp nat_cmp (take 8 k.bytes)) (sym (take_of_take 8 244 (drop 12 bs) (omega arith))) ∙ is) hk hl lk (omega (arith, length-drop 12 bs))

pub returns-in-Less : goal.returns-in-Less
returns-in-Less c kind = first_eight c.args.key.now c.min-len.result c.args.block.now _ (λ p. refl) (sym c.compare_heads.ensures ∙ c.in-Less.is) c.if-key-lt8.false c.if-len-lt8.false (search rules) (search rules) ∙ sym (said kind c.args.key.now _ c.args.block.now (search rules))

pub returns-in-Greater : goal.returns-in-Greater
returns-in-Greater c kind = first_eight c.args.key.now c.min-len.result c.args.block.now _ (λ p. refl) (sym c.compare_heads.ensures ∙ c.in-Greater.is) c.if-key-lt8.false c.if-len-lt8.false (search rules) (search rules) ∙ sym (said kind c.args.key.now _ c.args.block.now (search rules))
