-- A list that is written, and one that is given back.
use Rattle.std.proofs.Common.{◌≡◌, ◌≢◌, ℕ, zero, suc, ◌+◌, ◌-◌, ◌*◌, ◌≤◌, ◌<◌, ◌^◌, min, List, [], ◌∷◌, ◌++◌, length, take, drop, get_or, Some, None, refl, sym, ap, ◌∙◌, subst, arith, inl, inr, append_assoc}
use Rattle.std.specs.Int.{div_ceil}
use Rattle.std.specs.List.{list_all}
use Rattle.std.proofs.lemmas.Bool.Decides.{eqb_tells}
use Rattle.std.proofs.lemmas.List.{append-nil, drop_all, length-append, length-drop}
use Rattle.byteorder.specs.Endian.{big_bytes, big_number}
use Rattle.byteorder.specs.Numbers.{big_number-reads_back, length-bytes_high_first}
use Rattle.pmem_pages.specs.Blocks.{Blocks, put}
use Rattle.pmem_pages.specs.Counts.{at_most, times_none, times_one, times_other}
use Rattle.pmem_pages.specs.Owners.{Changed, maybe, times}
use Rattle.vos_values.specs.Fields.{padded}
use Rattle.vos_values.specs.Links.{is_zero, link_bytes, next_in}
use Rattle.vos_values.proofs.Reading.{chosen_again, length_padded}
use Rattle.vos_versions.specs.vos_chain.Chains.{Chain, Links, chain_owner, first_of}
use Rattle.vos_versions.specs.vos_chain.Made.{chain_blocks}
use Rattle.vos_versions.proofs.vos_chain.Reading.{FirstLeft, Left, left_first, left_none, left_whole}
use Rattle.vos_entries.specs.Entries.{list_bytes}
use Rattle.vos_entries.specs.Lists.{IsListAt}

-- ---- the bytes of numbers

pub length_list : (ns : List ℕ) → length (list_bytes ns) ≡ 4 * length ns
length_list [] = refl
length_list (n ∷ ns) = omega (arith, length-append (big_bytes 4 n) (list_bytes ns), length-bytes_high_first 4 n, length_list ns)

one_more : (i : ℕ) (ns : List ℕ) → i < length ns → list_bytes (take (suc i) ns) ≡ list_bytes (take i ns) ++ big_bytes 4 (get_or ns i 0)
one_more i [] low = absurd (omega (arith, low))
one_more zero (n ∷ ns) low = append-nil (big_bytes 4 n)
one_more (suc i) (n ∷ ns) low = ap (λ z. big_bytes 4 n ++ z) (one_more i ns (omega (arith, low))) ∙ sym (append_assoc (big_bytes 4 n) (list_bytes (take i ns)) (big_bytes 4 (get_or ns i 0)))

pub one_more_at : (i : ℕ) (ns : List ℕ) → i < length ns → list_bytes (take (i + 1) ns) ≡ list_bytes (take i ns) ++ big_bytes 4 (get_or ns i 0)
one_more_at i ns low = let e : suc i ≡ i + 1 = omega arith in subst (λ k. list_bytes (take k ns) ≡ list_bytes (take i ns) ++ big_bytes 4 (get_or ns i 0)) e (one_more i ns low)

-- ---- how many blocks a chain has

one_block_more : (n : ℕ) → 0 < n → div_ceil n 248 ≡ suc (div_ceil (n - 248) 248)
one_block_more n some = omega arith

pub blocks_counted : (m : Blocks) (bs bytes : List ℕ) → Links m bs bytes → length bs ≡ chain_blocks (length bytes)
blocks_counted m [] bytes s = let e = ap length s in rw e refl
blocks_counted m (b ∷ bs) bytes s =
    let rest = blocks_counted m bs (drop 248 bytes) s.1.1.1.1 in
    let e = one_block_more (length bytes) s.1.1.0 in
    ap suc (rest ∙ ap chain_blocks (length-drop 248 bytes)) ∙ sym e

all_low : (m : Blocks) (bs bytes : List ℕ) → Links m bs bytes → (q : ℕ) → 0 < times q bs → q < 2 ^ 32
all_low m [] bytes s q own = absurd (omega (arith, own, times_none q))
all_low m (b ∷ bs) bytes s q own =
    elim (eqb_tells q b) [
      | inl a ↦ let e = a.1 in let low = s.1.0 in omega (arith, e, low)
      | inr a ↦ all_low m bs (drop 248 bytes) s.1.1.1.1 q (omega (arith, own, times_one q b bs, times_other q b a.1))
    ]

pub few_blocks : (m : Blocks) (first : ℕ) (c : Chain) → IsListAt m first c → length c.blocks ≤ 2 ^ 32
few_blocks m first c h = at_most (2 ^ 32) c.blocks h.holds.apart (all_low m c.blocks c.bytes h.holds.here)

-- ---- reading on

pub next_there : (next : ℕ) (part : List ℕ) → next < 2 ^ 32 → length part ≤ 248 → next_in 248 (link_bytes next part) ≡ Some next
unfolding next_in link_bytes
next_there next part low few =
    let bs = (8 ∷ 0 ∷ 0 ∷ 0 ∷ []) ++ (big_bytes 4 next ++ padded 248 part) in
    let none : drop 256 bs ≡ [] = drop_all 256 bs (omega (arith, length-append (big_bytes 4 next) (padded 248 part), length-bytes_high_first 4 next, length_padded 248 part few)) in
    chosen_again (list_all is_zero (drop 256 bs)) (big_number 4 (big_bytes 4 next ++ padded 248 part)) next (ap (list_all is_zero) none) (big_number-reads_back 4 next (padded 248 part) low)

-- ---- giving back

-- what is left of a list of which so many blocks were given back
pub record SoFar (m : Blocks) (c : Chain) (now : Blocks) (block gone : ℕ) : Type 0 where
  pub left : ℕ
  pub rest : Left m c now block left
  pub count : gone + chain_blocks left ≡ length c.blocks

pub so_far_whole : (m : Blocks) (first : ℕ) (c : Chain) → IsListAt m first c → SoFar m c m first 0
so_far_whole m first c h = record {
  left = length c.bytes;
  rest = left_whole m first (length c.bytes) c (record { holds = h.holds; first_is = h.first_is; count_is = refl });
  count = omega (arith, blocks_counted m c.blocks c.bytes h.holds.here);
}

some_left : (m : Blocks) (c : Chain) (now : Blocks) (block left : ℕ) → Left m c now block left → block ≢ 0 → 0 < left
some_left m c now block left r ne = by r.rest.blocks r.rest.bytes r.changed r.block_is r.left_is
  where
    by : (bs rest : List ℕ) → Changed chain_owner m c now (record { blocks = bs; bytes = rest }) → block ≡ first_of bs → left ≡ length rest → 0 < left
    by [] rest d e l = absurd (ne e)
    by (b ∷ bs) rest d e l = let some = d.holds.here.1.1.0 in omega (arith, l, some)

none_left : (m : Blocks) (c : Chain) (now : Blocks) (block left : ℕ) → Left m c now block left → block ≡ 0 → left ≤ 0
none_left m c now block left r z = by r.rest.blocks r.rest.bytes r.changed r.block_is r.left_is
  where
    by : (bs rest : List ℕ) → Changed chain_owner m c now (record { blocks = bs; bytes = rest }) → block ≡ first_of bs → left ≡ length rest → left ≤ 0
    by [] rest d e l = let none = ap length d.holds.here in omega (arith, l, none)
    by (b ∷ bs) rest d e l = let least = d.holds.here.0 in absurd (omega (arith, z, e, least))

pub first_there : (m : Blocks) (c : Chain) (now : Blocks) (block gone : ℕ) (s : SoFar m c now block gone) → block ≢ 0 → FirstLeft m c now block s.left
first_there m c now block gone s ne = left_first m c now block s.left s.rest (some_left m c now block s.left s.rest ne)

-- one more block is given back
pub so_far_more : (m : Blocks) (c : Chain) (now then_ : Blocks) (block next gone : ℕ) → (s : SoFar m c now block gone) → block ≢ 0
    → ((n : ℕ) (part : List ℕ) → now block ≡ Some (link_bytes n part) → n < 2 ^ 32 → length part ≤ 248 → next ≡ n) → then_ ≡ put now block None → SoFar m c then_ next (gone + 1)
so_far_more m c now then_ block next gone s ne read given =
    let f = first_there m c now block gone s ne in
    let some = some_left m c now block s.left s.rest ne in
    let e = one_block_more s.left some in
    record {
      left = s.left - min s.left 248;
      rest = f.after next then_ (read f.next f.part f.here f.low (omega (arith, f.long))) given;
      count = let same : s.left - min s.left 248 ≡ s.left - 248 = omega arith in let n = ap chain_blocks same in omega (arith, s.count, e, n);
    }

pub more_to_go : (m : Blocks) (c : Chain) (now : Blocks) (block gone : ℕ) → SoFar m c now block gone → block ≢ 0 → gone + 1 ≤ length c.blocks
more_to_go m c now block gone s ne = omega (arith, s.count, one_block_more s.left (some_left m c now block s.left s.rest ne))

pub all_gone : (m : Blocks) (c : Chain) (now : Blocks) (block gone : ℕ) → SoFar m c now block gone → block ≡ 0 → Changed (maybe chain_owner) m (Some c) now None
all_gone m c now block gone s z = left_none m c now block s.left s.rest (none_left m c now block s.left s.rest z)

pub all_counted : (m : Blocks) (c : Chain) (now : Blocks) (block gone : ℕ) → SoFar m c now block gone → block ≡ 0 → gone ≡ length c.blocks
all_counted m c now block gone s z = let none = none_left m c now block s.left s.rest z in omega (arith, s.count, none)

pub never_so_many : (m : Blocks) (first : ℕ) (c : Chain) (now : Blocks) (block gone : ℕ) → IsListAt m first c → SoFar m c now block gone → gone ≤ 2 ^ 32
never_so_many m first c now block gone h s = omega (arith, s.count, few_blocks m first c h)
