-- A byte of the map is set.
use Rattle.std.proofs.Common.{◌≡◌, ◌≢◌, ℕ, min, ◌+◌, ◌-◌, ◌/◌, ◌%◌, ◌≤◌, ◌<◌, true, false, ◌&&◌, eqb, leb, ltb, List, length, get_or, set, refl, sym, ap, ◌∙◌, arith, inl, inr, get_or-set_same, get_or-set_other}
use mathlib.Core.Path.{fun_ext}
use Rattle.std.specs.Int.{bit_at}
use Rattle.std.proofs.lemmas.Bool.Decides.{nat_tests, eqb_tells}
use Rattle.pmem_alloc.specs.Sets.{Set, set_to, IsLeast, count_below}
use Rattle.pmem_alloc.specs.Map.{is_free, free_in, HoldsMap, SameBeside}
use Rattle.pmem_alloc.specs.Laws.{free_in_within}
use Rattle.pmem_alloc.proofs.Counting.{set_here, set_other, count_out, count_in, count_most}

-- of a block the bit decides
free_by_bit : (end byte b bit : ℕ) → 1264 ≤ b → b < end → bit_at byte (b % 8) ≡ bit → is_free end byte b ≡ eqb bit 0
unfolding is_free
free_by_bit end byte b bit low high is =
    let l : leb 1264 b ≡ true = grind (arith, nat_tests) in
    let h : ltb b end ≡ true = grind (arith, nat_tests) in
    rw (l, h, is) refl

pub free_by_clear : (end byte b : ℕ) → 1264 ≤ b → b < end → is_free end byte b ≡ eqb (bit_at byte (b % 8)) 0
free_by_clear end byte b low high = free_by_bit end byte b (bit_at byte (b % 8)) low high refl

pub not_free_outside : (end byte b : ℕ) → (1264 ≤ b → b < end → ⊥) → is_free end byte b ≡ false
unfolding is_free
not_free_outside end byte b out = grind (arith, nat_tests)

same_bit : (end byte byte' b : ℕ) → bit_at byte' (b % 8) ≡ bit_at byte (b % 8) → is_free end byte' b ≡ is_free end byte b
unfolding is_free
same_bit end byte byte' b same = rw same refl

marked_here : (end : ℕ) (bytes : List ℕ) (b byte bit : ℕ) → length bytes ≡ 16384 → end ≤ 131072 → 1264 ≤ b → b < end → bit_at byte (b % 8) ≡ bit → free_in end (set bytes (b / 8) byte) b ≡ eqb bit 0
unfolding free_in
marked_here end bytes b byte bit long small low high is =
    let inside : b / 8 < length bytes = omega arith in
    ap (λ (x : ℕ). is_free end x b) (get_or-set_same bytes (b / 8) byte 0 inside) ∙ free_by_bit end byte b bit low high is

marked_other : (end : ℕ) (bytes : List ℕ) (b byte q : ℕ) → length bytes ≡ 16384 → end ≤ 131072 → b < end → ((i : ℕ) → i < 8 → i ≢ b % 8 → bit_at byte i ≡ bit_at (get_or bytes (b / 8) 0) i) → q ≢ b → free_in end (set bytes (b / 8) byte) q ≡ free_in end bytes q
unfolding free_in
marked_other end bytes b byte q long small high others ne =
    let inside : b / 8 < length bytes = omega arith in
    elim (eqb_tells (q / 8) (b / 8)) [
      | inl same ↦
          let e : q / 8 ≡ b / 8 = same.1 in
          let off : q % 8 ≢ b % 8 = λ r. ne (omega arith) in
          let old = ap (λ (k : ℕ). get_or bytes k 0) e in
          let new = ap (λ (k : ℕ). get_or (set bytes (b / 8) byte) k 0) e ∙ get_or-set_same bytes (b / 8) byte 0 inside in
          let bit = others (q % 8) (omega arith) off in
          same_bit end (get_or bytes (q / 8) 0) (get_or (set bytes (b / 8) byte) (q / 8) 0) q
          (ap (λ (x : ℕ). bit_at x (q % 8)) new ∙ (bit ∙ ap (λ (x : ℕ). bit_at x (q % 8)) (sym old)))
      | inr apart ↦ ap (λ (x : ℕ). is_free end x q) (get_or-set_other bytes (b / 8) (q / 8) byte 0 apart.1)
    ]

-- a block's bit is set to 1 or 0, and the other bits of its byte stay
pub marked : (end : ℕ) (bytes : List ℕ) (b byte bit : ℕ) → length bytes ≡ 16384 → end ≤ 131072 → 1264 ≤ b → b < end → bit_at byte (b % 8) ≡ bit → ((i : ℕ) → i < 8 → i ≢ b % 8 → bit_at byte i ≡ bit_at (get_or bytes (b / 8) 0) i) → free_in end (set bytes (b / 8) byte) ≡ set_to (free_in end bytes) b (eqb bit 0)
marked end bytes b byte bit long small low high is others = fun_ext (λ q. elim (eqb_tells q b) [
  | inl same ↦
      let e : q ≡ b = same.1 in
      ap (free_in end (set bytes (b / 8) byte)) e ∙ (marked_here end bytes b byte bit long small low high is ∙ (sym (set_here (free_in end bytes) b (eqb bit 0)) ∙ ap (set_to (free_in end bytes) b (eqb bit 0)) (sym e)))
  | inr ne ↦ marked_other end bytes b byte q long small high others ne.1 ∙ sym (set_other (free_in end bytes) b q (eqb bit 0) ne.1)
])

-- what holds of a map after the least free block was taken
pub taken_holds : (bytes : List ℕ) (end count low b byte : ℕ) → HoldsMap bytes end count low → IsLeast (free_in end bytes) b → length bytes ≡ 16384 → bit_at byte (b % 8) ≡ 1 → ((i : ℕ) → i < 8 → i ≢ b % 8 → bit_at byte i ≡ bit_at (get_or bytes (b / 8) 0) i) → HoldsMap (set bytes (b / 8) byte) end (count - 1) (b + 1)
taken_holds bytes end count low b byte h least long is others =
    let small = h.small in
    let counted = h.counted in
    let within = free_in_within end bytes b least.is_in in
    let s = free_in end bytes in
    let e = marked end bytes b byte 1 long small within.0 within.1 is others in
    let fewer = count_out s b end within.1 least.is_in in
    let new : count_below (free_in end (set bytes (b / 8) byte)) end ≡ count_below (set_to s b false) end = ap (λ (t : Set). count_below t end) e in
    record {
      small = small;
      counted = omega (arith, counted, fewer, new);
      none_below = λ q below. ap (λ (t : Set). t q) e ∙ elim (eqb_tells q b) [
        | inl same ↦ ap (set_to s b false) same.1 ∙ set_here s b false
        | inr ne ↦ let apart = ne.1 in set_other s b q false apart ∙ least.none_below q (omega arith)
      ];
    }

pub least_within : (bytes : List ℕ) (end count low b : ℕ) → HoldsMap bytes end count low → IsLeast (free_in end bytes) b → (b < end) × ((end ≤ 131072) × (1 ≤ count))
least_within bytes end count low b h least =
    let small = h.small in
    let counted = h.counted in
    let within = free_in_within end bytes b least.is_in in
    let fewer = count_out (free_in end bytes) b end within.1 least.is_in in
    (within.1, (small, omega (arith, counted, fewer)))

-- what holds of a map after a block was given back
pub given_holds : (bytes : List ℕ) (end count low b byte : ℕ) → HoldsMap bytes end count low → 1264 ≤ b → b < end → free_in end bytes b ≡ false → length bytes ≡ 16384 → bit_at byte (b % 8) ≡ 0 → ((i : ℕ) → i < 8 → i ≢ b % 8 → bit_at byte i ≡ bit_at (get_or bytes (b / 8) 0) i) → HoldsMap (set bytes (b / 8) byte) end (count + 1) (min low b)
given_holds bytes end count low b byte h from under was long is others =
    let small = h.small in
    let counted = h.counted in
    let s = free_in end bytes in
    let e = marked end bytes b byte 0 long small from under is others in
    let more = count_in s b end under was in
    let new : count_below (free_in end (set bytes (b / 8) byte)) end ≡ count_below (set_to s b true) end = ap (λ (t : Set). count_below t end) e in
    record {
      small = small;
      counted = omega (arith, counted, more, new);
      none_below = λ q below. ap (λ (t : Set). t q) e ∙ (set_other s b q true (λ same. omega arith) ∙ h.none_below q (omega arith));
    }

-- a bit other than the one that is set stays
bit_other : (bytes : List ℕ) (b byte q : ℕ) → length bytes ≡ 16384 → b < 131072 → ((i : ℕ) → i < 8 → i ≢ b % 8 → bit_at byte i ≡ bit_at (get_or bytes (b / 8) 0) i) → q ≢ b → bit_at (get_or (set bytes (b / 8) byte) (q / 8) 0) (q % 8) ≡ bit_at (get_or bytes (q / 8) 0) (q % 8)
bit_other bytes b byte q long low others ne =
    let inside : b / 8 < length bytes = omega arith in
    elim (eqb_tells (q / 8) (b / 8)) [
      | inl same ↦
          let e : q / 8 ≡ b / 8 = same.1 in
          let off : q % 8 ≢ b % 8 = λ r. ne (omega arith) in
          let old = ap (λ (k : ℕ). get_or bytes k 0) e in
          let new = ap (λ (k : ℕ). get_or (set bytes (b / 8) byte) k 0) e ∙ get_or-set_same bytes (b / 8) byte 0 inside in
          ap (λ (x : ℕ). bit_at x (q % 8)) new ∙ (others (q % 8) (omega arith) off ∙ ap (λ (x : ℕ). bit_at x (q % 8)) (sym old))
      | inr apart ↦ ap (λ (x : ℕ). bit_at x (q % 8)) (get_or-set_other bytes (b / 8) (q / 8) byte 0 apart.1)
    ]

-- so whoever sets the bit of a block leaves those of all that aren't blocks
pub beside_stays : (end : ℕ) (bytes : List ℕ) (b byte : ℕ) → length bytes ≡ 16384 → end ≤ 131072 → 1264 ≤ b → b < end → ((i : ℕ) → i < 8 → i ≢ b % 8 → bit_at byte i ≡ bit_at (get_or bytes (b / 8) 0) i)
    → SameBeside (record { bytes = bytes; end = end }) (record { bytes = set bytes (b / 8) byte; end = end })
beside_stays end bytes b byte long small low high others = record {
  end = refl;
  bits = λ q out. bit_other bytes b byte q long (omega arith) others (λ same. let l : leb 1264 q ≡ true = grind (arith, nat_tests) in let h : ltb q end ≡ true = grind (arith, nat_tests) in let no : (leb 1264 q && ltb q end) ≡ true = rw (l, h) refl in absurd (cc));
}

pub counted_fits : (bytes : List ℕ) (end count low : ℕ) → HoldsMap bytes end count low → count ≤ 131072
counted_fits bytes end count low h = let small = h.small in let counted = h.counted in omega (arith, counted, count_most (free_in end bytes) end)
