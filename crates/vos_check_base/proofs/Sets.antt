-- A bit of a map is cleared.
use Rattle.std.proofs.Common.{◌≡◌, ◌≢◌, ℕ, ◌/◌, ◌%◌, ◌≤◌, ◌<◌, true, false, not, eqb, leb, ltb, List, length, get_or, set, refl, sym, ap, ◌∙◌, arith, inl, inr, get_or-set_same, get_or-set_other}
use Rattle.std.specs.Int.{bit_at}
use Rattle.std.proofs.lemmas.Bool.{ne_eqb}
use Rattle.std.proofs.lemmas.Bool.Decides.{nat_tests, eqb_tells}
use Rattle.vos_check_base.specs.Sets.{IsWithout, is_open, open_in, without}

-- of a block the bit decides
pub open_by_bit : (end byte b : ℕ) → 1264 ≤ b → b < end → is_open end byte b ≡ not (eqb (bit_at byte (b % 8)) 0)
unfolding is_open
open_by_bit end byte b low high =
    let l : leb 1264 b ≡ true = grind (arith, nat_tests) in
    let h : ltb b end ≡ true = grind (arith, nat_tests) in
    rw (l, h) refl

pub not_open_outside : (end byte b : ℕ) → (1264 ≤ b → b < end → ⊥) → is_open end byte b ≡ false
unfolding is_open
not_open_outside end byte b out = grind (arith, nat_tests)

-- what is open is a block from 1264 on and below the end
pub open_within : (end byte b : ℕ) → is_open end byte b ≡ true → (1264 ≤ b) × (b < end)
unfolding is_open
open_within end byte b is = (grind (arith, nat_tests), grind (arith, nat_tests))

pub open_in_within : (end : ℕ) (bytes : List ℕ) (b : ℕ) → open_in end bytes b ≡ true → (1264 ≤ b) × (b < end)
unfolding open_in
open_in_within end bytes b is = open_within end (get_or bytes (b / 8) 0) b is

same_bit : (end byte byte' b : ℕ) → bit_at byte' (b % 8) ≡ bit_at byte (b % 8) → is_open end byte' b ≡ is_open end byte b
unfolding is_open
same_bit end byte byte' b same = rw same refl

cleared_here : (end : ℕ) (bytes : List ℕ) (b byte : ℕ) → length bytes ≡ 16384 → end ≤ 131072 → 1264 ≤ b → b < end → bit_at byte (b % 8) ≡ 0 → open_in end (set bytes (b / 8) byte) b ≡ false
unfolding open_in
cleared_here end bytes b byte long small low high is =
    let inside : b / 8 < length bytes = omega arith in
    ap (λ (x : ℕ). is_open end x b) (get_or-set_same bytes (b / 8) byte 0 inside) ∙ (open_by_bit end byte b low high ∙ ap (λ (x : ℕ). not (eqb x 0)) is)

cleared_other : (end : ℕ) (bytes : List ℕ) (b byte q : ℕ) → length bytes ≡ 16384 → end ≤ 131072 → b < end → ((i : ℕ) → i < 8 → i ≢ b % 8 → bit_at byte i ≡ bit_at (get_or bytes (b / 8) 0) i) → q ≢ b → open_in end (set bytes (b / 8) byte) q ≡ open_in end bytes q
unfolding open_in
cleared_other end bytes b byte q long small high others ne =
    let inside : b / 8 < length bytes = omega arith in
    elim (eqb_tells (q / 8) (b / 8)) [
      | inl same ↦
          let e : q / 8 ≡ b / 8 = same.1 in
          let off : q % 8 ≢ b % 8 = λ r. ne (omega arith) in
          let old = ap (λ (k : ℕ). get_or bytes k 0) e in
          let new = ap (λ (k : ℕ). get_or (set bytes (b / 8) byte) k 0) e ∙ get_or-set_same bytes (b / 8) byte 0 inside in
          let bit = others (q % 8) (omega arith) off in
          same_bit end (get_or bytes (q / 8) 0) (get_or (set bytes (b / 8) byte) (q / 8) 0) q
          (ap (λ (x : ℕ). bit_at x (q % 8)) new ∙ (bit ∙ ap (λ (x : ℕ). bit_at x (q % 8)) (sym old)))
      | inr apart ↦ ap (λ (x : ℕ). is_open end x q) (get_or-set_other bytes (b / 8) (q / 8) byte 0 apart.1)
    ]

-- a block's bit is cleared, and the other bits of its byte stay
pub cleared : (end : ℕ) (bytes : List ℕ) (b byte : ℕ) → length bytes ≡ 16384 → end ≤ 131072 → 1264 ≤ b → b < end → bit_at byte (b % 8) ≡ 0 → ((i : ℕ) → i < 8 → i ≢ b % 8 → bit_at byte i ≡ bit_at (get_or bytes (b / 8) 0) i) → IsWithout (open_in end bytes) b (open_in end (set bytes (b / 8) byte))
unfolding without
cleared end bytes b byte long small low high is others q = elim (eqb_tells q b) [
  | inl same ↦
      let e : q ≡ b = same.1 in
      let t = same.0 in
      ap (open_in end (set bytes (b / 8) byte)) e ∙ (cleared_here end bytes b byte long small low high is ∙ sym (rw t refl))
  | inr ne ↦ let t = ne_eqb q b ne.1 in cleared_other end bytes b byte q long small high others ne.1 ∙ sym (rw t refl)
]
