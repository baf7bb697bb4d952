-- Bits of members.
use Rattle.std.specs.Prelude.{ℕ, zero, suc, ◌≡◌, ◌<◌, ◌*◌, ◌^◌, ◌==◌, true, false, bit_and, not}
use Rattle.std.specs.Int.{bit_at}
use Rattle.std.proofs.Common.{refl, sym, ap, arith}
use Rattle.std.proofs.lemmas.Bool.Decides.{nat_tests}
use Rattle.std.proofs.lemmas.Nat.{pow_pos}
use Rattle.std.proofs.lemmas.Nat.Bits.{and_pow, bit_at-lt}
use Rattle.daos_model.specs.Family.{is_in_field}
use Rattle.dtx_base.specs.Members.{has_target}

-- a bit is set in either reading of a field
pub field_is : (field t : ℕ) → has_target field t ≡ is_in_field field t
unfolding has_target
field_is field t = sym (by (bit_at field t) refl)
  where
    masked : bit_and field (2 ^ t) ≡ bit_at field t * 2 ^ t
    masked = and_pow field t

    by : (b : ℕ) → bit_at field t ≡ b → is_in_field field t ≡ (bit_at field t == 1)
    by zero is = let none : (0 * 2 ^ t == 0) ≡ true = grind (arith, nat_tests) in rw (masked, is) (ap not none)
    by (suc zero) is =
        let some : 0 < 2 ^ t = pow_pos t in
        let one : (1 * 2 ^ t == 0) ≡ false = grind (arith, nat_tests) in
        rw (masked, is) (ap not one)
    by (suc (suc n)) is = let low : bit_at field t < 2 = bit_at-lt field t in absurd (omega (arith, is, low))
