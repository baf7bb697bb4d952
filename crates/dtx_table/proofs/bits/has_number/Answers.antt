use Rattle.std.proofs.Common.{◌≡◌, false, refl, arith}
use Rattle.std.specs.Prelude.{nat_lt}
use Rattle.std.specs.Int.{bit_at}
use Rattle.std.proofs.lemmas.Bool.Decides.{nat_tests}
use Rattle.std.proofs.lemmas.Nat.Bits.{bit_at_above}
use Rattle.dtx_base.specs.Members.{has_target}
use Rattle.dtx_table.proofs.bits.has_number.Goals as goal

pub returns-else-number-lt64-clause-has : goal.returns-else-number-lt64-clause-has
unfolding has_target
returns-else-number-lt64-clause-has c =
    let none : bit_at c.args.set c.args.number ≡ 0 = bit_at_above c.args.set 64 c.args.number (omega arith) (omega arith) in
    let high : nat_lt c.args.number 64 ≡ false = grind (arith, nat_tests) in
    rw (none, high) refl
