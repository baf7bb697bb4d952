use Rattle.std.proofs.Common.{◌≡◌, false, refl, arith}
use Rattle.std.specs.Prelude.{nat_lt}
use Rattle.std.proofs.lemmas.Bool.Decides.{nat_tests}
use Rattle.std.specs.Int.{bit_at}
use Rattle.std.proofs.lemmas.Nat.Bits.{bit_at_above, shr_and_one}
use Rattle.dtx_base.specs.Members.{has_target}
use Rattle.dtx_table.proofs.bits.has_target.Goals as goal

pub returns-then-target-lt64-clause-has : goal.returns-then-target-lt64-clause-has
unfolding has_target
returns-then-target-lt64-clause-has c = rw (shr_and_one c.args.set c.args.target) refl

pub returns-else-target-lt64-clause-has : goal.returns-else-target-lt64-clause-has
unfolding has_target
returns-else-target-lt64-clause-has c =
    let none : bit_at c.args.set c.args.target ≡ 0 = bit_at_above c.args.set 64 c.args.target (omega arith) (omega arith) in
    let high : nat_lt c.args.target 64 ≡ false = grind (arith, nat_tests) in
    rw (none, high) refl
