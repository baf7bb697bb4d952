use Rattle.std.proofs.Common.{◌∙◌, arith}
use Rattle.target_members.proofs.Membership.{bit_set, no_bits}
use Rattle.target_members.proofs.members.bits_of.Goals as goal

pub loop-i-init : goal.loop-i-init
loop-i-init c = record { within = omega arith; bits = no_bits c.args.targets.now _ (omega arith) }

pub loop-i-preserved : goal.loop-i-preserved
loop-i-preserved c = record {
  within = (let most = c.loop-i.invariant.within in omega (arith, most));
  bits = c.with_target-bits.ensures ∙ bit_set c.args.targets.now c.loop-i.i _ c.loop-i.bits c.loop-i-test.true c.loop-i.invariant.within c.loop-i.invariant.bits;
}
