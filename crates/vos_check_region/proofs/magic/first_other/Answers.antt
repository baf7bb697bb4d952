use Rattle.std.proofs.Common.{sym, arith}
use Rattle.vos_check_region.proofs.Faults.{magic_agrees, magic_differs}
use Rattle.vos_check_region.proofs.magic.first_other.Goals as goal

pub returns-then-bytes-i-clause-told : goal.returns-then-bytes-i-clause-told
returns-then-bytes-i-clause-told c f is = sym (magic_differs f c.args.bytes.now c.loop-i.i is (omega arith) c.loop-i.invariant c.if-bytes-i.true)

pub returns-clause-told : goal.returns-clause-told
returns-clause-told c f is = sym (magic_agrees f c.args.bytes.now is (λ k below. c.loop-i.invariant k (omega (arith, below))))
