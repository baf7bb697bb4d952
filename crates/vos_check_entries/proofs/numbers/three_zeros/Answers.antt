use Rattle.std.proofs.Common.{ℕ, ◌+◌, ◌*◌, take, drop, subst}
use Rattle.vos_check.specs.vos_image.Steps.{zeros}
use Rattle.vos_check_base.specs.Answers.{Plain, nothing}
use Rattle.vos_check_entries.proofs.numbers.three_zeros.Goals as goal

pub returns : goal.returns
returns c led = subst (λ (n : ℕ). Plain (zeros (256 * n + 1) (take 3 (drop 1 c.args.bytes.now)) led) led nothing c.zeros.result) c.from.ensures (c.zeros.ensures led)
