use Rattle.std.proofs.Common.{◌≡◌, ℕ, ◌+◌, ◌*◌, drop, ap, arith}
use Rattle.std.specs.Prelude.{nat_le}
use Rattle.std.proofs.lemmas.Result.{err_from_is_err_and}
use Rattle.byteorder.specs.Endian.{big_number}
use Rattle.vos_values.specs.Keys.{extent_in}
use Rattle.vos_check.proofs.FieldSteps.{rule_off, rule_says}
use Rattle.vos_check.proofs.codec.extent_in.Goals as goal

pub returns-in_err-rule_in : goal.returns-in_err-rule_in
returns-in_err-rule_in c =
    let p = err_from_is_err_and c.from_residual.result c.from_residual.ensures.1 in
    rw (p.1, p.2) (λ f led.
    let z : 256 * c.args.block + 16 ≡ 256 * c.args.block + 12 + 4 = omega arith in
    rule_off (256 * c.args.block + 16) (256 * c.args.block + 12 + 4) (nat_le (big_number 8 (drop 4 c.args.key.now.bytes)) c.args.ground.now.covered) (nat_le c.eight_at.result c.args.ground.now.covered) _ led _ z (ap (λ (n : ℕ). nat_le n c.args.ground.now.covered) c.eight_at.ensures) (c.in_err-rule_in.ensures led))

pub returns : goal.returns
returns c f led =
    let z : 256 * c.args.block + 16 ≡ 256 * c.args.block + 12 + 4 = omega arith in
    let w : 256 * c.args.block + 24 ≡ 256 * c.args.block + 12 + 12 = omega arith in
    rule_says (256 * c.args.block + 16) (256 * c.args.block + 12 + 4) (256 * c.args.block + 24) (256 * c.args.block + 12 + 12) (nat_le (big_number 8 (drop 4 c.args.key.now.bytes)) c.args.ground.now.covered) (nat_le c.eight_at.result c.args.ground.now.covered) (extent_in c.args.key.now) c.read_extent.result led c.said_in.result z (ap (λ (n : ℕ). nat_le n c.args.ground.now.covered) c.eight_at.ensures) c.read_extent.ensures.place w (c.in_ok-rule_in.ensures led) (c.said_in.ensures led)
