use Rattle.std.proofs.Common.{◌≡◌, ◌+◌, ◌*◌, arith}
use Rattle.std.proofs.lemmas.Result.{err_from_is_err_and}
use Rattle.byteorder.specs.Endian.{big_number}
use Rattle.vos_values.specs.Values.{is_state, version_in}
use Rattle.vos_check.specs.Steps.{read_version_mark}
use Rattle.vos_check.proofs.FieldSteps.{rule_off, rule_says}
use Rattle.vos_check.proofs.codec.version_in.Goals as goal

pub returns-in_err-rule_in : goal.returns-in_err-rule_in
unfolding read_version_mark
returns-in_err-rule_in c =
    let p = err_from_is_err_and c.from_residual.result c.from_residual.ensures.1 in
    rw (p.1, p.2) (λ g f led.
    let z : 256 * c.args.block + 76 ≡ 256 * c.args.block + 76 = omega arith in
    rule_off (256 * c.args.block + 76) (256 * c.args.block + 76) (is_state (big_number 1 c.args.value.now.bytes)) c.has_state.result _ led _ z c.has_state.ensures (c.in_err-rule_in.ensures led))

pub returns : goal.returns
unfolding read_version_mark
returns c g f led =
    let z : 256 * c.args.block + 76 ≡ 256 * c.args.block + 76 = omega arith in
    let w : 256 * c.args.block + 84 ≡ 256 * c.args.block + 76 + 8 = omega arith in
    rule_says (256 * c.args.block + 76) (256 * c.args.block + 76) (256 * c.args.block + 84) (256 * c.args.block + 76 + 8) (is_state (big_number 1 c.args.value.now.bytes)) c.has_state.result (version_in c.args.value.now) c.read_version.result led c.said_in.result z c.has_state.ensures c.read_version.ensures w (c.in_ok-rule_in.ensures led) (c.said_in.ensures led)
