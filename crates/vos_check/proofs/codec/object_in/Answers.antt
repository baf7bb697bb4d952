use Rattle.std.proofs.Common.{◌≡◌, ◌+◌, ◌*◌, drop, ap, ◌∙◌, arith}
use Rattle.std.proofs.lemmas.Result.{err_from_is_err_and}
use Rattle.byteorder.specs.Endian.{big_number}
use Rattle.vos_values.specs.Keys.{object_in}
use Rattle.vos_image.specs.Kinds.{is_class}
use Rattle.vos_check.proofs.FieldSteps.{rule_off, rule_says}
use Rattle.vos_check.proofs.codec.object_in.Goals as goal

pub returns-in_err-rule_in : goal.returns-in_err-rule_in
returns-in_err-rule_in c =
    let p = err_from_is_err_and c.from_residual.result c.from_residual.ensures.1 in
    rw (p.1, p.2) (λ f led.
    let z : 256 * c.args.block + 28 ≡ 256 * c.args.block + 12 + 16 = omega arith in
    rule_off (256 * c.args.block + 28) (256 * c.args.block + 12 + 16) (is_class (big_number 1 (drop 16 c.args.key.now.bytes))) c.is_class.result _ led _ z (c.is_class.ensures ∙ ap is_class c.one_at.ensures) (c.in_err-rule_in.ensures led))

pub returns : goal.returns
returns c f led =
    let z : 256 * c.args.block + 28 ≡ 256 * c.args.block + 12 + 16 = omega arith in
    let w : 256 * c.args.block + 37 ≡ 256 * c.args.block + 12 + 25 = omega arith in
    rule_says (256 * c.args.block + 28) (256 * c.args.block + 12 + 16) (256 * c.args.block + 37) (256 * c.args.block + 12 + 25) (is_class (big_number 1 (drop 16 c.args.key.now.bytes))) c.is_class.result (object_in c.args.ground.now.layout c.args.key.now) c.read_object.result led c.said_in.result z (c.is_class.ensures ∙ ap is_class c.one_at.ensures) c.read_object.ensures.object w (c.in_ok-rule_in.ensures led) (c.said_in.ensures led)
