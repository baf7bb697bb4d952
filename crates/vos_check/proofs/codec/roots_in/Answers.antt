use Rattle.std.proofs.Common.{◌≡◌, ◌+◌, ◌*◌, Option, Ok, Err, refl, subst, ◌∙◌}
use Rattle.std.proofs.lemmas.Result.{err_from_is_err_and}
use Rattle.vos_image.specs.Steps.{says}
use Rattle.vos_values.specs.declared.values.Roots.{Roots}
use Rattle.vos_check_base.specs.Answers.{content}
use Rattle.vos_check_base.proofs.Steps.{off, on}
use Rattle.vos_check.proofs.FieldSteps.{roots_are}
use Rattle.vos_check.proofs.codec.roots_in.Goals as goal

pub returns-in_err-roots : goal.returns-in_err-roots
returns-in_err-roots c =
    let p = err_from_is_err_and c.from_residual.result c.from_residual.ensures.1 in
    rw (p.1, p.2) (λ g f led marks.
    let d = content g f in
    roots_are d c.args.block c.args.value.now led ∙ (off _ _ led _ (subst (λ (z : Option Roots). says (256 * c.args.block + 76) z led ≡ Err c.in_err-roots.field-0.0) c.read_roots.ensures (c.in_err-roots.ensures led))))

pub returns-in_err-lead_in : goal.returns-in_err-lead_in
returns-in_err-lead_in c =
    let p = err_from_is_err_and c.from_residual-in_err-lead_in.result c.from_residual-in_err-lead_in.ensures.1 in
    rw (p.1, p.2) (λ g f led marks.
    let d = content g f in
    roots_are d c.args.block c.args.value.now led ∙ (on _ _ led c.in_ok-roots.roots led _ (subst (λ (z : Option Roots). says (256 * c.args.block + 76) z led ≡ Ok (c.in_ok-roots.roots, led)) c.read_roots.ensures (c.in_ok-roots.ensures led)) (off _ _ led _ (c.in_err-lead_in.ensures d led marks))))

pub returns-in_err-lead_in-2 : goal.returns-in_err-lead_in-2
returns-in_err-lead_in-2 c =
    let p = err_from_is_err_and c.from_residual-in_err-lead_in-2.result c.from_residual-in_err-lead_in-2.ensures.1 in
    rw (p.1, p.2) (λ g f led marks.
    let d = content g f in
    let x1 = c.in_ok-lead_in.ensures d led marks in
    roots_are d c.args.block c.args.value.now led ∙ (on _ _ led c.in_ok-roots.roots led _ (subst (λ (z : Option Roots). says (256 * c.args.block + 76) z led ≡ Ok (c.in_ok-roots.roots, led)) c.read_roots.ensures (c.in_ok-roots.ensures led)) (on _ _ led tt x1.led _ x1.is (off _ _ x1.led _ (c.in_err-lead_in-2.ensures d x1.led x1.marks)))))

pub returns : goal.returns
returns c g f led marks =
    let d = content g f in
    let x1 = c.in_ok-lead_in.ensures d led marks in
    let x2 = c.in_ok-lead_in-2.ensures d x1.led x1.marks in
    record { led = x2.led; is = roots_are d c.args.block c.args.value.now led ∙ (on _ _ led c.in_ok-roots.roots led _ (subst (λ (z : Option Roots). says (256 * c.args.block + 76) z led ≡ Ok (c.in_ok-roots.roots, led)) c.read_roots.ensures (c.in_ok-roots.ensures led)) (on _ _ led tt x1.led _ x1.is (on _ _ x1.led tt x2.led _ x2.is refl))); marks = x2.marks }
