use Rattle.std.proofs.Common.{◌+◌, ◌*◌, refl, ◌∙◌}
use Rattle.std.proofs.lemmas.Result.{err_from_is_err_and}
use Rattle.vos_image.specs.Kinds.{any_length}
use Rattle.vos_check_base.specs.Answers.{content}
use Rattle.vos_check_base.proofs.Steps.{off, on}
use Rattle.vos_check.proofs.FieldSteps.{version_is}
use Rattle.vos_check.proofs.singles.SinglesLevel.value.Goals as goal

pub returns-in_err-mark : goal.returns-in_err-mark
returns-in_err-mark c =
    let p = err_from_is_err_and c.from_residual.result c.from_residual.ensures.1 in
    rw (p.1, p.2) (λ f led marks.
    let d = content c.args.self.now.ground f in
    version_is d (256 * c.args.block + 76) any_length c.args.value.now led ∙ off _ _ led _ (c.in_err-mark.ensures c.args.self.now.ground f led))

pub returns-in_err-first_in : goal.returns-in_err-first_in
returns-in_err-first_in c =
    let p = err_from_is_err_and c.from_residual-in_err-first_in.result c.from_residual-in_err-first_in.ensures.1 in
    rw (p.1, p.2) (λ f led marks.
    let d = content c.args.self.now.ground f in
    version_is d (256 * c.args.block + 76) any_length c.args.value.now led ∙ on _ _ led c.in_ok-mark.mark led _ (c.in_ok-mark.ensures c.args.self.now.ground f led) (off _ _ led _ (c.in_err-first_in.ensures c.args.self.now.ground f led marks)))

pub returns : goal.returns
returns c f led marks =
    let d = content c.args.self.now.ground f in
    let x = c.in_ok-first_in.ensures c.args.self.now.ground f led marks in
    record {
      led = x.led;
      is = version_is d (256 * c.args.block + 76) any_length c.args.value.now led ∙ on _ _ led c.in_ok-mark.mark led _ (c.in_ok-mark.ensures c.args.self.now.ground f led) (on _ _ led tt x.led _ (x.is) refl);
      marks = x.marks;
    }
