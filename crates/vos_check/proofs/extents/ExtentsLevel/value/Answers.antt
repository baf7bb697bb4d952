use Rattle.std.proofs.Common.{◌≡◌, ◌+◌, ◌*◌, Bool, Ok, Err, refl, subst, ◌∙◌}
use Rattle.std.proofs.lemmas.Result.{err_from_is_err_and}
use Rattle.daos_model.specs.Forms.{fits_records}
use Rattle.vos_check.specs.Steps.{read_first}
use Rattle.vos_check_base.specs.Answers.{content}
use Rattle.vos_check_base.proofs.Steps.{off, on}
use Rattle.vos_check.proofs.FieldSteps.{version_is}
use Rattle.vos_check.proofs.extents.ExtentsLevel.value.Goals as goal

pub returns-in_err-mark : goal.returns-in_err-mark
returns-in_err-mark c =
    let p = err_from_is_err_and c.from_residual.result c.from_residual.ensures.1 in
    rw (p.1, p.2) (λ f led marks.
    let d = content c.args.self.now.ground f in
    version_is d (256 * c.args.block + 76) (fits_records c.args.self.now.unit c.args.name.low) c.args.value.now led ∙ off _ _ led _ (c.in_err-mark.ensures c.args.self.now.ground f led))

pub returns-in_err-first_in : goal.returns-in_err-first_in
returns-in_err-first_in c =
    let p = err_from_is_err_and c.from_residual-in_err-first_in.result c.from_residual-in_err-first_in.ensures.1 in
    rw (p.1, p.2) (λ f led marks.
    let d = content c.args.self.now.ground f in
    version_is d (256 * c.args.block + 76) (fits_records c.args.self.now.unit c.args.name.low) c.args.value.now led ∙ on _ _ led c.in_ok-mark.mark led _ (c.in_ok-mark.ensures c.args.self.now.ground f led) (off _ _ led _ (subst (λ (t : Bool). read_first d (256 * c.args.block + 76) t c.in_ok-mark.mark.chain led ≡ Err c.in_err-first_in.field-0.0) c.fits_records.ensures (c.in_err-first_in.ensures c.args.self.now.ground f led marks))))

pub returns : goal.returns
returns c f led marks =
    let d = content c.args.self.now.ground f in
    let x = c.in_ok-first_in.ensures c.args.self.now.ground f led marks in
    record {
      led = x.led;
      is = version_is d (256 * c.args.block + 76) (fits_records c.args.self.now.unit c.args.name.low) c.args.value.now led ∙ on _ _ led c.in_ok-mark.mark led _ (c.in_ok-mark.ensures c.args.self.now.ground f led) (on _ _ led tt x.led _ (subst (λ (t : Bool). read_first d (256 * c.args.block + 76) t c.in_ok-mark.mark.chain led ≡ Ok (tt, x.led)) c.fits_records.ensures x.is) refl);
      marks = x.marks;
    }
