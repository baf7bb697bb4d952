use Rattle.std.proofs.Common.{◌==◌, not, drop, ap, refl, ◌∙◌}
use Rattle.std.specs.Prelude.{slice_index}
use Rattle.std.proofs.lemmas.Result.{err_from_is_err_and}
use Rattle.byteorder.specs.Endian.{big_number}
use Rattle.vos_check_base.specs.Answers.{content}
use Rattle.vos_check_base.proofs.Steps.{off, on}
use Rattle.vos_check_entries.proofs.NumberSteps.{front_tests}
use Rattle.vos_check_entries.proofs.numbers.front.Goals as goal

pub returns-in_err-rule_in : goal.returns-in_err-rule_in
returns-in_err-rule_in c =
    let p = err_from_is_err_and c.from_residual.result c.from_residual.ensures.1 in
    rw (p.1, p.2) (λ g f led here marks.
    let d = content g f in
    front_tests d c.args.block c.args.bytes.now (slice_index c.args.bytes.now 0 == 8) (not (big_number 4 (drop 8 c.args.bytes.now) == 0)) c.four_at-next.result led here c.four_at-next.ensures refl refl
    ∙ (off _ _ led _ (c.in_err-rule_in.ensures led)))

pub returns-in_err-three_zeros : goal.returns-in_err-three_zeros
returns-in_err-three_zeros c =
    let p = err_from_is_err_and c.from_residual-in_err-three_zeros.result c.from_residual-in_err-three_zeros.ensures.1 in
    rw (p.1, p.2) (λ g f led here marks.
    let d = content g f in
    front_tests d c.args.block c.args.bytes.now (slice_index c.args.bytes.now 0 == 8) (not (big_number 4 (drop 8 c.args.bytes.now) == 0)) c.four_at-next.result led here c.four_at-next.ensures refl refl
    ∙ (on _ _ led tt led _ (c.in_ok-rule_in.ensures led) (off _ _ led _ (c.in_err-three_zeros.ensures led))))

pub returns-in_err-lead_in : goal.returns-in_err-lead_in
returns-in_err-lead_in c =
    let p = err_from_is_err_and c.from_residual-in_err-lead_in.result c.from_residual-in_err-lead_in.ensures.1 in
    rw (p.1, p.2) (λ g f led here marks.
    let d = content g f in
    front_tests d c.args.block c.args.bytes.now (slice_index c.args.bytes.now 0 == 8) (not (big_number 4 (drop 8 c.args.bytes.now) == 0)) c.four_at-next.result led here c.four_at-next.ensures refl refl
    ∙ (on _ _ led tt led _ (c.in_ok-rule_in.ensures led) (on _ _ led tt led _ (c.in_ok-three_zeros.ensures led) (off _ _ led _ (c.in_err-lead_in.ensures (content g f) led marks)))))

pub returns-in_err-rule_in-2 : goal.returns-in_err-rule_in-2
returns-in_err-rule_in-2 c =
    let p = err_from_is_err_and c.from_residual-in_err-rule_in-2.result c.from_residual-in_err-rule_in-2.ensures.1 in
    rw (p.1, p.2) (λ g f led here marks.
    let d = content g f in
    let x = c.in_ok-lead_in.ensures d led marks in
    front_tests d c.args.block c.args.bytes.now (slice_index c.args.bytes.now 0 == 8) (not (c.four_at.result == 0)) c.four_at-next.result led here c.four_at-next.ensures refl (ap (λ n. not (n == 0)) c.four_at.ensures)
    ∙ on _ _ led tt led _ (c.in_ok-rule_in.ensures led) (on _ _ led tt led _ (c.in_ok-three_zeros.ensures led) (on _ _ led tt x.led _ x.is (off _ _ x.led _ (c.in_err-rule_in-2.ensures x.led)))))

pub returns : goal.returns
returns c g f led here marks =
    let d = content g f in
    let x = c.in_ok-lead_in.ensures d led marks in
    record {
      led = x.led;
      is = front_tests d c.args.block c.args.bytes.now (slice_index c.args.bytes.now 0 == 8) (not (c.four_at.result == 0)) c.four_at-next.result led here c.four_at-next.ensures refl (ap (λ n. not (n == 0)) c.four_at.ensures)
          ∙ on _ _ led tt led _ (c.in_ok-rule_in.ensures led) (on _ _ led tt led _ (c.in_ok-three_zeros.ensures led) (on _ _ led tt x.led _ x.is (on _ _ x.led tt x.led _ (c.in_ok-rule_in-2.ensures x.led) refl)));
      marks = x.marks;
    }
