use Rattle.std.proofs.Common.{◌*◌, ◌==◌, not, Ok, Err, refl, ap, ◌∙◌}
use Rattle.std.specs.Prelude.{if◌then◌else◌, slice_index}
use Rattle.std.proofs.lemmas.Result.{err_from_is_err_and}
use Rattle.vos_check_base.specs.Answers.{content}
use Rattle.vos_check_base.proofs.Steps.{off, on}
use Rattle.vos_check.proofs.Links.{by_tests, zeros_moved}
use Rattle.vos_check.proofs.chain.link_fields.Goals as goal

pub returns-in_err-rule_in : goal.returns-in_err-rule_in
returns-in_err-rule_in c =
    let p = err_from_is_err_and c.from_residual.result c.from_residual.ensures.1 in
    rw (p.1, p.2) (λ g f led here marks.
    let d = content g f in
    by_tests d c.args.block c.args.bytes.now c.args.is_last (slice_index c.args.bytes.now 0 == 8) (if c.args.is_last then c.four_at-next.result == 0 else not (c.four_at-next.result == 0)) c.four_at-next.result c.args.part led here c.four_at-next.ensures refl refl
    ∙ (off _ _ led _ (c.in_err-rule_in.ensures led)))

pub returns-in_err-three_zeros : goal.returns-in_err-three_zeros
returns-in_err-three_zeros c =
    let p = err_from_is_err_and c.from_residual-in_err-three_zeros.result c.from_residual-in_err-three_zeros.ensures.1 in
    rw (p.1, p.2) (λ g f led here marks.
    let d = content g f in
    by_tests d c.args.block c.args.bytes.now c.args.is_last (slice_index c.args.bytes.now 0 == 8) (if c.args.is_last then c.four_at-next.result == 0 else not (c.four_at-next.result == 0)) c.four_at-next.result c.args.part led here c.four_at-next.ensures refl refl
    ∙ (on _ _ led tt led _ (c.in_ok-rule_in.ensures led) (off _ _ led _ (c.in_err-three_zeros.ensures led))))

pub returns-in_err-lead_in : goal.returns-in_err-lead_in
returns-in_err-lead_in c =
    let p = err_from_is_err_and c.from_residual-in_err-lead_in.result c.from_residual-in_err-lead_in.ensures.1 in
    rw (p.1, p.2) (λ g f led here marks.
    let d = content g f in
    by_tests d c.args.block c.args.bytes.now c.args.is_last (slice_index c.args.bytes.now 0 == 8) (if c.args.is_last then c.four_at-next.result == 0 else not (c.four_at-next.result == 0)) c.four_at-next.result c.args.part led here c.four_at-next.ensures refl refl
    ∙ (on _ _ led tt led _ (c.in_ok-rule_in.ensures led) (on _ _ led tt led _ (c.in_ok-three_zeros.ensures led) (off _ _ led _ (c.in_err-lead_in.ensures d led marks)))))

pub returns-in_err-rule_in-2 : goal.returns-in_err-rule_in-2
returns-in_err-rule_in-2 c =
    let p = err_from_is_err_and c.from_residual-in_err-rule_in-2.result c.from_residual-in_err-rule_in-2.ensures.1 in
    rw (p.1, p.2) (λ g f led here marks.
    let d = content g f in
    let x = c.in_ok-lead_in.ensures d led marks in
    by_tests d c.args.block c.args.bytes.now c.args.is_last (slice_index c.args.bytes.now 0 == 8) c.leads_on.result c.four_at-next.result c.args.part led here c.four_at-next.ensures refl c.leads_on.ensures
    ∙ (on _ _ led tt led _ (c.in_ok-rule_in.ensures led) (on _ _ led tt led _ (c.in_ok-three_zeros.ensures led) (on _ _ led tt x.led _ x.is (off _ _ x.led _ (c.in_err-rule_in-2.ensures x.led))))))

pub returns-in_err-zeros_from : goal.returns-in_err-zeros_from
returns-in_err-zeros_from c =
    let p = err_from_is_err_and c.from_residual-in_err-zeros_from.result c.from_residual-in_err-zeros_from.ensures.1 in
    rw (p.1, p.2) (λ g f led here marks.
    let d = content g f in
    let x = c.in_ok-lead_in.ensures d led marks in
    by_tests d c.args.block c.args.bytes.now c.args.is_last (slice_index c.args.bytes.now 0 == 8) c.leads_on.result c.four_at-next.result c.args.part led here c.four_at-next.ensures refl c.leads_on.ensures
    ∙ (on _ _ led tt led _ (c.in_ok-rule_in.ensures led) (on _ _ led tt led _ (c.in_ok-three_zeros.ensures led) (on _ _ led tt x.led _ x.is (on _ _ x.led tt x.led _ (c.in_ok-rule_in-2.ensures x.led) (off _ _ x.led _ (zeros_moved c.args.bytes.now c.args.part c.from-2.result (256 * c.args.block) (256 * c.from.result) x.led (Err c.in_err-zeros_from.field-0.0) c.from-2.ensures (ap (λ n. 256 * n) c.from.ensures) (c.in_err-zeros_from.ensures x.led))))))))

pub returns : goal.returns
returns c g f led here marks =
    let d = content g f in
    let x = c.in_ok-lead_in.ensures d led marks in
    record {
      led = x.led;
      is = by_tests d c.args.block c.args.bytes.now c.args.is_last (slice_index c.args.bytes.now 0 == 8) c.leads_on.result c.four_at-next.result c.args.part led here c.four_at-next.ensures refl c.leads_on.ensures
          ∙ (on _ _ led tt led _ (c.in_ok-rule_in.ensures led) (on _ _ led tt led _ (c.in_ok-three_zeros.ensures led) (on _ _ led tt x.led _ x.is (on _ _ x.led tt x.led _ (c.in_ok-rule_in-2.ensures x.led) (on _ _ x.led tt x.led _ (zeros_moved c.args.bytes.now c.args.part c.from-2.result (256 * c.args.block) (256 * c.from.result) x.led (Ok (tt {0})) c.from-2.ensures (ap (λ n. 256 * n) c.from.ensures) (c.in_ok-zeros_from.ensures x.led)) refl)))));
      marks = x.marks;
    }
