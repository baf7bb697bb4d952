use Rattle.std.proofs.Common.{ℕ, drop, refl, ap, ◌∙◌}
use Rattle.std.specs.Prelude.{nat_le, nat_lt}
use Rattle.std.proofs.lemmas.Result.{err_from_is_err_and}
use Rattle.byteorder.specs.Endian.{big_number}
use Rattle.vos_values.specs.Values.{entry_in}
use Rattle.vos_image.specs.Kinds.{fits_targets}
use Rattle.vos_check_base.specs.Answers.{content}
use Rattle.vos_check_base.proofs.Steps.{off, on}
use Rattle.vos_check.proofs.EntrySteps.{entry_tests}
use Rattle.vos_check.proofs.entry.entry_in.Goals as goal

pub returns-in_err-rule_in : goal.returns-in_err-rule_in
returns-in_err-rule_in c =
    let p = err_from_is_err_and c.from_residual.result c.from_residual.ensures.1 in
    rw (p.1, p.2) (λ a f led marks.
    let d = content c.args.ground.now f in
    entry_tests d c.args.block a c.args.value.now c.has_state.result (nat_lt (big_number 1 (drop 1 c.args.value.now.bytes)) d.targets) (fits_targets d (big_number 8 (drop 2 c.args.value.now.bytes))) (fits_targets d (big_number 8 (drop 10 c.args.value.now.bytes))) (nat_le (big_number 8 (drop 18 c.args.value.now.bytes)) d.covered) (entry_in c.args.value.now) led c.has_state.ensures refl refl refl refl refl
    ∙ (off _ _ led _ (c.in_err-rule_in.ensures led)))

pub returns-in_err-rule_in-2 : goal.returns-in_err-rule_in-2
returns-in_err-rule_in-2 c =
    let p = err_from_is_err_and c.from_residual-in_err-rule_in-2.result c.from_residual-in_err-rule_in-2.ensures.1 in
    rw (p.1, p.2) (λ a f led marks.
    let d = content c.args.ground.now f in
    entry_tests d c.args.block a c.args.value.now c.has_state.result (nat_lt c.one_at.result c.args.ground.now.targets) (fits_targets d (big_number 8 (drop 2 c.args.value.now.bytes))) (fits_targets d (big_number 8 (drop 10 c.args.value.now.bytes))) (nat_le (big_number 8 (drop 18 c.args.value.now.bytes)) d.covered) (entry_in c.args.value.now) led c.has_state.ensures (ap (λ (n : ℕ). nat_lt n c.args.ground.now.targets) c.one_at.ensures) refl refl refl refl
    ∙ (on _ _ led tt led _ (c.in_ok-rule_in.ensures led) (off _ _ led _ (c.in_err-rule_in-2.ensures led))))

pub returns-in_err-rule_in-3 : goal.returns-in_err-rule_in-3
returns-in_err-rule_in-3 c =
    let p = err_from_is_err_and c.from_residual-in_err-rule_in-3.result c.from_residual-in_err-rule_in-3.ensures.1 in
    rw (p.1, p.2) (λ a f led marks.
    let d = content c.args.ground.now f in
    entry_tests d c.args.block a c.args.value.now c.has_state.result (nat_lt c.one_at.result c.args.ground.now.targets) c.fits_targets.result (fits_targets d (big_number 8 (drop 10 c.args.value.now.bytes))) (nat_le (big_number 8 (drop 18 c.args.value.now.bytes)) d.covered) (entry_in c.args.value.now) led c.has_state.ensures (ap (λ (n : ℕ). nat_lt n c.args.ground.now.targets) c.one_at.ensures) (c.fits_targets.ensures f ∙ ap (λ (n : ℕ). fits_targets d n) c.eight_at.ensures) refl refl refl
    ∙ (on _ _ led tt led _ (c.in_ok-rule_in.ensures led) (on _ _ led tt led _ (c.in_ok-rule_in-2.ensures led) (off _ _ led _ (c.in_err-rule_in-3.ensures led)))))

pub returns-in_err-rule_in-4 : goal.returns-in_err-rule_in-4
returns-in_err-rule_in-4 c =
    let p = err_from_is_err_and c.from_residual-in_err-rule_in-4.result c.from_residual-in_err-rule_in-4.ensures.1 in
    rw (p.1, p.2) (λ a f led marks.
    let d = content c.args.ground.now f in
    entry_tests d c.args.block a c.args.value.now c.has_state.result (nat_lt c.one_at.result c.args.ground.now.targets) c.fits_targets.result c.fits_targets-2.result (nat_le (big_number 8 (drop 18 c.args.value.now.bytes)) d.covered) (entry_in c.args.value.now) led c.has_state.ensures (ap (λ (n : ℕ). nat_lt n c.args.ground.now.targets) c.one_at.ensures) (c.fits_targets.ensures f ∙ ap (λ (n : ℕ). fits_targets d n) c.eight_at.ensures) (c.fits_targets-2.ensures f ∙ ap (λ (n : ℕ). fits_targets d n) c.eight_at-2.ensures) refl refl
    ∙ (on _ _ led tt led _ (c.in_ok-rule_in.ensures led) (on _ _ led tt led _ (c.in_ok-rule_in-2.ensures led) (on _ _ led tt led _ (c.in_ok-rule_in-3.ensures led) (off _ _ led _ (c.in_err-rule_in-4.ensures led))))))

pub returns-in_err-rule_in-5 : goal.returns-in_err-rule_in-5
returns-in_err-rule_in-5 c =
    let p = err_from_is_err_and c.from_residual-in_err-rule_in-5.result c.from_residual-in_err-rule_in-5.ensures.1 in
    rw (p.1, p.2) (λ a f led marks.
    let d = content c.args.ground.now f in
    entry_tests d c.args.block a c.args.value.now c.has_state.result (nat_lt c.one_at.result c.args.ground.now.targets) c.fits_targets.result c.fits_targets-2.result (nat_le c.eight_at-3.result c.args.ground.now.covered) (entry_in c.args.value.now) led c.has_state.ensures (ap (λ (n : ℕ). nat_lt n c.args.ground.now.targets) c.one_at.ensures) (c.fits_targets.ensures f ∙ ap (λ (n : ℕ). fits_targets d n) c.eight_at.ensures) (c.fits_targets-2.ensures f ∙ ap (λ (n : ℕ). fits_targets d n) c.eight_at-2.ensures) (ap (λ (n : ℕ). nat_le n c.args.ground.now.covered) c.eight_at-3.ensures) refl
    ∙ (on _ _ led tt led _ (c.in_ok-rule_in.ensures led) (on _ _ led tt led _ (c.in_ok-rule_in-2.ensures led) (on _ _ led tt led _ (c.in_ok-rule_in-3.ensures led) (on _ _ led tt led _ (c.in_ok-rule_in-4.ensures led) (off _ _ led _ (c.in_err-rule_in-5.ensures led)))))))

pub returns-in_err-mark : goal.returns-in_err-mark
returns-in_err-mark c =
    let p = err_from_is_err_and c.from_residual-in_err-mark.result c.from_residual-in_err-mark.ensures.1 in
    rw (p.1, p.2) (λ a f led marks.
    let d = content c.args.ground.now f in
    entry_tests d c.args.block a c.args.value.now c.has_state.result (nat_lt c.one_at.result c.args.ground.now.targets) c.fits_targets.result c.fits_targets-2.result (nat_le c.eight_at-3.result c.args.ground.now.covered) c.read_entry.result led c.has_state.ensures (ap (λ (n : ℕ). nat_lt n c.args.ground.now.targets) c.one_at.ensures) (c.fits_targets.ensures f ∙ ap (λ (n : ℕ). fits_targets d n) c.eight_at.ensures) (c.fits_targets-2.ensures f ∙ ap (λ (n : ℕ). fits_targets d n) c.eight_at-2.ensures) (ap (λ (n : ℕ). nat_le n c.args.ground.now.covered) c.eight_at-3.ensures) c.read_entry.ensures
    ∙ (on _ _ led tt led _ (c.in_ok-rule_in.ensures led) (on _ _ led tt led _ (c.in_ok-rule_in-2.ensures led) (on _ _ led tt led _ (c.in_ok-rule_in-3.ensures led) (on _ _ led tt led _ (c.in_ok-rule_in-4.ensures led) (on _ _ led tt led _ (c.in_ok-rule_in-5.ensures led) (off _ _ led _ (c.in_err-mark.ensures led))))))))

pub returns-in_err-lead_in : goal.returns-in_err-lead_in
returns-in_err-lead_in c =
    let p = err_from_is_err_and c.from_residual-in_err-lead_in.result c.from_residual-in_err-lead_in.ensures.1 in
    rw (p.1, p.2) (λ a f led marks.
    let d = content c.args.ground.now f in
    entry_tests d c.args.block a c.args.value.now c.has_state.result (nat_lt c.one_at.result c.args.ground.now.targets) c.fits_targets.result c.fits_targets-2.result (nat_le c.eight_at-3.result c.args.ground.now.covered) c.read_entry.result led c.has_state.ensures (ap (λ (n : ℕ). nat_lt n c.args.ground.now.targets) c.one_at.ensures) (c.fits_targets.ensures f ∙ ap (λ (n : ℕ). fits_targets d n) c.eight_at.ensures) (c.fits_targets-2.ensures f ∙ ap (λ (n : ℕ). fits_targets d n) c.eight_at-2.ensures) (ap (λ (n : ℕ). nat_le n c.args.ground.now.covered) c.eight_at-3.ensures) c.read_entry.ensures
    ∙ (on _ _ led tt led _ (c.in_ok-rule_in.ensures led) (on _ _ led tt led _ (c.in_ok-rule_in-2.ensures led) (on _ _ led tt led _ (c.in_ok-rule_in-3.ensures led) (on _ _ led tt led _ (c.in_ok-rule_in-4.ensures led) (on _ _ led tt led _ (c.in_ok-rule_in-5.ensures led) (on _ _ led c.in_ok-mark.mark led _ (c.in_ok-mark.ensures led) (off _ _ led _ (c.in_err-lead_in.ensures d led marks)))))))))

pub returns : goal.returns
returns c a f led marks =
    let d = content c.args.ground.now f in
    let x = c.in_ok-lead_in.ensures d led marks in
    record {
      led = x.led;
      is = entry_tests d c.args.block a c.args.value.now c.has_state.result (nat_lt c.one_at.result c.args.ground.now.targets) c.fits_targets.result c.fits_targets-2.result (nat_le c.eight_at-3.result c.args.ground.now.covered) c.read_entry.result led c.has_state.ensures (ap (λ (n : ℕ). nat_lt n c.args.ground.now.targets) c.one_at.ensures) (c.fits_targets.ensures f ∙ ap (λ (n : ℕ). fits_targets d n) c.eight_at.ensures) (c.fits_targets-2.ensures f ∙ ap (λ (n : ℕ). fits_targets d n) c.eight_at-2.ensures) (ap (λ (n : ℕ). nat_le n c.args.ground.now.covered) c.eight_at-3.ensures) c.read_entry.ensures
          ∙ (on _ _ led tt led _ (c.in_ok-rule_in.ensures led) (on _ _ led tt led _ (c.in_ok-rule_in-2.ensures led) (on _ _ led tt led _ (c.in_ok-rule_in-3.ensures led) (on _ _ led tt led _ (c.in_ok-rule_in-4.ensures led) (on _ _ led tt led _ (c.in_ok-rule_in-5.ensures led) (on _ _ led c.in_ok-mark.mark led _ (c.in_ok-mark.ensures led) (on _ _ led tt x.led _ x.is refl)))))));
      marks = x.marks;
    }
