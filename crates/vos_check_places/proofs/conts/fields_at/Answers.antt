use Rattle.std.proofs.Common.{◌+◌, sym, ◌∙◌, arith}
use Rattle.vos_check_places.proofs.Shown.{number_shown}
use Rattle.vos_check_places.proofs.conts.fields_at.Goals as goal

pub returns : goal.returns
returns c f s =
    let bs = c.args.fixed.now in
    let p = c.args.p in
    record {
      used = s p (omega arith) (omega arith);
      why = s (p + 1) (omega arith) (omega arith);
      floor = number_shown f bs (p + 8) 8 (λ i low high. s i (omega arith) (omega arith)) ∙ sym c.eight_at.ensures;
      reason = number_shown f bs (p + 16) 8 (λ i low high. s i (omega arith) (omega arith)) ∙ sym c.eight_at-2.ensures;
      aggregated = number_shown f bs (p + 24) 8 (λ i low high. s i (omega arith) (omega arith)) ∙ sym c.eight_at-3.ensures;
      ordinal = number_shown f bs (p + 32) 8 (λ i low high. s i (omega arith) (omega arith)) ∙ sym c.eight_at-4.ensures;
      uuid = number_shown f bs (p + 48) 16 (λ i low high. s i (omega arith) (omega arith)) ∙ sym c.sixteen_at.ensures;
    }
