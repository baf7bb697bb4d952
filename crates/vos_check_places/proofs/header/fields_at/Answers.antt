use Rattle.std.proofs.Common.{sym, ◌∙◌, arith}
use Rattle.vos_check_places.proofs.Shown.{number_shown}
use Rattle.vos_check_places.proofs.header.fields_at.Goals as goal

pub returns : goal.returns
returns c f s =
    let bs = c.args.fixed.now in
    record {
      layout = number_shown f bs 8 4 (λ i low high. s i (omega arith) (omega arith)) ∙ sym c.four_at.ensures;
      target = s 12 (omega arith) (omega arith);
      targets = s 13 (omega arith) (omega arith);
      incarnation = number_shown f bs 24 8 (λ i low high. s i (omega arith) (omega arith)) ∙ sym c.eight_at.ensures;
      lease = number_shown f bs 32 8 (λ i low high. s i (omega arith) (omega arith)) ∙ sym c.eight_at-2.ensures;
      objects = number_shown f bs 40 4 (λ i low high. s i (omega arith) (omega arith)) ∙ sym c.four_at-2.ensures;
      entries = number_shown f bs 44 4 (λ i low high. s i (omega arith) (omega arith)) ∙ sym c.four_at-3.ensures;
    }
