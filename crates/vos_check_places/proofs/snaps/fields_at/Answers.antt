use Rattle.std.proofs.Common.{◌+◌, sym, ◌∙◌, arith}
use Rattle.vos_check_places.proofs.Shown.{number_shown}
use Rattle.vos_check_places.proofs.snaps.fields_at.Goals as goal

pub returns : goal.returns
returns c f s =
    let bs = c.args.fixed.now in
    let p = c.args.p in
    record {
      used = s p (omega arith) (omega arith);
      epoch = number_shown f bs (p + 8) 8 (λ i low high. s i (omega arith) (omega arith)) ∙ sym c.eight_at.ensures;
      uuid = number_shown f bs (p + 16) 16 (λ i low high. s i (omega arith) (omega arith)) ∙ sym c.sixteen_at.ensures;
    }
