use Rattle.std.proofs.Common.{◌≡◌, ◌∙◌, ◌+◌, ◌-◌, ◌++◌, length, drop, sym, ap, arith}
use Rattle.daos_model.specs.Answers.{in_byte_order}
use Rattle.std.proofs.lemmas.List.{drop_all}
use Rattle.client_moves.proofs.NameSteps.{in_order-none, one_more_behind, one_more_before}
use Rattle.client_moves.proofs.joins.join_names.Goals as goal

pub loop-behind-init : goal.loop-behind-init
loop-behind-init c = record { within = omega arith; are = c.new-names.ensures.items ∙ sym in_order-none ∙ ap in_byte_order (sym (drop_all (length c.args.other.now) c.args.other.now (omega arith))) }

pub loop-behind-preserved : goal.loop-behind-preserved
loop-behind-preserved c =
    let i = c.loop-behind.behind in
    let back : (i - 1) + 1 ≡ i = omega arith in
    record {
      within = omega arith;
      are =
          c.in_ok-put_among.ensures
          ∙ one_more_behind c.args.other.now c.loop-behind.names.items (i - 1) c.index-other-behind.result (omega arith) c.index-other-behind.is
          (c.loop-behind.invariant.are ∙ ap (λ n. in_byte_order (drop n c.args.other.now)) (sym back));
    }

pub loop-before-preserved : goal.loop-before-preserved
loop-before-preserved c =
    let i = c.loop-before.before in
    let back : (i - 1) + 1 ≡ i = omega arith in
    record {
      within = omega arith;
      are =
          c.in_ok-put_among-2.ensures
          ∙ one_more_before c.args.one.now c.args.other.now c.loop-before.names.items (i - 1) c.index-one-before.result (omega arith) c.index-one-before.is
          (c.loop-before.invariant.are ∙ ap (λ n. in_byte_order (drop n c.args.one.now ++ c.args.other.now)) (sym back));
    }
