use Rattle.std.proofs.Common.{◌≡◌, ◌==◌, ◌∷◌, [], ◌++◌, cond, true, sym, ap, ◌∙◌, arith}
use Rattle.std.proofs.lemmas.Grind.{common_steps}
use Rattle.vos_check.specs.vos_image.Steps.{is_among}
use Rattle.vos_check_entries.proofs.Names.{among_more}
use Rattle.vos_check_entries.proofs.seen.Seen.add.Goals as goal

pub invariant_of-self-then-is_new : goal.invariant_of-self-then-is_new
invariant_of-self-then-is_new c k =
    let n = c.args.number in
    let pushed : c.push.new.self.items ≡ c.self.inside.numbers.items ++ n ∷ [] = grind (arith, common_steps) in
    c.in_ok-is_new.ensures.updates.0 k
    ∙ (ap (λ t. cond (n == k) true t) (c.self.invariant k) ∙ (sym (among_more k n c.self.inside.numbers.items) ∙ ap (is_among k) (sym pushed)))
