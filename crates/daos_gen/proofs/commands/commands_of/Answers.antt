use Rattle.std.proofs.Common.{◌≡◌, ◌+◌, ◌++◌, [], ◌∷◌, sym, ap, ◌∙◌, add-one}
use Rattle.base_random.specs.Draws.{drawn, drawn_after}
use Rattle.daos_gen.specs.Commands.{command_drawn, command_of, commands_of}
use Rattle.daos_gen.proofs.More.{commands-then, commands-else, same_test, other_test}
use Rattle.daos_gen.proofs.commands.commands_of.Goals as goal
use Rattle.daos_gen.proofs.commands.commands_of.Goals.{then-i-client+in_ok-command_drawn+in_ok-push, else-i-client}

pub loop-i-preserved : goal.loop-i-preserved
loop-i-preserved c =
    let l = c.loop-i in
    let number : c.drawn-number.result ≡ drawn_after 1 (l.i + 1) = c.drawn-number.ensures ∙ ap drawn l.invariant.number ∙ sym (ap (drawn_after 1) (add-one l.i)) in
    let made : command_drawn c.args.targets l.i c.drawn-number.result ≡ command_of c.args.targets l.i = ap (command_drawn c.args.targets l.i) number in
    elim c.if-i-client.branch [
      | then-i-client+in_ok-command_drawn+in_ok-push w ↦ record {
        so_far = w.commands-is ∙ w.in_ok-push.ensures.ok ∙ ap (λ t. t ++ w.in_ok-command_drawn.field-0 ∷ []) l.invariant.so_far
            ∙ ap (λ t. commands_of c.args.targets l.i c.args.client ++ t ∷ []) (w.in_ok-command_drawn.ensures ∙ made)
            ∙ sym (commands-then c.args.targets c.args.client l.i (same_test _ _ w.if-i-client.true));
        number = number;
      }
      | else-i-client w ↦ record { so_far = w.commands-is ∙ l.invariant.so_far ∙ sym (commands-else c.args.targets c.args.client l.i (other_test _ _ w.if-i-client.false)); number = number }
    ]
