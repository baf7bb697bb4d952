use Rattle.std.proofs.Common.{sym, ◌∙◌, ap}
use Rattle.world_base.specs.ClientTurns.{command_moves}
use Rattle.client_moves.proofs.moves.command_moves.Goals as goal

pub returns-in-Tell : goal.returns-in-Tell
returns-in-Tell c = c.tells.ensures c.args.plan.now ∙ ap (λ d. command_moves c.args.plan.now c.args.state d) (sym c.in-Tell.is)
