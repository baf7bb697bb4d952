use Rattle.std.proofs.Common.{◌∙◌}
use Rattle.run_base.proofs.Lost.{reset-made}
use Rattle.run_base.proofs.losing.reset_of.Goals as goal

pub returns : goal.returns
returns c = reset-made c.args.target c.args.down c.args.letter.now c.in_ok-new.field-0 c.requires.to_it (c.in_ok-new.ensures ∙ c.in_ok-message.ensures)
