use Rattle.client_core.specs.Clients.{CommandFits}
use Rattle.model_laws.specs.Lists.{all-more, all-taken}
use Rattle.replay_base.proofs.Starts.{all_so, none_so}
use Rattle.replay_writes.proofs.Reading.{not_all}
use Rattle.world_check.proofs.starts.commands_fit.Goals as goal

pub returns-then-not-command_fits : goal.returns-then-not-command_fits
returns-then-not-command_fits c = none_so (not_all (CommandFits c.args.targets) c.args.commands.now c.loop-command.command-index c.command-item.result c.command_fits.result c.command_fits.ensures c.if-not-command_fits.true c.loop-command-test.true c.command-item.is)

pub loop-command-preserved : goal.loop-command-preserved
loop-command-preserved c = all-more (CommandFits c.args.targets) c.args.commands.now c.loop-command.command-index c.command-item.result c.loop-command-test.true c.command-item.is c.loop-command.invariant (c.command_fits.ensures.0 c.if-not-command_fits.false)

pub returns : goal.returns
returns c = all_so (all-taken (CommandFits c.args.targets) c.args.commands.now c.loop-command.command-index c.loop-command-test.false c.loop-command.invariant)
