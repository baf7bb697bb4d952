use Rattle.daos_run.proofs.Firsts.{one-more}
use Rattle.daos_run.proofs.opening.clients_of.Goals as goal

pub loop-number-preserved : goal.loop-number-preserved
loop-number-preserved c =
    one-more c.args.script.now c.args.held.now c.args.attempts c.args.tracker c.loop-number.clients.items c.push.new.self.items c.loop-number.number c.in_ok-client.client c.in_ok-client.client.plan.commands c.loop-number.invariant c.in_ok-push.ensures.items c.in_ok-client.ensures.commands
    c.in_ok-client.ensures.plan c.in_ok-client.ensures.state
