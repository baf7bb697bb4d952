use Rattle.std.proofs.Common.{Some}
use Rattle.base_messages.specs.declared.message.Message.TheVariants as message
use Rattle.world_check.proofs.Hearing.{made_heard}
use Rattle.world_check.proofs.hears.marked_so.Goals as goal

pub returns : goal.returns
returns c = made_heard c.args.plan c.args.from (message.Marked c.args.inc c.args.attempts.now) c.args.before.now c.args.after.now c.args.did.now (Some c.in_ok-left.left) c.is_left_if.result tt c.in_ok-left.ensures c.is_left_if.ensures
