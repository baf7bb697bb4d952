use Rattle.std.proofs.lemmas.Bool.Decides.{not_from_Decides}
use Rattle.base_messages.specs.declared.message.Message.TheVariants as message
use Rattle.world_check.proofs.Hearing.{made_heard, never_heard}
use Rattle.world_check.proofs.hears.verdicts_so.Goals as goal

pub returns-in_ok-left : goal.returns-in_ok-left
returns-in_ok-left c =
    made_heard c.args.plan c.args.from (message.Verdict c.args.told.0 c.args.told.1 c.args.told.2 c.args.told.3) c.args.before.now c.args.after.now c.args.did.now c.in_ok-left.left c.is_left_if.result
    (c.can_try_again.ensures.0 c.if-can_try_again.true) c.in_ok-left.ensures c.is_left_if.ensures

pub returns-else-can_try_again : goal.returns-else-can_try_again
returns-else-can_try_again c =
    never_heard c.args.plan c.args.from (message.Verdict c.args.told.0 c.args.told.1 c.args.told.2 c.args.told.3) c.args.before.now c.args.after.now c.args.did.now (not_from_Decides c.can_try_again.result c.can_try_again.ensures c.if-can_try_again.false)
