use Rattle.std.proofs.Common.{ap}
use Rattle.std.specs.Option.{option_copied}
use Rattle.replay_base.proofs.Starts.{if_ok}
use Rattle.replay_writes.proofs.Refusing.{restart_arm, space_arm, stored_arm}
use Rattle.replay_writes.proofs.ways.ends_told.Goals as goal

pub returns-in-Some : goal.returns-in-Some
returns-in-Some c =
    if_ok _ _ c.refuses_so.result
    (λ test same. restart_arm c.args.plan c.args.storing c.args.writes.now c.args.start c.args.before.now c.args.after.now c.args.did.now c.args.done.now c.args.outcome.now c.in-Some.cause.now (option_copied c.restart_of.result) test
    c.restart_of.ensures (ap option_copied c.in-Some.is) same) c.refuses_so.ensures

pub returns-then-is_no_space : goal.returns-then-is_no_space
returns-then-is_no_space c =
    if_ok _ _ c.lacks_space_so.result
    (λ test same. space_arm c.args.plan c.args.storing c.args.writes.now c.args.start c.args.before.now c.args.after.now c.args.did.now c.args.done.now c.args.outcome.now c.is_no_space.result test c.is_no_space.ensures c.if-is_no_space.true same) c.lacks_space_so.ensures

pub returns-else-is_no_space : goal.returns-else-is_no_space
returns-else-is_no_space c =
    if_ok _ _ c.stores_so.result
    (λ test same. stored_arm c.args.plan c.args.storing c.args.writes.now c.args.start c.args.before.now c.args.after.now c.args.did.now c.args.done.now c.args.outcome.now (option_copied c.restart_of.result) c.is_no_space.result test
    c.restart_of.ensures (ap option_copied c.in_default.is) c.is_no_space.ensures c.if-is_no_space.false same) c.stores_so.ensures
