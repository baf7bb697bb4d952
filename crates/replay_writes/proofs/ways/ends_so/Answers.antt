use Rattle.std.proofs.Common.{Some, None, ◌∙◌, ap}
use Rattle.std.specs.Option.{option_copied}
use Rattle.replay_base.proofs.Starts.{if_ok}
use Rattle.replay_writes.specs.Ways.{outcome_of}
use Rattle.replay_writes.proofs.Refusing.{told_arm}
use Rattle.replay_writes.proofs.ways.ends_so.Goals as goal

pub returns-in-Some : goal.returns-in-Some
returns-in-Some c =
    if_ok _ _ c.ends_told.result
    (λ test same. told_arm c.args.plan c.args.storing c.args.writes.now c.args.start c.args.before.now c.args.after.now c.args.did.now c.args.done.now (option_copied c.outcome_of.result) (Some c.in-Some.outcome.now) test
    (c.outcome_of.ensures ∙ ap outcome_of c.as_slice.ensures) (ap option_copied c.in-Some.is) same) c.ends_told.ensures

pub returns-in-None : goal.returns-in-None
returns-in-None c =
    if_ok _ _ c.stores_so.result
    (λ test same. told_arm c.args.plan c.args.storing c.args.writes.now c.args.start c.args.before.now c.args.after.now c.args.did.now c.args.done.now (option_copied c.outcome_of.result) None test
    (c.outcome_of.ensures ∙ ap outcome_of c.as_slice.ensures) (ap option_copied c.in-None.is) same) c.stores_so.ensures
