use Rattle.std.proofs.Common.{refl, sym, ◌∙◌}
use Rattle.replay_base.proofs.Starts.{if_ok}
use Rattle.world_check.proofs.Hearing.{prepare_heard}
use Rattle.world_check.proofs.hears.hears_prepared.Goals as goal

pub hears_plain-requires-clause-prepare : goal.hears_plain-requires-clause-prepare
hears_plain-requires-clause-prepare c = sym c.in_ok-request.ensures ∙ c.in-None.is

pub returns-in-Some : goal.returns-in-Some
returns-in-Some c =
    if_ok _ _ c.hears_prepare.result
    (λ test same. prepare_heard c.args.plan c.args.from c.args.message.now c.args.before.now c.args.after.now c.args.did.now c.in-Some.request c.in_ok-request.field-0 c.in_ok-request.field-0 test c.in_ok-request.ensures refl c.in-Some.is same) c.hears_prepare.ensures
