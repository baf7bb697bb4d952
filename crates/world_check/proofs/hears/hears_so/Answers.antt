use Rattle.std.proofs.Common.{refl, sym, ◌∙◌}
use Rattle.replay_base.proofs.Starts.{if_ok}
use Rattle.world_check.proofs.Hearing.{fetch_heard}
use Rattle.world_check.proofs.hears.hears_so.Goals as goal

pub hears_other-requires : goal.hears_other-requires
hears_other-requires c = sym c.in_ok-request.ensures ∙ c.in-None.is

pub returns-in-Some : goal.returns-in-Some
returns-in-Some c =
    if_ok _ _ c.hears_fetch.result
    (λ test same. fetch_heard c.args.plan c.args.from c.args.message.now c.args.before.now c.args.after.now c.args.did.now c.in-Some.request c.in_ok-request.field-0 c.in_ok-request.field-0 test c.in_ok-request.ensures refl c.in-Some.is same) c.hears_fetch.ensures
