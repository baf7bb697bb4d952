use Rattle.std.proofs.Common.{refl, sym, ◌∙◌}
use Rattle.replay_base.proofs.Starts.{if_ok}
use Rattle.world_check.proofs.Hearing.{commit_heard}
use Rattle.world_check.proofs.hears.hears_other.Goals as goal

pub hears_prepared-requires-clause-commit : goal.hears_prepared-requires-clause-commit
hears_prepared-requires-clause-commit c = sym c.in_ok-request.ensures ∙ c.in-None.is

pub returns-in-Some : goal.returns-in-Some
returns-in-Some c =
    if_ok _ _ c.hears_commit.result
    (λ test same. commit_heard c.args.plan c.args.from c.args.message.now c.args.before.now c.args.after.now c.args.did.now c.in-Some.request c.in_ok-request.field-0 c.in_ok-request.field-0 test c.in_ok-request.ensures refl c.in-Some.is same) c.hears_commit.ensures
