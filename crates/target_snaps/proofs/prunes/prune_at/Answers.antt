use Rattle.std.proofs.Common.{ap, ◌∙◌}
use Rattle.daos_model.specs.Attempts.{tries}
use Rattle.target_snaps.proofs.Limiting.{prune-allowed}
use Rattle.target_snaps.proofs.Standing.{target-pruned}
use Rattle.target_snaps.proofs.Following.{aggregate-tried, none-tried}
use Rattle.target_snaps.proofs.prunes.prune_at.Goals as goal

pub prune_to-requires-clause-can : goal.prune_to-requires-clause-can
prune_to-requires-clause-can g c d at =
    prune-allowed c.args.cont c.args.epoch d c.limit_of-limit.result c.aggregated.result (c.limit_of-limit.ensures d at) (c.aggregated.ensures c.requires.running d at) (g.met.S.Store.formed _ c.requires.running d at) (c.requires.enlisted d at) (c.requires.leased d at) c.if-limit-aggregated.false

pub returns-clause-target : goal.returns-clause-target
returns-clause-target g c =
    target-pruned c.args.plan c.args.cont c.limit_of-limit.result c.args.number _ (g.S.Store.state c.args.store.now) (g.S.Store.state c.prune_to.new.store) (g.S.Store.durable c.args.store.now) (g.S.Store.durable c.prune_to.new.store) (g.S.Store.may c.prune_to.new.store) c.args.knows.now c.requires.target c.requires.running
    c.in_default.ensures.runs c.in_default.ensures.made

-- ---- what is told

pub returns-then-limit-aggregated-clause-told : goal.returns-then-limit-aggregated-clause-told
returns-then-limit-aggregated-clause-told g c = ap tries c.new.ensures ∙ none-tried

pub returns-in-Err-clause-told : goal.returns-in-Err-clause-told
returns-in-Err-clause-told g c = ap tries c.in_ok-lines.ensures ∙ aggregate-tried c.args.number c.args.plan.me c.args.cont c.limit_of-limit.result

pub returns-clause-told : goal.returns-clause-told
returns-clause-told g c = ap tries c.in_ok-lines.ensures ∙ aggregate-tried c.args.number c.args.plan.me c.args.cont c.limit_of-limit.result
