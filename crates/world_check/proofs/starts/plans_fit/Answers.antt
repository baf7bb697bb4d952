use Rattle.std.proofs.Common.{arith}
use Rattle.replay_base.proofs.Starts.{all_so, none_so}
use Rattle.std.proofs.lemmas.Bool.Decides.{not_from_Decides}
use Rattle.world_list.specs.RunLists.{rules_of}
use Rattle.world_check.proofs.Starting.{all_fit, fit_more, fit_not}
use Rattle.world_check.proofs.starts.plans_fit.Goals as goal

pub returns-then-not-plan_fits : goal.returns-then-not-plan_fits
returns-then-not-plan_fits c =
    none_so (fit_not (rules_of c.args.events.now) c.loop-number.number c.commands_of.result.now c.commands_of.ensures (λ fits few. not_from_Decides c.plan_fits.result c.plan_fits.ensures c.if-not-plan_fits.true (fits, few)))

pub loop-number-preserved : goal.loop-number-preserved
loop-number-preserved c =
    let p = c.plan_fits.ensures.0 c.if-not-plan_fits.false in
    fit_more (rules_of c.args.events.now) c.loop-number.number c.commands_of.result.now c.commands_of.ensures p.0 p.1 c.loop-number.invariant

pub returns : goal.returns
returns c = all_so (all_fit (rules_of c.args.events.now) c.loop-number.number c.loop-number.invariant (omega (arith, c.loop-number-test.false, c.len-number-end.ensures)))
