use Rattle.std.specs.Prelude.{◌<◌}
use Rattle.std.proofs.Common.{subst}
use Rattle.model_laws.specs.Lists.{at-index}
use Rattle.run_stage.specs.Now.{stage_now}
use Rattle.run_stage.proofs.Opening.{same-there}
use Rattle.run_stage.proofs.Stopping.{failed-again}
use Rattle.run_stage.proofs.stage.Stage.fault.Goals as goal

-- the outside failed the target once more, not for the ninth time
pub returns-clause-after : goal.returns-clause-after
returns-clause-after g c x there =
    let now = c.args.self.now in
    let same = same-there now.targets.items c.args.t c.index.result.now x (at-index now.targets.items c.args.t c.index.result.now c.requires.there c.index.ensures) there in
    let rose : c.args.before < (g.S.Store.state c.index.result.now.store).faults = subst (λ n. c.args.before < n) c.faults.ensures c.if-faults-before.false in
    failed-again c.args.t c.args.before (g.S.Store.state x.store).faults (stage_now now) c.fail.new.self (subst (λ z. c.args.before < (g.S.Store.state z.store).faults) same rose) c.if-fail.ensures
