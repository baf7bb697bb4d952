use Rattle.std.specs.Prelude.{slice_get}
use Rattle.std.proofs.Common.{◌∙◌, ap}
use Rattle.run_stage.specs.Now.{stage_now}
use Rattle.run_stage.proofs.Stopping.{cut-off}
use Rattle.run_stage.proofs.stage.Stage.cut.Goals as goal

-- it stopped, and was given up where the outside failed it for the ninth time
pub returns-in_ok-stop-in-Store-clause-after : goal.returns-in_ok-stop-in-Store-clause-after
returns-in_ok-stop-in-Store-clause-after g c x there =
    cut-off c.fault.result c.args.t c.args.before (g.S.Store.state x.store).faults c.args.stop (stage_now c.args.self.now) (stage_now c.stop.new.self) (stage_now c.fault.new.self) c.in-Store.issued c.in-Store.lines c.in-Store.is
    c.in_ok-stop-in-Store.ensures.stopped (c.fault.ensures.after x (ap (λ ts. slice_get ts.items c.args.t) c.in_ok-stop-in-Store.ensures.targets ∙ there))
