use Rattle.run_stage.specs.Now.{stage_now}
use Rattle.run_stage.proofs.Stopping.{failed-by-foreign, failed-by-stop}
use Rattle.run_stage.proofs.stage.Stage.not_opened.Goals as goal
use Rattle.run_stage.proofs.stage.Stage.not_opened.Goals.{in-Store, in-Foreign, in-Memory}

-- its store stopped, or a byte of it is foreign
pub returns-clause-after : goal.returns-clause-after
returns-clause-after g c x at = elim c.match-stop.branch [
  | in-Store w ↦
      rw (w.result-is, w.self-is)
      (failed-by-stop w.fault.result c.args.t c.args.before (g.S.Store.state x.store).faults c.args.stop (stage_now c.args.self.now) (stage_now w.fault.new.self) w.in-Store.issued w.in-Store.lines w.in-Store.is (w.fault.ensures.after x at))
  | in-Foreign w ↦
      rw (w.result-is, w.self-is)
      (failed-by-foreign w.give_up.result c.args.t c.args.before (g.S.Store.state x.store).faults c.args.stop (stage_now c.args.self.now) (stage_now w.give_up.new.self) w.in-Foreign.at w.in-Foreign.byte w.in-Foreign.is w.give_up.ensures.given_up)
  | in-Memory w ↦ rw w.result-is tt
]
