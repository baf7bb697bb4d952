use Rattle.std.specs.Prelude.{length}
use Rattle.run_base.specs.Picks.{numbered}
use Rattle.run_laws.specs.shows.Due.{AreDue, first_targets}
use Rattle.run_stage.specs.Now.{stage_now}
use Rattle.world_base.specs.Letters.{client}
use Rattle.run_stage.proofs.stage.Stage.due.Given as goal

-- the clients so far that have something to do
abbrev pub invariant-loop-n : goal.invariant-loop-n
invariant-loop-n g l = AreDue g.S.Store.durable g.S.Store.state l.settling (stage_now l.self) (numbered client l.n) l.due.items

-- all such clients, and the targets so far
abbrev pub invariant-loop-t : goal.invariant-loop-t
invariant-loop-t g l = AreDue g.S.Store.durable g.S.Store.state l.settling (stage_now l.self) (first_targets (length l.self.clients.items) l.t) l.due.items
