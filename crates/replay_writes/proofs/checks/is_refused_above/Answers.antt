use Rattle.std.proofs.Common.{subst, sym}
use Rattle.std.specs.Prelude.{IfOk}
use Rattle.std.specs.Bool.{Decides}
use Rattle.replay_writes.specs.Refused.{IsRefusedAbove}
use Rattle.replay_writes.proofs.checks.is_refused_above.Goals as goal

pub returns-in-ReadLater : goal.returns-in-ReadLater
returns-in-ReadLater c =
    subst (λ x. IfOk c.is_refused_by_read.result (λ test. Decides test (IsRefusedAbove c.args.plan c.args.first c.args.epoch c.args.durable.now c.args.stamps.now c.args.writes.now x))) (sym c.in-ReadLater.is) c.is_refused_by_read.ensures
