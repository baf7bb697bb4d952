use Rattle.std.proofs.Common.{Some, ap, sym, true, ◌∙◌}
use Rattle.replay_base.specs.Leases.{Extended}
use Rattle.replay_base.proofs.Covering.{covered_as}
use Rattle.replay_base.proofs.leases.cover.Goals as goal

pub returns-in-Some : goal.returns-in-Some
returns-in-Some c = Extended c.in-Some.lease c.if-ticks-durable.false (sym c.lease_for.ensures.exact ∙ c.in-Some.is) c.in-Some.ensures.covers.0 (ap (λ x. Some (covered_as x true)) c.leased.ensures)
