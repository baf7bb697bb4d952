use Rattle.std.proofs.Common.{subst}
use Rattle.std.specs.Bool.{Decides}
use Rattle.replay_base.specs.Heard.{CanRead}
use Rattle.std.proofs.lemmas.Bool.Decides.{not_from_Decides}
use Rattle.replay_base.proofs.Starts.{if_ok}
use Rattle.world_check.proofs.Hearing.{both_hold, first_fails}
use Rattle.world_check.proofs.hears.hears_fetch.Goals as goal

pub returns-then-can_read : goal.returns-then-can_read
returns-then-can_read c = if_ok _ _ c.fetches_so.result (λ test same. both_hold test ((subst (λ xs. Decides c.can_read.result (CanRead c.args.plan c.args.before.now.durable xs)) c.as_slice.ensures c.can_read.ensures).0 c.if-can_read.true) same) c.fetches_so.ensures

pub returns-else-can_read : goal.returns-else-can_read
returns-else-can_read c = first_fails (not_from_Decides c.can_read.result (subst (λ xs. Decides c.can_read.result (CanRead c.args.plan c.args.before.now.durable xs)) c.as_slice.ensures c.can_read.ensures) c.if-can_read.false)
