use Rattle.std.proofs.Common.{subst}
use Rattle.std.specs.Bool.{Decides}
use Rattle.daos_model.specs.Forms.{AreWritesInForm}
use Rattle.std.proofs.lemmas.Bool.Decides.{not_from_Decides}
use Rattle.replay_base.proofs.Starts.{if_ok}
use Rattle.world_check.proofs.Hearing.{both_hold, first_fails}
use Rattle.world_check.proofs.hears.hears_prepare.Goals as goal

pub returns-then-are_writes : goal.returns-then-are_writes
returns-then-are_writes c = if_ok _ _ c.prepares_so.result (λ test same. both_hold test ((subst (λ xs. Decides c.are_writes.result (AreWritesInForm xs)) c.as_slice.ensures c.are_writes.ensures).0 c.if-are_writes.true) same) c.prepares_so.ensures

pub returns-else-are_writes : goal.returns-else-are_writes
returns-else-are_writes c = first_fails (not_from_Decides c.are_writes.result (subst (λ xs. Decides c.are_writes.result (AreWritesInForm xs)) c.as_slice.ensures c.are_writes.ensures) c.if-are_writes.false)
