use Rattle.std.proofs.Common.{subst}
use Rattle.std.specs.Bool.{Decides}
use Rattle.replay_base.specs.Heard.{CanCommit}
use Rattle.std.proofs.lemmas.Bool.Decides.{not_from_Decides}
use Rattle.replay_base.proofs.Starts.{if_ok}
use Rattle.world_check.proofs.Hearing.{both_hold, first_fails}
use Rattle.world_check.proofs.hears.hears_commit.Goals as goal

pub returns-then-can_commit : goal.returns-then-can_commit
returns-then-can_commit c = if_ok _ _ c.commits_so.result (λ test same. both_hold test ((subst (λ xs. Decides c.can_commit.result (CanCommit c.args.plan xs)) c.as_slice.ensures c.can_commit.ensures).0 c.if-can_commit.true) same) c.commits_so.ensures

pub returns-else-can_commit : goal.returns-else-can_commit
returns-else-can_commit c = first_fails (not_from_Decides c.can_commit.result (subst (λ xs. Decides c.can_commit.result (CanCommit c.args.plan xs)) c.as_slice.ensures c.can_commit.ensures) c.if-can_commit.false)
