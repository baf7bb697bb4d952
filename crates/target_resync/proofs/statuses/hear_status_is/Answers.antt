use Rattle.std.proofs.Common.{subst, sym}
use Rattle.target_dtx.specs.world_ended.Asking.{AreRefusals}
use Rattle.target_dtx.specs.world_ended.PostLaws.{statuses-refuse}
use Rattle.target_resync.proofs.statuses.hear_status_is.Goals as goal

pub returns-clause-ends : goal.returns-clause-ends
returns-clause-ends g c asked = c.hear_ack.ensures.ends asked (subst AreRefusals (sym c.status_refusal-refusal.ensures) (statuses-refuse c.args.attempt c.args.state))
