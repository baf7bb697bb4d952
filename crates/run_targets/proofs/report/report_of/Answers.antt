use Rattle.std.proofs.Common.{subst}
use Rattle.report_round_trip.specs.Values.{AllTellBytes}
use Rattle.run_targets.proofs.report.report_of.Goals as goal

pub returns-clause-bytes : goal.returns-clause-bytes
returns-clause-bytes c = subst AllTellBytes c.as_slice.ensures c.first_down-down.ensures.bytes
