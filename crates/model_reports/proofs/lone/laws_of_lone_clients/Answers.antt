use Rattle.model_reports.specs.Ends.{commit, end-plainly, fresh-ticks}
use Rattle.model_reports.specs.Once.{rise, try-once}
use Rattle.model_reports.specs.Restarts.{never-restart}
use Rattle.model_reports.proofs.lone.laws_of_lone_clients.Goals as goal

pub returns : goal.returns
returns c = record { never_restarted = never-restart; one_attempt = try-once; rising = rise; plainly = end-plainly; committed = commit; ticks = fresh-ticks }
