use Rattle.world_closing.proofs.legal.laws_of_legal_reports.Goals as goal
use Rattle.world_closing.specs.legal.Ended.{ended-runs_follow, ends-have_lines, ends-in_turn, known-ends_legal}
use Rattle.world_closing.specs.legal.Headline.{reports-are_legal}
use Rattle.world_closing.specs.legal.Outcomes.{outcomes-are_legal}
use Rattle.world_closing.specs.legal.Reads.{reads-are_legal}
use Rattle.world_closing.specs.legal.Snapshots.{snapshots-are_legal}
use Rattle.world_closing.specs.legal.Told.{ends-are_told}

pub returns : goal.returns
returns c = record { reads = reads-are_legal; snapshots = snapshots-are_legal; outcomes = outcomes-are_legal; told = ends-are_told; reports = reports-are_legal; in_turn = ends-in_turn; lines = ends-have_lines; ended = known-ends_legal; follow = ended-runs_follow }
