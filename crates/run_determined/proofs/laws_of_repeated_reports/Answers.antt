use Rattle.run_determined.specs.Reports.{reports-are_one, unasked-never_fail}
use Rattle.run_determined.proofs.laws_of_repeated_reports.Goals as goal

pub returns : goal.returns
returns c = record { lines = reports-are_one; unasked = unasked-never_fail }
