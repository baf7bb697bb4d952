use Rattle.daos_model.specs.Laws.{as_of-later, as_of-rising, run_all-append, took-append}
use Rattle.daos_model.proofs.laws.laws_of_runs.Goals as goal

pub returns : goal.returns
returns c = record { later = as_of-later; rising = as_of-rising; took = took-append; run = run_all-append }
