use Rattle.run_laws.specs.reports.Unknown.{none-unknown, unknown-is-of-given-up}
use Rattle.run_laws.proofs.reports.laws_of_unknown_outcomes.Goals as goal

pub returns : goal.returns
returns c = record { given_up = unknown-is-of-given-up; none = none-unknown }
