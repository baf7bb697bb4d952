-- What a step makes of the versions of an attempt.
use Rattle.std.specs.Prelude.{Bool, true, false}
use Rattle.base_types.specs.declared.entry.Settle.{Settle}
use Rattle.base_types.specs.declared.entry.Settle.TheVariants as step
use Rattle.base_types.specs.declared.id.AttemptId.{AttemptId}
use Rattle.vos_punches.specs.vos_levels.declared.change.Change.{Change}
use Rattle.vos_punches.specs.vos_levels.declared.change.Change.TheVariants.{Commit, Abort}

-- a step decides an attempt: its versions become done, or go
abbrev pub decides : Settle → Bool
decides step.Commit = true
decides step.Abort = true
decides (step.Confirm target) = false
decides step.Forget = false

abbrev pub change_of : AttemptId → Settle → Change
change_of a step.Commit = Commit a
change_of a step.Abort = Abort a
change_of a (step.Confirm target) = Abort a
change_of a step.Forget = Abort a
