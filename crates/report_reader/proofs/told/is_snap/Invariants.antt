use Rattle.std.proofs.Common.{◌≡◌, drop}
use Rattle.report_reader.specs.Told.{is_snap_of_any}
use Rattle.report_reader.proofs.told.is_snap.Given as goal

abbrev pub invariant-loop-commands : goal.invariant-loop-commands
invariant-loop-commands l = is_snap_of_any (drop l.commands-index l.commands-items) l.name ≡ is_snap_of_any l.commands-items l.name
