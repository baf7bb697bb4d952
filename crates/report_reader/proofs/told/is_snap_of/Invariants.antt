use Rattle.std.proofs.Common.{◌≡◌, drop}
use Rattle.report_reader.specs.Told.{is_snap_of}
use Rattle.report_reader.proofs.told.is_snap_of.Given as goal

abbrev pub invariant-loop-command : goal.invariant-loop-command
invariant-loop-command l = is_snap_of (drop l.command-index l.commands) l.name ≡ is_snap_of l.commands l.name
