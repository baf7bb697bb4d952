use Rattle.std.proofs.Common.{◌≡◌, drop}
use Rattle.report_reader.specs.Told.{is_old}
use Rattle.report_reader.proofs.told.is_old.Given as goal

abbrev pub invariant-loop-decl : goal.invariant-loop-decl
invariant-loop-decl l = is_old (drop l.decl-index l.olds) l.name ≡ is_old l.olds l.name
