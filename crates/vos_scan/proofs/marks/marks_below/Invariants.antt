use Rattle.std.proofs.Common.{◌≡◌, [], drop, filter}
use Rattle.daos_model.specs.Versions.{sees, writes_in}
use Rattle.vos_scan.specs.Marks.{marks_by}
use Rattle.vos_scan.proofs.marks.marks_below.Given as goal

abbrev pub invariant-loop-row : goal.invariant-loop-row
invariant-loop-row l = marks_by l.path (writes_in (filter (sees l.below.0) (drop l.row-index l.rows))) l.marks ≡ marks_by l.path (writes_in (filter (sees l.below.0) l.rows)) []
