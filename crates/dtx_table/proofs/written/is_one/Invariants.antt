use Rattle.std.proofs.Common.{◌≡◌, drop}
use Rattle.std.specs.List.{list_any}
use Rattle.dtx_base.specs.Members.{is_number}
use Rattle.dtx_table.proofs.written.is_one.Given as goal

abbrev pub invariant-loop-other : goal.invariant-loop-other
invariant-loop-other l = list_any (is_number l.target) (drop l.other-index l.targets) ≡ list_any (is_number l.target) l.targets
