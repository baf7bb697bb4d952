use Rattle.std.specs.Prelude.{◌≡◌, drop}
use Rattle.std.specs.List.{list_any}
use Rattle.dtx_base.specs.Leading.{is_naming}
use Rattle.dtx_table.proofs.marks.is_named.Given as goal

abbrev pub invariant-loop-naming : goal.invariant-loop-naming
invariant-loop-naming l = list_any (is_naming l.member l.attempt) (drop l.naming-index l.named) ≡ list_any (is_naming l.member l.attempt) l.named
