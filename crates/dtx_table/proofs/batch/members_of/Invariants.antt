use Rattle.std.specs.Prelude.{◌≡◌, drop}
use Rattle.dtx_table.specs.Due.{with_members}
use Rattle.dtx_table.proofs.batch.members_of.Given as goal

abbrev pub invariant-loop-entry : goal.invariant-loop-entry
invariant-loop-entry l = with_members l.members (drop l.entry-index l.entries) ≡ with_members 0 l.entries
