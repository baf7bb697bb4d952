use Rattle.std.specs.Prelude.{◌≡◌, ◌++◌, drop, filter}
use Rattle.dtx_base.specs.Leading.{is_open}
use Rattle.world_base.specs.Statuses.{statuses_for}
use Rattle.dtx_resync.proofs.statuses.statuses_for.Given as goal

-- what is left is still to be asked
abbrev pub invariant-loop-entry : goal.invariant-loop-entry
invariant-loop-entry l = l.posts ++ statuses_for l.inc (filter is_open (drop l.entry-index l.led)) ≡ statuses_for l.inc (filter is_open l.led)
