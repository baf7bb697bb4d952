use Rattle.std.specs.Prelude.{◌≡◌, ◌-◌, find}
use Rattle.std.specs.List.{range_with_len}
use Rattle.dtx_base.specs.Leading.{is_down_among}
use Rattle.dtx_base.specs.Members.{all_targets}
use Rattle.dtx_table.proofs.bits.first_down.Given as goal

abbrev pub invariant-loop-target : goal.invariant-loop-target
invariant-loop-target l = find (is_down_among l.members l.down) (range_with_len l.target (64 - l.target)) ≡ find (is_down_among l.members l.down) all_targets
