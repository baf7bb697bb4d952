use Rattle.std.specs.Prelude.{◌≡◌, ◌++◌, ◌-◌, filter}
use Rattle.std.specs.List.{range_with_len}
use Rattle.dtx_base.specs.Members.{all_targets, is_other_member}
use Rattle.dtx_table.proofs.bits.other_members.Given as goal

abbrev pub invariant-loop-target : goal.invariant-loop-target
invariant-loop-target l = l.others.items ++ filter (is_other_member l.entry) (range_with_len l.target (64 - l.target)) ≡ filter (is_other_member l.entry) all_targets
