use Rattle.std.specs.Prelude.{◌≡◌, ◌-◌, filter}
use Rattle.std.specs.List.{list_all, range_with_len}
use Rattle.dtx_base.specs.Members.{all_targets, has_target, is_other_member}
use Rattle.dtx_table.proofs.bits.are_all_counted.Given as goal

abbrev pub invariant-loop-target : goal.invariant-loop-target
invariant-loop-target l = list_all (has_target l.counted) (filter (is_other_member l.entry) (range_with_len l.target (64 - l.target))) ≡ list_all (has_target l.counted) (filter (is_other_member l.entry) all_targets)
