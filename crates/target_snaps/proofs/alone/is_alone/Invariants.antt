use Rattle.std.specs.Prelude.{◌≡◌, ◌-◌, filter}
use Rattle.std.specs.List.{list_all, range_with_len}
use Rattle.dtx_base.specs.Members.{all_targets, has_target}
use Rattle.world_base.specs.Snapshots.{is_another}
use Rattle.target_snaps.proofs.alone.is_alone.Given as goal

-- it is as the rest of them say
abbrev pub invariant-loop-target : goal.invariant-loop-target
invariant-loop-target l = list_all (has_target 0) (filter (is_another l.plan) (range_with_len l.target (64 - l.target))) ≡ list_all (has_target 0) (filter (is_another l.plan) all_targets)
