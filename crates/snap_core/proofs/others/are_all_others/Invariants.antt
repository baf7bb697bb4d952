use Rattle.std.specs.Prelude.{◌≡◌, ◌-◌, filter}
use Rattle.std.specs.List.{list_all, range_with_len}
use Rattle.dtx_base.specs.Members.{all_targets, has_target}
use Rattle.snap_core.specs.Snaps.{plan_with}
use Rattle.world_base.specs.Snapshots.{is_another}
use Rattle.snap_core.proofs.others.are_all_others.Given as goal

-- it is as the rest of them say
abbrev pub invariant-loop-target : goal.invariant-loop-target
invariant-loop-target l = list_all (has_target l.held) (filter (is_another (plan_with l.me l.targets)) (range_with_len l.target (64 - l.target))) ≡ list_all (has_target l.held) (filter (is_another (plan_with l.me l.targets)) all_targets)
