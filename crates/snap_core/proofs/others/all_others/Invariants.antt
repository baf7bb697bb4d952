use Rattle.std.specs.Prelude.{◌≡◌, ◌++◌, ◌-◌, filter}
use Rattle.std.specs.List.{range_with_len}
use Rattle.dtx_base.specs.Members.{all_targets}
use Rattle.snap_core.specs.Snaps.{plan_with}
use Rattle.world_base.specs.Snapshots.{is_another}
use Rattle.snap_core.proofs.others.all_others.Given as goal

-- those among the rest are still to come
abbrev pub invariant-loop-target : goal.invariant-loop-target
invariant-loop-target l = l.others.items ++ filter (is_another (plan_with l.me l.targets)) (range_with_len l.target (64 - l.target)) ≡ filter (is_another (plan_with l.me l.targets)) all_targets
