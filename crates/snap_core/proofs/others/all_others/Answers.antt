use Rattle.std.proofs.Common.{◌≡◌, true, false, arith}
use Rattle.std.specs.Prelude.{filter}
use Rattle.dtx_base.specs.Members.{all_targets}
use Rattle.dtx_table.specs.Ranges.{all_pushed, pushed, skipped}
use Rattle.snap_core.specs.Snaps.{all_others, plan_with}
use Rattle.world_base.specs.Snapshots.{is_another}
use Rattle.snap_core.proofs.others.all_others.Goals as goal
use Rattle.snap_core.proofs.others.all_others.Goals.{then-is_another+in_ok-push, else-is_another}

pub loop-target-preserved : goal.loop-target-preserved
loop-target-preserved c =
    let p = is_another (plan_with c.args.me c.args.targets) in
    elim c.if-is_another.branch [
      | then-is_another+in_ok-push w ↦
          let is : p c.loop-target.target ≡ true = cc in
          rw (w.others-is, w.in_ok-push.ensures.items) (pushed p c.loop-target.others.items (filter p all_targets) c.loop-target.target 64 (omega arith) is c.loop-target.invariant)
      | else-is_another w ↦
          let is : p c.loop-target.target ≡ false = cc in
          rw w.others-is (skipped p c.loop-target.others.items (filter p all_targets) c.loop-target.target 64 (omega arith) is c.loop-target.invariant)
    ]

pub returns : goal.returns
unfolding all_others
returns c =
    let p = is_another (plan_with c.args.me c.args.targets) in
    all_pushed p c.loop-target.others.items (filter p all_targets) c.loop-target.target 64 (omega arith) c.loop-target.invariant
