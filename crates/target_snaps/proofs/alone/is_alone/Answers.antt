use Rattle.std.proofs.Common.{◌≡◌, true, false, arith}
use Rattle.std.specs.Prelude.{filter}
use Rattle.std.specs.List.{list_all}
use Rattle.dtx_base.specs.Members.{all_targets, has_target}
use Rattle.dtx_table.specs.Ranges.{all_hold, holds_next, one_fails, passed_next}
use Rattle.world_base.specs.Snapshots.{is_another}
use Rattle.target_snaps.proofs.alone.is_alone.Goals as goal
use Rattle.target_snaps.proofs.alone.is_alone.Goals.{else-is_another-via-then-is_another+else-not-has_target, else-is_another-via-else-is_another}

pub returns-then-not-has_target : goal.returns-then-not-has_target
returns-then-not-has_target c =
    let p = is_another c.args.plan in
    let q = has_target 0 in
    let is : p c.loop-target.target ≡ true = cc in
    let no : has_target 0 c.loop-target.target ≡ false = cc in
    one_fails p q (list_all q (filter p all_targets)) c.loop-target.target 64 (omega arith) is no c.loop-target.invariant

pub loop-target-preserved : goal.loop-target-preserved
loop-target-preserved c =
    let p = is_another c.args.plan in
    let q = has_target 0 in
    elim c.else-is_another.branch [
      | else-is_another-via-then-is_another+else-not-has_target w ↦
          let is : p c.loop-target.target ≡ true = cc in
          let holds : has_target 0 c.loop-target.target ≡ true = cc in
          holds_next p q (list_all q (filter p all_targets)) c.loop-target.target 64 (omega arith) is holds c.loop-target.invariant
      | else-is_another-via-else-is_another w ↦
          let is : p c.loop-target.target ≡ false = cc in
          passed_next p q (list_all q (filter p all_targets)) c.loop-target.target 64 (omega arith) is c.loop-target.invariant
    ]

pub returns : goal.returns
returns c =
    let p = is_another c.args.plan in
    let q = has_target 0 in
    all_hold p q (list_all q (filter p all_targets)) c.loop-target.target 64 (omega arith) c.loop-target.invariant
