use Rattle.std.proofs.Common.{◌≡◌, true, false, arith}
use Rattle.std.specs.Prelude.{filter}
use Rattle.std.specs.List.{list_all}
use Rattle.dtx_base.specs.Members.{all_targets, are_all_counted, has_target, is_other_member, other_members}
use Rattle.dtx_table.specs.Ranges.{all_hold, holds_next, one_fails, passed_next}
use Rattle.dtx_table.proofs.bits.are_all_counted.Goals as goal
use Rattle.dtx_table.proofs.bits.are_all_counted.Goals.{else-is_other_member-via-then-is_other_member+else-not-has_target, else-is_other_member-via-else-is_other_member}

pub returns-then-not-has_target : goal.returns-then-not-has_target
unfolding are_all_counted other_members
returns-then-not-has_target c =
    let p = is_other_member c.args.entry.now in
    let q = has_target c.args.counted in
    let is : is_other_member c.args.entry.now c.loop-target.target ≡ true = cc in
    let no : has_target c.args.counted c.loop-target.target ≡ false = cc in
    one_fails p q (list_all q (filter p all_targets)) c.loop-target.target 64 (omega arith) is no c.loop-target.invariant

pub loop-target-preserved : goal.loop-target-preserved
loop-target-preserved c =
    let p = is_other_member c.args.entry.now in
    let q = has_target c.args.counted in
    elim c.else-is_other_member.branch [
      | else-is_other_member-via-then-is_other_member+else-not-has_target w ↦
          let is : is_other_member c.args.entry.now c.loop-target.target ≡ true = cc in
          let holds : has_target c.args.counted c.loop-target.target ≡ true = cc in
          holds_next p q (list_all q (filter p all_targets)) c.loop-target.target 64 (omega arith) is holds c.loop-target.invariant
      | else-is_other_member-via-else-is_other_member w ↦
          let is : is_other_member c.args.entry.now c.loop-target.target ≡ false = cc in
          passed_next p q (list_all q (filter p all_targets)) c.loop-target.target 64 (omega arith) is c.loop-target.invariant
    ]

pub returns : goal.returns
unfolding are_all_counted other_members
returns c =
    let p = is_other_member c.args.entry.now in
    let q = has_target c.args.counted in
    all_hold p q (list_all q (filter p all_targets)) c.loop-target.target 64 (omega arith) c.loop-target.invariant
