use Rattle.std.proofs.Common.{◌≡◌, true, false, arith}
use Rattle.dtx_base.specs.Members.{all_targets, is_other_member, other_members}
use Rattle.std.specs.Prelude.{filter}
use Rattle.dtx_table.specs.Ranges.{all_pushed, pushed, skipped}
use Rattle.dtx_table.proofs.bits.other_members.Goals as goal
use Rattle.dtx_table.proofs.bits.other_members.Goals.{then-is_other_member+in_ok-push, else-is_other_member}

pub loop-target-preserved : goal.loop-target-preserved
loop-target-preserved c =
    let p = is_other_member c.args.entry.now in
    elim c.if-is_other_member.branch [
      | then-is_other_member+in_ok-push w ↦
          let is : is_other_member c.args.entry.now c.loop-target.target ≡ true = cc in
          rw (w.others-is, w.in_ok-push.ensures.items) (pushed p c.loop-target.others.items (filter p all_targets) c.loop-target.target 64 (omega arith) is c.loop-target.invariant)
      | else-is_other_member w ↦
          let is : is_other_member c.args.entry.now c.loop-target.target ≡ false = cc in
          rw w.others-is (skipped p c.loop-target.others.items (filter p all_targets) c.loop-target.target 64 (omega arith) is c.loop-target.invariant)
    ]

pub returns : goal.returns
unfolding other_members
returns c =
    let p = is_other_member c.args.entry.now in
    all_pushed p c.loop-target.others.items (filter p all_targets) c.loop-target.target 64 (omega arith) c.loop-target.invariant
