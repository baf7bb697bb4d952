use Rattle.std.proofs.Common.{◌≡◌, refl, true, false, arith}
use Rattle.std.specs.Prelude.{find}
use Rattle.dtx_base.specs.Leading.{first_down, is_down_among}
use Rattle.dtx_base.specs.Members.{all_targets, has_target}
use Rattle.dtx_table.specs.Ranges.{found, none_found, sought_next}
use Rattle.dtx_table.proofs.bits.first_down.Goals as goal
use Rattle.dtx_table.proofs.bits.first_down.Goals.{else-has_target-via-then-has_target+else-has_target-2, else-has_target-via-else-has_target}

pub returns-then-has_target-2 : goal.returns-then-has_target-2
unfolding first_down
returns-then-has_target-2 c =
    let p = is_down_among c.args.members c.args.down in
    let one : has_target c.args.members c.loop-target.target ≡ true = cc in
    let other : has_target c.args.down c.loop-target.target ≡ true = cc in
    let is : is_down_among c.args.members c.args.down c.loop-target.target ≡ true = rw (one, other) refl in
    found p (find p all_targets) c.loop-target.target 64 (omega arith) is c.loop-target.invariant

pub loop-target-preserved : goal.loop-target-preserved
loop-target-preserved c =
    let p = is_down_among c.args.members c.args.down in
    elim c.else-has_target.branch [
      | else-has_target-via-then-has_target+else-has_target-2 w ↦
          let one : has_target c.args.members c.loop-target.target ≡ true = cc in
          let lacks : has_target c.args.down c.loop-target.target ≡ false = cc in
          let is : is_down_among c.args.members c.args.down c.loop-target.target ≡ false = rw (one, lacks) refl in
          sought_next p (find p all_targets) c.loop-target.target 64 (omega arith) is c.loop-target.invariant
      | else-has_target-via-else-has_target w ↦
          let lacks : has_target c.args.members c.loop-target.target ≡ false = cc in
          let is : is_down_among c.args.members c.args.down c.loop-target.target ≡ false = rw lacks refl in
          sought_next p (find p all_targets) c.loop-target.target 64 (omega arith) is c.loop-target.invariant
    ]

pub returns : goal.returns
unfolding first_down
returns c =
    let p = is_down_among c.args.members c.args.down in
    none_found p (find p all_targets) c.loop-target.target 64 (omega arith) c.loop-target.invariant
