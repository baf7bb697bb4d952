use Rattle.std.proofs.Common.{arith, inl, inr, ◌∙◌}
use Rattle.daos_model.specs.BoolLaws.{clash}
use Rattle.vos_pool_write.proofs.Rooms.{write_is_done}
use Rattle.vos_pool_write.proofs.staging.stage_write.Goals as goal

pub returns-then-is_err-clause-none : goal.returns-then-is_err-clause-none
returns-then-is_err-clause-none g c none tell going =
    let k = c.write_as-blocks.ensures in
    let done = write_is_done g.R.Region.extent g.R.Region.tells g.R.Region.image c.args.blocks c.write_as-blocks.result.0 c.args.root c.args.stamp c.args.write.now c.write_as-blocks.result.2
    (record { end = c.size-size.ensures.holds.end; unstaged = c.requires.unstaged; write = c.requires.write; here = c.requires.here; room = c.requires.room; no_block = k.no_block; too_much = k.too_much; staged = k.staged; stopped = k.stopped }) tell going in
    let ranges = c.left-ranges.ensures.ranges in
    let bytes = c.left-ranges.ensures.bytes in
    let some = done.ranges in
    let more = done.bytes in
    elim c.then-is_err.either [
      | inl bad ↦ absurd (clash c.is_err.result bad (c.is_err.ensures.value ∙ done.well))
      | inr rest ↦ elim rest [
        | inl none_left ↦ (let zero_ranges = none_left.1 in omega (arith, zero_ranges, ranges, some))
        | inr few ↦ (let less = few.2 in omega (arith, less, bytes, more))
      ]
    ]
