use Rattle.std.specs.Prelude.{◌≡◌, Some, slice_get}
use Rattle.std.proofs.Common.{add-one, suc, subst, sym}
use Rattle.model_laws.specs.Lists.{at-index}
use Rattle.run_targets.proofs.Reading.{AreReadTo, all-bytes, all-typed, down-read, other-read}
use Rattle.run_targets.proofs.report.first_down.Goals as goal
use Rattle.run_targets.proofs.report.first_down.Goals.{in-Down, in_default}

pub loop-line-preserved : goal.loop-line-preserved
loop-line-preserved c =
    let n = c.loop-line.line-index in
    let lines = c.args.lines.now in
    let at : slice_get lines n ≡ Some c.line-item.result = at-index lines n c.line-item.result c.loop-line-test.true c.line-item.is in
    rw (add-one n) (elim c.match-line.branch [
      | in-Down w ↦ subst (AreReadTo (suc n) lines) (sym w.first-is) (down-read n lines c.line-item.result w.in-Down.target c.loop-line.first (Some w.lower.result) at w.in-Down.is w.lower.ensures c.read_numbers.ensures c.tells_bytes.ensures c.loop-line.invariant)
      | in_default w ↦ subst (AreReadTo (suc n) lines) (sym w.first-is) (other-read n lines c.line-item.result c.loop-line.first at w.in_default.not-Down c.read_numbers.ensures c.tells_bytes.ensures c.loop-line.invariant)
    ])

pub returns-clause-typed : goal.returns-clause-typed
returns-clause-typed c = all-typed c.loop-line.line-index c.args.lines.now c.loop-line.first c.loop-line-test.false c.loop-line.invariant

pub returns-clause-bytes : goal.returns-clause-bytes
returns-clause-bytes c = all-bytes c.loop-line.line-index c.args.lines.now c.loop-line.first c.loop-line-test.false c.loop-line.invariant
