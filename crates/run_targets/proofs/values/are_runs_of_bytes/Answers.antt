use Rattle.std.specs.Prelude.{◌≡◌, All, Some, slice_get, take}
use Rattle.std.proofs.Common.{add-one, subst, sym}
use Rattle.model_laws.specs.Lists.{at-index}
use Rattle.report_round_trip.specs.Values.{IsRunOfBytes}
use Rattle.run_targets.proofs.Taken.{all-more, all-taken}
use Rattle.run_targets.proofs.values.are_runs_of_bytes.Goals as goal

pub loop-piece-preserved : goal.loop-piece-preserved
loop-piece-preserved c =
    let n = c.loop-piece.piece-index in
    let all = c.args.pieces.now in
    let at : slice_get all n ≡ Some c.piece-item.result = at-index all n c.piece-item.result c.loop-piece-test.true c.piece-item.is in
    subst (λ m. All IsRunOfBytes (take m all)) (sym (add-one n)) (all-more IsRunOfBytes n all c.piece-item.result at c.is_run_of_bytes.ensures c.loop-piece.invariant)

pub returns : goal.returns
returns c = all-taken IsRunOfBytes c.loop-piece.piece-index c.args.pieces.now c.loop-piece-test.false c.loop-piece.invariant
