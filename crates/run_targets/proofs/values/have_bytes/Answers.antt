use Rattle.std.specs.Prelude.{◌≡◌, All, Some, slice_get, take}
use Rattle.std.proofs.Common.{add-one, subst, sym}
use Rattle.model_laws.specs.Lists.{at-index}
use Rattle.report_round_trip.specs.Values.{HasBytes}
use Rattle.run_targets.proofs.Taken.{all-more, all-taken}
use Rattle.run_targets.proofs.values.have_bytes.Goals as goal

pub loop-got-preserved : goal.loop-got-preserved
loop-got-preserved c =
    let n = c.loop-got.got-index in
    let all = c.args.gots.now in
    let at : slice_get all n ≡ Some c.got-item.result = at-index all n c.got-item.result c.loop-got-test.true c.got-item.is in
    subst (λ m. All (λ got. HasBytes got.1) (take m all)) (sym (add-one n)) (all-more (λ got. HasBytes got.1) n all c.got-item.result at c.has_bytes.ensures c.loop-got.invariant)

pub returns : goal.returns
returns c = all-taken (λ got. HasBytes got.1) c.loop-got.got-index c.args.gots.now c.loop-got-test.false c.loop-got.invariant
