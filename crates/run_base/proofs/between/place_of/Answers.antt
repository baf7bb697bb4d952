use Rattle.std.proofs.Common.{◌∙◌, sym}
use Rattle.model_laws.specs.Lists.{at-index}
use Rattle.run_base.proofs.Places.{same-actor}
use Rattle.run_base.proofs.between.place_of.Goals as goal

pub returns-then-before-number-clause-place : goal.returns-then-before-number-clause-place
returns-then-before-number-clause-place c = record {
  letter = c.index-letters-place.result;
  here = at-index c.args.letters.now c.loop-place.place c.index-letters-place.result c.loop-place-test.true c.index-letters-place.is;
  to_it = same-actor c.index-letters-place.result.to c.args.to (sym c.eq.ensures ∙ c.if-eq.true);
  first = sym c.loop-place.invariant.counted ∙ c.if-before-number.true;
}
