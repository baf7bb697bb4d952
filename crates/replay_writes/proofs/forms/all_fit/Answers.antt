use Rattle.model_laws.specs.Lists.{all-more, all-taken}
use Rattle.replay_base.proofs.Starts.{all_so, none_so}
use Rattle.replay_writes.specs.Committed.{FitsIn}
use Rattle.replay_writes.proofs.Reading.{not_all}
use Rattle.replay_writes.proofs.forms.all_fit.Goals as goal

pub returns-then-not-fits : goal.returns-then-not-fits
returns-then-not-fits c = none_so (not_all (FitsIn c.args.targets) c.args.writes.now c.loop-write.write-index c.write-item.result c.fits.result c.fits.ensures c.if-not-fits.true c.loop-write-test.true c.write-item.is)

pub loop-write-preserved : goal.loop-write-preserved
loop-write-preserved c = all-more (FitsIn c.args.targets) c.args.writes.now c.loop-write.write-index c.write-item.result c.loop-write-test.true c.write-item.is c.loop-write.invariant (c.fits.ensures.0 c.if-not-fits.false)

pub returns : goal.returns
returns c = all_so (all-taken (FitsIn c.args.targets) c.args.writes.now c.loop-write.write-index c.loop-write-test.false c.loop-write.invariant)
