use Rattle.model_laws.specs.Lists.{all-more, all-taken}
use Rattle.vos_pool_read.specs.Sound.{IsSound}
use Rattle.vos_pool_read.proofs.Each.{fails, holds, not_each}
use Rattle.vos_pool_read.proofs.sound.are_sound.Goals as goal

pub returns-then-not-is_sound : goal.returns-then-not-is_sound
returns-then-not-is_sound c = fails (not_each c.args.versions.now c.loop-version.version-index c.version-item.result c.is_sound.result c.is_sound.ensures c.if-not-is_sound.true c.loop-version-test.true c.version-item.is)

pub loop-version-preserved : goal.loop-version-preserved
loop-version-preserved c = all-more IsSound c.args.versions.now c.loop-version.version-index c.version-item.result c.loop-version-test.true c.version-item.is c.loop-version.invariant (c.is_sound.ensures.0 c.if-not-is_sound.false)

pub returns : goal.returns
returns c = holds (all-taken IsSound c.args.versions.now c.loop-version.version-index c.loop-version-test.false c.loop-version.invariant)
