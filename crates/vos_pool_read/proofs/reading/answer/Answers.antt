use Rattle.std.proofs.Common.{subst}
use Rattle.std.specs.Prelude.{All}
use Rattle.vos_pool_read.proofs.Each.{all_in_form, each_named}
use Rattle.vos_pool_read.specs.Sound.{IsSound}
use Rattle.vos_pool_read.proofs.reading.answer.Goals as goal

pub returns-clause-named : goal.returns-clause-named
returns-clause-named c = each_named c.in_ok-versions.versions.items (subst (All IsSound) c.deref.ensures.value (c.are_sound.ensures.0 c.if-not-are_sound.false))

pub returns-clause-form : goal.returns-clause-form
returns-clause-form c = all_in_form c.in_ok-versions.versions.items (subst (All IsSound) c.deref.ensures.value (c.are_sound.ensures.0 c.if-not-are_sound.false))
