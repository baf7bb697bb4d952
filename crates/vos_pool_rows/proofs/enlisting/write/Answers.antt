use Rattle.std.specs.Prelude.{refl}
use Rattle.vos_pool_base.proofs.Freezing.{made_at_err, made_at_ok}
use Rattle.vos_store.specs.declared.refusal.EnlistNo.TheVariants as enlist
use Rattle.vos_store.specs.Refusals.{enlist_stop}
use Rattle.vos_pool_rows.proofs.enlisting.write.Goals as goal

pub returns-in-Ok-clause-makes : goal.returns-in-Ok-clause-makes
returns-in-Ok-clause-makes g c change makes = made_at_ok enlist_stop _ change c.write-written.result c.in-Ok.field-0 _ _ _ _ (c.write-written.ensures.makes change makes) c.in-Ok.is

pub returns-in-Err-clause-makes : goal.returns-in-Err-clause-makes
returns-in-Err-clause-makes g c change makes = made_at_err enlist_stop enlist.Stopped refl _ change c.write-written.result _ _ _ _ (c.write-written.ensures.makes change makes)
