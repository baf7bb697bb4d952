use Rattle.std.proofs.Common.{inr, refl}
use Rattle.daos_model.specs.Changes.{frozen}
use Rattle.world_base.specs.Changes.{Freezes}
use Rattle.target_parts.specs.Cover.{was_cut}
use Rattle.target_snaps.proofs.Freezed.{freezes-well}
use Rattle.target_snaps.proofs.freezing.freeze_anew.Goals as goal

pub returns-in-Err-Stopped-clause-froze : goal.returns-in-Err-Stopped-clause-froze
returns-in-Err-Stopped-clause-froze g c d at = inr (
  record { allowed = freezes-well c.args.cont c.args.epoch d (c.requires.above d at) (c.requires.place d at); new = c.requires.new d at },
  was_cut (Freezes c.args.cont c.args.epoch) (frozen c.args.cont c.args.epoch) d (g.S.Store.state c.args.store.now) (g.S.Store.state c.freeze.new.self) _ _ _ (g.S.Store.may c.freeze.new.self) refl at
      (λ x may. g.met.S.Store.steady _ d x c.requires.running at may) c.in-Err-Stopped.ensures.kept.left c.in-Err-Stopped.ensures.call.free,
)
