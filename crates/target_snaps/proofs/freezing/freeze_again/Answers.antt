use Rattle.std.proofs.Common.{◌∙◌, ap, inl, refl, Some, sym}
use Rattle.std.specs.Option.{option_map}
use Rattle.daos_model.specs.Changes.{frozen}
use Rattle.world_base.specs.Changes.{Freezes}
use Rattle.target_parts.specs.Cover.{was_cut}
use Rattle.target_snaps.proofs.Freezed.{freeze-asked, frozen-before}
use Rattle.target_snaps.proofs.freezing.freeze_again.Goals as goal

pub returns-in-Ok-clause-froze : goal.returns-in-Ok-clause-froze
returns-in-Ok-clause-froze g c d at = (
  sym (c.in-Ok.ensures.answer d at refl),
  c.requires.there d at,
  record {
    kept_is = c.in-Ok.ensures.kept.done ∙ ap (option_map (frozen c.args.cont c.args.epoch)) at ∙ ap (λ x. Some x) (frozen-before c.args.cont c.args.epoch d (c.requires.there d at));
    free = c.in-Ok.ensures.free;
  },
)

pub returns-in-Err-Stopped-clause-froze : goal.returns-in-Err-Stopped-clause-froze
returns-in-Err-Stopped-clause-froze g c d at =
    inl (freeze-asked c.args.cont c.args.epoch d (g.S.Store.state c.args.store.now) (g.S.Store.state c.freeze.new.self) (g.S.Store.may c.freeze.new.self) (c.requires.there d at)
    (was_cut (Freezes c.args.cont c.args.epoch) (frozen c.args.cont c.args.epoch) d (g.S.Store.state c.args.store.now) (g.S.Store.state c.freeze.new.self) _ _ _ (g.S.Store.may c.freeze.new.self) refl at
    (λ x may. g.met.S.Store.steady _ d x c.requires.running at may) c.in-Err-Stopped.ensures.kept.left c.in-Err-Stopped.ensures.call.free))
