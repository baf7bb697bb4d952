use Rattle.std.proofs.Common.{◌≡◌, ◌∙◌, Err, ap, refl, rules, subst, sym}
use Rattle.std.specs.Option.{option_map}
use Rattle.daos_model.specs.Changes.{settled}
use Rattle.world_contents.specs.world_base.Changes.{Settles}
use Rattle.target_parts.specs.Cover.{was_cut}
use Rattle.target_parts.specs.Keeping.{MadeOrCut}
use Rattle.target_parts.proofs.Prepared.{step-of_table}
use Rattle.target_parts.proofs.kept.settle.Goals as goal

pub returns-in_err-settle-clause-made : goal.returns-in_err-settle-clause-made
returns-in_err-settle-clause-made g c d at =
    let is : c.from_residual.result ≡ Err c.in_err-settle.field-0.0 = search rules in
    subst (λ r. MadeOrCut (Settles c.args.attempt c.args.step) d (g.S.Store.state c.args.store.now) (g.S.Store.durable c.settle.new.self) (g.S.Store.state c.settle.new.self) (g.S.Store.may c.settle.new.self) r) (sym is)
    (was_cut (Settles c.args.attempt c.args.step) (settled c.args.attempt c.args.step) d (g.S.Store.state c.args.store.now) (g.S.Store.state c.settle.new.self) _ _ _ (g.S.Store.may c.settle.new.self) refl at
    (λ x may. g.met.S.Store.steady _ d x c.requires.running at may) c.in_err-settle.ensures.kept.left c.in_err-settle.ensures.call.free)

pub returns-clause-made : goal.returns-clause-made
returns-clause-made g c d at = record {
  kept_is = c.in_ok-settle.ensures.kept.done ∙ ap (option_map (settled c.args.attempt c.args.step)) at;
  free = c.in_ok-settle.ensures.call.free;
}

pub settle-requires-2 : goal.settle-requires-2
settle-requires-2 g c = step-of_table c.args.step c.requires.step
