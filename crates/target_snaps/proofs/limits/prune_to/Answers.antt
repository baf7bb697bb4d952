use Rattle.std.proofs.Common.{◌≡◌, ◌∙◌, Err, ap, rules, subst}
use Rattle.std.proofs.Common.{sym}
use Rattle.std.specs.Option.{option_map}
use Rattle.daos_model.specs.Changes.{pruned}
use Rattle.world_base.specs.Changes.{Prunes}
use Rattle.target_parts.specs.Keeping.{MadeOrCut}
use Rattle.target_snaps.proofs.Pruned.{prune-cut}
use Rattle.target_snaps.proofs.limits.prune_to.Goals as goal

pub returns-in_err-prune-clause-made : goal.returns-in_err-prune-clause-made
returns-in_err-prune-clause-made g c d at =
    let is : c.from_residual.result ≡ Err c.in_err-prune.field-0.0 = search rules in
    subst (λ r. MadeOrCut (Prunes c.args.cont c.args.upto c.args.number) d (g.S.Store.state c.args.store.now) (g.S.Store.durable c.prune.new.self) (g.S.Store.state c.prune.new.self) (g.S.Store.may c.prune.new.self) r) (sym is)
    (prune-cut c.args.cont c.args.upto c.args.number d (g.S.Store.state c.args.store.now) (g.S.Store.state c.prune.new.self) (g.S.Store.durable c.args.store.now) _ _ (g.S.Store.may c.prune.new.self) at
    (λ x may. g.met.S.Store.steady _ d x c.requires.running at may) c.in_err-prune.ensures.kept.left c.in_err-prune.ensures.call.free)

pub returns-clause-made : goal.returns-clause-made
returns-clause-made g c d at = record {
  kept_is = c.in_ok-prune.ensures.kept.done ∙ ap (option_map (pruned c.args.cont c.args.upto c.args.number)) at;
  free = c.in_ok-prune.ensures.call.free;
}
