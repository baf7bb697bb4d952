use Rattle.std.specs.Prelude.{All}
use Rattle.std.proofs.Common.{sym, subst}
use Rattle.daos_model.specs.declared.durable.Durable.{Durable}
use Rattle.daos_model.specs.Durables.{version_key}
use Rattle.vos_pool_held.specs.vos_turns.Turns.{CanBeNamed}
use Rattle.vos_pool_opening.proofs.Forming.{each-in-order}
use Rattle.vos_pool_opening.proofs.opening.keep.Goals as goal

pub hold-requires-clause-named : goal.hold-requires-clause-named
hold-requires-clause-named g c = subst (λ (d : Durable). All CanBeNamed d.versions) (sym c.in-Ok-contents_in.ensures) (each-in-order version_key CanBeNamed c.args.versions.items c.requires.found.named)
