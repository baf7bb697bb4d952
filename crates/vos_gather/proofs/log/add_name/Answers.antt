use Rattle.std.proofs.Common.{[], ◌∷◌, subst, sym}
use Rattle.std.specs.Prelude.{All}
use Rattle.std.proofs.lemmas.List.Elements.{All-append, All-cons, All-nil}
use Rattle.base_types.specs.declared.path.Path.{Path}
use Rattle.vos_settle.specs.declared.name.WriteName.{WriteName}
use Rattle.vos_settle.specs.Names.{IsNamed}
use Rattle.vos_gather.proofs.log.add_name.Goals as goal

pub returns-clause-named : goal.returns-clause-named
returns-clause-named c h =
    let named : Path → WriteName = λ p. record { path = p; kind = c.args.kind; epoch = c.args.at.epoch; minor = c.args.at.minor } in
    let at : IsNamed (named c.args.path.now) = record { minor = c.requires.minor; fits = c.requires.fits; size = c.requires.place.size; names = c.requires.place.names } in
    let added : IsNamed (named c.in_ok-path.path) = subst (λ p. IsNamed (named p)) (sym c.in_ok-path.ensures) at in
    subst (All IsNamed) (sym c.in_ok-push.ensures.items) (All-append IsNamed c.args.names.now.items (named c.in_ok-path.path ∷ []) h (All-cons IsNamed (named c.in_ok-path.path) [] added (All-nil IsNamed)))
