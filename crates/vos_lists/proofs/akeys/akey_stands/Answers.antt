use Rattle.std.proofs.Common.{◌≡◌, ◌∙◌, Some, ap, sym}
use Rattle.vos_punches.specs.Punches.{covering}
use Rattle.vos_punches.specs.Rows.{moments_at}
use Rattle.vos_lists.specs.Entries.{name_of}
use Rattle.vos_lists.specs.Paths.{at_akey}
use Rattle.vos_lists.specs.Stands.{has_value}
use Rattle.vos_lists.proofs.akeys.akey_stands.Goals as goal

pub returns-in_default-clause-found : goal.returns-in_default-clause-found
returns-in_default-clause-found g c told x held at name is = absurd (let f = c.in_ok-name.ensures.name in let n = c.in_default.is in let z : ⊥ = cc in z)

pub returns-clause-found : goal.returns-clause-found
returns-clause-found g c told x held at name is =
    let said : Some c.in-Some.name ≡ name_of c.args.akey.key = sym c.in-Some.is ∙ c.in_ok-name.ensures.name in
    let same : name ≡ c.in-Some.name = cc in
    let path : c.in_ok-path.path ≡ at_akey c.args.above.now name = c.in_ok-path.ensures ∙ ap (at_akey c.args.above.now) (sym same) in
    let punched = c.covering-punched.ensures ∙ ap (λ p. covering c.args.view.below p (moments_at c.args.punches.now)) path in
    c.in_ok-has_value.ensures.found told x held at ∙ ap (λ q. has_value c.args.view q x) punched
