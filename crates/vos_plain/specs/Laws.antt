-- What holds of the contents of a store over lists.
use Rattle.std.proofs.Common.{◌≡◌, Some, subst, ◌∙◌}
use Rattle.std.proofs.lemmas.Option.{same_Some}
use Rattle.daos_model.specs.declared.durable.Durable.{Durable}
use Rattle.daos_model.specs.Durables.{IsInForm}

pub plain_steady : (d x y : Durable) → Some y ≡ Some d → x ≡ y → x ≡ d
plain_steady d x y is m = m ∙ same_Some y d is

pub plain_formed : (y d : Durable) → IsInForm y → Some y ≡ Some d → IsInForm d
plain_formed y d k is = subst IsInForm (same_Some y d is) k
