-- A look-up in the map is one in the list of names.
use Rattle.std.proofs.Common.{◌≡◌, ℕ, cond, List, [], ◌∷◌, map, Some, refl, ap, nat_eq}
use Rattle.std.specs.Global.{Vec}
use Rattle.std.specs.Cmp.Lexicographic.{pointwise}
use Rattle.std.specs.Map.{lookup}
use Rattle.base_names.specs.Names.{named, name_and_value}

pub lookup-named : {V : Type 0} (es : List (Vec ℕ × V)) (name : List ℕ) → lookup (λ (k : Vec ℕ). pointwise nat_eq name k.items) es ≡ named (map name_and_value es) name
unfolding named
lookup-named [] name = refl
lookup-named (e ∷ es) name = ap (λ r. cond (pointwise nat_eq name e.0.items) (Some e.1) r) (lookup-named es name)
