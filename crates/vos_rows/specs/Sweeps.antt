-- What marks leave of a list.
use Rattle.std.specs.Prelude.{Bool, List, [], ◌∷◌, if◌then◌else◌}

-- the elements whose mark isn't set, and those without a mark
abbrev pub unmarked : {T : Type 0} → List Bool → List T → List T
unmarked [] vs = vs
unmarked (m ∷ ms) [] = []
unmarked (m ∷ ms) (v ∷ vs) = if m then unmarked ms vs else v ∷ unmarked ms vs
