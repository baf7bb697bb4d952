-- Names, and what each stands for.
use Rattle.std.specs.Prelude.{ℕ, List, [], ◌∷◌, Option, Some, None, if◌then◌else◌}
use Rattle.std.specs.Str.{bytes_eq}
use Rattle.std.specs.Global.{Vec}

-- what a name stands for
unfoldable pub named : {V : Type 0} → List (List ℕ × V) → List ℕ → Option V
named [] name = None
named (first ∷ rest) name = if bytes_eq name first.0 then Some first.1 else named rest name

-- an entry of a map whose keys are vectors of bytes
abbrev pub name_and_value : {V : Type 0} → Vec ℕ × V → List ℕ × V
name_and_value entry = (entry.0.items, entry.1)
