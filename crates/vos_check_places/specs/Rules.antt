-- Rules of fields, one after another.
use Rattle.std.specs.Prelude.{ℕ, List, [], ◌∷◌, Result, Ok, Err, slice_index, if◌then◌else◌}
use Rattle.vos_check_places.specs.declared.fault.Fault.{Fault}
use Rattle.vos_check_places.specs.declared.fault.Fault.TheVariants.{Foreign}
use Rattle.vos_check_places.specs.declared.judge.Rule.{Rule}

-- the first rule that is broken, with the byte at its place
abbrev pub judged : List ℕ → List Rule → Result (Unit {0}) Fault
judged bs [] = Ok tt
judged bs (r ∷ rs) = if r.1 then judged bs rs else Err (Foreign r.0 (slice_index bs r.0))
