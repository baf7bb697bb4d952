-- The newest of a list: the one of the greatest key, and of those that have it the last.
use Rattle.std.specs.Prelude.{ℕ, Bool, ◌&&◌, List, [], ◌∷◌, Option, Some, None, if◌then◌else◌}
use Rattle.daos_model.specs.Answers.{is_before}
use Rattle.daos_model.specs.Cells.{value_at}
use Rattle.daos_model.specs.Prunes.{is_punch, touches, values_of}
use Rattle.daos_model.specs.Versions.{sees}
use Rattle.daos_model.specs.declared.cell.Cell.{Cell}
use Rattle.daos_model.specs.declared.durable.Version.{Version}

-- the later of two: the second, unless the first has the greater key
abbrev pub later_of : {T : Type 0} → (T → List ℕ) → Option T → Option T → Option T
later_of key None y = y
later_of key (Some a) None = Some a
later_of key (Some a) (Some b) = if is_before (key b) (key a) then Some a else Some b

abbrev pub if_passes : {T : Type 0} → (T → Bool) → T → Option T
if_passes test v = if test v then Some v else None

-- the newest of those that pass a test
abbrev pub newest : {T : Type 0} → (T → List ℕ) → (T → Bool) → List T → Option T
newest key test [] = None
newest key test (v ∷ vs) = later_of key (if_passes test v) (newest key test vs)

-- a version says what a cell holds below an epoch: it is done, below it, and touches the cell
abbrev pub speaks : ℕ → Cell → Version → Bool
speaks e c v = sees e v && touches c v.write

-- what it says: nothing where it is a punch, else its bytes there
abbrev pub told : Cell → Option Version → Option (List ℕ)
told c None = None
told c (Some v) = if is_punch v.write then None else value_at (values_of v.write) c
