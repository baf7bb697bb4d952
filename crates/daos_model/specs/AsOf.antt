-- What transactions give when they are run one by one, in the order of their epochs, from an opening.
use Rattle.std.specs.Prelude.{ℕ, List, [], ◌∷◌, map, nat_lt, nat_le, if◌then◌else◌}
use Rattle.daos_model.specs.declared.cell.CellValue.{CellValue}
use Rattle.daos_model.specs.declared.stand.Taken.{Taken}
use Rattle.daos_model.specs.declared.stand.Stand.{Stand}
use Rattle.daos_model.specs.Effect.{effects}

abbrev pub taken_epoch : Taken → ℕ
taken_epoch t = t.epoch.0

-- the epochs of transactions, in their order
abbrev pub taken_epochs : List Taken → List ℕ
taken_epochs T = map taken_epoch T

-- the transactions below an epoch
abbrev pub below : ℕ → List Taken → List Taken
below e [] = []
below e (t ∷ ts) = if nat_lt t.epoch.0 e then t ∷ below e ts else below e ts

-- a transaction put before the first one that isn't earlier
abbrev pub put_in : Taken → List Taken → List Taken
put_in t [] = t ∷ []
put_in t (u ∷ us) = if nat_le t.epoch.0 u.epoch.0 then t ∷ u ∷ us else u ∷ put_in t us

-- transactions in the order of their epochs
abbrev pub in_order : List Taken → List Taken
in_order [] = []
in_order (t ∷ ts) = put_in t (in_order ts)

-- run one after another
abbrev pub run_all : List Taken → List CellValue → List CellValue
run_all [] m = m
run_all (t ∷ ts) m = run_all ts (effects t.writes m)

-- the map as of an epoch: the transactions below it, run in the order of their epochs from the opening
unfoldable pub as_of : Stand → List Taken → ℕ → List CellValue
as_of opening took e = run_all (in_order (below e took)) opening.now

-- what regions of zeros stand for
abbrev pub empty_stand : Stand
empty_stand = record { now = []; snaps = [] }
