-- Transactions that are decided, with the epochs and numbers of their writes.
use Rattle.std.specs.Prelude.{◌≢◌, List, [], ◌∷◌, ◌++◌, map, All, AllPairs}
use Rattle.std.specs.List.Sorted.{IsStrictlyIncreasing}
use Rattle.base_types.specs.declared.epoch.Epoch.{Epoch}
use Rattle.base_types.specs.declared.operation.MinorWrite.{MinorWrite}
use Rattle.base_types.specs.declared.operation.Write.{Write}
use Rattle.daos_model.specs.declared.stand.Taken.{Taken}
use Rattle.daos_model.specs.Forms.{minor_of}
use Rattle.model_laws.specs.Dated.{Dated}

-- a transaction that is decided: its epoch, and all its writes
pub record Decided : Type 0 where
  pub epoch : Epoch
  pub writes : List MinorWrite

abbrev pub write_of : MinorWrite → Write
write_of w = w.write

-- as a transaction that took effect
abbrev pub taken_of : Decided → Taken
taken_of d = record { epoch = d.epoch; writes = map write_of d.writes }

abbrev pub taken_in : List Decided → List Taken
taken_in all = map taken_of all

abbrev pub dated_at : Epoch → MinorWrite → Dated
dated_at e w = record { epoch = e.0; minor = w.minor; write = w.write }

-- its writes, with their epochs and numbers
abbrev pub dated_by : Decided → List Dated
dated_by d = map (dated_at d.epoch) d.writes

-- the writes of all
abbrev pub all_dated : List Decided → List Dated
all_dated [] = []
all_dated (d ∷ ds) = dated_by d ++ all_dated ds

abbrev pub IsNumbered : Decided → Type 0
IsNumbered d = IsStrictlyIncreasing (map minor_of d.writes)

-- no two have one epoch, and the numbers of each one's writes rise
pub record AreDecided (all : List Decided) : Type 0 where
  pub apart : AllPairs (λ d f. d.epoch.0 ≢ f.epoch.0) all
  pub numbered : All IsNumbered all
