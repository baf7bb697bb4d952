-- Writes with their epochs and numbers, however they are kept.
use Rattle.std.specs.Prelude.{ℕ, ◌≡◌, ◌≢◌, Bool, true, ◌&&◌, nat_le, nat_lt, List, [], ◌∷◌, map, filter, AllPairs, Contains, Option}
use Rattle.base_types.specs.declared.operation.Write.{Write}
use Rattle.base_types.specs.Operations.{write_path}
use Rattle.daos_model.specs.declared.cell.Cell.{Cell}
use Rattle.daos_model.specs.declared.cell.CellValue.{CellValue}
use Rattle.daos_model.specs.declared.durable.Version.{Version}
use Rattle.daos_model.specs.Durables.{object_key, version_key}
use Rattle.daos_model.specs.Effect.{effects}
use Rattle.daos_model.specs.Ordered.{is_in_order}
use Rattle.daos_model.specs.Prunes.{touches}
use Rattle.daos_model.specs.Versions.{writes_in}
use Rattle.model_laws.specs.WriteLaws.{after_write}

-- a write, the epoch of its transaction, and its number in it
pub record Dated : Type 0 where
  pub epoch : ℕ
  pub minor : ℕ
  pub write : Write

abbrev pub dated : Version → Dated
dated v = record { epoch = v.epoch.0; minor = v.minor; write = v.write }

-- such writes stand in the order of versions
abbrev pub dated_key : Dated → List ℕ
dated_key x = x.epoch ∷ x.minor ∷ object_key (write_path x.write).cont (write_path x.write).obj

-- the writes of the versions that pass a test
abbrev pub dated_of : (Version → Bool) → List Version → List Dated
dated_of p vs = map dated (filter p vs)

-- a write says what a cell holds after it
abbrev pub is_about : Cell → Dated → Bool
is_about c x = touches c x.write

-- it lies below an epoch, at or above one, or between two
abbrev pub is_earlier : ℕ → Dated → Bool
is_earlier e x = nat_lt x.epoch e

abbrev pub is_from : ℕ → Dated → Bool
is_from mark x = nat_le mark x.epoch

abbrev pub is_within : ℕ → ℕ → Dated → Bool
is_within mark e x = nat_le mark x.epoch && nat_lt x.epoch e

-- what a cell holds after writes
abbrev pub after_all : Cell → List Dated → Option (List ℕ) → Option (List ℕ)
after_all c [] held = held
after_all c (x ∷ xs) held = after_all c xs (after_write c x.write held)

-- two lists have the same of the writes that say what a cell holds
abbrev pub SameWritesAt : Cell → List Dated → List Dated → Type 0
SameWritesAt c xs ys = (x : Dated) → is_about c x ≡ true → (Contains xs x → Contains ys x) × (Contains ys x → Contains xs x)

-- versions in order, of which no two have one key
pub record AreSingleInOrder (vs : List Version) : Type 0 where
  pub in_order : is_in_order version_key vs ≡ true
  pub single : AllPairs (λ v w. version_key v ≢ version_key w) vs

-- the map that the versions make that pass a test; the map below an epoch is that of the done versions below it
abbrev pub map_of : (Version → Bool) → List Version → List CellValue
map_of p vs = effects (writes_in (filter p vs)) []
