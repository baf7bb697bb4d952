-- Punches that an update needs, and what becomes of their marks.
use Rattle.std.specs.Prelude.{ℕ, zero, suc, ◌≡◌, ◌<◌, ◌≤◌, Bool, true, false, ◌&&◌, ◌||◌, not, List, [], ◌∷◌, length, map}
use Rattle.std.specs.List.{list_any, slice_index_or}
use Rattle.base_types.specs.declared.epoch.Epoch.{Epoch}
use Rattle.base_types.specs.declared.id.ContId.{ContId}
use Rattle.base_types.specs.declared.operation.Write.{Write}
use Rattle.base_types.specs.declared.operation.Write.TheVariants.{Single, Extent, PunchObject, PunchDkey, PunchAkey}
use Rattle.base_types.specs.declared.path.Level.{Level}
use Rattle.base_types.specs.declared.path.Level.TheVariants.{Cont, Obj, Dkey, Akey}
use Rattle.base_types.specs.declared.path.Path.{Path}
use Rattle.base_types.specs.Paths.{leads_to}
use Rattle.daos_model.specs.declared.durable.Version.{Version}
use Rattle.daos_model.specs.Answers.{is_before}
use Rattle.daos_model.specs.Durables.{version_key}
use Rattle.daos_model.specs.Prunes.{is_old, is_punch}
use Rattle.daos_model.specs.Versions.{version_path}
use Rattle.vos_aggregate.specs.Buckets.{akey_hash, dkey_hash, object_hash}

-- a write is a punch of a level that leads to a path
abbrev pub is_over : Level → Path → Write → Bool
is_over Cont q w = false
is_over Obj q (Single p bytes) = false
is_over Obj q (Extent p low bytes) = false
is_over Obj q (PunchObject p) = leads_to p q
is_over Obj q (PunchDkey p) = false
is_over Obj q (PunchAkey p) = false
is_over Dkey q (Single p bytes) = false
is_over Dkey q (Extent p low bytes) = false
is_over Dkey q (PunchObject p) = false
is_over Dkey q (PunchDkey p) = leads_to p q
is_over Dkey q (PunchAkey p) = false
is_over Akey q (Single p bytes) = false
is_over Akey q (Extent p low bytes) = false
is_over Akey q (PunchObject p) = false
is_over Akey q (PunchDkey p) = false
is_over Akey q (PunchAkey p) = leads_to p q

-- the marks of versions without those of the punches of a level that lead to a path
abbrev pub spared : Level → Path → List Bool → List Version → List Bool
spared l q [] vs = []
spared l q (m ∷ ms) [] = m ∷ ms
spared l q (m ∷ ms) (v ∷ vs) = (m && not (is_over l q v.write)) ∷ spared l q ms vs

-- the hash of a path as far as a level
abbrev pub level_hash : Level → Path → ℕ
level_hash Cont p = 0
level_hash Obj p = object_hash p
level_hash Dkey p = dkey_hash p
level_hash Akey p = akey_hash p

-- marks of versions, of which those from a place on are planned: before it none is marked, and behind none but what might go;
-- behind a punch there that might go and isn't marked, none of its level that leads to a path to which it leads is
pub record ArePlanned (c : ContId) (upto : Epoch) (start : ℕ) (ms : List Bool) (vs : List Version) : Type 0 where
  pub each : length ms ≡ length vs
  pub before : (k : ℕ) → k < start → slice_index_or ms k false ≡ false
  pub old : (k : ℕ) (d : Version) → k < length vs → slice_index_or ms k false ≡ true → is_old c upto (slice_index_or vs k d) ≡ true
  pub behind : (l : Level) (q : Path) (j k : ℕ) (d : Version) → start ≤ j → j < k → k < length vs
      → is_over l q (slice_index_or vs j d).write ≡ true → is_over l q (slice_index_or vs k d).write ≡ true
      → is_old c upto (slice_index_or vs j d) ≡ true → slice_index_or ms j false ≡ false → slice_index_or ms k false ≡ false

-- an update that stays, at a punch's path or below and no later; `unseen` tells which updates go
unfoldable pub needs : (Version → Bool) → Version → Version → Bool
needs unseen p u = not (is_punch u.write) && not (is_before (version_key p) (version_key u)) && leads_to (version_path p) (version_path u) && not (unseen u)

-- a version goes, as far as some updates can need it
unfoldable pub goes_by : (Version → Bool) → ContId → Epoch → List Version → Version → Bool
goes_by unseen c upto us v = unseen v || (is_old c upto v && is_punch v.write && not (list_any (needs unseen v) us))

-- no version from the first on is marked until a place, and from there on those that go as far as updates from there on can need them
abbrev pub marks_from : (Version → Bool) → ContId → Epoch → ℕ → List Version → List Bool
marks_from unseen c upto zero vs = map (goes_by unseen c upto vs) vs
marks_from unseen c upto (suc n) [] = []
marks_from unseen c upto (suc n) (v ∷ vs) = false ∷ marks_from unseen c upto n vs
