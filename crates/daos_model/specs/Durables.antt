-- What a target keeps: keys of its parts, and where they are found.
use Rattle.std.specs.Prelude.{ℕ, Bool, true, false, ◌≡◌, ◌≤◌, ◌^◌, ◌<◌, ◌&&◌, ◌||◌, ◌==◌, List, [], ◌∷◌, find, length, Option, Some, None}
use Rattle.std.specs.List.{list_any, list_all}
use Rattle.base_types.specs.declared.entry.Entry.{Entry}
use Rattle.base_types.specs.declared.epoch.Epoch.{Epoch}
use Rattle.base_types.specs.declared.id.AttemptId.{AttemptId}
use Rattle.base_types.specs.declared.id.ContId.{ContId}
use Rattle.base_types.specs.declared.id.ObjId.{ObjId}
use Rattle.base_types.specs.declared.outcome.FloorWhy.{FloorWhy}
use Rattle.base_types.specs.declared.outcome.FloorWhy.TheVariants.{Opening, Restart, Snapshot, Aggregate}
use Rattle.base_types.specs.declared.snapshot.Snap.{Snap}
use Rattle.base_types.specs.Operations.{write_path}
use Rattle.base_types.specs.Paths.{class_number}
use Rattle.daos_model.specs.declared.durable.ContRow.{ContRow}
use Rattle.daos_model.specs.declared.durable.Durable.{Durable}
use Rattle.daos_model.specs.declared.durable.Version.{Version}
use Rattle.daos_model.specs.Forms.{is_write_in_form}
use Rattle.daos_model.specs.Ordered.{is_in_order, is_rising}

-- an object in the order of objects: its container, and then its class, its number and its record size
abbrev pub object_rest : Option ObjId → List ℕ
object_rest None = []
object_rest (Some o) = class_number o.class ∷ o.number ∷ o.unit ∷ []

abbrev pub object_key : ContId → Option ObjId → List ℕ
object_key c o = c.0 ∷ object_rest o

-- versions stand in the order of epochs, then of their numbers in the transaction, then of objects
abbrev pub version_key : Version → List ℕ
version_key v = v.epoch.0 ∷ v.minor ∷ object_key (write_path v.write).cont (write_path v.write).obj

abbrev pub attempt_key : AttemptId → List ℕ
attempt_key a = a.client ∷ a.command ∷ a.attempt ∷ []

abbrev pub entry_key : Entry → List ℕ
entry_key e = attempt_key e.attempt

abbrev pub cont_key : ContRow → List ℕ
cont_key r = r.cont.0 ∷ []

abbrev pub snap_key : Snap → List ℕ
snap_key s = s.cont.0 ∷ s.epoch.0 ∷ []

-- two attempts are one
unfoldable pub same_attempt : AttemptId → AttemptId → Bool
same_attempt a b = (a.client == b.client) && (a.command == b.command) && (a.attempt == b.attempt)

abbrev pub is_entry_of : AttemptId → Entry → Bool
is_entry_of a e = same_attempt e.attempt a

-- the entry of an attempt, if there is one
unfoldable pub entry_of : Durable → AttemptId → Option Entry
entry_of d a = find (is_entry_of a) d.entries

abbrev pub is_row_of : ContId → ContRow → Bool
is_row_of c r = r.cont.0 == c.0

-- a container that is new
abbrev pub new_row : ContId → ContRow
new_row c = record { cont = c; floor = record { 0 = 0 }; why = Opening; aggregated = record { 0 = 0 }; number = 0 }

abbrev pub row_or_new : ContId → Option ContRow → ContRow
row_or_new c None = new_row c
row_or_new c (Some r) = r

-- what is kept of a container
unfoldable pub row_of : Durable → ContId → ContRow
row_of d c = row_or_new c (find (is_row_of c) d.conts)

unfoldable pub is_enlisted : Durable → ContId → Bool
is_enlisted d c = list_any (is_row_of c) d.conts

abbrev pub is_snap_at : ContId → Epoch → Snap → Bool
is_snap_at c s x = (x.cont.0 == c.0) && (x.epoch.0 == s.0)

-- a snapshot is frozen here, created or not
unfoldable pub is_frozen : Durable → ContId → Epoch → Bool
is_frozen d c s = list_any (is_snap_at c s) d.snaps

abbrev pub is_version_in_form : Version → Bool
is_version_in_form v = is_write_in_form v.write

-- what can have set a stored floor: a snapshot or an aggregation
abbrev pub is_stored_why : FloorWhy → Bool
is_stored_why Opening = false
is_stored_why (Restart n) = false
is_stored_why (Snapshot s) = true
is_stored_why (Aggregate n) = true

-- a stored floor was set by one of them, or by nothing, and is then 0
abbrev pub is_floor_in_form : ContRow → Bool
is_floor_in_form r = (r.floor.0 == 0) || is_stored_why r.why

-- what every durable keeps
pub record IsInForm (d : Durable) : Type 0 where
  pub versions : is_in_order version_key d.versions ≡ true
  pub writes : list_all is_version_in_form d.versions ≡ true
  pub entries : is_rising entry_key d.entries ≡ true
  pub conts : is_rising cont_key d.conts ≡ true
  pub floors : list_all is_floor_in_form d.conts ≡ true
  pub snaps : is_rising snap_key d.snaps ≡ true
  pub few_conts : length d.conts ≤ 256
  pub few_snaps : length d.snaps ≤ 256
  pub lease : d.lease < 2 ^ 56

-- what a target keeps that was never used
abbrev pub empty_durable : ℕ → Durable
empty_durable incarnation = record { versions = []; entries = []; conts = []; snaps = []; lease = 0; incarnation = incarnation }
