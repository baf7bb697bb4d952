-- The words of a line, read from the left.
use Rattle.std.specs.Prelude.{◌≡◌, ℕ, Bool, false, ◌||◌, ◌==◌, nat_le, nat_lt, not, is_none, is_some, List, [], ◌∷◌, length, codes, Option, Some, None, Ok, Err, if◌then◌else◌}
use Rattle.std.specs.Str.{bytes_eq, is_utf8}
use Rattle.std.specs.Int.{w128, from_be_bytes}
use Rattle.uuid.specs.Text.{parsed}
use Rattle.base_types.specs.Keys.{key_fault}
use Rattle.base_types.specs.Placement.{targets_needed}
use Rattle.base_types.specs.declared.fault.Why.TheVariants.{MissingWord, ExtraWord, BadNumber, BadKey, BadUuid, BadName, BadClass}
use Rattle.base_types.specs.declared.id.Class.{Class}
use Rattle.base_types.specs.declared.id.Class.TheVariants.{S1, S2, S4, SX, RP2G1, RP2GX, RP3G1, RP3GX}
use Rattle.base_types.specs.declared.id.ContId.{ContId}
use Rattle.base_types.specs.declared.id.ObjId.{ObjId}
use Rattle.base_text.specs.Number.{number_in}
use Rattle.base_text.specs.Results.{◌>>=◌}
use Rattle.script_words.specs.declared.decls.Decls.{Decls}
use Rattle.script_words.specs.Lookups.{cont_named, obj_named, old_named}
use Rattle.script_words.specs.Reads.{Read, Taken, or_fault}
use Rattle.script_words.specs.Snaps.{is_dropped, is_snap, snap_named}
use Rattle.script_words.specs.Values.{value_of}

-- a word that isn't empty
unfoldable pub word_at : List (List ℕ) → Taken (List ℕ)
word_at [] = Err MissingWord
word_at (w ∷ ws) = if length w == 0 then Err MissingWord else Ok (w, ws)

-- no word
unfoldable pub nothing_at : List (List ℕ) → Read (Unit {0})
nothing_at [] = Ok tt
nothing_at (w ∷ ws) = Err ExtraWord

-- ---- what needs no declaration

abbrev pub key_of : List ℕ → Read (List ℕ)
key_of w = if is_none (key_fault w) then Ok w else Err BadKey

unfoldable pub key_at : List (List ℕ) → Taken (List ℕ)
key_at ws = do
  w ← word_at ws
  key ← key_of w.0
  Ok (key, w.1)

-- a further key, or the end of the line
unfoldable pub more_key_at : List (List ℕ) → Taken (Option (List ℕ))
more_key_at [] = Ok (None, [])
more_key_at (w ∷ ws) = if length w == 0 then Err MissingWord else (key_of w >>= λ key. Ok (Some key, ws))

unfoldable pub number_at : ℕ → ℕ → List (List ℕ) → Taken ℕ
number_at lo hi ws = do
  w ← word_at ws
  n ← or_fault BadNumber (number_in lo hi w.0)
  Ok (n, w.1)

-- a record size from 2 to 64, or 1 at the end of the line
unfoldable pub unit_at : List (List ℕ) → Taken ℕ
unit_at [] = Ok (1, [])
unit_at (w ∷ ws) = if length w == 0 then Err MissingWord else (or_fault BadNumber (number_in 2 64 w) >>= λ n. Ok (n, ws))

-- the number of one of so many targets
unfoldable pub target_at : ℕ → List (List ℕ) → Taken ℕ
target_at targets ws = do
  n ← number_at 0 255 ws
  if nat_lt n.0 targets then Ok n else Err BadNumber

abbrev pub id_of : Option (List ℕ) → Option ContId
id_of None = None
id_of (Some u) = Some (record { 0 = from_be_bytes w128 u })

abbrev pub parsed_id : List ℕ → Option ContId
parsed_id w = id_of (parsed w)

-- the identity that a word spells as a UUID
abbrev pub uuid_of : List ℕ → Option ContId
uuid_of w = if is_utf8 w then parsed_id w else None

unfoldable pub uuid_at : List (List ℕ) → Taken ContId
uuid_at ws = do
  w ← word_at ws
  id ← or_fault BadUuid (uuid_of w.0)
  Ok (id, w.1)

unfoldable pub value_at : List (List ℕ) → Taken (List ℕ)
value_at ws = do
  w ← word_at ws
  v ← value_of w.0
  Ok (v, w.1)

-- the class that a word names
abbrev pub class_of : List ℕ → Option Class
class_of w =
    if bytes_eq w (codes "S1") then Some S1 else if bytes_eq w (codes "S2") then Some S2
    else if bytes_eq w (codes "S4") then Some S4 else if bytes_eq w (codes "SX") then Some SX
    else if bytes_eq w (codes "RP_2G1") then Some RP2G1 else if bytes_eq w (codes "RP_2GX") then Some RP2GX
    else if bytes_eq w (codes "RP_3G1") then Some RP3G1 else if bytes_eq w (codes "RP_3GX") then Some RP3GX else None

-- a class, where there are targets enough for it
abbrev pub fitting : ℕ → Class → Read Class
fitting targets class = if nat_le (targets_needed class) targets then Ok class else Err BadClass

-- a class that fits so many targets
unfoldable pub class_at : ℕ → List (List ℕ) → Taken Class
class_at targets ws = do
  w ← word_at ws
  named ← or_fault BadClass (class_of w.0)
  class ← fitting targets named
  Ok (class, w.1)

-- ---- names of what is declared

unfoldable pub cont_at : Decls → List (List ℕ) → Taken ContId
cont_at decls ws = do
  w ← word_at ws
  id ← or_fault BadName (cont_named decls.conts w.0)
  Ok (id, w.1)

-- whether a container is another one than that within which a line must keep
abbrev pub is_outside : Option ContId → ContId → Bool
is_outside None cont = false
is_outside (Some within) cont = not (cont.0 == within.0)

-- a container is that within which a line must keep, where one is given
abbrev pub IsWithin : Option ContId → ContId → Type 0
IsWithin None cont = Unit {0}
IsWithin (Some within) cont = cont ≡ within

-- the name of an object, within a container where one is given
unfoldable pub obj_at : Decls → Option ContId → List (List ℕ) → Taken (ContId × ObjId)
obj_at decls within ws = do
  w ← word_at ws
  o ← or_fault BadName (obj_named decls.objs w.0)
  if is_outside within o.0 then Err BadName else Ok (o, w.1)

abbrev pub name_of : List ℕ → Read (List ℕ)
name_of w = if is_none (key_fault w) then Ok w else Err BadName

-- the name of a snapshot that the present client may read, with its container
unfoldable pub snap_at : Decls → List (List ℕ) → Taken (List ℕ × ContId)
snap_at decls ws = do
  w ← word_at ws
  name ← name_of w.0
  cont ← or_fault BadName (snap_named decls name)
  Ok ((name, cont), w.1)

-- the name of a snapshot of an earlier run that isn't dropped yet
unfoldable pub drop_at : Decls → List (List ℕ) → Taken (List ℕ)
drop_at decls ws = do
  w ← word_at ws
  name ← name_of w.0
  if is_none (old_named decls.olds name) || is_dropped decls name then Err BadName else Ok (name, w.1)

-- ---- new names

-- a name that no container has
unfoldable pub new_cont_at : Decls → List (List ℕ) → Taken (List ℕ)
new_cont_at decls ws = do
  w ← word_at ws
  name ← name_of w.0
  if is_some (cont_named decls.conts name) then Err BadName else Ok (name, w.1)

-- a name that no object has
unfoldable pub new_obj_at : Decls → List (List ℕ) → Taken (List ℕ)
new_obj_at decls ws = do
  w ← word_at ws
  name ← name_of w.0
  if is_some (obj_named decls.objs name) then Err BadName else Ok (name, w.1)

-- a name that no snapshot has
unfoldable pub new_snap_at : Decls → List (List ℕ) → Taken (List ℕ)
new_snap_at decls ws = do
  w ← word_at ws
  name ← name_of w.0
  if is_snap decls name then Err BadName else Ok (name, w.1)
