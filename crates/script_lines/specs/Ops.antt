-- What the words of an operation say.
use Rattle.std.specs.Prelude.{◌≡◌, ℕ, true, ◌+◌, ◌/◌, ◌%◌, ◌==◌, nat_lt, is_some, List, length, Option, Some, None, Ok, Err, if◌then◌else◌}
use Rattle.base_types.specs.Operations.{act_path}
use Rattle.base_types.specs.Paths.{record_size}
use Rattle.base_types.specs.Scripts.{is_fetch}
use Rattle.base_types.specs.Scripts as script
use Rattle.base_types.specs.declared.fault.Why.TheVariants.{BadNumber, BadRecord}
use Rattle.base_types.specs.declared.id.ContId.{ContId}
use Rattle.base_types.specs.declared.id.ObjId.{ObjId}
use Rattle.base_types.specs.declared.operation.Act.{Act}
use Rattle.base_types.specs.declared.operation.Act.TheVariants.{Fetch, Change}
use Rattle.base_types.specs.declared.operation.Read.TheVariants as read
use Rattle.base_types.specs.declared.operation.Write.{Write}
use Rattle.base_types.specs.declared.operation.Write.TheVariants as write
use Rattle.base_types.specs.declared.path.Path.{Path}
use Rattle.base_text.specs.Results.{◌>>=◌}
use Rattle.script_words.specs.declared.decls.Decls.{Decls}
use Rattle.script_words.specs.Reads.{Taken}
use Rattle.script_words.specs.Words.{IsWithin, key_at, more_key_at, number_at, obj_at, value_at}
use Rattle.script_lines.specs.declared.verbs.OpVerb.{OpVerb}
use Rattle.script_lines.specs.declared.verbs.OpVerb.TheVariants as op
use Rattle.script_lines.specs.Verbs.{is_read, may_must}

-- ---- paths

-- the path of an object, as far as these keys
abbrev pub path_of : ContId × ObjId → Option (List ℕ) → Option (List ℕ) → Path
path_of o dkey akey = record { cont = o.0; obj = Some o.1; dkey = dkey; akey = akey }

-- O
unfoldable pub object_at : Decls → Option ContId → List (List ℕ) → Taken Path
object_at decls within ws = do
  o ← obj_at decls within ws
  Ok (path_of o.0 None None, o.1)

-- O D
unfoldable pub dkey_at : Decls → Option ContId → List (List ℕ) → Taken Path
dkey_at decls within ws = do
  o ← obj_at decls within ws
  dkey ← key_at o.1
  Ok (path_of o.0 (Some dkey.0) None, dkey.1)

-- O D A
unfoldable pub cell_at : Decls → Option ContId → List (List ℕ) → Taken Path
cell_at decls within ws = do
  o ← obj_at decls within ws
  dkey ← key_at o.1
  akey ← key_at dkey.1
  Ok (path_of o.0 (Some dkey.0) (Some akey.0), akey.1)

-- an akey may follow a dkey, and nothing else
abbrev pub path_on : ContId × ObjId → Option (List ℕ) → List (List ℕ) → Taken Path
path_on o None ws = Ok (path_of o None None, ws)
path_on o (Some dkey) ws = more_key_at ws >>= λ akey. Ok (path_of o (Some dkey) akey.0, akey.1)

-- O, or O D, or O D A
unfoldable pub path_at : Decls → Option ContId → List (List ℕ) → Taken Path
path_at decls within ws = do
  o ← obj_at decls within ws
  dkey ← more_key_at o.1
  path_on o.0 dkey.0 dkey.1

-- ---- operations

-- put O D A V
unfoldable pub put_at : Decls → Option ContId → List (List ℕ) → Taken Act
put_at decls within ws = do
  cell ← cell_at decls within ws
  value ← value_at cell.1
  Ok (Change (write.Single cell.0 value.0), value.1)

-- get O D A
unfoldable pub get_at : Decls → Option ContId → List (List ℕ) → Taken Act
get_at decls within ws = do
  cell ← cell_at decls within ws
  Ok (Fetch (read.Single cell.0), cell.1)

-- OFFSET: at most 2^32 - 1
unfoldable pub offset_at : List (List ℕ) → Taken ℕ
offset_at ws = number_at 0 4294967295 ws

-- OFFSET V: whole records of a size; the end, in records, is at most 2^32 - 1
unfoldable pub piece_at : ℕ → List (List ℕ) → Taken (ℕ × List ℕ)
piece_at size ws = do
  offset ← offset_at ws
  value ← value_at offset.1
  if length value.0 % size == 0 then (if nat_lt 4294967295 (offset.0 + length value.0 / size) then Err BadNumber else Ok ((offset.0, value.0), value.1)) else Err BadRecord

-- OFFSET LEN: so many records of a size have at most 1,024 bytes; the end, in records, is at most 2^32 - 1
unfoldable pub range_at : ℕ → List (List ℕ) → Taken (ℕ × ℕ)
range_at size ws = do
  offset ← offset_at ws
  len ← number_at 1 (1024 / size) offset.1
  if nat_lt 4294967295 (offset.0 + len.0) then Err BadNumber else Ok ((offset.0, len.0), len.1)

-- write O D A OFFSET V
unfoldable pub write_at : Decls → Option ContId → List (List ℕ) → Taken Act
write_at decls within ws = do
  cell ← cell_at decls within ws
  piece ← piece_at (record_size cell.0) cell.1
  Ok (Change (write.Extent cell.0 piece.0.0 piece.0.1), piece.1)

-- read O D A OFFSET LEN
unfoldable pub read_at : Decls → Option ContId → List (List ℕ) → Taken Act
read_at decls within ws = do
  cell ← cell_at decls within ws
  range ← range_at (record_size cell.0) cell.1
  Ok (Fetch (read.Extent cell.0 range.0.0 range.0.1), range.1)

-- dkeys O
unfoldable pub dkeys_at : Decls → Option ContId → List (List ℕ) → Taken Act
dkeys_at decls within ws = do
  object ← object_at decls within ws
  Ok (Fetch (read.Dkeys object.0), object.1)

-- akeys O D
unfoldable pub akeys_at : Decls → Option ContId → List (List ℕ) → Taken Act
akeys_at decls within ws = do
  dkey ← dkey_at decls within ws
  Ok (Fetch (read.Akeys dkey.0), dkey.1)

-- has O, has O D, has O D A
unfoldable pub has_at : Decls → Option ContId → List (List ℕ) → Taken Act
has_at decls within ws = do
  path ← path_at decls within ws
  Ok (Fetch (read.Exists path.0), path.1)

-- the punch at the level of a path
abbrev pub punch_of : Path → Write
punch_of p = if is_some p.akey then write.PunchAkey p else if is_some p.dkey then write.PunchDkey p else write.PunchObject p

-- punch O, punch O D, punch O D A
unfoldable pub punch_at : Decls → Option ContId → List (List ℕ) → Taken Act
punch_at decls within ws = do
  path ← path_at decls within ws
  Ok (Change (punch_of path.0), path.1)

-- the words of an operation after its verb
abbrev pub act_by : Decls → Option ContId → OpVerb → List (List ℕ) → Taken Act
act_by decls within op.Put ws = put_at decls within ws
act_by decls within op.Get ws = get_at decls within ws
act_by decls within op.Write ws = write_at decls within ws
act_by decls within op.Read ws = read_at decls within ws
act_by decls within op.Dkeys ws = dkeys_at decls within ws
act_by decls within op.Akeys ws = akeys_at decls within ws
act_by decls within op.Has ws = has_at decls within ws
act_by decls within op.Punch ws = punch_at decls within ws

-- ---- what holds of operations that were read

-- a path keeps within a container, where one is given
abbrev pub PathFits : Option ContId → Path → Type 0
PathFits within p = IsWithin within p.cont

-- an operation keeps within a container, and is of the kind that its verb says
pub record ActFits (within : Option ContId) (v : OpVerb) (act : Act) : Type 0 where
  pub inside : PathFits within (act_path act)
  pub fetch : is_read v ≡ true → is_fetch act ≡ true
  pub must : may_must v ≡ true → script.may_must act ≡ true
