-- Where the names and the paths of a script have keys that are keys, and the cells of a map.
use Rattle.std.specs.Prelude.{ℕ, List, Option, Some, None, All}
use Rattle.base_types.specs.declared.operation.Op.{Op}
use Rattle.base_types.specs.declared.operation.Write.{Write}
use Rattle.base_types.specs.declared.path.Path.{Path}
use Rattle.base_types.specs.declared.script.Command.{Command}
use Rattle.base_types.specs.declared.script.Script.{Script}
use Rattle.base_types.specs.Keys.{IsKey}
use Rattle.base_types.specs.Operations.{write_path}
use Rattle.base_types.specs.Scripts.{SnapName, all_snaps}
use Rattle.daos_model.specs.declared.cell.CellValue.{CellValue}
use Rattle.daos_model.specs.declared.stand.Taken.{Taken}
use Rattle.daos_model.specs.Accesses.{op_path}
use Rattle.daos_model.specs.Transactions.{ops_of}

-- ---- paths

abbrev pub IsKeyOrNone : Option (List ℕ) → Type 0
IsKeyOrNone None = Unit {0}
IsKeyOrNone (Some key) = IsKey key

-- the dkey and the akey of a path are keys, as far as it goes
pub record HasKeys (p : Path) : Type 0 where
  pub dkey : IsKeyOrNone p.dkey
  pub akey : IsKeyOrNone p.akey

-- ---- scripts

-- of where an operation has its access
abbrev pub OpHasKeys : Op → Type 0
OpHasKeys op = HasKeys (op_path op)

-- of each operation of a command
abbrev pub CommandHasKeys : Command → Type 0
CommandHasKeys c = All OpHasKeys (ops_of c)

-- What a script has as names of containers, objects and snapshots that it makes, as dkeys and as akeys are keys: 1 to 64 letters, digits, dots,
-- underscores and dashes.
pub record ScriptHasKeys (s : Script) : Type 0 where
  pub conts : All (λ d. IsKey d.name) s.conts
  pub objs : All (λ d. IsKey d.name) s.objs
  pub commands : All (λ list. All CommandHasKeys list) s.clients
  pub snaps : All (λ (k : SnapName). IsKey k.0) (all_snaps s.clients)

-- ---- maps

-- of the path of a cell that a map holds
abbrev pub CellHasKeys : CellValue → Type 0
CellHasKeys v = HasKeys v.cell.path

-- of every cell that it holds
abbrev pub MapHasKeys : List CellValue → Type 0
MapHasKeys m = All CellHasKeys m

-- of where a write writes
abbrev pub WriteHasKeys : Write → Type 0
WriteHasKeys w = HasKeys (write_path w)

-- of every write of a transaction
abbrev pub TakenHasKeys : Taken → Type 0
TakenHasKeys t = All WriteHasKeys t.writes
