-- What holds of what was read before a line: it is a script in form so far, and its counts and names are kept beside it.
use Rattle.std.specs.Prelude.{◌≡◌, ℕ, suc, ◌+◌, ◌*◌, ◌<◌, ◌≤◌, nat_eq, List, [], ◌∷◌, ◌++◌, length, map, All, Any, Option, Some, None}
use Rattle.std.specs.List.{IsDistinct, AllByRecursion}
use Rattle.base_types.specs.Keys.{same_key}
use Rattle.base_types.specs.Placement.{ClassFits}
use Rattle.base_types.specs.Scripts.{AreCommands, IsContOf, IsOpInForm, IsPlainReadIn, IsStop, IsUnit, SnapName, all_snaps, cont_name, cont_number, count_numbered, obj_name, old_snap, same_declared, snaps_of}
use Rattle.base_types.specs.declared.operation.Op.{Op}
use Rattle.base_types.specs.declared.script.Command.{Command}
use Rattle.base_types.specs.declared.script.Command.TheVariants as command
use Rattle.base_types.specs.declared.script.ContDecl.{ContDecl}
use Rattle.base_types.specs.declared.script.ObjDecl.{ObjDecl}
use Rattle.base_types.specs.declared.script.OldDecl.{OldDecl}
use Rattle.base_types.specs.declared.script.StopDecl.{StopDecl}
use Rattle.script_lines.specs.declared.line.At.{At}
use Rattle.script_words.specs.declared.decls.Decls.{Decls}
use Rattle.daos_script.specs.declared.client.Client.{Client}
use Rattle.daos_script.specs.declared.lists.Told.{Told}
use Rattle.daos_script.specs.declared.tx.Tx.{Tx}
use Rattle.daos_script.specs.Clients.{skip_open}
use Rattle.daos_script.specs.Lists.{lists_of}
use Rattle.daos_script.specs.Steps.{tx_of}
use Rattle.daos_script.specs.declared.reading.Reading.{Reading}

abbrev pub snap_name : SnapName → List ℕ
snap_name k = k.0

-- the lines before the first client keep their limits, and what they declare is new and fits
pub record AreHeads (targets : ℕ) (conts : List ContDecl) (objs : List ObjDecl) (olds : List OldDecl) (drops : List (List ℕ)) (stops : List StopDecl) : Type 0 where
  pub few_conts : length conts ≤ 256
  pub cont_names : IsDistinct same_key (map cont_name conts)
  pub cont_ids : IsDistinct nat_eq (map cont_number conts)
  pub few_objs : length objs ≤ 4096
  pub obj_names : IsDistinct same_key (map obj_name objs)
  pub obj_ids : IsDistinct same_declared objs
  pub obj_conts : All (λ o. IsContOf conts o.cont) objs
  pub obj_units : All (λ o. IsUnit o.id.unit) objs
  pub classes : All (λ o. ClassFits o.id.class targets) objs
  pub few_olds : length olds ≤ 256
  pub old_conts : All (λ d. IsContOf conts d.cont) olds
  pub known_drops : All (λ name. Any (λ d. d.name ≡ name) olds) drops
  pub drops_once : IsDistinct same_key drops
  pub few_stops : length stops ≤ 64
  pub stops_fit : All (IsStop targets) stops

-- the operations of a transaction read the snapshot that it names, if it names one
abbrev pub TxReads : List SnapName → List Op → Option At → Type 0
TxReads known ops None = Unit {0}
TxReads known ops (Some at) = Any (λ k. k ≡ (at.name, at.cont)) known × AllByRecursion (IsPlainReadIn at.cont) ops

-- a transaction that isn't ended, of a client that knows these snapshots
pub record IsTx (objs : List ObjDecl) (known : List SnapName) (t : Tx) : Type 0 where
  pub few : length t.ops ≤ 64
  pub in_form : AllByRecursion (IsOpInForm objs) t.ops
  pub skips_before : length t.skips ≡ length t.ops
  pub reads : TxReads known t.ops t.at

abbrev pub IsOpen : List ObjDecl → List SnapName → Option Tx → Type 0
IsOpen objs known None = Unit {0}
IsOpen objs known (Some t) = IsTx objs known t

-- the lists of earlier clients, and of the present one
pub record AreLists (conts : List ContDecl) (objs : List ObjDecl) (olds : List SnapName) (whole : List (List Command)) (c : Client) : Type 0 where
  pub earlier : AllByRecursion (λ list. AreCommands conts objs olds list) whole
  pub present : AreCommands conts objs olds c.list
  pub begun : IsOpen objs (olds ++ snaps_of c.list) c.tx
  pub room : length whole < 64
  pub number : c.number ≡ length whole

abbrev pub IsBody : List ContDecl → List ObjDecl → List SnapName → List (List Command) → Option Client → Type 0
IsBody conts objs olds whole None = whole ≡ []
IsBody conts objs olds whole (Some c) = AreLists conts objs olds whole c

-- the snapshots that the present client makes
abbrev pub snaps_now : Option Client → List SnapName
snaps_now None = []
snaps_now (Some c) = snaps_of c.list

-- a transaction is counted where it begins
abbrev pub count_open : Option Tx → ℕ
count_open None = 0
count_open (Some t) = 1

-- a command by which this client tells another one has its line among those from `tell`
abbrev pub IsKept : List Told → ℕ → Command → Type 0
IsKept tells own (command.Run ops skips snapshot) = Unit {0}
IsKept tells own (command.Snap name cont) = Unit {0}
IsKept tells own (command.Aggregate cont) = Unit {0}
IsKept tells own (command.Tell to) = Any (λ t. (t.client ≡ own) × (t.to ≡ to)) tells
IsKept tells own (command.Skip turns) = Unit {0}

-- the lists of the clients from this number on, of which each command to tell has its line
abbrev pub AreKept : List Told → ℕ → List (List Command) → Type 0
AreKept tells own [] = Unit {0}
AreKept tells own (list ∷ lists) = AllByRecursion (IsKept tells own) list × AreKept tells (suc own) lists

pub record IsState (targets at : ℕ) (decls : Decls) (whole : List (List Command)) (current : Option Client) (commands : ℕ) (tells : List Told) : Type 0 where
  pub read_for : decls.targets ≡ targets
  pub heads : AreHeads targets decls.conts decls.objs decls.olds decls.drops decls.stops
  pub made_are : decls.made ≡ all_snaps (lists_of whole current)
  pub own_are : decls.own ≡ snaps_now current
  pub names : IsDistinct same_key (map snap_name (map old_snap decls.olds ++ decls.made))
  pub body : IsBody decls.conts decls.objs (map old_snap decls.olds) whole current
  pub counts : commands ≡ count_numbered (lists_of whole current) + count_open (tx_of current)
  pub few : commands ≤ 100000
  pub skipped : skip_open (tx_of current) ≤ 10000 * at
  pub kept : AreKept tells 0 (lists_of whole current)

-- the same of what was read before the line of this number, of a script for so many targets
abbrev pub IsStateAt : ℕ → ℕ → Reading → Type 0
IsStateAt targets at r = IsState targets at r.decls r.lists.whole r.lists.present.client r.lists.present.commands r.lists.tells

-- what was read before the line of this number is a script in form so far
unfoldable pub IsSoFar : ℕ → ℕ → Reading → Type 0
IsSoFar targets at r = IsStateAt targets at r
