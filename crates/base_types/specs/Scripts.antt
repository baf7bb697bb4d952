-- What a script is that a text stands for.
use Rattle.std.specs.Prelude.{ℕ, suc, Bool, true, false, ◌≡◌, ◌≤◌, ◌<◌, ◌+◌, ◌*◌, ◌/◌, ◌%◌, ◌^◌, ◌&&◌, ◌==◌, nat_eq, List, [], ◌∷◌, ◌++◌, length, map, count_by, All, Any, Option, Some, None}
use Rattle.std.specs.List.{IsDistinct, list_all}
use Rattle.base_types.specs.declared.epoch.Epoch.{Epoch}
use Rattle.base_types.specs.declared.id.ContId.{ContId}
use Rattle.base_types.specs.declared.path.Path.{Path}
use Rattle.base_types.specs.declared.operation.Act.{Act}
use Rattle.base_types.specs.declared.operation.Act.TheVariants.{Fetch, Change}
use Rattle.base_types.specs.declared.operation.Cond.{Cond}
use Rattle.base_types.specs.declared.operation.Cond.TheVariants.{Free, Must, MustNot}
use Rattle.base_types.specs.declared.operation.Op.{Op}
use Rattle.base_types.specs.declared.operation.Read.{Read}
use Rattle.base_types.specs.declared.operation.Read.TheVariants as read
use Rattle.base_types.specs.declared.operation.Write.{Write}
use Rattle.base_types.specs.declared.operation.Write.TheVariants as write
use Rattle.base_types.specs.declared.script.Command.{Command}
use Rattle.base_types.specs.declared.script.Command.TheVariants.{Run, Snap, Aggregate, Tell, Skip}
use Rattle.base_types.specs.declared.script.ContDecl.{ContDecl}
use Rattle.base_types.specs.declared.script.ObjDecl.{ObjDecl}
use Rattle.base_types.specs.declared.script.OldDecl.{OldDecl}
use Rattle.base_types.specs.declared.script.StopDecl.{StopDecl}
use Rattle.base_types.specs.declared.script.Script.{Script}
use Rattle.base_types.specs.Keys.{same_key}
use Rattle.base_types.specs.Operations.{act_path}
use Rattle.base_types.specs.Paths.{record_size, same_object}
use Rattle.base_types.specs.Placement.{ClassFits}

-- ---- what is declared

abbrev pub cont_name : ContDecl → List ℕ
cont_name d = d.name

abbrev pub cont_number : ContDecl → ℕ
cont_number d = d.id.0

abbrev pub obj_name : ObjDecl → List ℕ
obj_name d = d.name

-- two declarations are of one object
abbrev pub same_declared : ObjDecl → ObjDecl → Bool
same_declared a b = (a.cont.0 == b.cont.0) && same_object a.id b.id

-- a declared container
abbrev pub IsContOf : List ContDecl → ContId → Type 0
IsContOf conts id = Any (λ c. c.id ≡ id) conts

-- a record size: from 1 to 64 bytes
abbrev pub IsUnit : ℕ → Type 0
IsUnit size = (0 < size) × (size ≤ 64)

-- what is declared: containers with names and identities of their own, and objects in them likewise
pub record AreDeclared (s : Script) : Type 0 where
  pub conts : length s.conts ≤ 256
  pub cont_names : IsDistinct same_key (map cont_name s.conts)
  pub cont_ids : IsDistinct nat_eq (map cont_number s.conts)
  pub objs : length s.objs ≤ 4096
  pub obj_names : IsDistinct same_key (map obj_name s.objs)
  pub obj_ids : IsDistinct same_declared s.objs
  pub obj_conts : All (λ o. IsContOf s.conts o.cont) s.objs
  pub obj_units : All (λ o. IsUnit o.id.unit) s.objs

-- the K-th write of a target's region may be told to fail for K from 1 to 1,000,000
pub record IsStop (targets : ℕ) (d : StopDecl) : Type 0 where
  pub target : d.target < targets
  pub first : 0 < d.write
  pub last : d.write ≤ 1000000

-- ---- operations

-- the path of a declared object, or one that goes on from it
abbrev pub IsOfObject : List ObjDecl → Path → Type 0
IsOfObject objs p = Any (λ d. (Some d.id ≡ p.obj) × (d.cont ≡ p.cont)) objs

-- the path of a declared object, and no further
pub record IsObjectOf (objs : List ObjDecl) (p : Path) : Type 0 where
  pub declared : IsOfObject objs p
  pub no_dkey : p.dkey ≡ None
  pub no_akey : p.akey ≡ None

-- the path of a dkey of a declared object, and no further
pub record IsDkeyOf (objs : List ObjDecl) (p : Path) : Type 0 where
  pub declared : IsOfObject objs p
  pub dkey : (k : List ℕ) × (p.dkey ≡ Some k)
  pub no_akey : p.akey ≡ None

-- the path of an akey of a declared object
pub record IsAkeyOf (objs : List ObjDecl) (p : Path) : Type 0 where
  pub declared : IsOfObject objs p
  pub dkey : (k : List ℕ) × (p.dkey ≡ Some k)
  pub akey : (k : List ℕ) × (p.akey ≡ Some k)

-- the path of a declared object, or of a dkey or an akey of one
pub record IsPathOf (objs : List ObjDecl) (p : Path) : Type 0 where
  pub declared : IsOfObject objs p
  pub no_akey : p.dkey ≡ None → p.akey ≡ None

-- a length from 1 to 1,024
abbrev pub IsLength : ℕ → Type 0
IsLength len = (0 < len) × (len ≤ 1024)

-- bytes that are whole records of a size
abbrev pub AreRecords : ℕ → List ℕ → Type 0
AreRecords size bytes = length bytes % size ≡ 0

-- a read whose path ends at its level; records that it asks for have 1 to 1,024 bytes, and end at the index 2^32 - 1 at most
abbrev pub IsReadInForm : List ObjDecl → Read → Type 0
IsReadInForm objs (read.Single p) = IsAkeyOf objs p
IsReadInForm objs (read.Extent p low len) = IsAkeyOf objs p × IsLength (len * record_size p) × (low + len < 2 ^ 32)
IsReadInForm objs (read.Dkeys p) = IsObjectOf objs p
IsReadInForm objs (read.Akeys p) = IsDkeyOf objs p
IsReadInForm objs (read.Exists p) = IsPathOf objs p

-- a write likewise; to an array it writes whole records, and a value has 1 to 1,024 bytes
abbrev pub IsWriteInForm : List ObjDecl → Write → Type 0
IsWriteInForm objs (write.Single p bytes) = IsAkeyOf objs p × IsLength (length bytes)
IsWriteInForm objs (write.Extent p low bytes) = IsAkeyOf objs p × IsLength (length bytes) × AreRecords (record_size p) bytes × (low + length bytes / record_size p < 2 ^ 32)
IsWriteInForm objs (write.PunchObject p) = IsObjectOf objs p
IsWriteInForm objs (write.PunchDkey p) = IsDkeyOf objs p
IsWriteInForm objs (write.PunchAkey p) = IsAkeyOf objs p

abbrev pub IsActInForm : List ObjDecl → Act → Type 0
IsActInForm objs (Fetch r) = IsReadInForm objs r
IsActInForm objs (Change w) = IsWriteInForm objs w

-- a read, and no write
abbrev pub is_fetch : Act → Bool
is_fetch (Fetch r) = true
is_fetch (Change w) = false

-- all but the question whether there is a cell may be asked to find one, or to find none
abbrev pub may_read_must : Read → Bool
may_read_must (read.Single p) = true
may_read_must (read.Extent p low len) = true
may_read_must (read.Dkeys p) = true
may_read_must (read.Akeys p) = true
may_read_must (read.Exists p) = false

abbrev pub may_must : Act → Bool
may_must (Fetch r) = may_read_must r
may_must (Change w) = true

-- a condition that an act may have
abbrev pub may_have : Cond → Act → Bool
may_have Free act = true
may_have Must act = may_must act
may_have MustNot act = may_must act

pub record IsOpInForm (objs : List ObjDecl) (op : Op) : Type 0 where
  pub act : IsActInForm objs op.act
  pub cond : may_have op.cond op.act ≡ true

-- a read without a condition, in this container
pub record IsPlainReadIn (cont : ContId) (op : Op) : Type 0 where
  pub free : op.cond ≡ Free
  pub fetch : is_fetch op.act ≡ true
  pub inside : (act_path op.act).cont ≡ cont

-- ---- commands

-- commands that bear a number, which are those with attempts
abbrev pub is_numbered : Command → Bool
is_numbered (Run ops skips snapshot) = true
is_numbered (Snap name cont) = true
is_numbered (Aggregate cont) = true
is_numbered (Tell client) = false
is_numbered (Skip turns) = false

-- a name of a snapshot, and its container
abbrev pub SnapName : Type 0
SnapName = List ℕ × ContId

abbrev pub old_snap : OldDecl → SnapName
old_snap d = (d.name, d.cont)

-- the snapshot that a command makes, if it makes one
abbrev pub snap_of : Command → List SnapName
snap_of (Run ops skips snapshot) = []
snap_of (Snap name cont) = (name, cont) ∷ []
snap_of (Aggregate cont) = []
snap_of (Tell client) = []
snap_of (Skip turns) = []

-- the snapshots that a client makes, in order
abbrev pub snaps_of : List Command → List SnapName
snaps_of [] = []
snaps_of (c ∷ cs) = snap_of c ++ snaps_of cs

-- the snapshots that all clients make
abbrev pub all_snaps : List (List Command) → List SnapName
all_snaps [] = []
all_snaps (list ∷ lists) = snaps_of list ++ all_snaps lists

-- 1 to 64 operations, with the turns to skip before each and before the end
pub record IsTransaction (objs : List ObjDecl) (ops : List Op) (skips : List ℕ) : Type 0 where
  pub some : 0 < length ops
  pub few : length ops ≤ 64
  pub in_form : All (IsOpInForm objs) ops
  pub skips_between : length skips ≡ length ops + 1

-- reads without conditions, in the container of a snapshot that is known by this name
abbrev pub ReadsAt : List SnapName → List Op → Option (List ℕ) → Type 0
ReadsAt known ops None = Unit {0}
ReadsAt known ops (Some name) = (cont : ContId) × Any (λ k. k ≡ (name, cont)) known × All (IsPlainReadIn cont) ops

-- a command of a client that knows these snapshots
abbrev pub IsCommand : List ContDecl → List ObjDecl → List SnapName → Command → Type 0
IsCommand conts objs known (Run ops skips snapshot) = IsTransaction objs ops skips × ReadsAt known ops snapshot
IsCommand conts objs known (Snap name cont) = IsContOf conts cont
IsCommand conts objs known (Aggregate cont) = IsContOf conts cont
IsCommand conts objs known (Tell client) = Unit {0}
IsCommand conts objs known (Skip turns) = (0 < turns) × (turns ≤ 10000)

-- the commands of a client, each of which also knows the snapshots made before it
abbrev pub AreCommands : List ContDecl → List ObjDecl → List SnapName → List Command → Type 0
AreCommands conts objs known [] = Unit {0}
AreCommands conts objs known (c ∷ cs) = IsCommand conts objs known c × AreCommands conts objs (known ++ snap_of c) cs

-- a client is told by another one, and both are there
abbrev pub IsTold : ℕ → ℕ → Command → Type 0
IsTold clients own (Run ops skips snapshot) = Unit {0}
IsTold clients own (Snap name cont) = Unit {0}
IsTold clients own (Aggregate cont) = Unit {0}
IsTold clients own (Tell client) = (client < clients) × (client ≡ own → ⊥)
IsTold clients own (Skip turns) = Unit {0}

-- the lists of the clients from this number on, who are told by others that are there
abbrev pub AreTold : ℕ → ℕ → List (List Command) → Type 0
AreTold clients own [] = Unit {0}
AreTold clients own (list ∷ lists) = All (IsTold clients own) list × AreTold clients (suc own) lists

-- how many numbered commands all clients have
abbrev pub count_numbered : List (List Command) → ℕ
count_numbered [] = 0
count_numbered (list ∷ lists) = count_by is_numbered list + count_numbered lists

-- a script that some text stands for, for so many targets
pub record IsInForm (targets : ℕ) (s : Script) : Type 0 where
  pub read_for : s.targets ≡ targets
  pub declared : AreDeclared s
  pub classes : All (λ o. ClassFits o.id.class targets) s.objs
  pub olds : length s.olds ≤ 256
  pub old_conts : All (λ d. IsContOf s.conts d.cont) s.olds
  pub drops : All (λ name. Any (λ d. d.name ≡ name) s.olds) s.drops
  pub drops_once : IsDistinct same_key s.drops
  pub snap_names : IsDistinct same_key (map (λ (k : SnapName). k.0) (map old_snap s.olds ++ all_snaps s.clients))
  pub stops : length s.stops ≤ 64
  pub stops_fit : All (IsStop targets) s.stops
  pub clients : length s.clients ≤ 64
  pub few : count_numbered s.clients ≤ 100000
  pub commands : All (λ list. AreCommands s.conts s.objs (map old_snap s.olds) list) s.clients
  pub told : AreTold (length s.clients) 0 s.clients
