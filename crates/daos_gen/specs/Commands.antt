-- The commands of a load: what each does is picked by a number that is drawn for it.
use Rattle.std.specs.Prelude.{ℕ, ◌+◌, ◌/◌, ◌%◌, ◌^◌, Bool, ◌||◌, ◌==◌, nat_lt, List, [], ◌∷◌, map, filter, Some, None, if◌then◌else◌}
use Rattle.std.specs.Fmt.{decimal}
use Rattle.std.specs.List.{range_with_len}
use Rattle.base_types.specs.declared.id.Class.{Class}
use Rattle.base_types.specs.declared.id.Class.TheVariants.{SX, S1, RP2G1, RP2GX}
use Rattle.base_types.specs.declared.id.ContId.{ContId}
use Rattle.base_types.specs.declared.id.ObjId.{ObjId}
use Rattle.base_types.specs.declared.operation.Act.{Act}
use Rattle.base_types.specs.declared.operation.Act.TheVariants.{Fetch, Change}
use Rattle.base_types.specs.declared.operation.Cond.TheVariants.{Free}
use Rattle.base_types.specs.declared.operation.Op.{Op}
use Rattle.base_types.specs.declared.operation.Read.TheVariants as read
use Rattle.base_types.specs.declared.operation.Write.TheVariants as write
use Rattle.base_types.specs.declared.path.Path.{Path}
use Rattle.base_types.specs.declared.script.Command.{Command}
use Rattle.base_types.specs.declared.script.Command.TheVariants.{Run}
use Rattle.base_random.specs.Draws.{drawn_after}

-- ---- what a drawn number picks

-- the container, 00000000-0000-0000-0000-00000000000f
abbrev pub load_cont : ContId
load_cont = record { 0 = 15 }

-- the classes of the objects 0 to 3; two replicas want two targets
abbrev pub class_of : ℕ → ℕ → Class
class_of targets number = if number == 0 then SX else if number == 2 || targets == 1 then S1 else if number == 1 then RP2G1 else RP2GX

-- their arrays have records of one byte
abbrev pub obj_of : ℕ → ℕ → ObjId
obj_of targets number = record { class = class_of targets number; number = number; unit = 1 }

-- a letter, and a number behind it
abbrev pub numbered : ℕ → ℕ → List ℕ
numbered letter number = letter ∷ decimal number

-- the object
abbrev pub obj_path : ℕ → ℕ → Path
obj_path targets x = record { cont = load_cont; obj = Some (obj_of targets (x / 2 ^ 8 % 4)); dkey = None; akey = None }

-- an akey of the dkey of the object: dkeys are d0 to d15
abbrev pub akey_path : ℕ → ℕ → ℕ → Path
akey_path targets x akey = record {
  cont = load_cont;
  obj = Some (obj_of targets (x / 2 ^ 8 % 4));
  dkey = Some (numbered 100 (x / 2 ^ 16 % 16));
  akey = Some (numbered 97 akey);
}

-- the akey: they are a0 to a3
abbrev pub picked_path : ℕ → ℕ → Path
picked_path targets x = akey_path targets x (x / 2 ^ 24 % 4)

-- ---- commands

-- the command i, by the number drawn for it modulo 8: 0 to 2 put the value v and i, 3 writes the extent e and i, 4 gets, 5
-- reads 64 indexes, 7 lists dkeys
unfoldable pub act_of : ℕ → ℕ → ℕ → Act
act_of targets i x =
    if x % 8 == 7 then Fetch (read.Dkeys (obj_path targets x))
    else if nat_lt (x % 8) 3 then Change (write.Single (picked_path targets x) (numbered 118 i))
    else if x % 8 == 3 then Change (write.Extent (picked_path targets x) (x / 2 ^ 32 % 64) (numbered 101 i))
    else if x % 8 == 4 then Fetch (read.Single (picked_path targets x))
    else Fetch (read.Extent (picked_path targets x) 0 64)

abbrev pub op_of : Act → Op
op_of act = record { act = act; cond = Free }

abbrev pub lone : Act → Command
lone act = Run (op_of act ∷ []) (0 ∷ 0 ∷ []) None

-- 6 is a transaction: it gets, and puts the value t and i at the akey a9
abbrev pub transfer : ℕ → ℕ → ℕ → Command
transfer targets i x =
    Run (op_of (Fetch (read.Single (picked_path targets x))) ∷ op_of (Change (write.Single (akey_path targets x 9) (numbered 116 i))) ∷ [])
    (0 ∷ 0 ∷ 0 ∷ []) None

unfoldable pub command_drawn : ℕ → ℕ → ℕ → Command
command_drawn targets i x = if x % 8 == 6 then transfer targets i x else lone (act_of targets i x)

-- for each command a number is drawn, the first after 1
abbrev pub command_of : ℕ → ℕ → Command
command_of targets i = command_drawn targets i (drawn_after 1 (i + 1))

-- the command i goes to the client i modulo 4
abbrev pub goes_to : ℕ → ℕ → Bool
goes_to client i = i % 4 == client

-- what a client gets of so many commands
abbrev pub commands_of : ℕ → ℕ → ℕ → List Command
commands_of targets count client = map (command_of targets) (filter (goes_to client) (range_with_len 0 count))
