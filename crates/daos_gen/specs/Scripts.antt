-- The script of a load.
use Rattle.std.specs.Prelude.{ℕ, List, [], ◌∷◌, codes}
use Rattle.base_types.specs.declared.script.Command.{Command}
use Rattle.base_types.specs.declared.script.ContDecl.{ContDecl}
use Rattle.base_types.specs.declared.script.ObjDecl.{ObjDecl}
use Rattle.base_types.specs.declared.script.Script.{Script}
use Rattle.daos_gen.specs.Commands.{load_cont, obj_of, commands_of}

abbrev pub conts_of_load : List ContDecl
conts_of_load = record { name = codes "load"; id = load_cont } ∷ []

abbrev pub obj_named : ℕ → List ℕ → ℕ → ObjDecl
obj_named targets name number = record { name = name; cont = load_cont; id = obj_of targets number }

abbrev pub objs_of_load : ℕ → List ObjDecl
objs_of_load targets =
    obj_named targets (codes "o0") 0 ∷ obj_named targets (codes "o1") 1 ∷ obj_named targets (codes "o2") 2 ∷ obj_named targets (codes "o3") 3 ∷ []

-- four clients
abbrev pub clients_of : ℕ → ℕ → List (List Command)
clients_of targets count = commands_of targets count 0 ∷ commands_of targets count 1 ∷ commands_of targets count 2 ∷ commands_of targets count 3 ∷ []

-- so many commands for so many targets
unfoldable pub script_of : ℕ → ℕ → Script
script_of targets count = record {
  targets = targets;
  conts = conts_of_load;
  objs = objs_of_load targets;
  olds = [];
  drops = [];
  stops = [];
  clients = clients_of targets count;
}
