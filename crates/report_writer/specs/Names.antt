-- Containers, objects and paths by the names that a script gives them.
use Rattle.std.specs.Prelude.{ℕ, ◌&&◌, ◌==◌, List, [], ◌∷◌, ◌++◌, Option, Some, None, if◌then◌else◌}
use Rattle.base_types.specs.declared.id.ContId.{ContId}
use Rattle.base_types.specs.declared.id.ObjId.{ObjId}
use Rattle.base_types.specs.declared.path.Path.{Path}
use Rattle.base_types.specs.declared.script.ContDecl.{ContDecl}
use Rattle.base_types.specs.declared.script.ObjDecl.{ObjDecl}
use Rattle.base_types.specs.declared.script.Script.{Script}
use Rattle.base_types.specs.Paths.{same_object}

-- the name of a container: that of its first declaration, and nothing where it has none
abbrev pub cont_word : List ContDecl → ContId → List ℕ
cont_word [] cont = []
cont_word (decl ∷ decls) cont = if decl.id.0 == cont.0 then decl.name else cont_word decls cont

-- the name of an object of a container, likewise
abbrev pub obj_word : List ObjDecl → ContId → ObjId → List ℕ
obj_word [] cont obj = []
obj_word (decl ∷ decls) cont obj = if (decl.cont.0 == cont.0) && same_object decl.id obj then decl.name else obj_word decls cont obj

-- the name of an object behind a slash, if there is one
abbrev pub obj_part : List ObjDecl → ContId → Option ObjId → List ℕ
obj_part decls cont None = []
obj_part decls cont (Some obj) = 47 ∷ obj_word decls cont obj

-- a key behind a slash, if there is one
abbrev pub key_part : Option (List ℕ) → List ℕ
key_part None = []
key_part (Some key) = 47 ∷ key

-- a path as far as it goes: the names of its container and object, its dkey and its akey
unfoldable pub path_word : Script → Path → List ℕ
path_word s path = cont_word s.conts path.cont ++ obj_part s.objs path.cont path.obj ++ key_part path.dkey ++ key_part path.akey
