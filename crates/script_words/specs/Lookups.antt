-- What names of containers, objects and snapshots stand for.
use Rattle.std.specs.Prelude.{◌≡◌, ℕ, Bool, ◌&&◌, ◌==◌, List, map, All, Any, Option, Some}
use Rattle.std.specs.List.{list_any}
use Rattle.base_types.specs.declared.id.ContId.{ContId}
use Rattle.base_types.specs.declared.id.ObjId.{ObjId}
use Rattle.base_types.specs.declared.script.ContDecl.{ContDecl}
use Rattle.base_types.specs.declared.script.ObjDecl.{ObjDecl}
use Rattle.base_types.specs.declared.script.OldDecl.{OldDecl}
use Rattle.base_types.specs.Paths.{same_object}
use Rattle.base_types.specs.Scripts.{IsUnit}
use Rattle.base_names.specs.Names.{named}

-- the name of a container, and what it stands for
abbrev pub name_of_cont : ContDecl → List ℕ × ContId
name_of_cont d = (d.name, d.id)

-- the name of an object, and what it stands for
abbrev pub name_of_obj : ObjDecl → List ℕ × (ContId × ObjId)
name_of_obj d = (d.name, (d.cont, d.id))

-- an object has a record size
abbrev pub HasUnit : ObjDecl → Type 0
HasUnit d = IsUnit d.id.unit

-- objects are found by their names, and each has a record size
pub record AreNamedObjs (decls : List ObjDecl) (names : List (List ℕ × (ContId × ObjId))) : Type 0 where
  pub named : names ≡ map name_of_obj decls
  pub units : All HasUnit decls

-- the name of a snapshot of an earlier run, and its container
abbrev pub name_of_old : OldDecl → List ℕ × ContId
name_of_old d = (d.name, d.cont)

-- the container of a name
unfoldable pub cont_named : List ContDecl → List ℕ → Option ContId
cont_named conts name = named (map name_of_cont conts) name

-- the object of a name, with its container
unfoldable pub obj_named : List ObjDecl → List ℕ → Option (ContId × ObjId)
obj_named objs name = named (map name_of_obj objs) name

-- the container of a snapshot of an earlier run
unfoldable pub old_named : List OldDecl → List ℕ → Option ContId
old_named olds name = named (map name_of_old olds) name

-- an object that is declared, with its container
abbrev pub IsObj : List ObjDecl → ContId × ObjId → Type 0
IsObj objs o = Any (λ d. (Some d.id ≡ Some o.1) × (d.cont ≡ o.0)) objs

-- whether a container of this identity is declared
unfoldable pub has_cont : List ContDecl → ContId → Bool
has_cont conts id = list_any (λ d. d.id.0 == id.0) conts

-- whether this object of this container is declared
unfoldable pub has_obj : List ObjDecl → ContId → ObjId → Bool
has_obj objs cont id = list_any (λ d. (d.cont.0 == cont.0) && same_object d.id id) objs
