-- What a line declares has a new name, and an object has a record size.
use Rattle.std.specs.Prelude.{◌≡◌, ℕ, List, None}
use Rattle.base_types.specs.declared.script.ObjDecl.{ObjDecl}
use Rattle.base_types.specs.Scripts.{IsUnit}
use Rattle.base_names.specs.Names.{named}
use Rattle.script_words.specs.declared.decls.Decls.{Decls}
use Rattle.script_words.specs.Lookups.{cont_named, obj_named, old_named}
use Rattle.script_lines.specs.declared.line.Line.{Line}
use Rattle.script_lines.specs.declared.line.Line.TheVariants as line

-- no snapshot that a client makes has this name
pub record IsNewSnap (decls : Decls) (name : List ℕ) : Type 0 where
  pub made : named decls.made name ≡ None
  pub own : named decls.own name ≡ None

-- no object has this name, and this one has a record size
pub record IsNewObj (decls : Decls) (d : ObjDecl) : Type 0 where
  pub name : obj_named decls.objs d.name ≡ None
  pub unit : IsUnit d.id.unit

abbrev pub IsNew : Decls → Line → Type 0
IsNew decls (line.Cont d) = cont_named decls.conts d.name ≡ None
IsNew decls (line.Obj d) = IsNewObj decls d
IsNew decls (line.Old d) = old_named decls.olds d.name ≡ None
IsNew decls (line.Drop name) = Unit {0}
IsNew decls (line.Stop d) = Unit {0}
IsNew decls line.Client = Unit {0}
IsNew decls (line.Do op) = Unit {0}
IsNew decls (line.DoAt at op) = Unit {0}
IsNew decls line.Tx = Unit {0}
IsNew decls (line.TxAt at) = Unit {0}
IsNew decls line.End = Unit {0}
IsNew decls (line.Snap name cont) = IsNewSnap decls name
IsNew decls (line.Aggregate cont) = Unit {0}
IsNew decls (line.Tell client) = Unit {0}
IsNew decls (line.Skip turns) = Unit {0}
