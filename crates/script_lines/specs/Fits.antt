-- What holds of a line that was read: its names are declared or new, its numbers are in their ranges.
use Rattle.std.specs.Prelude.{◌≡◌, ℕ, ◌^◌, ◌<◌, ◌≤◌, false, is_none, List, Option, Some, None}
use Rattle.base_types.specs.Scripts.{IsContOf, IsOpInForm, IsPlainReadIn, IsStop, IsUnit}
use Rattle.base_types.specs.Operations.{act_path}
use Rattle.base_types.specs.Placement.{ClassFits}
use Rattle.base_types.specs.declared.id.ContId.{ContId}
use Rattle.base_types.specs.declared.operation.Op.{Op}
use Rattle.base_types.specs.declared.script.ContDecl.{ContDecl}
use Rattle.base_types.specs.declared.script.ObjDecl.{ObjDecl}
use Rattle.base_types.specs.declared.script.OldDecl.{OldDecl}
use Rattle.script_words.specs.declared.decls.Decls.{Decls}
use Rattle.script_words.specs.Lookups.{cont_named, obj_named, old_named, has_cont, has_obj}
use Rattle.script_words.specs.Snaps.{is_dropped, is_snap, snap_named}
use Rattle.script_lines.specs.declared.line.At.{At}
use Rattle.script_lines.specs.declared.line.Line.{Line}
use Rattle.script_lines.specs.declared.line.Line.TheVariants as line
use Rattle.script_lines.specs.Ops.{PathFits}

pub record ContFits (decls : Decls) (d : ContDecl) : Type 0 where
  pub new_name : cont_named decls.conts d.name ≡ None
  pub new_id : has_cont decls.conts d.id ≡ false

pub record ObjFits (decls : Decls) (d : ObjDecl) : Type 0 where
  pub new_name : obj_named decls.objs d.name ≡ None
  pub new_object : has_obj decls.objs d.cont d.id ≡ false
  pub declared : IsContOf decls.conts d.cont
  pub class : ClassFits d.id.class decls.targets
  pub unit : IsUnit d.id.unit

pub record OldFits (decls : Decls) (d : OldDecl) : Type 0 where
  pub new_name : is_snap decls d.name ≡ false
  pub declared : IsContOf decls.conts d.cont

-- the snapshot is one of an earlier run, and isn't dropped yet
pub record DropFits (decls : Decls) (name : List ℕ) : Type 0 where
  pub known : is_none (old_named decls.olds name) ≡ false
  pub new : is_dropped decls name ≡ false

pub record OpFits (decls : Decls) (within : Option ContId) (op : Op) : Type 0 where
  pub form : IsOpInForm decls.objs op
  pub inside : PathFits within (act_path op.act)

-- the snapshot is one that the present client may read
abbrev pub AtFits : Decls → At → Type 0
AtFits decls at = snap_named decls at.name ≡ Some at.cont

pub record DoAtFits (decls : Decls) (at : At) (op : Op) : Type 0 where
  pub known : AtFits decls at
  pub form : IsOpInForm decls.objs op
  pub plain : IsPlainReadIn at.cont op

pub record SnapFits (decls : Decls) (name : List ℕ) (cont : ContId) : Type 0 where
  pub new_name : is_snap decls name ≡ false
  pub declared : IsContOf decls.conts cont

abbrev pub LineFits : Decls → Option ContId → Line → Type 0
LineFits decls within (line.Cont d) = ContFits decls d
LineFits decls within (line.Obj d) = ObjFits decls d
LineFits decls within (line.Old d) = OldFits decls d
LineFits decls within (line.Drop name) = DropFits decls name
LineFits decls within (line.Stop d) = IsStop decls.targets d
LineFits decls within line.Client = Unit {0}
LineFits decls within (line.Do op) = OpFits decls within op
LineFits decls within (line.DoAt at op) = DoAtFits decls at op
LineFits decls within line.Tx = Unit {0}
LineFits decls within (line.TxAt at) = AtFits decls at
LineFits decls within line.End = Unit {0}
LineFits decls within (line.Snap name cont) = SnapFits decls name cont
LineFits decls within (line.Aggregate cont) = IsContOf decls.conts cont
LineFits decls within (line.Tell client) = client < 2 ^ 16
LineFits decls within (line.Skip turns) = (0 < turns) × (turns ≤ 10000)

-- the same whatever container the line must keep within, or whatever is declared
abbrev pub FitsAnywhere : Decls → Line → Type 0
FitsAnywhere decls l = (within : Option ContId) → LineFits decls within l

abbrev pub FitsAlways : Line → Type 0
FitsAlways l = (decls : Decls) → FitsAnywhere decls l
