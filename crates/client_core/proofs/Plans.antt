-- What a script in form tells a client to do can be done.
use Rattle.std.proofs.Common.{◌≡◌, ℕ, zero, suc, ◌≤◌, List, [], ◌∷◌, ◌++◌, get_or, slice_get, count_by, None, Some, All, ap, subst, arith, map}
use Rattle.std.proofs.lemmas.List.Elements.{All-nil, All-cons}
use Rattle.base_types.specs.declared.epoch.Epoch.{Epoch}
use Rattle.base_types.specs.declared.operation.Act.{Act}
use Rattle.base_types.specs.declared.operation.Act.TheVariants.{Fetch, Change}
use Rattle.base_types.specs.declared.operation.Read.{Read}
use Rattle.base_types.specs.declared.operation.Read.TheVariants as read
use Rattle.base_types.specs.declared.operation.Write.{Write}
use Rattle.base_types.specs.declared.operation.Write.TheVariants as write
use Rattle.base_types.specs.declared.path.Path.{Path}
use Rattle.base_types.specs.declared.script.Command.{Command}
use Rattle.base_types.specs.declared.script.Command.TheVariants.{Run, Snap, Aggregate, Tell, Skip}
use Rattle.base_types.specs.declared.script.ContDecl.{ContDecl}
use Rattle.base_types.specs.declared.script.ObjDecl.{ObjDecl}
use Rattle.base_types.specs.declared.script.Script.{Script}
use Rattle.base_types.specs.Operations.{act_path, read_path, write_path}
use Rattle.base_types.specs.Placement.{ClassFits}
use Rattle.base_types.specs.Scripts.{AreCommands, IsActInForm, IsCommand, IsInForm, IsOfObject, IsReadInForm, IsWriteInForm, SnapName, count_numbered, is_numbered, old_snap, snap_of}
use Rattle.world_base.specs.declared.client.ClientPlan.{ClientPlan}
use Rattle.world_base.specs.declared.client.KnownSnap.{KnownSnap}
use Rattle.world_base.specs.ClientTurns.{plan_of}
use Rattle.client_core.specs.Clients.{CommandFits, IsInPlace, ObjFits, OpFits, PlanFits}
use Rattle.model_laws.specs.Lists.{all-at}

abbrev AllFit : ℕ → List ObjDecl → Type 0
AllFit targets objs = All (λ o. ClassFits o.id.class targets) objs

obj_form : (targets : ℕ) (objs : List ObjDecl) (p : Path) → AllFit targets objs → IsOfObject objs p → ObjFits targets p.obj
obj_form targets objs p all (k, d, lt, is, same) =
    let fits : ClassFits d.id.class targets = subst (λ (o : ObjDecl). ClassFits o.id.class targets) is (all k d lt) in
    subst (ObjFits targets) same.0 fits

read_form : (targets : ℕ) (objs : List ObjDecl) (r : Read) → AllFit targets objs → IsReadInForm objs r → ObjFits targets (read_path r).obj
read_form targets objs (read.Single p) all h = obj_form targets objs p all h.declared
read_form targets objs (read.Extent p low len) all h = obj_form targets objs p all h.0.declared
read_form targets objs (read.Dkeys p) all h = obj_form targets objs p all h.declared
read_form targets objs (read.Akeys p) all h = obj_form targets objs p all h.declared
read_form targets objs (read.Exists p) all h = obj_form targets objs p all h.declared

write_form : (targets : ℕ) (objs : List ObjDecl) (w : Write) → AllFit targets objs → IsWriteInForm objs w → ObjFits targets (write_path w).obj
write_form targets objs (write.Single p bytes) all h = obj_form targets objs p all h.0.declared
write_form targets objs (write.Extent p low bytes) all h = obj_form targets objs p all h.0.declared
write_form targets objs (write.PunchObject p) all h = obj_form targets objs p all h.declared
write_form targets objs (write.PunchDkey p) all h = obj_form targets objs p all h.declared
write_form targets objs (write.PunchAkey p) all h = obj_form targets objs p all h.declared

act_form : (targets : ℕ) (objs : List ObjDecl) (a : Act) → AllFit targets objs → IsActInForm objs a → ObjFits targets (act_path a).obj
act_form targets objs (Fetch r) all h = read_form targets objs r all h
act_form targets objs (Change w) all h = write_form targets objs w all h

command_form : (targets : ℕ) (conts : List ContDecl) (objs : List ObjDecl) (known : List SnapName) (d : Command) → AllFit targets objs → IsCommand conts objs known d → CommandFits targets d
command_form targets conts objs known (Run ops skips snapshot) all h = record {
  few = h.0.few;
  objs = λ i op lt. act_form targets objs (get_or ops i op).act all (h.0.in_form i op lt).act;
}
command_form targets conts objs known (Snap name cont) all h = record { few = omega arith; objs = All-nil (OpFits targets) }
command_form targets conts objs known (Aggregate cont) all h = record { few = omega arith; objs = All-nil (OpFits targets) }
command_form targets conts objs known (Tell client) all h = record { few = omega arith; objs = All-nil (OpFits targets) }
command_form targets conts objs known (Skip turns) all h = record { few = omega arith; objs = All-nil (OpFits targets) }

commands_form : (targets : ℕ) (conts : List ContDecl) (objs : List ObjDecl) (known : List SnapName) (ds : List Command) → AllFit targets objs → AreCommands conts objs known ds → All (CommandFits targets) ds
commands_form targets conts objs known [] all h = All-nil (CommandFits targets)
commands_form targets conts objs known (d ∷ ds) all h =
    All-cons (CommandFits targets) d ds (command_form targets conts objs known d all h.0) (commands_form targets conts objs (known ++ snap_of d) ds all h.1)

count_one : (lists : List (List Command)) (n : ℕ) (list : List Command) → slice_get lists n ≡ Some list → count_by is_numbered list ≤ count_numbered lists
count_one [] n list is = absurd (cc)
count_one (l ∷ ls) zero list is = let same : l ≡ list = cc in omega (arith, ap (count_by is_numbered) same)
count_one (l ∷ ls) (suc n) list is = omega (arith, count_one ls n list is)

pub plan_fits : (s : Script) (n attempts : ℕ) (commands : List Command) → IsInForm s.targets s → slice_get s.clients n ≡ Some commands → PlanFits (plan_of s n attempts commands)
plan_fits s n attempts commands form is = record {
  commands = commands_form s.targets s.conts s.objs (map old_snap s.olds) commands form.classes
      (all-at (λ list. AreCommands s.conts s.objs (map old_snap s.olds) list) s.clients n commands form.commands is);
  few = omega (arith, form.few, count_one s.clients n commands is);
}

-- before its first turn a client is in its place
pub first_place : (p : ClientPlan) (tracker : Epoch) (known : List KnownSnap) → PlanFits p → IsInPlace p (record { place = 0; command = 0; tracker = tracker; skip = 0; present = None; known = known })
first_place p tracker known fits = record {
  few = omega (arith, fits.few);
  numbered = λ there. absurd (cc);
}
