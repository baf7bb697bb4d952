-- The operations of a script in form ask what groups can answer.
use Rattle.std.specs.Prelude.{ℕ, zero, suc, ◌≡◌, Bool, true, false, ◌++◌, List, [], ◌∷◌, map, slice_get, All, Option, Some, None, refl, if◌then◌else◌}
use Rattle.std.proofs.Common.{sym, ◌∙◌, ap, subst}
use Rattle.std.proofs.lemmas.List.Elements.{All-nil}
use Rattle.base_types.specs.declared.id.AttemptId.{AttemptId}
use Rattle.base_types.specs.declared.id.ObjId.{ObjId}
use Rattle.base_types.specs.declared.operation.Act.{Act}
use Rattle.base_types.specs.declared.operation.Act.TheVariants as act
use Rattle.base_types.specs.declared.operation.Op.{Op}
use Rattle.base_types.specs.declared.operation.Read.{Read}
use Rattle.base_types.specs.declared.operation.Read.TheVariants as read
use Rattle.base_types.specs.declared.operation.Write.{Write}
use Rattle.base_types.specs.declared.operation.Write.TheVariants as write
use Rattle.base_types.specs.declared.path.Path.{Path}
use Rattle.base_types.specs.declared.script.Command.{Command}
use Rattle.base_types.specs.declared.script.Command.TheVariants.{Run, Snap, Aggregate, Tell, Skip}
use Rattle.base_types.specs.declared.script.ContDecl.{ContDecl}
use Rattle.base_types.specs.declared.script.ObjDecl.{ObjDecl}
use Rattle.base_types.specs.declared.script.Script.{Script}
use Rattle.base_types.specs.Operations.{act_path, read_path, write_path}
use Rattle.base_types.specs.Placement.{ClassFits}
use Rattle.base_types.specs.Scripts.{AreCommands, IsActInForm, IsCommand, IsInForm, IsOfObject, IsOpInForm, IsReadInForm, IsWriteInForm, SnapName, is_numbered, old_snap, snap_of}
use Rattle.model_laws.specs.Lists.{all-at}
use Rattle.daos_model.specs.Accesses.{op_path}
use Rattle.daos_model.specs.Transactions.{attempt_ops, command_of, numbered, ops_of, ops_or_none, read_at, read_of, read_of_op}
use Rattle.world_contents.specs.gots.Right.{IsAskable, IsJoinable}

-- ---- paths

pub read-declared : (objs : List ObjDecl) (q : Read) → IsReadInForm objs q → IsOfObject objs (read_path q)
read-declared objs (read.Single p) f = f.declared
read-declared objs (read.Extent p low len) f = f.0.declared
read-declared objs (read.Dkeys p) f = f.declared
read-declared objs (read.Akeys p) f = f.declared
read-declared objs (read.Exists p) f = f.declared

pub write-declared : (objs : List ObjDecl) (w : Write) → IsWriteInForm objs w → IsOfObject objs (write_path w)
write-declared objs (write.Single p bytes) f = f.0.declared
write-declared objs (write.Extent p low bytes) f = f.0.declared
write-declared objs (write.PunchObject p) f = f.declared
write-declared objs (write.PunchDkey p) f = f.declared
write-declared objs (write.PunchAkey p) f = f.declared

act-declared : (objs : List ObjDecl) (a : Act) → IsActInForm objs a → IsOfObject objs (act_path a)
act-declared objs (act.Fetch q) f = read-declared objs q f
act-declared objs (act.Change w) f = write-declared objs w f

read-joinable : (objs : List ObjDecl) (q : Read) → IsReadInForm objs q → IsJoinable q
read-joinable objs (read.Single p) f = f.dkey
read-joinable objs (read.Extent p low len) f = f.0.dkey
read-joinable objs (read.Dkeys p) f = tt
read-joinable objs (read.Akeys p) f = f.dkey
read-joinable objs (read.Exists p) f = tt

-- there are targets enough for the object of such a path
pub fit-object : (targets : ℕ) (objs : List ObjDecl) (p : Path) → All (λ d. ClassFits d.id.class targets) objs → IsOfObject objs p → (obj : ObjId) × (p.obj ≡ Some obj) × ClassFits obj.class targets
fit-object targets objs p fits i = (i.1.id, sym i.4.0, subst (λ (d : ObjDecl). ClassFits d.id.class targets) i.3 (fits i.0 i.1 i.2))

askable : (targets : ℕ) (objs : List ObjDecl) (q : Read) → All (λ d. ClassFits d.id.class targets) objs → IsOfObject objs (read_path q) → IsJoinable q → IsAskable targets q
askable targets objs q fits declared joinable = let o = fit-object targets objs (read_path q) fits declared in record { obj = o.0; of_object = o.1; fits = o.2; joinable = joinable }

-- ---- operations

act-askable : (targets : ℕ) (objs : List ObjDecl) (a : Act) (q : Read) → All (λ d. ClassFits d.id.class targets) objs → IsActInForm objs a → read_of a ≡ Some q → IsAskable targets q
act-askable targets objs (act.Fetch z) q fits f is = let same : z ≡ q = cc in subst (IsAskable targets) same (askable targets objs z fits (read-declared objs z f) (read-joinable objs z f))
act-askable targets objs (act.Change w) q fits f is = let no : ⊥ = cc in absurd no

-- the read that an operation is
pub read-askable : (targets : ℕ) (objs : List ObjDecl) (ops : List Op) (n : ℕ) (q : Read) → All (λ d. ClassFits d.id.class targets) objs → All (IsOpInForm objs) ops → read_at ops n ≡ Some q → IsAskable targets q
read-askable targets objs ops n q fits forms is = by (slice_get ops n) refl
  where
    by : (o : Option Op) → slice_get ops n ≡ o → IsAskable targets q
    by None at = let no : None ≡ Some q = ap read_of_op (sym at) ∙ is in let never : ⊥ = cc in absurd never
    by (Some op) at = act-askable targets objs op.act q fits (all-at (IsOpInForm objs) ops n op forms at).act (ap read_of_op (sym at) ∙ is)

-- whether a cell stands under its path
pub condition-askable : (targets : ℕ) (objs : List ObjDecl) (ops : List Op) (n : ℕ) (op : Op) → All (λ d. ClassFits d.id.class targets) objs → All (IsOpInForm objs) ops → slice_get ops n ≡ Some op
    → IsAskable targets (read.Exists (op_path op))
condition-askable targets objs ops n op fits forms at = askable targets objs (read.Exists (op_path op)) fits (act-declared objs op.act (all-at (IsOpInForm objs) ops n op forms at).act) tt

-- ---- the operations of attempts

command-form : (conts : List ContDecl) (objs : List ObjDecl) (known : List SnapName) (d : Command) → IsCommand conts objs known d → All (IsOpInForm objs) (ops_of d)
command-form conts objs known (Run ops turns snapshot) f = f.0.in_form
command-form conts objs known (Snap name cont) f = All-nil (IsOpInForm objs)
command-form conts objs known (Aggregate cont) f = All-nil (IsOpInForm objs)
command-form conts objs known (Tell client) f = All-nil (IsOpInForm objs)
command-form conts objs known (Skip turns) f = All-nil (IsOpInForm objs)

commands-form : (conts : List ContDecl) (objs : List ObjDecl) (known : List SnapName) (list : List Command) (n : ℕ) (d : Command) → AreCommands conts objs known list → slice_get (numbered list) n ≡ Some d
    → All (IsOpInForm objs) (ops_of d)
commands-form conts objs known [] n d f at = let no : ⊥ = cc in absurd no
commands-form conts objs known (c ∷ cs) n d f at = by (is_numbered c) n at (λ m. commands-form conts objs (known ++ snap_of c) cs m d f.1)
  where
    by : (b : Bool) (m : ℕ) → slice_get (if b then c ∷ numbered cs else numbered cs) m ≡ Some d → ((i : ℕ) → slice_get (numbered cs) i ≡ Some d → All (IsOpInForm objs) (ops_of d)) → All (IsOpInForm objs) (ops_of d)
    by true zero h rest = let same : c ≡ d = cc in subst (λ e. All (IsOpInForm objs) (ops_of e)) same (command-form conts objs known c f.0)
    by true (suc m) h rest = rest m h
    by false m h rest = rest m h

-- all of an attempt are in form
pub ops-form : (targets : ℕ) (s : Script) (x : AttemptId) → IsInForm targets s → All (IsOpInForm s.objs) (attempt_ops s x)
unfolding command_of
ops-form targets s x f = by (slice_get s.clients x.client) refl
  where
    of_list : (list : List Command) → AreCommands s.conts s.objs (map old_snap s.olds) list → (o : Option Command) → slice_get (numbered list) x.command ≡ o → All (IsOpInForm s.objs) (ops_or_none o)
    of_list list commands None at = All-nil (IsOpInForm s.objs)
    of_list list commands (Some d) at = commands-form s.conts s.objs (map old_snap s.olds) list x.command d commands at

    by : (o : Option (List Command)) → slice_get s.clients x.client ≡ o → All (IsOpInForm s.objs) (attempt_ops s x)
    by None at = rw at (All-nil (IsOpInForm s.objs))
    by (Some list) at = rw at (of_list list (all-at (λ l. AreCommands s.conts s.objs (map old_snap s.olds) l) s.clients x.client list f.commands at) (slice_get (numbered list) x.command) refl)
