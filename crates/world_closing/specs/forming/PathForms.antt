-- Where the operations of a script in form have their accesses, it names containers and objects.
use Rattle.std.specs.Prelude.{ℕ, ◌≡◌, ◌+◌, List, [], ◌∷◌, All, Option, Some, None, refl}
use Rattle.std.proofs.Common.{sym, ◌∙◌, subst}
use Rattle.std.proofs.lemmas.List.Elements.{All-append, All-cons, All-head, All-nil, All-tail}
use Rattle.base_types.specs.declared.id.AttemptId.{AttemptId}
use Rattle.base_types.specs.declared.id.ObjId.{ObjId}
use Rattle.base_types.specs.declared.operation.Act.{Act}
use Rattle.base_types.specs.declared.operation.Act.TheVariants.{Fetch, Change}
use Rattle.base_types.specs.declared.operation.MinorWrite.{MinorWrite}
use Rattle.base_types.specs.declared.operation.Op.{Op}
use Rattle.base_types.specs.declared.operation.Read.{Read}
use Rattle.base_types.specs.declared.operation.Read.TheVariants as read
use Rattle.base_types.specs.declared.operation.Write.{Write}
use Rattle.base_types.specs.declared.operation.Write.TheVariants as write
use Rattle.base_types.specs.declared.path.Path.{Path}
use Rattle.base_types.specs.declared.script.ObjDecl.{ObjDecl}
use Rattle.base_types.specs.declared.script.Script.{Script}
use Rattle.base_types.specs.Operations.{act_path, read_path, write_path}
use Rattle.base_types.specs.Scripts as scripts
use Rattle.base_types.specs.Scripts.{AreDeclared, IsActInForm, IsAkeyOf, IsDkeyOf, IsInForm, IsObjectOf, IsOpInForm, IsReadInForm, IsWriteInForm}
use Rattle.daos_model.specs.Accesses.{minor_write, minor_writes, op_path}
use Rattle.daos_model.specs.Transactions.{attempt_ops}
use Rattle.report_writer.specs.Forms.{HasNames, IsBelowOf, IsContOf, IsObjOf, IsPathOf}
use Rattle.world_answers.specs.world_contents.gots.FormLaws.{ops-form}
use Rattle.script_traits.specs.Keyed.{HasKeys, IsKeyOrNone, OpHasKeys, ScriptHasKeys}
use Rattle.world_answers.specs.KeyLaws.{attempt-keys}

-- ---- what is so of all is so of one that is shown

-- ---- shapes

akey-path : (objs : List ObjDecl) (p : Path) → IsAkeyOf objs p → scripts.IsPathOf objs p
akey-path objs p k = record { declared = k.declared; no_akey = λ none. let no : Some k.dkey.0 ≡ None = sym k.dkey.1 ∙ none in let never : ⊥ = cc in absurd never }

dkey-path : (objs : List ObjDecl) (p : Path) → IsDkeyOf objs p → scripts.IsPathOf objs p
dkey-path objs p k = record { declared = k.declared; no_akey = λ none. k.no_akey }

object-path : (objs : List ObjDecl) (p : Path) → IsObjectOf objs p → scripts.IsPathOf objs p
object-path objs p k = record { declared = k.declared; no_akey = λ none. k.no_akey }

read-shape : (objs : List ObjDecl) (r : Read) → IsReadInForm objs r → scripts.IsPathOf objs (read_path r)
read-shape objs (read.Single p) f = akey-path objs p f
read-shape objs (read.Extent p low len) f = akey-path objs p f.0
read-shape objs (read.Dkeys p) f = object-path objs p f
read-shape objs (read.Akeys p) f = dkey-path objs p f
read-shape objs (read.Exists p) f = f

write-shape : (objs : List ObjDecl) (w : Write) → IsWriteInForm objs w → scripts.IsPathOf objs (write_path w)
write-shape objs (write.Single p bytes) f = akey-path objs p f.0
write-shape objs (write.Extent p low bytes) f = akey-path objs p f.0
write-shape objs (write.PunchObject p) f = object-path objs p f
write-shape objs (write.PunchDkey p) f = dkey-path objs p f
write-shape objs (write.PunchAkey p) f = akey-path objs p f

act-shape : (objs : List ObjDecl) (a : Act) → IsActInForm objs a → scripts.IsPathOf objs (act_path a)
act-shape objs (Fetch r) f = read-shape objs r f
act-shape objs (Change w) f = write-shape objs w f

-- ---- names

has-names : (s : Script) → AreDeclared s → ScriptHasKeys s → HasNames s
has-names s d k = record { cont_keys = k.conts; cont_names = d.cont_names; obj_keys = k.objs; obj_names = d.obj_names }

module _ (s : Script) (d : AreDeclared s) (k : ScriptHasKeys s) (p : Path) (h : HasKeys p) (shape : scripts.IsPathOf s.objs p) where
  of-object : (obj : ObjId) → p.obj ≡ Some obj → IsObjOf s p.cont obj
  of-object obj at =
      let i = shape.declared in
      let is : Some i.1.id ≡ Some obj = i.4.0 ∙ at in
      let same : i.1.id ≡ obj = cc in
      (i.0, i.1, i.2, i.3, (i.4.1, same))

  of-container : IsContOf s p.cont
  of-container =
      let i = shape.declared in
      let its : scripts.IsContOf s.conts i.1.cont = subst (λ (o : ObjDecl). scripts.IsContOf s.conts o.cont) i.3 (d.obj_conts i.0 i.1 i.2) in
      record { names = has-names s d k; declared = subst (λ c. scripts.IsContOf s.conts c) i.4.1 its }

  below : (o : Option ObjId) (dkey akey : Option (List ℕ)) → p.obj ≡ o → p.dkey ≡ dkey → p.akey ≡ akey → IsBelowOf s p.cont o dkey akey
  below None dkey akey e f g = let no : Some shape.declared.1.id ≡ None = shape.declared.4.0 ∙ e in let never : ⊥ = cc in absurd never
  below (Some obj) None None e f g = of-object obj e
  below (Some obj) None (Some akey) e f g = let no : None ≡ Some akey = sym (shape.no_akey f) ∙ g in let never : ⊥ = cc in absurd never
  below (Some obj) (Some dkey) None e f g = (of-object obj e, subst IsKeyOrNone f h.dkey)
  below (Some obj) (Some dkey) (Some akey) e f g = (of-object obj e, subst IsKeyOrNone f h.dkey, subst IsKeyOrNone g h.akey)

  pub path-form : IsPathOf s p
  path-form = record { cont = of-container; below = below p.obj p.dkey p.akey refl refl refl }

-- ---- operations

ops-paths : (s : Script) (ops : List Op) → AreDeclared s → ScriptHasKeys s → All (IsOpInForm s.objs) ops → All OpHasKeys ops → All (λ op. IsPathOf s (op_path op)) ops
ops-paths s [] d k forms keys = All-nil (λ op. IsPathOf s (op_path op))
ops-paths s (op ∷ ops) d k forms keys =
    All-cons (λ o. IsPathOf s (op_path o)) op ops (path-form s d k (op_path op) (All-head OpHasKeys op ops keys) (act-shape s.objs op.act (All-head (IsOpInForm s.objs) op ops forms).act))
    (ops-paths s ops d k (All-tail (IsOpInForm s.objs) op ops forms) (All-tail OpHasKeys op ops keys))

-- the script names where an attempt's operations have their accesses
pub attempt-paths : (s : Script) (x : AttemptId) → IsInForm s.targets s → ScriptHasKeys s → All (λ op. IsPathOf s (op_path op)) (attempt_ops s x)
attempt-paths s x form k = ops-paths s (attempt_ops s x) form.declared k (ops-form s.targets s x form) (attempt-keys s x k)

minor-paths : (s : Script) (n : ℕ) (a : Act) → IsPathOf s (act_path a) → All (λ w. IsPathOf s (write_path w.write)) (minor_write n a)
minor-paths s n (Fetch r) k = All-nil (λ (w : MinorWrite). IsPathOf s (write_path w.write))
minor-paths s n (Change w) k = All-cons (λ (m : MinorWrite). IsPathOf s (write_path m.write)) (record { minor = n; write = w }) [] k (All-nil (λ (m : MinorWrite). IsPathOf s (write_path m.write)))

minors-paths : (s : Script) (n : ℕ) (ops : List Op) → All (λ op. IsPathOf s (op_path op)) ops → All (λ w. IsPathOf s (write_path w.write)) (minor_writes n ops)
unfolding minor_writes
minors-paths s n [] k = All-nil (λ (w : MinorWrite). IsPathOf s (write_path w.write))
minors-paths s n (op ∷ ops) k =
    All-append (λ (w : MinorWrite). IsPathOf s (write_path w.write)) (minor_write n op.act) (minor_writes (n + 1) ops) (minor-paths s n op.act (All-head (λ o. IsPathOf s (op_path o)) op ops k))
    (minors-paths s (n + 1) ops (All-tail (λ o. IsPathOf s (op_path o)) op ops k))

-- and where it writes
pub attempt-writes : (s : Script) (x : AttemptId) → IsInForm s.targets s → ScriptHasKeys s → All (λ w. IsPathOf s (write_path w.write)) (minor_writes 0 (attempt_ops s x))
attempt-writes s x form k = minors-paths s 0 (attempt_ops s x) (attempt-paths s x form k)
