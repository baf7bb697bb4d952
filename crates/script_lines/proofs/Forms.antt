-- Operations that were read are in form.
use Rattle.std.proofs.Common.{◌≡◌, List, ℕ, Option, Some, None, refl, cond, is_some}
use Rattle.base_types.specs.Scripts.{IsActInForm, IsPathOf, IsWriteInForm}
use Rattle.base_types.specs.declared.operation.Act.TheVariants.{Change}
use Rattle.base_types.specs.declared.operation.Write.TheVariants as write
use Rattle.base_types.specs.declared.path.Path.{Path}
use Rattle.base_types.specs.declared.script.ObjDecl.{ObjDecl}
use Rattle.script_lines.specs.Ops.{punch_of}

no_key : (a : List ℕ) (o : Option (List ℕ)) → o ≡ None → o ≡ Some a → ⊥
no_key a o e f = cc

-- the punch at the level of a path
pub punch_form : (objs : List ObjDecl) (p : Path) → IsPathOf objs p → IsActInForm objs (Change (punch_of p))
punch_form objs p h = go p.dkey p.akey refl refl
  where
    go : (d a : Option (List ℕ)) → p.dkey ≡ d → p.akey ≡ a → IsWriteInForm objs (cond (is_some a) (write.PunchAkey p) (cond (is_some d) (write.PunchDkey p) (write.PunchObject p)))
    go None None ed ea = record { declared = h.declared; no_dkey = ed; no_akey = ea }
    go None (Some a) ed ea = absurd (no_key a p.akey (h.no_akey ed) ea)
    go (Some d) None ed ea = record { declared = h.declared; dkey = (d, ed); no_akey = ea }
    go (Some d) (Some a) ed ea = record { declared = h.declared; dkey = (d, ed); akey = (a, ea) }
