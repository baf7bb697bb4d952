-- Where a path in form ends.
use Rattle.std.proofs.Common.{◌≡◌, ◌&&◌, ◌||◌, Bool, true, false, Option, Some, None, refl, sym, ap, ◌∙◌}
use Rattle.std.specs.Prelude.{is_none, is_some}
use Rattle.base_types.specs.declared.path.Path.{Path}
use Rattle.daos_model.specs.BoolLaws.{and_left, and_right}
use Rattle.daos_model.specs.Forms.{ends_at_dkey, ends_at_object, is_path_in_form}

none_of : {A : Type 0} (x : Option A) → is_none x ≡ true → x ≡ None
none_of None h = refl
none_of (Some a) h = absurd (let n : ⊥ = cc in n)

pub dkey_ends : (p : Path) → ends_at_dkey p ≡ true → p.akey ≡ None
dkey_ends p h = none_of p.akey (and_right (is_some p.obj && is_some p.dkey) (is_none p.akey) h)

pub object_ends : (p : Path) → ends_at_object p ≡ true → (p.dkey ≡ None) × (p.akey ≡ None)
object_ends p h = (
  none_of p.dkey (and_right (is_some p.obj) (is_none p.dkey) (and_left (is_some p.obj && is_none p.dkey) (is_none p.akey) h)),
  none_of p.akey (and_right (is_some p.obj && is_none p.dkey) (is_none p.akey) h),
)

none_with : (s t : Bool) → (s || t) ≡ true → t ≡ false → s ≡ true
none_with true t k f = refl
none_with false t k f = absurd (let z : true ≡ false = sym k ∙ f in let n : ⊥ = cc in n)

pub form_ends : (p : Path) → is_path_in_form p ≡ true → p.dkey ≡ None → p.akey ≡ None
form_ends p h e = none_of p.akey (none_with (is_none p.akey) (is_some p.dkey) (and_right (is_none p.dkey || is_some p.obj) (is_none p.akey || is_some p.dkey) h) (ap is_some e))

-- a container's
pub cont_ends : (p : Path) → is_path_in_form p ≡ true → p.obj ≡ None → (p.dkey ≡ None) × (p.akey ≡ None)
cont_ends p h e =
    let dkey = none_of p.dkey (none_with (is_none p.dkey) (is_some p.obj) (and_left (is_none p.dkey || is_some p.obj) (is_none p.akey || is_some p.dkey) h) (ap is_some e)) in
    (dkey, form_ends p h dkey)
