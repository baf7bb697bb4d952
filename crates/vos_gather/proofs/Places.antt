-- The places of writes, by the names on the way.
use Rattle.std.proofs.Common.{◌≡◌, ◌&&◌, ◌||◌, Bool, true, false, ℕ, List, refl, ap, ◌∙◌}
use Rattle.std.specs.Prelude.{is_none, is_some}
use Rattle.base_types.specs.declared.path.Path.{Path}
use Rattle.daos_model.specs.BoolLaws.{and_left, and_right}
use Rattle.daos_model.specs.Forms.{ends_at_akey}
use Rattle.vos_values.specs.declared.keys.Layout.TheVariants.{Two}
use Rattle.vos_values.specs.declared.keys.ObjectKey.{ObjectKey}
use Rattle.vos_values.specs.Keys.{IsName, is_size}
use Rattle.vos_path.specs.Objects.{object_path}
use Rattle.vos_lists.specs.Paths.{at_akey, at_dkey}
use Rattle.vos_gather.specs.Wanted.{IsPlace}

pub place_object : (o : ObjectKey) → is_size Two o.obj.unit ≡ true → IsPlace (object_path o)
place_object o size = record { form = refl; size = and_left _ _ size; names = record { dkey = tt; akey = tt } }

has_object : (p : Path) → IsPlace p → is_some p.obj ≡ true
has_object p w = and_right _ (is_some p.obj) w.form

pub place_dkey : (p : Path) (d : List ℕ) → IsPlace p → IsName d → IsPlace (at_dkey p d)
place_dkey p d w name = record {
  form = ap (λ (b : Bool). ((b && true) && b)) (has_object p w);
  size = w.size;
  names = record { dkey = name; akey = tt };
}

both : (n o d : Bool) → o ≡ true → d ≡ true → (((n || o) && (false || d)) && o) ≡ true
both true true true x y = refl
both false true true x y = refl
both n false d x y = absurd (let z : ⊥ = cc in z)
both n true false x y = absurd (let z : ⊥ = cc in z)

pub place_akey : (p : Path) (a : List ℕ) → IsPlace p → is_some p.dkey ≡ true → IsName a → IsPlace (at_akey p a)
place_akey p a w dkey name = record {
  form = both (is_none p.dkey) (is_some p.obj) (is_some p.dkey) (has_object p w) dkey;
  size = w.size;
  names = record { dkey = w.names.dkey; akey = name };
}

pub akey_ends : (p : Path) (a : List ℕ) → IsPlace p → is_some p.dkey ≡ true → ends_at_akey (at_akey p a) ≡ true
akey_ends p a w dkey = ap (λ (b : Bool). (b && is_some p.dkey) && true) (has_object p w) ∙ ap (λ (b : Bool). b && true) dkey
