-- Paths of objects with other numbers aren't the same, and none leads to the other.
use Rattle.std.proofs.Common.{◌≡◌, Bool, true, false, ◌&&◌, ◌||◌, Option, Some, None, refl, ap}
use Rattle.std.specs.Prelude.{◌==◌, is_none}
use Rattle.std.specs.Option.{option_eq}
use Rattle.base_types.specs.declared.id.ObjId.{ObjId}
use Rattle.base_types.specs.declared.path.Path.{Path}
use Rattle.base_types.specs.Keys.{same_key}
use Rattle.base_types.specs.Paths.{class_number, leads_to, same_object, same_path}
use Rattle.daos_model.specs.BoolLaws.{not_true}
use Rattle.vos_scan.specs.Paths.{are_apart, numbers_differ}

fails-first : (a b : Bool) → a ≡ false → (a && b) ≡ false
fails-first a b e = ap (λ x. x && b) e

fails-second : (a b : Bool) → b ≡ false → (a && b) ≡ false
fails-second true b e = e
fails-second false b e = refl

objects-apart : (o u : Option ObjId) → numbers_differ o u ≡ true → option_eq same_object o u ≡ false
objects-apart None u h = let no : ⊥ = cc in absurd no
objects-apart (Some a) None h = let no : ⊥ = cc in absurd no
objects-apart (Some a) (Some b) h =
    fails-first ((class_number a.class == class_number b.class) && (a.number == b.number)) (a.unit == b.unit)
    (fails-second (class_number a.class == class_number b.class) (a.number == b.number) (not_true (a.number == b.number) h))

none-apart : (o u : Option ObjId) → numbers_differ o u ≡ true → (is_none o || option_eq same_object o u) ≡ false
none-apart None u h = let no : ⊥ = cc in absurd no
none-apart (Some a) u h = objects-apart (Some a) u h

pub apart-leads : (p q : Path) → are_apart p q ≡ true → leads_to p q ≡ false
unfolding leads_to
apart-leads p q h =
    fails-first ((p.cont.0 == q.cont.0) && (is_none p.obj || option_eq same_object p.obj q.obj) && (is_none p.dkey || option_eq same_key p.dkey q.dkey)) (is_none p.akey || option_eq same_key p.akey q.akey)
    (fails-first ((p.cont.0 == q.cont.0) && (is_none p.obj || option_eq same_object p.obj q.obj)) (is_none p.dkey || option_eq same_key p.dkey q.dkey)
    (fails-second (p.cont.0 == q.cont.0) (is_none p.obj || option_eq same_object p.obj q.obj) (none-apart p.obj q.obj h)))

pub apart-same : (p q : Path) → are_apart p q ≡ true → same_path p q ≡ false
unfolding same_path
apart-same p q h =
    fails-first ((p.cont.0 == q.cont.0) && option_eq same_object p.obj q.obj && option_eq same_key p.dkey q.dkey) (option_eq same_key p.akey q.akey)
    (fails-first ((p.cont.0 == q.cont.0) && option_eq same_object p.obj q.obj) (option_eq same_key p.dkey q.dkey)
    (fails-second (p.cont.0 == q.cont.0) (option_eq same_object p.obj q.obj) (objects-apart p.obj q.obj h)))
