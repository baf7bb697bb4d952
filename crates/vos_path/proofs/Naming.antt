-- Keys of one order are the keys of one name, or of one object.
use Rattle.std.proofs.Common.{◌≡◌, ℕ, ◌≤◌, Option, Some, None, length, ◌==◌, Bool, true, false, List, [], ◌∷◌, drop, refl, sym, ap, ◌∙◌, subst, arith}
use Rattle.std.specs.Prelude.{IfSome, slice_index, if◌then◌else◌}
use Rattle.std.specs.declared.cmp.Ordering.TheVariants.{Equal}
use Rattle.std.proofs.lemmas.Bool.Decides.{nat_tests}
use Rattle.std.proofs.lemmas.Map.Lookups.{exact_bytes}
use Rattle.base_types.specs.PathLaws.{same_object-Decides}
use Rattle.base_types.specs.Paths.{class_number, same_object}
use Rattle.base_types.specs.declared.id.ObjId.{ObjId}
use Rattle.pmem_pages.specs.Node.{key_cmp}
use Rattle.vos_values.specs.declared.keys.Layout.TheVariants.{Two}
use Rattle.vos_values.specs.declared.keys.ObjectKey.{ObjectKey}
use Rattle.vos_values.specs.Fields.{key_of, numbers_of}
use Rattle.vos_values.specs.Keys.{IsName, IsObjectKey, name_key, object_fields, object_key, size_fields}
use Rattle.vos_values.proofs.KeyLaws.{name_is_key, names_order}
use Rattle.vos_values.proofs.ObjectLaws.{objects_order}

pub name_exact : (a b : List ℕ) → IsName a → IsName b → key_cmp (name_key a) (name_key b) ≡ Equal → a ≡ b
name_exact a b ha hb h = exact_bytes a b (sym (names_order a b ha hb) ∙ h)

eq_true : (a b : ℕ) → (a == b) ≡ true → a ≡ b
eq_true a b h = grind (arith, nat_tests)

sizes_exact : (u v : ℕ) → numbers_of (size_fields u) ≡ numbers_of (size_fields v) → u ≡ v
sizes_exact u v h = by (u == 1) (v == 1) refl refl h
  where
    by : (s t : Bool) → (u == 1) ≡ s → (v == 1) ≡ t → numbers_of (if s then [] else (1, u) ∷ []) ≡ numbers_of (if t then [] else (1, v) ∷ []) → u ≡ v
    by true true a b h = eq_true u 1 a ∙ sym (eq_true v 1 b)
    by true false a b h = absurd (let n : ⊥ = cc in n)
    by false true a b h = absurd (let n : ⊥ = cc in n)
    by false false a b h = ap (λ xs. slice_index xs 0) h

pub object_exact : (a b : ObjectKey) → IsObjectKey Two a → IsObjectKey Two b → key_cmp (object_key a) (object_key b) ≡ Equal → a ≡ b
object_exact a b ha hb h =
    let e = exact_bytes (numbers_of (object_fields a)) (numbers_of (object_fields b)) (sym (objects_order Two a b ha hb) ∙ h) in
    let cont : a.cont.0 ≡ b.cont.0 = ap (λ xs. slice_index xs 0) e in
    let class : class_number a.obj.class ≡ class_number b.obj.class = ap (λ xs. slice_index xs 1) e in
    let number : a.obj.number ≡ b.obj.number = ap (λ xs. slice_index xs 2) e in
    let unit : a.obj.unit ≡ b.obj.unit = sizes_exact a.obj.unit b.obj.unit (ap (drop 3) e) in
    let obj : a.obj ≡ b.obj = (same_object-Decides a.obj b.obj).0 (same_parts a.obj b.obj class number unit) in
    λ i. record { cont = record { 0 = cont i }; obj = obj i }
  where
    same_parts : (x y : ObjId) → class_number x.class ≡ class_number y.class → x.number ≡ y.number → x.unit ≡ y.unit → same_object x y ≡ true
    same_parts x y c n u = grind (arith, nat_tests)

pub name_short : (bytes : List ℕ) → IsName bytes → length bytes ≤ 64
unfolding name_key key_of
name_short bytes h = (name_is_key bytes h).fits

pub named : (x : Option (List ℕ)) (name : List ℕ) → x ≡ Some name → IfSome x IsName → IsName name
named None name e h = absurd (let n : ⊥ = cc in n)
named (Some a) name e h = let same : a ≡ name = cc in subst IsName same h
