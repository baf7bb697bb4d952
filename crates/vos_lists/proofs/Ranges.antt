-- Objects stand in a tree by container: where those of one begin, and where they end.
use Rattle.std.proofs.Common.{◌≡◌, ℕ, ◌<◌, ◌≤◌, ◌^◌, ◌==◌, ◌&&◌, nat_le, nat_lt, Bool, true, false, [], ◌∷◌, refl, sym, ap, ◌∙◌, inl, inr, ◌⊎◌, arith}
use Rattle.std.specs.Prelude.{if◌then◌else◌}
use Rattle.std.specs.Ordering.{nat_cmp, ordering_then}
use Rattle.std.specs.declared.cmp.Ordering.{Ordering}
use Rattle.std.specs.declared.cmp.Ordering.TheVariants.{Less, Equal, Greater}
use Rattle.std.proofs.lemmas.Bool.Decides.{nat_tests}
use Rattle.std.proofs.lemmas.List.{append-nil}
use Rattle.byteorder.specs.Endian.{big_bytes}
use Rattle.base_types.specs.Paths.{class_number}
use Rattle.base_types.specs.declared.epoch.Epoch.{Epoch}
use Rattle.base_types.specs.declared.id.Class.{Class}
use Rattle.base_types.specs.declared.id.Class.TheVariants.{S1, S2, S4, SX, RP2G1, RP2GX, RP3G1, RP3GX}
use Rattle.base_types.specs.declared.id.ContId.{ContId}
use Rattle.daos_model.specs.BoolLaws.{and_left}
use Rattle.pmem_pages.specs.Node.{key_cmp}
use Rattle.pmem_pages.specs.declared.node.TreeKey.{TreeKey}
use Rattle.pmem_pages.proofs.Lists.{key_total}
use Rattle.vos_values.specs.declared.keys.Layout.TheVariants.{Two}
use Rattle.vos_values.specs.declared.keys.ObjectKey.{ObjectKey}
use Rattle.vos_values.specs.Fields.{AllFit, key_of, packed}
use Rattle.vos_values.specs.Keys.{IsObjectKey, name_key, object_fields, object_key}
use Rattle.vos_values.proofs.KeyLaws.{keys_cmp}
use Rattle.vos_values.proofs.ObjectLaws.{objects_order}
use Rattle.vos_values.proofs.Orders.{packed_cmp}
use Rattle.vos_path.specs.Objects.{Object}
use Rattle.vos_lists.specs.Stands.{cont_key, object_stands, stands_in}

class_low : (c : Class) → class_number c < 256 ^ 1
class_low S1 = omega arith
class_low S2 = omega arith
class_low S4 = omega arith
class_low SX = omega arith
class_low RP2G1 = omega arith
class_low RP2GX = omega arith
class_low RP3G1 = omega arith
class_low RP3GX = omega arith

unit_low : (unit : ℕ) → (nat_le 1 unit && nat_le unit 64) ≡ true → unit < 256 ^ 1
unit_low unit h = grind (arith, nat_tests)

object_fit : (o : ObjectKey) → IsObjectKey Two o → AllFit (object_fields o)
object_fit o h = (omega arith, h.cont, (omega arith, class_low o.obj.class, (omega arith, h.number, by (o.obj.unit == 1))))
  where
    by : (t : Bool) → AllFit (if t then [] else (1, o.obj.unit) ∷ [])
    by true = tt
    by false = (omega arith, unit_low o.obj.unit (and_left (nat_le 1 o.obj.unit && nat_le o.obj.unit 64) true h.size), tt)

-- a container's own key lies below those of its objects and of later containers', and above the others
cont_order : (c : ContId) (o : ObjectKey) → c.0 < 2 ^ 128 → IsObjectKey Two o → key_cmp (cont_key c) (object_key o) ≡ ordering_then (nat_cmp c.0 o.cont.0) Less
unfolding cont_key name_key object_key
cont_order c o h g =
    ap (λ z. key_cmp (key_of z) (key_of (packed (object_fields o)))) (sym (append-nil (big_bytes 16 c.0)))
    ∙ (keys_cmp (packed ((16, c.0) ∷ [])) (packed (object_fields o)) ∙ packed_cmp ((16, c.0) ∷ []) (object_fields o) (omega arith, h, tt) (object_fit o g) (refl, tt))

first_low : (a x : ℕ) (o : Ordering) → ordering_then (nat_cmp a x) o ≡ Less → a ≤ x
first_low a x Less h = grind (arith, nat_tests)
first_low a x Equal h = grind (arith, nat_tests)
first_low a x Greater h = grind (arith, nat_tests)

low_after : (low x : ℕ) → (ordering_then (nat_cmp low x) Less ≡ Less → ⊥) → x < low
low_after low x h = by (nat_lt x low) refl
  where
    by : (t : Bool) → nat_lt x low ≡ t → x < low
    by true e = grind (arith, nat_tests)
    by false e = absurd (h (grind (arith, nat_tests)))

objects_rise : (a b : ObjectKey) → IsObjectKey Two a → IsObjectKey Two b → key_cmp (object_key a) (object_key b) ≡ Less → a.cont.0 ≤ b.cont.0
objects_rise a b ha hb h = first_low a.cont.0 b.cont.0 _ (sym (objects_order Two a b ha hb) ∙ h)

pub other_cont : (c : ContId) (e : Epoch) (x : Object) → (x.name.cont.0 == c.0) ≡ false → stands_in c e x ≡ false
other_cont c e x h = ap (λ (b : Bool). b && object_stands (record { unit = x.name.obj.unit; below = e }) x.holds) h

-- those that don't lie above a container's own key are of other containers
pub early_fails : (c : ContId) (e : Epoch) → c.0 < 2 ^ 128 → (x : Object) → IsObjectKey Two x.name → (key_cmp (cont_key c) (object_key x.name) ≡ Less → ⊥) → stands_in c e x ≡ false
early_fails c e small x good low =
    let before = low_after c.0 x.name.cont.0 (λ h. low (cont_order c x.name small good ∙ h)) in
    other_cont c e x (grind (arith, nat_tests))

-- what lies above a key from a container's own on
pub over_start : (c : ContId) (key k : TreeKey) → (key ≡ cont_key c) ⊎ (key_cmp (cont_key c) key ≡ Less) → key_cmp key k ≡ Less → key_cmp (cont_key c) k ≡ Less
over_start c key k (inl e) h = ap (λ z. key_cmp z k) (sym e) ∙ h
over_start c key k (inr e) h = key_total.trans (cont_key c) key k e h

-- behind the first object of another container are those of others
pub later_fails : (c : ContId) (e : Epoch) → c.0 < 2 ^ 128 → (t x : Object) → IsObjectKey Two t.name → IsObjectKey Two x.name → key_cmp (cont_key c) (object_key t.name) ≡ Less → (t.name.cont.0 == c.0) ≡ false → key_cmp (object_key t.name) (object_key x.name) ≡ Less → stands_in c e x ≡ false
later_fails c e small t x gt gx over other behind =
    let low : c.0 ≤ t.name.cont.0 = first_low c.0 t.name.cont.0 Less (sym (cont_order c t.name small gt) ∙ over) in
    let rise = objects_rise t.name x.name gt gx behind in
    other_cont c e x (grind (arith, nat_tests))

pub and_no : (s t : Bool) → t ≡ false → (s && t) ≡ false
and_no true t h = h
and_no false t h = refl
