-- Keys of objects are read back exactly in each layout, and are ordered as objects are.
use Rattle.std.proofs.Common.{◌≡◌, ℕ, ◌<◌, ◌^◌, ◌==◌, ◌&&◌, ◌||◌, nat_le, Bool, true, false, [], ◌∷◌, Option, Some, None, drop, refl, sym, ap, ◌∙◌, subst, arith, inl, inr}
use Rattle.std.specs.Prelude.{if◌then◌else◌}
use Rattle.std.proofs.lemmas.Bool.{ne_eqb}
use Rattle.std.proofs.lemmas.Bool.Decides.{nat_tests, eqb_tells}
use Rattle.byteorder.specs.Endian.{big_number}
use Rattle.base_types.specs.Paths.{class_number}
use Rattle.base_types.specs.declared.id.Class.{Class}
use Rattle.base_types.specs.declared.id.Class.TheVariants.{S1, S2, S4, SX, RP2G1, RP2GX, RP3G1, RP3GX}
use Rattle.pmem_pages.specs.declared.node.TreeKey.{TreeKey}
use Rattle.vos_values.specs.declared.keys.ObjectKey.{ObjectKey}
use Rattle.vos_values.specs.declared.keys.Layout.{Layout}
use Rattle.vos_values.specs.declared.keys.Layout.TheVariants.{One, Two}
use Rattle.vos_values.specs.Fields.{AllFit, AreAlike, Fields, HasOrder, IsByteKey, IsExact, fields_at, key_of, numbers_of, packed, padded}
use Rattle.vos_values.specs.Keys.{IsObjectKey, class_of, has_sizes, is_said_size, is_size, object_fields, object_in, object_key, object_of_class, size_fields, sized_object}
use Rattle.vos_values.proofs.Orders.{packed_cmp}
use Rattle.vos_values.proofs.Reading.{fields_again, first_holds, fits_in, key_back, number_no, packed_back, then_holds}
use Rattle.vos_values.proofs.KeyLaws.{same_true, keys_cmp}

class_again : (c : Class) → class_of (class_number c) ≡ Some c
class_again S1 = refl
class_again S2 = refl
class_again S4 = refl
class_again SX = refl
class_again RP2G1 = refl
class_again RP2GX = refl
class_again RP3G1 = refl
class_again RP3GX = refl

class_low : (c : Class) → class_number c < 256 ^ 1
class_low S1 = omega arith
class_low S2 = omega arith
class_low S4 = omega arith
class_low SX = omega arith
class_low RP2G1 = omega arith
class_low RP2GX = omega arith
class_low RP3G1 = omega arith
class_low RP3GX = omega arith

inside : {A : Type 0} (x y : A) → Some x ≡ Some y → x ≡ y
inside x y h = cc

class_back : (n : ℕ) (c : Class) → class_of n ≡ Some c → class_number c ≡ n
class_back n c h = by (n == 1) (n == 2) (n == 3) (n == 4) (n == 5) (n == 6) (n == 7) (n == 8) refl refl refl refl refl refl refl refl h
  where
    by : (q1 q2 q3 q4 q5 q6 q7 q8 : Bool) → (n == 1) ≡ q1 → (n == 2) ≡ q2 → (n == 3) ≡ q3 → (n == 4) ≡ q4 → (n == 5) ≡ q5 → (n == 6) ≡ q6 → (n == 7) ≡ q7 → (n == 8) ≡ q8
        → (if q1 then Some S1 else if q2 then Some S2 else if q3 then Some S4 else if q4 then Some SX else if q5 then Some RP2G1 else if q6 then Some RP2GX else if q7 then Some RP3G1 else if q8 then Some RP3GX else None) ≡ Some c → class_number c ≡ n
    by true q2 q3 q4 q5 q6 q7 q8 e1 e2 e3 e4 e5 e6 e7 e8 h = subst (λ z. class_number z ≡ n) (inside S1 c h) (sym (same_true n 1 e1))
    by false true q3 q4 q5 q6 q7 q8 e1 e2 e3 e4 e5 e6 e7 e8 h = subst (λ z. class_number z ≡ n) (inside S2 c h) (sym (same_true n 2 e2))
    by false false true q4 q5 q6 q7 q8 e1 e2 e3 e4 e5 e6 e7 e8 h = subst (λ z. class_number z ≡ n) (inside S4 c h) (sym (same_true n 3 e3))
    by false false false true q5 q6 q7 q8 e1 e2 e3 e4 e5 e6 e7 e8 h = subst (λ z. class_number z ≡ n) (inside SX c h) (sym (same_true n 4 e4))
    by false false false false true q6 q7 q8 e1 e2 e3 e4 e5 e6 e7 e8 h = subst (λ z. class_number z ≡ n) (inside RP2G1 c h) (sym (same_true n 5 e5))
    by false false false false false true q7 q8 e1 e2 e3 e4 e5 e6 e7 e8 h = subst (λ z. class_number z ≡ n) (inside RP2GX c h) (sym (same_true n 6 e6))
    by false false false false false false true q8 e1 e2 e3 e4 e5 e6 e7 e8 h = subst (λ z. class_number z ≡ n) (inside RP3G1 c h) (sym (same_true n 7 e7))
    by false false false false false false false true e1 e2 e3 e4 e5 e6 e7 e8 h = subst (λ z. class_number z ≡ n) (inside RP3GX c h) (sym (same_true n 8 e8))
    by false false false false false false false false e1 e2 e3 e4 e5 e6 e7 e8 h = absurd (let k : ⊥ = cc in k)

some_bits : (unit : ℕ) (l : Layout) → is_size l unit ≡ true → unit < 256 ^ 1
some_bits unit l h =
    let front = first_holds (nat_le 1 unit && nat_le unit 64) (has_sizes l || unit == 1) h in
    let low = then_holds (nat_le 1 unit) (nat_le unit 64) front in
    grind (arith, nat_tests)

-- the widths of an object's fields, with its size and without
object_fit : (l : Layout) (o : ObjectKey) → IsObjectKey l o → AllFit (object_fields o)
object_fit l o h = (omega arith, h.cont, (omega arith, class_low o.obj.class, (omega arith, h.number, by (o.obj.unit == 1))))
  where
    by : (t : Bool) → AllFit (if t then [] else (1, o.obj.unit) ∷ [])
    by true = tt
    by false = (omega arith, some_bits o.obj.unit l h.size, tt)

objects_alike : (a b : ObjectKey) → AreAlike (object_fields a) (object_fields b)
objects_alike a b = (refl, (refl, (refl, by (a.obj.unit == 1) (b.obj.unit == 1))))
  where
    by : (s t : Bool) → AreAlike (if s then [] else (1, a.obj.unit) ∷ []) (if t then [] else (1, b.obj.unit) ∷ [])
    by true t = tt
    by false true = tt
    by false false = (refl, tt)

pub objects_order : (l : Layout) → HasOrder (IsObjectKey l) object_key (λ o. numbers_of (object_fields o))
unfolding object_key
objects_order l a b ha hb = keys_cmp (packed (object_fields a)) (packed (object_fields b)) ∙ packed_cmp (object_fields a) (object_fields b) (object_fit l a ha) (object_fit l b hb) (objects_alike a b)

-- ---- back and forth

-- fields without a size, and with one
abbrev plain_fields : ObjectKey → Fields
plain_fields o = (16, o.cont.0) ∷ (1, class_number o.obj.class) ∷ (8, o.obj.number) ∷ []

abbrev sized_fields : ObjectKey → Fields
sized_fields o = (16, o.cont.0) ∷ (1, class_number o.obj.class) ∷ (8, o.obj.number) ∷ (1, o.obj.unit) ∷ []

fields_plain : (o : ObjectKey) → o.obj.unit ≡ 1 → object_fields o ≡ plain_fields o
fields_plain o e = ap (λ u. (16, o.cont.0) ∷ (1, class_number o.obj.class) ∷ (8, o.obj.number) ∷ size_fields u) e

fields_sized : (o : ObjectKey) → (o.obj.unit == 1) ≡ false → object_fields o ≡ sized_fields o
fields_sized o e = ap (λ (t : Bool). (16, o.cont.0) ∷ (1, class_number o.obj.class) ∷ (8, o.obj.number) ∷ (if t then [] else (1, o.obj.unit) ∷ [])) e

made_object : (cont number unit class : ℕ) (o : ObjectKey) → cont ≡ o.cont.0 → number ≡ o.obj.number → unit ≡ o.obj.unit → class ≡ class_number o.obj.class → object_of_class cont number unit (class_of class) ≡ Some o
made_object cont number unit class o a b u c =
    ap (object_of_class cont number unit) (ap class_of c ∙ class_again o.obj.class)
    ∙ ap (λ z. Some z) (λ i. record { cont = record { 0 = a i }; obj = record { class = o.obj.class; number = b i; unit = u i } })

plain_again : (l : Layout) (o : ObjectKey) → IsObjectKey l o → o.obj.unit ≡ 1 → object_in l (key_of (packed (plain_fields o))) ≡ Some o
unfolding object_in key_of
plain_again l o h e =
    let p = fields_again 64 (plain_fields o) (omega arith, h.cont, (omega arith, class_low o.obj.class, (omega arith, h.number, tt))) in
    let bs = padded 64 (packed (plain_fields o)) in
    let a : big_number 16 bs ≡ o.cont.0 = ap (number_no 0) p in
    let c : big_number 1 (drop 16 bs) ≡ class_number o.obj.class = ap (number_no 1) p in
    let b : big_number 8 (drop 17 bs) ≡ o.obj.number = ap (number_no 2) p in
    made_object _ _ 1 _ o a b (sym e) c

-- a size other than 1 is said, where the layout has such sizes
size_said : (s : Bool) (unit : ℕ) → (nat_le 1 unit && nat_le unit 64 && (s || unit == 1)) ≡ true → (unit == 1) ≡ false → (s ≡ true) × (is_said_size unit ≡ true)
size_said true unit h e = (refl, grind (arith, nat_tests))
size_said false unit h e = absurd (let k = then_holds (nat_le 1 unit && nat_le unit 64) (unit == 1) h in let n : ⊥ = cc in n)

sized_again : (l : Layout) (o : ObjectKey) → IsObjectKey l o → (o.obj.unit == 1) ≡ false → object_in l (key_of (packed (sized_fields o))) ≡ Some o
unfolding object_in key_of
sized_again l o h e =
    let said = size_said (has_sizes l) o.obj.unit h.size e in
    let p = fields_again 64 (sized_fields o) (omega arith, h.cont, (omega arith, class_low o.obj.class, (omega arith, h.number, (omega arith, some_bits o.obj.unit l h.size, tt)))) in
    let bs = padded 64 (packed (sized_fields o)) in
    let a : big_number 16 bs ≡ o.cont.0 = ap (number_no 0) p in
    let c : big_number 1 (drop 16 bs) ≡ class_number o.obj.class = ap (number_no 1) p in
    let b : big_number 8 (drop 17 bs) ≡ o.obj.number = ap (number_no 2) p in
    let u : big_number 1 (drop 25 bs) ≡ o.obj.unit = ap (number_no 3) p in
    let test : ((has_sizes l && true) && is_said_size (big_number 1 (drop 25 bs))) ≡ true = rw (said.0) (ap is_said_size u ∙ said.1) in
    let found = made_object (big_number 16 bs) (big_number 8 (drop 17 bs)) (big_number 1 (drop 25 bs)) (big_number 1 (drop 16 bs)) o a b u c in
    ap (λ (t : Bool). if t then object_of_class (big_number 16 bs) (big_number 8 (drop 17 bs)) (big_number 1 (drop 25 bs)) (class_of (big_number 1 (drop 16 bs))) else None) test ∙ found

object_again : (l : Layout) (o : ObjectKey) → IsObjectKey l o → object_in l (object_key o) ≡ Some o
unfolding object_key
object_again l o h =
    elim (eqb_tells o.obj.unit 1) [
      | inl a ↦ ap (λ z. object_in l (key_of (packed z))) (fields_plain o a.1) ∙ plain_again l o h a.1
      | inr a ↦ let e = ne_eqb o.obj.unit 1 a.1 in ap (λ z. object_in l (key_of (packed z))) (fields_sized o e) ∙ sized_again l o h e
    ]

-- what an object was made of
record Made (cont number unit class : ℕ) (o : ObjectKey) : Type 0 where
  cont_is : cont ≡ o.cont.0
  number_is : number ≡ o.obj.number
  unit_is : unit ≡ o.obj.unit
  class_is : class ≡ class_number o.obj.class

made_back : (cont number unit class : ℕ) (o : ObjectKey) → object_of_class cont number unit (class_of class) ≡ Some o → Made cont number unit class o
made_back cont number unit class o h = by (class_of class) refl h
  where
    by : (x : Option Class) → class_of class ≡ x → object_of_class cont number unit x ≡ Some o → Made cont number unit class o
    by None e h = absurd (cc)
    by (Some c) e h =
        let is = inside (record { cont = record { 0 = cont }; obj = record { class = c; number = number; unit = unit } }) o h in
        record {
          cont_is = ap (λ (z : ObjectKey). z.cont.0) is;
          number_is = ap (λ (z : ObjectKey). z.obj.number) is;
          unit_is = ap (λ (z : ObjectKey). z.obj.unit) is;
          class_is = sym (class_back class c e) ∙ ap (λ (z : ObjectKey). class_number z.obj.class) is;
        }

plain_size : (l : Layout) → is_size l 1 ≡ true
plain_size One = refl
plain_size Two = refl

said_size : (l : Layout) (unit : ℕ) → has_sizes l ≡ true → is_said_size unit ≡ true → is_size l unit ≡ true
said_size One unit e h = absurd (cc)
said_size Two unit e h = grind (arith, nat_tests)

said_other : (unit : ℕ) → is_said_size unit ≡ true → (unit == 1) ≡ false
said_other unit h = grind (arith, nat_tests)

plain_back : (l : Layout) (k : TreeKey) (o : ObjectKey) → IsByteKey k → k.len ≡ 25 → sized_object k 1 ≡ Some o → IsObjectKey l o × (object_key o ≡ k)
unfolding object_key
plain_back l k o h len e =
    let m = made_back _ _ 1 _ o e in
    let text = packed_back (16 ∷ 1 ∷ 8 ∷ []) 0 k.bytes h.are_bytes (omega (arith, h.key.room)) in
    let same : plain_fields o ≡ fields_at 0 (16 ∷ 1 ∷ 8 ∷ []) k.bytes = λ i. (16, sym m.cont_is i) ∷ (1, sym m.class_is i) ∷ (8, sym m.number_is i) ∷ [] in (
      record { cont = subst (λ z. z < 2 ^ 128) m.cont_is (fits_in 16 0 k.bytes h.are_bytes); number = subst (λ z. z < 2 ^ 64) m.number_is (fits_in 8 17 k.bytes h.are_bytes); size = subst (λ z. is_size l z ≡ true) m.unit_is (plain_size l) },
      key_back k _ 25 h.key len (ap packed (fields_plain o (sym m.unit_is) ∙ same) ∙ text),
    )

sized_back : (l : Layout) (k : TreeKey) (o : ObjectKey) → IsByteKey k → k.len ≡ 26 → has_sizes l ≡ true → is_said_size (big_number 1 (drop 25 k.bytes)) ≡ true → sized_object k (big_number 1 (drop 25 k.bytes)) ≡ Some o → IsObjectKey l o × (object_key o ≡ k)
unfolding object_key
sized_back l k o h len has said e =
    let m = made_back _ _ (big_number 1 (drop 25 k.bytes)) _ o e in
    let text = packed_back (16 ∷ 1 ∷ 8 ∷ 1 ∷ []) 0 k.bytes h.are_bytes (omega (arith, h.key.room)) in
    let same : sized_fields o ≡ fields_at 0 (16 ∷ 1 ∷ 8 ∷ 1 ∷ []) k.bytes = λ i. (16, sym m.cont_is i) ∷ (1, sym m.class_is i) ∷ (8, sym m.number_is i) ∷ (1, sym m.unit_is i) ∷ [] in
    let here : is_said_size o.obj.unit ≡ true = subst (λ z. is_said_size z ≡ true) m.unit_is said in (
      record { cont = subst (λ z. z < 2 ^ 128) m.cont_is (fits_in 16 0 k.bytes h.are_bytes); number = subst (λ z. z < 2 ^ 64) m.number_is (fits_in 8 17 k.bytes h.are_bytes); size = said_size l o.obj.unit has here },
      key_back k _ 26 h.key len (ap packed (fields_sized o (said_other o.obj.unit here) ∙ same) ∙ text),
    )

object_back : (l : Layout) (k : TreeKey) (o : ObjectKey) → IsByteKey k → object_in l k ≡ Some o → IsObjectKey l o × (object_key o ≡ k)
unfolding object_in
object_back l k o h e = by (k.len == 25) refl e
  where
    otherwise : (t : Bool) → ((has_sizes l && (k.len == 26)) && is_said_size (big_number 1 (drop 25 k.bytes))) ≡ t → (if t then sized_object k (big_number 1 (drop 25 k.bytes)) else None) ≡ Some o → IsObjectKey l o × (object_key o ≡ k)
    otherwise true p q =
        let front = first_holds (has_sizes l && (k.len == 26)) (is_said_size (big_number 1 (drop 25 k.bytes))) p in
        sized_back l k o h (same_true k.len 26 (then_holds (has_sizes l) (k.len == 26) front)) (first_holds (has_sizes l) (k.len == 26) front) (then_holds (has_sizes l && (k.len == 26)) (is_said_size (big_number 1 (drop 25 k.bytes))) p) q
    otherwise false p q = absurd (let n : ⊥ = cc in n)

    by : (t : Bool) → (k.len == 25) ≡ t → (if t then sized_object k 1 else (if (has_sizes l && (k.len == 26)) && is_said_size (big_number 1 (drop 25 k.bytes)) then sized_object k (big_number 1 (drop 25 k.bytes)) else None)) ≡ Some o → IsObjectKey l o × (object_key o ≡ k)
    by true p q = plain_back l k o h (same_true k.len 25 p) q
    by false p q = otherwise ((has_sizes l && (k.len == 26)) && is_said_size (big_number 1 (drop 25 k.bytes))) refl q

pub objects_exact : (l : Layout) → IsExact IsByteKey (IsObjectKey l) object_key (object_in l)
objects_exact l = record { again = object_again l; back = object_back l }
