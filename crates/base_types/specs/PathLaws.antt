-- What holds of all paths.
use Rattle.std.specs.Prelude.{ℕ, Bool, true, false, ◌||◌, ◌==◌, ◌≡◌, ◌⊎◌, Decides, List, Option, Some, None, is_none, nat_le, if◌then◌else◌, refl}
use Rattle.std.specs.Option.{option_eq}
use Rattle.std.proofs.Common.{◌∙◌, ap, arith, inl, inr}
use Rattle.std.proofs.lemmas.Bool.Decides.{Decides-and, Decides-or, Decides-eqb, Decides-like, nat_tests}
use Rattle.std.proofs.lemmas.Slice.Eq.{slice_eq-Decides}
use Rattle.base_types.specs.declared.id.Class.{Class}
use Rattle.base_types.specs.declared.id.Class.TheVariants.{S1, S2, S4, SX, RP2G1, RP2GX, RP3G1, RP3GX}
use Rattle.base_types.specs.declared.id.ObjId.{ObjId}
use Rattle.base_types.specs.declared.path.Path.{Path}
use Rattle.base_types.specs.Keys.{same_key}
use Rattle.base_types.specs.declared.path.Level.{Level}
use Rattle.base_types.specs.declared.path.Level.TheVariants.{Cont, Obj, Dkey, Akey}
use Rattle.base_types.specs.Paths.{class_number, cut_at, depth, leads_to, level_of, near, overlaps, same_object, same_path, shorter_level, slot}

-- classes of one number are one
class_number-injective : (c d : Class) → class_number c ≡ class_number d → c ≡ d
class_number-injective S1 S1 e = refl
class_number-injective S2 S2 e = refl
class_number-injective S4 S4 e = refl
class_number-injective SX SX e = refl
class_number-injective RP2G1 RP2G1 e = refl
class_number-injective RP2GX RP2GX e = refl
class_number-injective RP3G1 RP3G1 e = refl
class_number-injective RP3GX RP3GX e = refl
class_number-injective c d e = absurd (omega arith)

-- keys are the same exactly where they are equal
pub same_key-Decides : (a b : List ℕ) → Decides (same_key a b) (a ≡ b)
same_key-Decides a b = slice_eq-Decides Decides-eqb a b (same_key a b) refl

-- and so are objects
pub same_object-Decides : (a b : ObjId) → Decides (same_object a b) (a ≡ b)
same_object-Decides a b =
    Decides-like (same_object a b)
    (λ h. let class = class_number-injective a.class b.class h.0.0 in let number = h.0.1 in let unit = h.1 in
    λ i. record { class = class i; number = number i; unit = unit i })
    (λ e. ((ap (λ o. class_number o.class) e, ap (λ o. o.number) e), ap (λ o. o.unit) e))
    (Decides-and _ _ (Decides-and _ _ (Decides-eqb (class_number a.class) (class_number b.class)) (Decides-eqb a.number b.number)) (Decides-eqb a.unit b.unit))

pub option_eq-Decides : {T : Type 0} (same : T → T → Bool) → ((a b : T) → Decides (same a b) (a ≡ b)) → (x y : Option T) → Decides (option_eq same x y) (x ≡ y)
option_eq-Decides same each None None = (λ h. refl, λ e. refl)
option_eq-Decides same each None (Some b) = (λ h. cc, λ e. cc)
option_eq-Decides same each (Some a) None = (λ h. cc, λ e. cc)
option_eq-Decides same each (Some a) (Some b) = (λ h. ap (λ x. Some x) ((each a b).0 h), λ e. (each a b).1 cc)

-- and so are paths
pub same_path-Decides : (p q : Path) → Decides (same_path p q) (p ≡ q)
unfolding same_path
same_path-Decides p q =
    Decides-like _
    (λ h. let cont = h.0.0.0 in let obj = h.0.0.1 in let dkey = h.0.1 in let akey = h.1 in
    λ i. record { cont = record { 0 = cont i }; obj = obj i; dkey = dkey i; akey = akey i })
    (λ e. (((ap (λ r. r.cont.0) e, ap (λ r. r.obj) e), ap (λ r. r.dkey) e), ap (λ r. r.akey) e))
    (Decides-and _ _
    (Decides-and _ _
    (Decides-and _ _ (Decides-eqb p.cont.0 q.cont.0) (option_eq-Decides same_object same_object-Decides p.obj q.obj))
    (option_eq-Decides same_key same_key-Decides p.dkey q.dkey))
    (option_eq-Decides same_key same_key-Decides p.akey q.akey))

or_comm : (x y : Bool) → (x || y) ≡ (y || x)
or_comm true true = refl
or_comm true false = refl
or_comm false true = refl
or_comm false false = refl

-- it makes no difference which of two paths is named first
pub overlaps-comm : (p q : Path) → overlaps p q ≡ overlaps q p
unfolding overlaps
overlaps-comm p q = or_comm (leads_to p q) (leads_to q p)

-- paths that overlap are near
pub near-from_overlaps : (p q : Path) → overlaps p q ≡ true → near p q ≡ true
unfolding near
near-from_overlaps p q h = ap (λ b. b || (slot (cut_at (shorter_level p q) p) == slot (cut_at (shorter_level p q) q))) h

depth-injective : (l m : Level) → depth l ≡ depth m → l ≡ m
depth-injective Cont Cont e = refl
depth-injective Obj Obj e = refl
depth-injective Dkey Dkey e = refl
depth-injective Akey Akey e = refl
depth-injective l m e = absurd (omega arith)

-- the less deep of two levels, whichever is named first
less_deep-comm : (l m : Level) → (if nat_le (depth l) (depth m) then l else m) ≡ (if nat_le (depth m) (depth l) then m else l)
less_deep-comm l m = by (nat_le (depth l) (depth m)) (nat_le (depth m) (depth l)) refl refl
  where
    by : (x y : Bool) → nat_le (depth l) (depth m) ≡ x → nat_le (depth m) (depth l) ≡ y → (if x then l else m) ≡ (if y then m else l)
    by true true a b = let e : depth l ≡ depth m = grind (arith, nat_tests) in depth-injective l m e
    by true false a b = refl
    by false true a b = refl
    by false false a b = let no : ⊥ = grind (arith, nat_tests) in absurd no

pub near-comm : (p q : Path) → near p q ≡ near q p
unfolding near
near-comm p q =
    let level : shorter_level p q ≡ shorter_level q p = less_deep-comm (level_of p) (level_of q) in
    ap (λ b. b || (slot (cut_at (shorter_level p q) p) == slot (cut_at (shorter_level p q) q))) (overlaps-comm p q)
    ∙ ap (λ l. overlaps q p || (slot (cut_at l p) == slot (cut_at l q))) level
    ∙ ap (λ b. overlaps q p || b) (eq-comm (slot (cut_at (shorter_level q p) p)) (slot (cut_at (shorter_level q p) q)))
  where
    eq-comm : (m n : ℕ) → (m == n) ≡ (n == m)
    eq-comm m n = grind (arith, nat_tests)

-- what it takes that a path goes on from another, level by level
abbrev Reaches : {T : Type 0} → Option T → Option T → Type 0
Reaches x y = (x ≡ None) ⊎ (x ≡ y)

is_none-Decides : {T : Type 0} (x : Option T) → Decides (is_none x) (x ≡ None)
is_none-Decides None = (λ h. refl, λ e. refl)
is_none-Decides (Some a) = (λ h. cc, λ e. cc)

Reaches-Decides : {T : Type 0} (same : T → T → Bool) → ((a b : T) → Decides (same a b) (a ≡ b)) → (x y : Option T) → Decides (is_none x || option_eq same x y) (Reaches x y)
Reaches-Decides same each x y = Decides-or _ _ (is_none-Decides x) (option_eq-Decides same each x y)

Reaches-trans : {T : Type 0} (x y z : Option T) → Reaches x y → Reaches y z → Reaches x z
Reaches-trans x y z (inl e) f = inl e
Reaches-trans x y z (inr e) (inl f) = inl (e ∙ f)
Reaches-trans x y z (inr e) (inr f) = inr (e ∙ f)

leads_to-Decides : (p q : Path) → Decides (leads_to p q) ((((p.cont.0 ≡ q.cont.0) × Reaches p.obj q.obj) × Reaches p.dkey q.dkey) × Reaches p.akey q.akey)
unfolding leads_to
leads_to-Decides p q =
    Decides-and _ _
    (Decides-and _ _
    (Decides-and _ _ (Decides-eqb p.cont.0 q.cont.0) (Reaches-Decides same_object same_object-Decides p.obj q.obj))
    (Reaches-Decides same_key same_key-Decides p.dkey q.dkey))
    (Reaches-Decides same_key same_key-Decides p.akey q.akey)

-- a path is a prefix of itself
pub leads_to-refl : (p : Path) → leads_to p p ≡ true
leads_to-refl p = (leads_to-Decides p p).1 (((refl, inr refl), inr refl), inr refl)

-- a prefix of a prefix is a prefix
pub leads_to-trans : (p q r : Path) → leads_to p q ≡ true → leads_to q r ≡ true → leads_to p r ≡ true
leads_to-trans p q r h k =
    let a = (leads_to-Decides p q).0 h in
    let b = (leads_to-Decides q r).0 k in
    (leads_to-Decides p r).1
    (((a.0.0.0 ∙ b.0.0.0, Reaches-trans p.obj q.obj r.obj a.0.0.1 b.0.0.1), Reaches-trans p.dkey q.dkey r.dkey a.0.1 b.0.1), Reaches-trans p.akey q.akey r.akey a.1 b.1)
