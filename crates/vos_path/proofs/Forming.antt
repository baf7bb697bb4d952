-- What the form of a write says of it.
use Rattle.std.proofs.Common.{◌≡◌, ◌+◌, ◌⊎◌, inl, inr, ℕ, ◌≤◌, ◌&&◌, Bool, true, false, List, Option, Some, None, length, refl, sym, ap, ◌∙◌, arith}
use Rattle.std.specs.Prelude.{is_some, is_none, if◌then◌else◌}
use Rattle.std.proofs.lemmas.Bool.Decides.{nat_tests}
use Rattle.base_types.specs.declared.operation.Write.{Write}
use Rattle.base_types.specs.declared.operation.Write.TheVariants.{Single, Extent, PunchObject, PunchDkey, PunchAkey}
use Rattle.base_types.specs.declared.path.Path.{Path}
use Rattle.base_types.specs.Operations.{write_path}
use Rattle.daos_model.specs.Forms.{ends_at_akey, ends_at_dkey, ends_at_object, is_length, is_write_in_form}
use Rattle.base_types.specs.declared.id.ObjId.{ObjId}
use Rattle.vos_values.specs.declared.keys.ObjectKey.{ObjectKey}
use Rattle.vos_path.specs.Objects.{akey_path, dkey_path, object_path}
use Rattle.vos_path.specs.Writes.{IsAtDkey, IsAtObject, akey_pairs, below_dkey_pairs, below_object_pairs, dkey_pairs, goes_below_dkey, goes_below_object, log_pairs}

pub both_true : (s t : Bool) → (s && t) ≡ true → (s ≡ true) × (t ≡ true)
both_true true t h = (refl, h)
both_true false t h = absurd (let n : ⊥ = cc in n)

length_of : (n : ℕ) → is_length n ≡ true → (1 ≤ n) × (n ≤ 1024)
length_of n h = (grind (arith, nat_tests), grind (arith, nat_tests))

single_form : (p : Path) (bytes : List ℕ) → is_write_in_form (Single p bytes) ≡ true → (1 ≤ length bytes) × (length bytes ≤ 1024)
unfolding is_write_in_form
single_form p bytes h = length_of (length bytes) (both_true (ends_at_akey p) (is_length (length bytes)) h).1

extent_form : (p : Path) (low : ℕ) (bytes : List ℕ) → is_write_in_form (Extent p low bytes) ≡ true → (1 ≤ length bytes) × (length bytes ≤ 1024)
unfolding is_write_in_form
extent_form p low bytes h =
    let rest = both_true (ends_at_akey p && is_length (length bytes)) _ h in
    length_of (length bytes) (both_true (ends_at_akey p) (is_length (length bytes)) rest.0).1

pub single_length : (w : Write) (p : Path) (bytes : List ℕ) → w ≡ Single p bytes → is_write_in_form w ≡ true → (1 ≤ length bytes) × (length bytes ≤ 1024)
single_length w p bytes e h = single_form p bytes (sym (ap is_write_in_form e) ∙ h)

pub extent_length : (w : Write) (p : Path) (low : ℕ) (bytes : List ℕ) → w ≡ Extent p low bytes → is_write_in_form w ≡ true → (1 ≤ length bytes) × (length bytes ≤ 1024)
extent_length w p low bytes e h = extent_form p low bytes (sym (ap is_write_in_form e) ∙ h)

-- what is a punch and goes below a dkey is a punch of an akey
pub akey_punch : (w : Write) → goes_below_dkey w ≡ true → ((p : Path) × (w ≡ PunchObject p)) ⊎ (((p : Path) × (w ≡ PunchDkey p)) ⊎ ((p : Path) × (w ≡ PunchAkey p))) → w ≡ PunchAkey (write_path w)
akey_punch w h is = elim is [
  | inl a ↦ let e = a.1 in absurd (let n : ⊥ = no_below (sym (ap goes_below_dkey e) ∙ h) in n)
  | inr b ↦ elim b [
    | inl a ↦ let e = a.1 in absurd (let n : ⊥ = no_below (sym (ap goes_below_dkey e) ∙ h) in n)
    | inr a ↦ a.1 ∙ ap (λ z. PunchAkey (write_path z)) (sym a.1)
  ]
]
  where
    no_below : false ≡ true → ⊥
    no_below e = cc

-- ---- paths

some_of : {A : Type 0} (x : Option A) → is_some x ≡ true → (a : A) × (x ≡ Some a)
some_of None h = absurd (let n : ⊥ = cc in n)
some_of (Some a) h = (a, refl)

none_of : {A : Type 0} (x : Option A) → is_none x ≡ true → x ≡ None
none_of None h = refl
none_of (Some a) h = absurd (let n : ⊥ = cc in n)

-- the object of a path, and its dkey and akey
object_at : (p : Path) (o : ObjId) → p.obj ≡ Some o → IsAtObject (record { cont = p.cont; obj = o }) p
object_at p o e = record { cont = refl; obj = e }

akey_end : (p : Path) → ends_at_akey p ≡ true → (is_some p.obj ≡ true) × ((is_some p.dkey ≡ true) × (is_some p.akey ≡ true))
akey_end p h =
    let s = both_true (is_some p.obj && is_some p.dkey) (is_some p.akey) h in
    let t = both_true (is_some p.obj) (is_some p.dkey) s.0 in
    (t.0, (t.1, s.1))

dkey_end : (p : Path) → ends_at_dkey p ≡ true → (is_some p.obj ≡ true) × (is_none p.akey ≡ true)
dkey_end p h =
    let s = both_true (is_some p.obj && is_some p.dkey) (is_none p.akey) h in
    let t = both_true (is_some p.obj) (is_some p.dkey) s.0 in
    (t.0, s.1)

object_end : (p : Path) → ends_at_object p ≡ true → (is_some p.obj ≡ true) × ((is_none p.dkey ≡ true) × (is_none p.akey ≡ true))
object_end p h =
    let s = both_true (is_some p.obj && is_none p.dkey) (is_none p.akey) h in
    let t = both_true (is_some p.obj) (is_none p.dkey) s.0 in
    (t.0, (t.1, s.1))

-- where a write in form ends
below_ends : (w : Write) → is_write_in_form w ≡ true → goes_below_dkey w ≡ true → ends_at_akey (write_path w) ≡ true
unfolding is_write_in_form
below_ends (Single p bytes) h b = (both_true (ends_at_akey p) (is_length (length bytes)) h).0
below_ends (Extent p low bytes) h b = (both_true (ends_at_akey p) (is_length (length bytes)) (both_true (ends_at_akey p && is_length (length bytes)) _ h).0).0
below_ends (PunchObject p) h b = absurd (let n : ⊥ = cc in n)
below_ends (PunchDkey p) h b = absurd (let n : ⊥ = cc in n)
below_ends (PunchAkey p) h b = h

path_is : (p : Path) (o : ObjectKey) (d a : Option (List ℕ)) → IsAtObject o p → p.dkey ≡ d → p.akey ≡ a → p ≡ record { cont = o.cont; obj = Some o.obj; dkey = d; akey = a }
path_is p o d a at dkey akey = λ i. record { cont = at.cont i; obj = at.obj i; dkey = dkey i; akey = akey i }

pub object_some : (w : Write) → is_write_in_form w ≡ true → (o : ObjectKey) × IsAtObject o (write_path w)
unfolding is_write_in_form
object_some w h = let s = some_of (write_path w).obj (has_object w h) in (record { cont = (write_path w).cont; obj = s.0 }, object_at (write_path w) s.0 s.1)
  where
    has_object : (w : Write) → is_write_in_form w ≡ true → is_some (write_path w).obj ≡ true
    has_object (Single p bytes) h = (akey_end p (below_ends (Single p bytes) h refl)).0
    has_object (Extent p low bytes) h = (akey_end p (below_ends (Extent p low bytes) h refl)).0
    has_object (PunchObject p) h = (object_end p h).0
    has_object (PunchDkey p) h = (dkey_end p h).0
    has_object (PunchAkey p) h = (akey_end p (below_ends (PunchAkey p) h refl)).0

pub akey_path_of : (w : Write) (o : ObjectKey) (d : List ℕ) → is_write_in_form w ≡ true → goes_below_dkey w ≡ true → IsAtDkey o d (write_path w) → (a : List ℕ) × (write_path w ≡ akey_path o d a)
akey_path_of w o d h b at =
    let s = some_of (write_path w).akey (akey_end (write_path w) (below_ends w h b)).1.1 in
    (s.0, path_is (write_path w) o (Some d) (Some s.0) at.object at.dkey s.1)

pub akey_path_some : (w : Write) → is_write_in_form w ≡ true → goes_below_dkey w ≡ true → (o : ObjectKey) × ((d : List ℕ) × ((a : List ℕ) × (write_path w ≡ akey_path o d a)))
akey_path_some w h b =
    let o = object_some w h in
    let d = some_of (write_path w).dkey (akey_end (write_path w) (below_ends w h b)).1.0 in
    (o.0, (d.0, akey_path_of w o.0 d.0 h b (record { object = o.1; dkey = d.1 })))

pub dkey_punch : (w : Write) (o : ObjectKey) (d : List ℕ) → is_write_in_form w ≡ true → goes_below_object w ≡ true → goes_below_dkey w ≡ false → IsAtDkey o d (write_path w) → w ≡ PunchDkey (dkey_path o d)
unfolding is_write_in_form
dkey_punch (Single p bytes) o d h b n at = absurd (let z : ⊥ = cc in z)
dkey_punch (Extent p low bytes) o d h b n at = absurd (let z : ⊥ = cc in z)
dkey_punch (PunchObject p) o d h b n at = absurd (let z : ⊥ = cc in z)
dkey_punch (PunchDkey p) o d h b n at = ap (λ z. PunchDkey z) (path_is p o (Some d) None at.object at.dkey (none_of p.akey (dkey_end p h).1))
dkey_punch (PunchAkey p) o d h b n at = absurd (let z : ⊥ = cc in z)

pub object_punch : (w : Write) (o : ObjectKey) → is_write_in_form w ≡ true → goes_below_object w ≡ false → IsAtObject o (write_path w) → w ≡ PunchObject (object_path o)
unfolding is_write_in_form
object_punch (Single p bytes) o h n at = absurd (let z : ⊥ = cc in z)
object_punch (Extent p low bytes) o h n at = absurd (let z : ⊥ = cc in z)
object_punch (PunchObject p) o h n at = let e = object_end p h in ap (λ z. PunchObject z) (path_is p o None None at (none_of p.dkey e.1.0) (none_of p.akey e.1.1))
object_punch (PunchDkey p) o h n at = absurd (let z : ⊥ = cc in z)
object_punch (PunchAkey p) o h n at = absurd (let z : ⊥ = cc in z)

-- ---- costs

pub below_dkey_then : (w : Write) (e : ℕ) → goes_below_dkey w ≡ true → below_dkey_pairs w e ≡ akey_pairs w e + log_pairs w e
below_dkey_then w e h = ap (λ (t : Bool). if t then akey_pairs w e + log_pairs w e else e) h

pub below_dkey_else : (w : Write) (e : ℕ) → goes_below_dkey w ≡ false → e ≤ below_dkey_pairs w e
below_dkey_else w e h = let z : below_dkey_pairs w e ≡ e = ap (λ (t : Bool). if t then akey_pairs w e + log_pairs w e else e) h in omega (arith, z)

pub below_object_then : (w : Write) (e : ℕ) → goes_below_object w ≡ true → below_object_pairs w e ≡ dkey_pairs w e + log_pairs w e
below_object_then w e h = ap (λ (t : Bool). if t then dkey_pairs w e + log_pairs w e else e) h

pub below_object_else : (w : Write) (e : ℕ) → goes_below_object w ≡ false → e ≤ below_object_pairs w e
below_object_else w e h = let z : below_object_pairs w e ≡ e = ap (λ (t : Bool). if t then dkey_pairs w e + log_pairs w e else e) h in omega (arith, z)

-- what goes below an object names a dkey
pub dkey_there : (w : Write) → is_write_in_form w ≡ true → goes_below_object w ≡ true → (d : List ℕ) × ((write_path w).dkey ≡ Some d)
unfolding is_write_in_form
dkey_there (Single p bytes) h b = some_of p.dkey (akey_end p (below_ends (Single p bytes) h refl)).1.0
dkey_there (Extent p low bytes) h b = some_of p.dkey (akey_end p (below_ends (Extent p low bytes) h refl)).1.0
dkey_there (PunchObject p) h b = absurd (let n : ⊥ = cc in n)
dkey_there (PunchDkey p) h b = some_of p.dkey (both_true (is_some p.obj) (is_some p.dkey) (both_true (is_some p.obj && is_some p.dkey) (is_none p.akey) h).0).1
dkey_there (PunchAkey p) h b = some_of p.dkey (akey_end p (below_ends (PunchAkey p) h refl)).1.0
