-- Paths that lead to one another, and what is settled below one that is.
use Rattle.std.proofs.Common.{◌≡◌, ℕ, ◌==◌, ◌&&◌, ◌||◌, nat_lt, not, Bool, true, false, List, [], ◌∷◌, Option, Some, None, refl, sym, ap, ◌∙◌, inl, inr, ◌⊎◌, arith}
use Rattle.std.specs.Prelude.{All, if◌then◌else◌, is_none}
use Rattle.std.specs.List.{find}
use Rattle.std.specs.Option.{option_eq}
use Rattle.std.proofs.lemmas.Bool.Decides.{nat_tests}
use Rattle.std.proofs.lemmas.List.Elements.{All-head, All-tail}
use Rattle.base_types.specs.Keys.{same_key}
use Rattle.base_types.specs.PathLaws.{leads_to-trans, same_key-Decides, same_object-Decides}
use Rattle.base_types.specs.Paths.{leads_to, overlaps, same_object}
use Rattle.base_types.specs.declared.epoch.Epoch.{Epoch}
use Rattle.base_types.specs.declared.id.ContId.{ContId}
use Rattle.base_types.specs.declared.path.Path.{Path}
use Rattle.daos_model.specs.BoolLaws.{and_left, and_right, both, or_from_right}
use Rattle.daos_model.specs.Versions.{blocks_read, first_blocking, version_path}
use Rattle.daos_model.specs.declared.durable.Version.{Version}
use Rattle.pmem_pages.specs.Blocks.{Blocks}
use Rattle.pmem_pages.specs.Owners.{Holds}
use Rattle.vos_values.specs.declared.keys.ObjectKey.{ObjectKey}
use Rattle.vos_path.specs.Objects.{Objects, akey_path, dkey_path, object_level, object_path, object_versions, objects_owner, objects_versions}
use Rattle.vos_reads.specs.Ways.{IsSettled}
use Rattle.vos_reads.proofs.Quiet.{object_paths}
use Rattle.vos_lists.proofs.Alive.{Parts, full_path, parts_of}
use Rattle.vos_lists.proofs.Full.{all_things, all_weaker}

-- ---- paths

pub eq_refl : (n : ℕ) → (n == n) ≡ true
eq_refl n = grind (arith, nat_tests)

four : (a b c d : Bool) → a ≡ true → b ≡ true → c ≡ true → d ≡ true → (a && b && c && d) ≡ true
four true true true true h i j k = refl
four false b c d h i j k = absurd (let n : ⊥ = cc in n)
four true false c d h i j k = absurd (let n : ⊥ = cc in n)
four true true false d h i j k = absurd (let n : ⊥ = cc in n)
four true true true false h i j k = absurd (let n : ⊥ = cc in n)

pub from_parts : (p r : Path) → Parts p r → leads_to p r ≡ true
unfolding leads_to
from_parts p r h = four _ _ _ _ h.cont h.obj h.dkey h.akey

pub object_to_dkey : (o : ObjectKey) (d : List ℕ) → leads_to (object_path o) (dkey_path o d) ≡ true
object_to_dkey o d = from_parts (object_path o) (dkey_path o d) (record { cont = eq_refl o.cont.0; obj = (same_object-Decides o.obj o.obj).1 refl; dkey = refl; akey = refl })

pub dkey_to_akey : (o : ObjectKey) (d a : List ℕ) → leads_to (dkey_path o d) (akey_path o d a) ≡ true
dkey_to_akey o d a = from_parts (dkey_path o d) (akey_path o d a) (record { cont = eq_refl o.cont.0; obj = (same_object-Decides o.obj o.obj).1 refl; dkey = (same_key-Decides d d).1 refl; akey = refl })

named_so : (k : List ℕ) (x : Option (List ℕ)) → x ≡ Some k → (is_none (Some k) || option_eq same_key (Some k) x) ≡ true
named_so k x e = ap (λ z. option_eq same_key (Some k) z) e ∙ (same_key-Decides k k).1 refl

-- a path below an object with a dkey is below the dkey, and one below a dkey with an akey is the akey's
pub to_dkey : (o : ObjectKey) (k : List ℕ) (r : Path) → leads_to (object_path o) r ≡ true → r.dkey ≡ Some k → leads_to (dkey_path o k) r ≡ true
to_dkey o k r h e = let p = parts_of (object_path o) r h in from_parts (dkey_path o k) r (record { cont = p.cont; obj = p.obj; dkey = named_so k r.dkey e; akey = refl })

pub to_akey : (o : ObjectKey) (d k : List ℕ) (r : Path) → leads_to (dkey_path o d) r ≡ true → r.akey ≡ Some k → leads_to (akey_path o d k) r ≡ true
to_akey o d k r h e = let p = parts_of (dkey_path o d) r h in from_parts (akey_path o d k) r (record { cont = p.cont; obj = p.obj; dkey = p.dkey; akey = named_so k r.akey e })

-- ---- paths that overlap

same_back : (a b : ObjectKey) → same_object a.obj b.obj ≡ true → same_object b.obj a.obj ≡ true
same_back a b h = (same_object-Decides b.obj a.obj).1 (sym ((same_object-Decides a.obj b.obj).0 h))

eq_back : (a b : ℕ) → (a == b) ≡ true → (b == a) ≡ true
eq_back a b h = grind (arith, nat_tests)

-- what overlaps a path overlaps one that leads to it
abbrev Overs : Path → Path → Path → Type 0
Overs p q r = overlaps q r ≡ true → overlaps p r ≡ true

either_way : (p q r : Path) → leads_to p q ≡ true → (leads_to r q ≡ true → (leads_to p r ≡ true) ⊎ (leads_to r p ≡ true)) → Overs p q r
unfolding overlaps
either_way p q r h back k = by (leads_to q r) refl k
  where
    joined : (leads_to p r ≡ true) ⊎ (leads_to r p ≡ true) → (leads_to p r || leads_to r p) ≡ true
    joined (inl e) = ap (λ b. b || leads_to r p) e
    joined (inr e) = or_from_right (leads_to p r) (leads_to r p) e

    by : (t : Bool) → leads_to q r ≡ t → (t || leads_to r q) ≡ true → (leads_to p r || leads_to r p) ≡ true
    by true e z = joined (inl (leads_to-trans p q r h e))
    by false e z = joined (back z)

module _ (o : ObjectKey) (d : List ℕ) where
  pub over_object : (x : ObjectKey) → Overs (object_path o) (dkey_path o d) (object_path x)
  over_object x = either_way (object_path o) (dkey_path o d) (object_path x) (object_to_dkey o d) (λ h.
      let p = parts_of (object_path x) (dkey_path o d) h in
      inr (from_parts (object_path x) (object_path o) (record { cont = p.cont; obj = p.obj; dkey = refl; akey = refl })))

  pub over_dkey : (x : ObjectKey) (k : List ℕ) → Overs (object_path o) (dkey_path o d) (dkey_path x k)
  over_dkey x k = either_way (object_path o) (dkey_path o d) (dkey_path x k) (object_to_dkey o d) (λ h.
      let p = parts_of (dkey_path x k) (dkey_path o d) h in
      inl (from_parts (object_path o) (dkey_path x k) (record { cont = eq_back x.cont.0 o.cont.0 p.cont; obj = same_back x o p.obj; dkey = refl; akey = refl })))

  pub over_akey : (x : ObjectKey) (k l : List ℕ) → Overs (object_path o) (dkey_path o d) (akey_path x k l)
  over_akey x k l = either_way (object_path o) (dkey_path o d) (akey_path x k l) (object_to_dkey o d) (λ h.
      let p = parts_of (akey_path x k l) (dkey_path o d) h in
      absurd (let e = p.akey in let n : ⊥ = cc in n))

  module _ (a : List ℕ) where
    pub under_object : (x : ObjectKey) → Overs (dkey_path o d) (akey_path o d a) (object_path x)
    under_object x = either_way (dkey_path o d) (akey_path o d a) (object_path x) (dkey_to_akey o d a) (λ h.
        let p = parts_of (object_path x) (akey_path o d a) h in
        inr (from_parts (object_path x) (dkey_path o d) (record { cont = p.cont; obj = p.obj; dkey = refl; akey = refl })))

    pub under_dkey : (x : ObjectKey) (k : List ℕ) → Overs (dkey_path o d) (akey_path o d a) (dkey_path x k)
    under_dkey x k = either_way (dkey_path o d) (akey_path o d a) (dkey_path x k) (dkey_to_akey o d a) (λ h.
        let p = parts_of (dkey_path x k) (akey_path o d a) h in
        inr (from_parts (dkey_path x k) (dkey_path o d) (record { cont = p.cont; obj = p.obj; dkey = p.dkey; akey = refl })))

    pub under_akey : (x : ObjectKey) (k l : List ℕ) → Overs (dkey_path o d) (akey_path o d a) (akey_path x k l)
    under_akey x k l = either_way (dkey_path o d) (akey_path o d a) (akey_path x k l) (dkey_to_akey o d a) (λ h.
        let same = full_path x k l (akey_path o d a) h in
        inl (ap (leads_to (dkey_path o d)) (sym same) ∙ dkey_to_akey o d a))

abbrev pub cont_path : ContId → Path
cont_path c = record { cont = c; obj = None; dkey = None; akey = None }

pub cont_to_object : (o : ObjectKey) → leads_to (cont_path o.cont) (object_path o) ≡ true
cont_to_object o = from_parts (cont_path o.cont) (object_path o) (record { cont = eq_refl o.cont.0; obj = refl; dkey = refl; akey = refl })

module _ (o : ObjectKey) where
  pub top_object : (x : ObjectKey) → Overs (cont_path o.cont) (object_path o) (object_path x)
  top_object x = either_way (cont_path o.cont) (object_path o) (object_path x) (cont_to_object o) (λ h.
      let p = parts_of (object_path x) (object_path o) h in
      inl (from_parts (cont_path o.cont) (object_path x) (record { cont = eq_back x.cont.0 o.cont.0 p.cont; obj = refl; dkey = refl; akey = refl })))

  pub top_dkey : (x : ObjectKey) (k : List ℕ) → Overs (cont_path o.cont) (object_path o) (dkey_path x k)
  top_dkey x k = either_way (cont_path o.cont) (object_path o) (dkey_path x k) (cont_to_object o) (λ h.
      let p = parts_of (dkey_path x k) (object_path o) h in
      absurd (let e = p.dkey in let n : ⊥ = cc in n))

  pub top_akey : (x : ObjectKey) (k l : List ℕ) → Overs (cont_path o.cont) (object_path o) (akey_path x k l)
  top_akey x k l = either_way (cont_path o.cont) (object_path o) (akey_path x k l) (cont_to_object o) (λ h.
      let p = parts_of (akey_path x k l) (object_path o) h in
      absurd (let e = p.dkey in let n : ⊥ = cc in n))

-- ---- settled below

find_fewer : (s t : Version → Bool) (vs : List Version) → All (λ v. t v ≡ true → s v ≡ true) vs → find s vs ≡ None → find t vs ≡ None
find_fewer s t [] all h = refl
find_fewer s t (v ∷ vs) all h = by (find_fewer s t vs (All-tail (λ u. t u ≡ true → s u ≡ true) v vs all)) (t v) refl (s v) refl h
  where
    by : (find s vs ≡ None → find t vs ≡ None) → (x : Bool) → t v ≡ x → (y : Bool) → s v ≡ y → (if y then Some v else find s vs) ≡ None → (if x then Some v else find t vs) ≡ None
    by rest x e true f k = absurd (let n : ⊥ = cc in n)
    by rest true e false f k = absurd (let z : true ≡ false = sym (All-head (λ u. t u ≡ true → s u ≡ true) v vs all e) ∙ f in let n : ⊥ = cc in n)
    by rest false e false f k = rest k

blocks_over : (p q : Path) (e : ℕ) (v : Version) → Overs p q (version_path v) → blocks_read q e v ≡ true → blocks_read p e v ≡ true
unfolding blocks_read
blocks_over p q e v over h =
    let front = not v.done && nat_lt v.epoch.0 e in
    both front (overlaps p (version_path v)) (and_left front (overlaps q (version_path v)) h) (over (and_right front (overlaps q (version_path v)) h))

module _ (m : Blocks) (g : Objects) (held : Holds objects_owner m g) (e : Epoch) (p q : Path)
    (one : (x : ObjectKey) → Overs p q (object_path x)) (two : (x : ObjectKey) (k : List ℕ) → Overs p q (dkey_path x k)) (three : (x : ObjectKey) (k l : List ℕ) → Overs p q (akey_path x k l)) where
  overs : All (λ v. blocks_read q e.0 v ≡ true → blocks_read p e.0 v ≡ true) (objects_versions g)
  overs = all_weaker (λ v. Overs p q (version_path v)) (λ v. blocks_read q e.0 v ≡ true → blocks_read p e.0 v ≡ true) (λ v over. blocks_over p q e.0 v over) (objects_versions g) (all_things object_level m (λ v. Overs p q (version_path v)) object_versions (λ x good h. object_paths (Overs p q) x.name x.holds (one x.name) (two x.name) (three x.name)) g held)

  pub settled_below : IsSettled p e g → IsSettled q e g
  unfolding first_blocking
  settled_below h = find_fewer (blocks_read p e.0) (blocks_read q e.0) (objects_versions g) overs h
