-- Paths that overlap are one path, once each is cut to the level of the shorter.
use Rattle.std.proofs.Common.{◌≡◌, ℕ, ◌≤◌, ◌<◌, Bool, true, false, ◌&&◌, ◌||◌, List, Option, Some, None, refl, sym, ap, subst, ◌∙◌, inl, inr, arith}
use Rattle.std.specs.Prelude.{◌==◌, is_none, nat_le, ◌⊎◌, Decides}
use Rattle.std.specs.Option.{option_eq}
use Rattle.std.proofs.lemmas.Bool.{or_cases, or_right}
use Rattle.std.proofs.lemmas.Bool.Decides.{nat_tests}
use Rattle.base_types.specs.declared.id.ContId.{ContId}
use Rattle.base_types.specs.declared.id.ObjId.{ObjId}
use Rattle.base_types.specs.declared.path.Level.{Level}
use Rattle.base_types.specs.declared.path.Level.TheVariants.{Cont, Obj, Dkey, Akey}
use Rattle.base_types.specs.declared.path.Path.{Path}
use Rattle.base_types.specs.Keys.{same_key}
use Rattle.base_types.specs.PathLaws.{same_key-Decides, same_object-Decides}
use Rattle.base_types.specs.Paths.{cut_at, depth, leads_to, level_of, near, overlaps, same_object, shorter_level, slot}
use Rattle.daos_model.specs.BoolLaws.{and_left, and_right}
use Rattle.daos_model.specs.Forms.{is_path_in_form}

pub same-level : (l m : Level) → depth l ≡ depth m → l ≡ m
same-level Cont Cont e = refl
same-level Obj Obj e = refl
same-level Dkey Dkey e = refl
same-level Akey Akey e = refl
same-level l m e = absurd (omega arith)

-- what a path has there, one that goes on from it has too
reached : {T : Type 0} (same : T → T → Bool) → ((a b : T) → Decides (same a b) (a ≡ b)) → (a : T) (y : Option T) → option_eq same (Some a) y ≡ true → y ≡ Some a
reached same each a None h = absurd (let none : ⊥ = cc in none)
reached same each a (Some b) h = ap (λ x. Some x) (sym ((each a b).0 h))

-- a path in form leads to another one: that goes on as far at least, and is the path where it is cut there
pub record GoesOn (p q : Path) : Type 0 where
  pub further : depth (level_of p) ≤ depth (level_of q)
  pub cut : cut_at (level_of p) q ≡ p

abbrev path : ContId → Option ObjId → Option (List ℕ) → Option (List ℕ) → Path
path c o k a = record { cont = c; obj = o; dkey = k; akey = a }

obj-further : (k a : Option (List ℕ)) (x : ObjId) (c : ContId) → 1 ≤ depth (level_of (path c (Some x) k a))
obj-further None None x c = omega arith
obj-further (Some k) None x c = omega arith
obj-further k (Some a) x c = omega arith

dkey-further : (a : Option (List ℕ)) (o : Option ObjId) (y : List ℕ) (c : ContId) → 2 ≤ depth (level_of (path c o (Some y) a))
dkey-further None o y c = omega arith
dkey-further (Some a) o y c = omega arith

goes-on : (c : ContId) (po o : Option ObjId) (pk k pa a : Option (List ℕ)) → is_path_in_form (path c po pk pa) ≡ true → (is_none po || option_eq same_object po o) ≡ true
    → (is_none pk || option_eq same_key pk k) ≡ true → (is_none pa || option_eq same_key pa a) ≡ true → GoesOn (path c po pk pa) (path c o k a)
goes-on c None o None k None a form obj dkey akey = record { further = omega arith; cut = refl }
goes-on c (Some x) o None k None a form obj dkey akey =
    rw (reached same_object same_object-Decides x o obj) (record { further = obj-further k a x c; cut = refl })
goes-on c (Some x) o (Some y) k None a form obj dkey akey =
    rw (reached same_object same_object-Decides x o obj, reached same_key same_key-Decides y k dkey) (record { further = dkey-further a (Some x) y c; cut = refl })
goes-on c (Some x) o (Some y) k (Some z) a form obj dkey akey =
    rw (reached same_object same_object-Decides x o obj, reached same_key same_key-Decides y k dkey, reached same_key same_key-Decides z a akey)
    (record { further = omega arith; cut = refl })
goes-on c None o (Some y) k pa a form obj dkey akey = absurd (let none : ⊥ = cc in none)
goes-on c None o None k (Some z) a form obj dkey akey = absurd (let none : ⊥ = cc in none)
goes-on c (Some x) o None k (Some z) a form obj dkey akey = absurd (let none : ⊥ = cc in none)

abbrev cont_test : Path → Path → Bool
cont_test p q = p.cont.0 == q.cont.0

abbrev obj_test : Path → Path → Bool
obj_test p q = is_none p.obj || option_eq same_object p.obj q.obj

abbrev dkey_test : Path → Path → Bool
dkey_test p q = is_none p.dkey || option_eq same_key p.dkey q.dkey

abbrev akey_test : Path → Path → Bool
akey_test p q = is_none p.akey || option_eq same_key p.akey q.akey

pub leads-on : (p q : Path) → is_path_in_form p ≡ true → leads_to p q ≡ true → GoesOn p q
unfolding leads_to
leads-on p q form h =
    let above = and_left (cont_test p q && obj_test p q && dkey_test p q) (akey_test p q) h in
    let objects = and_left (cont_test p q && obj_test p q) (dkey_test p q) above in
    let is : (p.cont.0 == q.cont.0) ≡ true = and_left (cont_test p q) (obj_test p q) objects in
    let number : p.cont.0 ≡ q.cont.0 = grind (arith, nat_tests) in
    let cont : p.cont ≡ q.cont = ap (λ n. record { 0 = n }) number in
    subst (λ c. GoesOn p (path c q.obj q.dkey q.akey)) cont
    (goes-on p.cont p.obj q.obj p.dkey q.dkey p.akey q.akey form (and_right (cont_test p q) (obj_test p q) objects)
    (and_right (cont_test p q && obj_test p q) (dkey_test p q) above) (and_right (cont_test p q && obj_test p q && dkey_test p q) (akey_test p q) h))

-- a path is all of it as far as its own level
cut-itself : (c : ContId) (o : Option ObjId) (k a : Option (List ℕ)) → cut_at (level_of (path c o k a)) (path c o k a) ≡ path c o k a
cut-itself c o k (Some a) = refl
cut-itself c o (Some k) None = refl
cut-itself c (Some o) None None = refl
cut-itself c None None None = refl

-- the level of the shorter path is that of the first one, or of the second one where that goes less far
pub data Shorter (p q : Path) : Type 0 where
  First : shorter_level p q ≡ level_of p → depth (level_of p) ≤ depth (level_of q) → Shorter p q
  Second : shorter_level p q ≡ level_of q → depth (level_of q) < depth (level_of p) → Shorter p q

pub shorter : (p q : Path) → Shorter p q
shorter p q = by (nat_le (depth (level_of p)) (depth (level_of q))) refl
  where
    by : (b : Bool) → nat_le (depth (level_of p)) (depth (level_of q)) ≡ b → Shorter p q
    by true le = First (rw le refl) (let is : depth (level_of p) ≤ depth (level_of q) = grind (arith, nat_tests) in is)
    by false over = Second (rw over refl) (let is : depth (level_of q) < depth (level_of p) = grind (arith, nat_tests) in is)

-- one leads to the other
shared : (p q : Path) → is_path_in_form p ≡ true → is_path_in_form q ≡ true → (leads_to p q ≡ true) ⊎ (leads_to q p ≡ true) → Shorter p q
    → cut_at (shorter_level p q) p ≡ cut_at (shorter_level p q) q
shared p q f g (inl h) (First is le) =
    let on = leads-on p q f h in
    rw is (cut-itself p.cont p.obj p.dkey p.akey ∙ sym on.cut)
shared p q f g (inr h) (First is le) =
    let on = leads-on q p g h in
    let same : level_of q ≡ level_of p = same-level (level_of q) (level_of p) (omega (arith, le, on.further)) in
    rw (is, ← same) (on.cut ∙ sym (cut-itself q.cont q.obj q.dkey q.akey))
shared p q f g (inl h) (Second is lt) =
    let on = leads-on p q f h in
    absurd (omega (arith, lt, on.further))
shared p q f g (inr h) (Second is lt) =
    let on = leads-on q p g h in
    rw is (on.cut ∙ sym (cut-itself q.cont q.obj q.dkey q.akey))

pub overlaps-cut : (p q : Path) → is_path_in_form p ≡ true → is_path_in_form q ≡ true → overlaps p q ≡ true → cut_at (shorter_level p q) p ≡ cut_at (shorter_level p q) q
unfolding overlaps
overlaps-cut p q f g h = shared p q f g (or_cases (leads_to p q) (leads_to q p) h) (shorter p q)

-- paths that share a slot at the level of the shorter are near
pub near-by_slot : (p q : Path) (l : Level) → shorter_level p q ≡ l → slot (cut_at l p) ≡ slot (cut_at l q) → near p q ≡ true
unfolding near
near-by_slot p q l level same =
    let is : slot (cut_at (shorter_level p q) p) ≡ slot (cut_at (shorter_level p q) q) = rw level same in
    let test : (slot (cut_at (shorter_level p q) p) == slot (cut_at (shorter_level p q) q)) ≡ true = grind (arith, nat_tests) in
    or_right (overlaps p q) (slot (cut_at (shorter_level p q) p) == slot (cut_at (shorter_level p q) q)) test
