-- What a walk along chains passes over.
use Rattle.std.proofs.Common.{◌≡◌, ℕ, zero, suc, ◌+◌, ◌-◌, ◌*◌, ◌%◌, ◌<◌, ◌≤◌, ◌≢◌, ◌/◌, ◌⊎◌, inl, inr, Bool, true, false, ◌&&◌, List, [], ◌∷◌, ◌++◌, Option, Some, None, length, get_or, map, take, drop, filter, reverse, refl, sym, ◌∙◌, ap, subst, arith}
use Rattle.std.specs.Prelude.{nat_le, nat_lt, find, if◌then◌else◌}
use Rattle.std.proofs.lemmas.Bool.Decides.{nat_tests}
use Rattle.std.specs.Option.{option_or}
use Rattle.std.proofs.lemmas.List.{get_or-map, length-map, map-append, reverse-append, take-append-drop, take_all, take_more}
use Rattle.std.proofs.lemmas.List.Folds.{find-append}
use Rattle.base_types.specs.declared.operation.Write.{Write}
use Rattle.base_types.specs.declared.operation.Write.TheVariants.{Single, Extent, PunchObject, PunchDkey, PunchAkey}
use Rattle.base_types.specs.declared.path.Path.{Path}
use Rattle.base_types.specs.PathLaws.{same_path-Decides}
use Rattle.base_types.specs.Paths.{record_size, same_path}
use Rattle.daos_model.specs.declared.durable.Version.{Version}
use Rattle.daos_model.specs.BoolLaws.{and_left, and_right}
use Rattle.daos_model.specs.Cells.{single_cell}
use Rattle.daos_model.specs.Prunes.{is_index_in, touches}
use Rattle.daos_model.specs.Versions.{sees}
use Rattle.daos_model.proofs.Sights.{touches-extent, touches-single}
use Rattle.vos_scan.specs.declared.chains.Walk.{Walk}
use Rattle.base_types.specs.declared.id.ObjId.{ObjId}
use Rattle.vos_scan.specs.Chains.{AreChained, IsWalk, LeadsTo, akey_place, hashed, hashed_key, left, object_place, place_of, version_place}
use Rattle.vos_scan.specs.Layers.{is_about, is_layer, meets}
use Rattle.vos_scan.specs.Newest.{says_at}

-- chains through rows, and through one more
pub chained-taken : (c : ℕ) (vs : List Version) (v : Version) (hs ns : List ℕ) → c < length vs → v ≡ get_or vs c v
    → AreChained (map version_place (take c vs) ++ version_place v ∷ []) hs ns
    → AreChained (map version_place (take (c + 1) vs)) hs ns
chained-taken c vs v hs ns lt is h =
    subst (λ ps. AreChained ps hs ns)
    (sym (ap (map version_place) (take_more vs c v lt ∙ ap (λ x. take c vs ++ x ∷ []) (sym is)) ∙ map-append version_place (take c vs) (v ∷ [])))
    h

-- ---- walks

lead-cut : (ps : List ℕ) (b at j k : ℕ) → LeadsTo ps b at k → k ≤ j → j ≤ at → LeadsTo ps b j k
lead-cut ps b at j k h le in' = record { within = le; none = λ i ge lt. h.none i ge (omega arith); same = h.same }

left-akey : (w : Walk) → w.akey ≤ left w
left-akey w = by (nat_lt w.punch w.akey) refl
  where
    by : (t : Bool) → nat_lt w.punch w.akey ≡ t → w.akey ≤ (if t then w.akey else w.punch)
    by true e = omega arith
    by false e = grind (arith, nat_tests)

left-punch : (w : Walk) → w.punch ≤ left w
left-punch w = by (nat_lt w.punch w.akey) refl
  where
    by : (t : Bool) → nat_lt w.punch w.akey ≡ t → w.punch ≤ (if t then w.akey else w.punch)
    by true e = grind (arith, nat_tests)
    by false e = omega arith

left-within : (ps : List ℕ) (b at : ℕ) (w : Walk) → IsWalk ps b at w → left w ≤ at
left-within ps b at w h = by (nat_lt w.punch w.akey)
  where
    by : (t : Bool) → (if t then w.akey else w.punch) ≤ at
    by true = h.akey.within
    by false = h.punch.within

-- a walk is one from where it leads to
walk-here : (ps : List ℕ) (b at : ℕ) (w : Walk) → IsWalk ps b at w → IsWalk ps b (left w) w
walk-here ps b at w h = record {
  akey = lead-cut ps b at (left w) w.akey h.akey (left-akey w) (left-within ps b at w h);
  punch = lead-cut ps 1024 at (left w) w.punch h.punch (left-punch w) (left-within ps b at w h);
}

-- ---- what a walk passes over

abbrev first : {T : Type 0} → List T → Option T
first [] = None
first (x ∷ xs) = Some x

pub find-first : {T : Type 0} (q : T → Bool) (xs : List T) → find q xs ≡ first (filter q xs)
find-first q [] = refl
find-first q (x ∷ xs) = by (q x) (find-first q xs)
  where
    by : (t : Bool) → find q xs ≡ first (filter q xs) → (if t then Some x else find q xs) ≡ first (if t then x ∷ filter q xs else filter q xs)
    by true rest = refl
    by false rest = rest

-- versions that are found alike are filtered alike
pub find-alike : {T : Type 0} (q : T → Bool) (xs ys : List T) → filter q xs ≡ filter q ys → find q xs ≡ find q ys
find-alike q xs ys e = find-first q xs ∙ ap first e ∙ sym (find-first q ys)

-- a test that only versions of one number pass, and punches
abbrev pub IsOf : ℕ → (Version → Bool) → Type 0
IsOf b q = (v : Version) → q v ≡ true → (version_place v ≡ b) ⊎ (version_place v ≡ 1024)

-- the row before a place comes first of those before it in reverse
pub row-last : (vs : List Version) (l : ℕ) (v : Version) → 0 < l → l ≤ length vs → v ≡ get_or vs (l - 1) v → reverse (take l vs) ≡ v ∷ reverse (take (l - 1) vs)
row-last vs zero v some le is = absurd (omega arith)
row-last vs (suc k) v some le is =
    let less : suc k - 1 ≡ k = omega arith in
    let here : get_or vs k v ≡ v = sym (is ∙ ap (λ n. get_or vs n v) less) in
    ap (λ n. reverse (take n vs)) (let one : suc k ≡ k + 1 = omega arith in one)
    ∙ ap reverse (take_more vs k v (omega arith) ∙ ap (λ x. take k vs ++ x ∷ []) here)
    ∙ reverse-append (take k vs) (v ∷ [])
    ∙ ap (λ n. v ∷ reverse (take n vs)) (sym less)

module _ (b : ℕ) (q : Version → Bool) (each : IsOf b q) where
  passed : (v : Version) → version_place v ≢ b → version_place v ≢ 1024 → q v ≡ false
  passed v other_one other_two = by (q v) refl
    where
      other : (version_place v ≡ b) ⊎ (version_place v ≡ 1024) → ⊥
      other (inl is) = other_one is
      other (inr is) = other_two is

      by : (t : Bool) → q v ≡ t → t ≡ false
      by true e = absurd (other (each v e))
      by false e = refl

  one-passed : (vs : List Version) (v : Version) → q v ≡ false → filter q (reverse (vs ++ v ∷ [])) ≡ filter q (reverse vs)
  one-passed vs v fails = ap (filter q) (reverse-append vs (v ∷ [])) ∙ ap (λ (t : Bool). if t then v ∷ filter q (reverse vs) else filter q (reverse vs)) fails

  -- rows up to one place, of which none from another place on is of the number or a punch
  walk-on : (d : Version) (vs : List Version) (k j : ℕ) → k ≤ j → j ≤ length vs
      → ((i : ℕ) → k ≤ i → i < j → get_or (map version_place vs) i 0 ≢ b) → ((i : ℕ) → k ≤ i → i < j → get_or (map version_place vs) i 0 ≢ 1024)
      → filter q (reverse (take j vs)) ≡ filter q (reverse (take k vs))
  walk-on d vs k zero le in' none noes = ap (λ n. filter q (reverse (take n vs))) (let is : zero ≡ k = omega arith in is)
  walk-on d vs k (suc j) le in' none noes =
      by (nat_le k j) refl (λ ge. walk-on d vs k j ge (omega arith) (λ i low lt. none i low (omega arith)) (λ i low lt. noes i low (omega arith)))
    where
      by : (t : Bool) → nat_le k j ≡ t → (k ≤ j → filter q (reverse (take j vs)) ≡ filter q (reverse (take k vs))) → filter q (reverse (take (suc j) vs)) ≡ filter q (reverse (take k vs))
      by true e rest =
          let ge : k ≤ j = grind (arith, nat_tests) in
          let place : get_or (map version_place vs) j 0 ≡ version_place (get_or vs j d) = get_or-map version_place vs j d 0 (omega arith) in
          let more : take (suc j) vs ≡ take j vs ++ get_or vs j d ∷ [] = ap (λ n. take n vs) (let is : suc j ≡ j + 1 = omega arith in is) ∙ take_more vs j d (omega arith) in
          ap (λ xs. filter q (reverse xs)) more
          ∙ one-passed (take j vs) (get_or vs j d) (passed (get_or vs j d) (λ is. none j ge (omega arith) (place ∙ is)) (λ is. noes j ge (omega arith) (place ∙ is)))
          ∙ rest ge
      by false e rest = ap (λ n. filter q (reverse (take n vs))) (let is : suc j ≡ k = grind (arith, nat_tests) in is)

  pub walked : (vs : List Version) (at : ℕ) (w : Walk) → IsWalk (map version_place vs) b at w → at ≤ length vs → filter q (reverse (take at vs)) ≡ filter q (reverse (take (left w) vs))
  walked [] at w h in' =
      let none : at ≡ left w = omega (arith, in', left-within [] b at w h) in
      ap (λ n. filter q (reverse (take n []))) none
  walked (d ∷ vs) at w h in' =
      walk-on d (d ∷ vs) (left w) at (left-within (map version_place (d ∷ vs)) b at w h) in'
      (λ i ge lt. h.akey.none i (omega (arith, ge, left-akey w)) lt)
      (λ i ge lt. h.punch.none i (omega (arith, ge, left-punch w)) lt)

-- ---- where a walk through rows stands

-- so many of the first rows are left
pub record Stands (b : ℕ) (vs : List Version) (l : ℕ) (w : Walk) : Type 0 where
  pub within : l ≤ length vs
  pub is : l ≡ left w
  pub walk : IsWalk (map version_place vs) b l w

module _ (b : ℕ) (vs : List Version) where
  stands-at : (at l : ℕ) (w : Walk) → at ≤ length vs → IsWalk (map version_place vs) b at w → l ≡ left w → Stands b vs l w
  stands-at at l w in' h e = record {
    within = omega (arith, in', e, left-within (map version_place vs) b at w h);
    is = e;
    walk = subst (λ n. IsWalk (map version_place vs) b n w) (sym e) (walk-here (map version_place vs) b at w h);
  }

  pub stands-first : (l : ℕ) (w : Walk) → IsWalk (map version_place vs) b (length (map version_place vs)) w → l ≡ left w → Stands b vs l w
  stands-first l w h e = stands-at (length (map version_place vs)) l w (omega (arith, length-map vs version_place)) h e

  pub passed-first : (q : Version → Bool) → IsOf b q → (l : ℕ) (w : Walk) → IsWalk (map version_place vs) b (length (map version_place vs)) w → l ≡ left w → filter q (reverse (take l vs)) ≡ filter q (reverse vs)
  passed-first q each l w h e =
      let long : length (map version_place vs) ≡ length vs = length-map vs version_place in
      ap (λ n. filter q (reverse (take n vs))) e
      ∙ sym (walked b q each vs (length vs) w (subst (λ n. IsWalk (map version_place vs) b n w) long h) (omega arith))
      ∙ ap (λ xs. filter q (reverse xs)) (take_all (length vs) vs (omega arith))

  module _ (l m : ℕ) (w u : Walk) (stands : Stands b vs l w) (some : 0 < l) (back : IsWalk (map version_place vs) b (left w - 1) u) (e : m ≡ left u) where
    pub stands-next : Stands b vs m u
    stands-next = stands-at (left w - 1) m u (omega (arith, stands.within, stands.is)) back e

    pub stands-less : m < l
    stands-less = omega (arith, e, some, stands.is, left-within (map version_place vs) b (left w - 1) u back)

    pub passed-next : (q : Version → Bool) → IsOf b q → (v : Version) → v ≡ get_or vs (l - 1) v → filter q (reverse (take l vs)) ≡ filter q (v ∷ reverse (take m vs))
    passed-next q each v is =
        let before : l - 1 ≡ left w - 1 = ap (λ n. n - 1) stands.is in
        let rest : filter q (reverse (take (l - 1) vs)) ≡ filter q (reverse (take m vs)) =
        ap (λ n. filter q (reverse (take n vs))) before ∙ walked b q each vs (left w - 1) u back (omega (arith, stands.within, stands.is)) ∙ ap (λ n. filter q (reverse (take n vs))) (sym e) in
        ap (filter q) (row-last vs l v some stands.within is)
        ∙ ap (λ xs. if q v then v ∷ xs else xs) rest

-- ---- tests of akeys

of_same : (p q : Path) → same_path q p ≡ true → akey_place q ≡ akey_place p
of_same p q h = ap akey_place ((same_path-Decides q p).0 h)

pub says-of : (p : Path) (e : ℕ) → IsOf (akey_place p) (says_at (single_cell p) e)
says-of p e v h = by v.write refl (and_right (sees e v) (touches (single_cell p) v.write) h)
  where
    by : (w : Write) → v.write ≡ w → touches (single_cell p) w ≡ true → (place_of w ≡ akey_place p) ⊎ (place_of w ≡ 1024)
    by (Single q bytes) is t =
        let both : (same_path q p && true) ≡ true = touches-single (single_cell p) (Single q bytes) q bytes (same_path q p && true) refl refl ∙ t in
        inl (of_same p q (and_left (same_path q p) true both))
    by (Extent q low bytes) is t =
        let both : (same_path q p && is_index_in low (length bytes / record_size q) None) ≡ true = touches-extent (single_cell p) (Extent q low bytes) q low bytes (same_path q p && is_index_in low (length bytes / record_size q) None) refl refl ∙ t in
        inl (of_same p q (and_left (same_path q p) (is_index_in low (length bytes / record_size q) None) both))
    by (PunchObject q) is t = inr refl
    by (PunchDkey q) is t = inr refl
    by (PunchAkey q) is t = inr refl

pub layers-of : (p : Path) (low len e : ℕ) → IsOf (akey_place p) (is_layer p low len e)
layers-of p low len e v h = by v.write (and_right (sees e v) (is_about p low len v.write) h)
  where
    by : (w : Write) → is_about p low len w ≡ true → (place_of w ≡ akey_place p) ⊎ (place_of w ≡ 1024)
    by (Single q bytes) t = absurd (let n : ⊥ = cc in n)
    by (Extent q at bytes) t = inl (of_same p q (and_right (meets at (length bytes / record_size q) low len) (same_path q p) t))
    by (PunchObject q) t = inr refl
    by (PunchDkey q) t = inr refl
    by (PunchAkey q) t = inr refl

-- ---- numbers of akeys

hashed-small : (n : ℕ) (bs : List ℕ) → n < 1024 → hashed n bs < 1024
hashed-small n [] lt = lt
hashed-small n (b ∷ bs) lt = hashed-small ((n * 31 + b) % 1024) bs (omega arith)

hashed_key-small : (n : ℕ) (k : Option (List ℕ)) → n < 1024 → hashed_key n k < 1024
hashed_key-small n None lt = lt
hashed_key-small n (Some k) lt = hashed-small n k lt

object-small : (o : Option ObjId) → object_place o < 1024
object-small None = omega arith
object-small (Some o) = omega arith

pub akey-small : (p : Path) → akey_place p < 1024
unfolding akey_place
akey-small p = hashed_key-small (hashed_key (object_place p.obj) p.dkey) p.akey (hashed_key-small (object_place p.obj) p.dkey (object-small p.obj))

-- ---- rows in two parts

pub find-split : {T : Type 0} (q : T → Bool) (c : ℕ) (xs : List T) → find q (reverse xs) ≡ option_or (find q (reverse (drop c xs))) (find q (reverse (take c xs)))
find-split q c xs =
    ap (λ ys. find q (reverse ys)) (sym (take-append-drop c xs))
    ∙ ap (find q) (reverse-append (take c xs) (drop c xs))
    ∙ find-append q (reverse (drop c xs)) (reverse (take c xs))
