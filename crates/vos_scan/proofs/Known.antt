-- What rows of an index make of names.
use Rattle.std.proofs.Common.{◌≡◌, ℕ, zero, suc, ◌+◌, ◌<◌, ◌≤◌, Bool, true, false, ◌&&◌, ◌||◌, List, [], ◌∷◌, ◌++◌, Option, Some, None, length, get_or, map, take, drop, refl, sym, ◌∙◌, ap, subst, arith, append_assoc}
use Rattle.std.specs.Prelude.{◌==◌, nat_le, nat_lt, is_none, if◌then◌else◌}
use Rattle.std.specs.List.{list_all, list_any}
use Rattle.std.specs.Option.{option_eq}
use Rattle.std.proofs.lemmas.Bool.Decides.{nat_tests}
use Rattle.std.proofs.lemmas.List.{append-nil, take_more, take-append-drop, take-take}
use Rattle.std.proofs.lemmas.List.Folds.{list_any-append}
use Rattle.base_types.specs.declared.id.ObjId.{ObjId}
use Rattle.base_types.specs.declared.operation.Write.{Write}
use Rattle.base_types.specs.declared.operation.Write.TheVariants.{Single, Extent, PunchObject, PunchDkey, PunchAkey}
use Rattle.base_types.specs.declared.path.Path.{Path}
use Rattle.base_types.specs.Keys.{same_key}
use Rattle.base_types.specs.PathLaws.{option_eq-Decides, same_key-Decides, same_object-Decides}
use Rattle.base_types.specs.Paths.{leads_to, same_object}
use Rattle.daos_model.specs.declared.durable.Version.{Version}
use Rattle.daos_model.specs.Answers.{is_before, name_among, option_among}
use Rattle.daos_model.specs.BoolLaws.{and_left, and_right, both, clash}
use Rattle.daos_model.specs.OrderLaws.{before-itself, before-trans}
use Rattle.daos_model.specs.Prunes.{is_punch}
use Rattle.daos_model.specs.Versions.{sees}
use Rattle.vos_scan.specs.declared.index.ReadIndex.{ReadIndex}
use Rattle.vos_scan.specs.Chains.{AreChained, version_place}
use Rattle.vos_scan.specs.Indexed.{AreNamed, IsIndex, IsIndexOf, both_same, is_below, is_done, picked, stands_for, update_same, updated}
use Rattle.vos_scan.specs.Names.{dkey_by, dkey_in, is_seen_punch, names_from}

-- ---- a name that is there

-- names in byte order have one
abbrev has_name : List ℕ → List (List ℕ) → Bool
has_name k [] = false
has_name k (n ∷ ns) = if is_before k n then false else if is_before n k then has_name k ns else true

has-stays : (k : List ℕ) (ns : List (List ℕ)) → has_name k ns ≡ true → name_among k ns ≡ ns
has-stays k [] h = absurd (let n : ⊥ = cc in n)
has-stays k (n ∷ ns) h = by (is_before k n) (is_before n k) (has-stays k ns) h
  where
    by : (a b : Bool) → (has_name k ns ≡ true → name_among k ns ≡ ns) → (if a then false else if b then has_name k ns else true) ≡ true → (if a then k ∷ n ∷ ns else if b then n ∷ name_among k ns else n ∷ ns) ≡ n ∷ ns
    by true b rest h = absurd (let m : ⊥ = cc in m)
    by false true rest h = ap (λ z. n ∷ z) (rest h)
    by false false rest h = refl

has-own : (k : List ℕ) (ns : List (List ℕ)) → has_name k (name_among k ns) ≡ true
has-own k [] = ap (λ (b : Bool). if b then false else if b then false else true) (before-itself k)
has-own k (n ∷ ns) = by (is_before k n) (is_before n k) refl refl (has-own k ns)
  where
    by : (a b : Bool) → is_before k n ≡ a → is_before n k ≡ b → has_name k (name_among k ns) ≡ true → has_name k (if a then k ∷ n ∷ ns else if b then n ∷ name_among k ns else n ∷ ns) ≡ true
    by true b e f rest = ap (λ (x : Bool). if x then false else if x then has_name k (n ∷ ns) else true) (before-itself k)
    by false true e f rest =
        ap (λ (x : Bool). if x then false else if is_before n k then has_name k (name_among k ns) else true) e
        ∙ ap (λ (x : Bool). if x then has_name k (name_among k ns) else true) f
        ∙ rest
    by false false e f rest =
        ap (λ (x : Bool). if x then false else if is_before n k then has_name k ns else true) e
        ∙ ap (λ (x : Bool). if x then has_name k ns else true) f

has-more : (k j : List ℕ) (ns : List (List ℕ)) → has_name k ns ≡ true → has_name k (name_among j ns) ≡ true
has-more k j [] h = absurd (let n : ⊥ = cc in n)
has-more k j (n ∷ ns) h = by (is_before j n) (is_before n j) refl (is_before k n) refl (is_before n k) refl (has-more k j ns) h
  where
    first : (a b : Bool) → is_before j n ≡ true → is_before k n ≡ false → is_before k j ≡ a → is_before j k ≡ b → has_name k (n ∷ ns) ≡ true → (if a then false else if b then has_name k (n ∷ ns) else true) ≡ true
    first true b lt ge e f h = clash (is_before k n) (before-trans k j n e lt) ge
    first false true lt ge e f h = h
    first false false lt ge e f h = refl

    by : (a b : Bool) → is_before j n ≡ a → (c : Bool) → is_before k n ≡ c → (d : Bool) → is_before n k ≡ d
        → (has_name k ns ≡ true → has_name k (name_among j ns) ≡ true)
        → (if c then false else if d then has_name k ns else true) ≡ true
        → has_name k (if a then j ∷ n ∷ ns else if b then n ∷ name_among j ns else n ∷ ns) ≡ true
    by a b is true ge d f rest h = absurd (let m : ⊥ = cc in m)
    by true b is false ge d f rest h =
        first (is_before k j) (is_before j k) is ge refl refl
        (ap (λ (x : Bool). if x then false else if is_before n k then has_name k ns else true) ge ∙ ap (λ (x : Bool). if x then has_name k ns else true) f ∙ h)
    by false true is false ge true f rest h =
        ap (λ (x : Bool). if x then false else if is_before n k then has_name k (name_among j ns) else true) ge
        ∙ ap (λ (x : Bool). if x then has_name k (name_among j ns) else true) f
        ∙ rest h
    by false true is false ge false f rest h =
        ap (λ (x : Bool). if x then false else if is_before n k then has_name k (name_among j ns) else true) ge
        ∙ ap (λ (x : Bool). if x then has_name k (name_among j ns) else true) f
    by false false is false ge d f rest h =
        ap (λ (x : Bool). if x then false else if is_before n k then has_name k ns else true) ge ∙ ap (λ (x : Bool). if x then has_name k ns else true) f ∙ h

-- ---- names of rows

pub names-append : (p : Path) (e : ℕ) (us vs : List Version) (ns : List (List ℕ)) → names_from p e (us ++ vs) ns ≡ names_from p e vs (names_from p e us ns)
names-append p e [] vs ns = refl
names-append p e (u ∷ us) vs ns = names-append p e us vs (option_among (dkey_by p e u) ns)

has-option : (k : List ℕ) (o : Option (List ℕ)) (ns : List (List ℕ)) → has_name k ns ≡ true → has_name k (option_among o ns) ≡ true
has-option k None ns h = h
has-option k (Some j) ns h = has-more k j ns h

has-from : (k : List ℕ) (p : Path) (e : ℕ) (vs : List Version) (ns : List (List ℕ)) → has_name k ns ≡ true → has_name k (names_from p e vs ns) ≡ true
has-from k p e [] ns h = h
has-from k p e (v ∷ vs) ns h = has-from k p e vs (option_among (dkey_by p e v) ns) (has-option k (dkey_by p e v) ns h)

made-from : (k : List ℕ) (p : Path) (e : ℕ) (q : Version → Bool) → ((u : Version) → q u ≡ true → dkey_by p e u ≡ Some k) → (vs : List Version) (ns : List (List ℕ)) → list_any q vs ≡ true → has_name k (names_from p e vs ns) ≡ true
made-from k p e q each [] ns h = absurd (let n : ⊥ = cc in n)
made-from k p e q each (v ∷ vs) ns h = by (q v) refl h (made-from k p e q each vs (option_among (dkey_by p e v) ns))
  where
    by : (b : Bool) → q v ≡ b → (b || list_any q vs) ≡ true → (list_any q vs ≡ true → has_name k (names_from p e vs (option_among (dkey_by p e v) ns)) ≡ true) → has_name k (names_from p e vs (option_among (dkey_by p e v) ns)) ≡ true
    by true is h rest = has-from k p e vs (option_among (dkey_by p e v) ns) (subst (λ o. has_name k (option_among o ns) ≡ true) (sym (each v is)) (has-own k ns))
    by false is h rest = rest h

-- ---- a row that stands for another one

abbrev leads_by : Path → Option (List ℕ) → Option (List ℕ) → ℕ → Option ObjId → Option (List ℕ) → Option (List ℕ) → Bool
leads_by p d a c o x y = (p.cont.0 == c) && (is_none p.obj || option_eq same_object p.obj o) && (is_none d || option_eq same_key d x) && (is_none a || option_eq same_key a y)

leads-same : (p q t : Path) → p.dkey ≡ None → p.akey ≡ None → q.cont.0 ≡ t.cont.0 → q.obj ≡ t.obj → leads_to p q ≡ leads_to p t
unfolding leads_to
leads-same p q t d a c o =
    ap (λ x. leads_by p x p.akey q.cont.0 q.obj q.dkey q.akey) d
    ∙ ap (λ y. leads_by p None y q.cont.0 q.obj q.dkey q.akey) a
    ∙ ap (λ n. leads_by p None None n q.obj q.dkey q.akey) c
    ∙ ap (λ m. leads_by p None None t.cont.0 m q.dkey q.akey) o
    ∙ sym (ap (λ x. leads_by p x p.akey t.cont.0 t.obj t.dkey t.akey) d ∙ ap (λ y. leads_by p None y t.cont.0 t.obj t.dkey t.akey) a)

abbrev dkey_of : Path → Option Path → Option (List ℕ)
dkey_of p None = None
dkey_of p (Some q) = if leads_to p q then q.dkey else None

dkey-updated : (p : Path) (w : Write) → dkey_in p w ≡ dkey_of p (updated w)
dkey-updated p (Single q b) = refl
dkey-updated p (Extent q low b) = refl
dkey-updated p (PunchObject q) = refl
dkey-updated p (PunchDkey q) = refl
dkey-updated p (PunchAkey q) = refl

paths-make : (p : Path) → p.dkey ≡ None → p.akey ≡ None → (r s : Option Path) → both_same r s ≡ true → dkey_of p r ≡ dkey_of p s
paths-make p d a None s h = absurd (let n : ⊥ = cc in n)
paths-make p d a (Some q) None h = absurd (let n : ⊥ = cc in n)
paths-make p d a (Some q) (Some t) h =
    let rest : (option_eq same_object q.obj t.obj && option_eq same_key q.dkey t.dkey) ≡ true = and_right (q.cont.0 == t.cont.0) (option_eq same_object q.obj t.obj && option_eq same_key q.dkey t.dkey) h in
    let cont : q.cont.0 ≡ t.cont.0 = let is : (q.cont.0 == t.cont.0) ≡ true = and_left (q.cont.0 == t.cont.0) (option_eq same_object q.obj t.obj && option_eq same_key q.dkey t.dkey) h in grind (arith, nat_tests) in
    let obj : q.obj ≡ t.obj = (option_eq-Decides same_object same_object-Decides q.obj t.obj).0 (and_left (option_eq same_object q.obj t.obj) (option_eq same_key q.dkey t.dkey) rest) in
    let dkey : q.dkey ≡ t.dkey = (option_eq-Decides same_key same_key-Decides q.dkey t.dkey).0 (and_right (option_eq same_object q.obj t.obj) (option_eq same_key q.dkey t.dkey) rest) in
    ap (λ (b : Bool). if b then q.dkey else None) (leads-same p q t d a cont obj)
    ∙ ap (λ k. if leads_to p t then k else None) dkey

sees-earlier : (e : ℕ) (u v : Version) → u.done ≡ true → nat_le u.epoch.0 v.epoch.0 ≡ true → sees e v ≡ true → sees e u ≡ true
unfolding sees
sees-earlier e u v done le h =
    let lt : nat_lt v.epoch.0 e ≡ true = and_right v.done (nat_lt v.epoch.0 e) h in
    both u.done (nat_lt u.epoch.0 e) done (grind (arith, nat_tests))

stand-makes : (p : Path) (e : ℕ) (k : List ℕ) (v u : Version) → p.dkey ≡ None → p.akey ≡ None → stands_for v u ≡ true → dkey_by p e v ≡ Some k → dkey_by p e u ≡ Some k
stand-makes p e k v u d a h makes = by (sees e v) refl makes
  where
    rest : (nat_le u.epoch.0 v.epoch.0 && update_same u.write v.write) ≡ true
    rest = and_right u.done (nat_le u.epoch.0 v.epoch.0 && update_same u.write v.write) h

    same : dkey_in p u.write ≡ dkey_in p v.write
    same = dkey-updated p u.write ∙ paths-make p d a (updated u.write) (updated v.write) (and_right (nat_le u.epoch.0 v.epoch.0) (update_same u.write v.write) rest) ∙ sym (dkey-updated p v.write)

    by : (s : Bool) → sees e v ≡ s → (if s then dkey_in p v.write else None) ≡ Some k → (if sees e u then dkey_in p u.write else None) ≡ Some k
    by true is m =
        ap (λ (b : Bool). if b then dkey_in p u.write else None)
        (sees-earlier e u v (and_left u.done (nat_le u.epoch.0 v.epoch.0 && update_same u.write v.write) h) (and_left (nat_le u.epoch.0 v.epoch.0) (update_same u.write v.write) rest) is)
        ∙ same
        ∙ m
    by false is m = absurd (let n : ⊥ = cc in n)

no_second : (o : Option Path) → both_same o None ≡ false
no_second None = refl
no_second (Some q) = refl

-- what it stands for is an update
pub stand-update : (v u : Version) → stands_for v u ≡ true → is_punch v.write ≡ false
stand-update v u h = by v.write (and_right (nat_le u.epoch.0 v.epoch.0) (update_same u.write v.write) (and_right u.done (nat_le u.epoch.0 v.epoch.0 && update_same u.write v.write) h))
  where
    by : (w : Write) → both_same (updated u.write) (updated w) ≡ true → is_punch w ≡ false
    by (Single q b) same = refl
    by (Extent q low b) same = refl
    by (PunchObject q) same = clash (both_same (updated u.write) None) same (no_second (updated u.write))
    by (PunchDkey q) same = clash (both_same (updated u.write) None) same (no_second (updated u.write))
    by (PunchAkey q) same = clash (both_same (updated u.write) None) same (no_second (updated u.write))

-- a test that a row passes is passed among the first ones
pub any_at : (t : Version → Bool) (vs : List Version) (i n : ℕ) (u : Version) → i < n → n ≤ length vs → u ≡ get_or vs i u → t u ≡ true → list_any t (take n vs) ≡ true
any_at t [] i n u lt le is h = absurd (omega arith)
any_at t (x ∷ xs) i zero u lt le is h = absurd (omega arith)
any_at t (x ∷ xs) zero (suc n) u lt le is h = ap (λ (b : Bool). b || list_any t (take n xs)) (ap t (sym is) ∙ h)
any_at t (x ∷ xs) (suc i) (suc n) u lt le is h = by (t x) (any_at t xs i n u (omega arith) (omega arith) is h)
  where
    by : (b : Bool) → list_any t (take n xs) ≡ true → (b || list_any t (take n xs)) ≡ true
    by true r = refl
    by false r = r

-- ---- one row more

-- of which the dkey is known
named-known : (vs us : List Version) (v : Version) → AreNamed vs us → list_any (stands_for v) vs ≡ true → is_punch v.write ≡ false → AreNamed (vs ++ v ∷ []) us
named-known vs us v h known update = record {
  names = λ p e d a.
      let ns : List (List ℕ) = names_from p e vs [] in
      names-append p e vs (v ∷ []) []
      ∙ stays ns (dkey_by p e v) (λ k is. made-from k p e (stands_for v) (λ u s. stand-makes p e k v u d a s is) vs [] known)
      ∙ h.names p e d a;
  punches = λ e.
      list_any-append (is_seen_punch e) vs (v ∷ [])
      ∙ ap (λ (b : Bool). list_any (is_seen_punch e) vs || ((sees e v && b) || false)) update
      ∙ none (list_any (is_seen_punch e) vs) (sees e v)
      ∙ h.punches e;
}
  where
    stays : (ns : List (List ℕ)) (o : Option (List ℕ)) → ((k : List ℕ) → o ≡ Some k → has_name k ns ≡ true) → option_among o ns ≡ ns
    stays ns None f = refl
    stays ns (Some k) f = has-stays k ns (f k refl)

    none : (a b : Bool) → (a || ((b && false) || false)) ≡ a
    none true b = refl
    none false true = refl
    none false false = refl

-- of which it isn't
named-new : (vs us : List Version) (v : Version) → AreNamed vs us → AreNamed (vs ++ v ∷ []) (us ++ v ∷ [])
named-new vs us v h = record {
  names = λ p e d a.
      names-append p e vs (v ∷ []) [] ∙ ap (λ ns. option_among (dkey_by p e v) ns) (h.names p e d a) ∙ sym (names-append p e us (v ∷ []) []);
  punches = λ e.
      list_any-append (is_seen_punch e) vs (v ∷ []) ∙ ap (λ (b : Bool). b || list_any (is_seen_punch e) (v ∷ [])) (h.punches e) ∙ sym (list_any-append (is_seen_punch e) us (v ∷ []));
}

picked-append : (is js : List ℕ) (vs : List Version) → picked (is ++ js) vs ≡ picked is vs ++ picked js vs
picked-append [] js vs = refl
picked-append (i ∷ is) js vs = ap (λ xs. take 1 (drop i vs) ++ xs) (picked-append is js vs) ∙ sym (append_assoc (take 1 (drop i vs)) (picked is vs) (picked js vs))

row-more : (i : ℕ) (vs ws : List Version) → i < length vs → take 1 (drop i (vs ++ ws)) ≡ take 1 (drop i vs)
row-more i [] ws lt = absurd (omega arith)
row-more zero (v ∷ vs) ws lt = refl
row-more (suc i) (v ∷ vs) ws lt = row-more i vs ws (omega arith)

picked-more : (c : ℕ) (is : List ℕ) (vs ws : List Version) → list_all (is_below c) is ≡ true → c ≤ length vs → picked is (vs ++ ws) ≡ picked is vs
picked-more c [] vs ws h le = refl
picked-more c (i ∷ is) vs ws h le =
    let below : nat_lt i c ≡ true = and_left (is_below c i) (list_all (is_below c) is) h in
    ap (λ xs. xs ++ picked is (vs ++ ws)) (row-more i vs ws (grind (arith, nat_tests)))
    ∙ ap (λ xs. take 1 (drop i vs) ++ xs) (picked-more c is vs ws (and_right (is_below c i) (list_all (is_below c) is) h) le)

row-last : (c : ℕ) (vs : List Version) (v : Version) → length vs ≡ c → take 1 (drop c (vs ++ v ∷ [])) ≡ v ∷ []
row-last zero [] v e = refl
row-last (suc c) [] v e = absurd (omega arith)
row-last zero (x ∷ vs) v e = absurd (omega arith)
row-last (suc c) (x ∷ vs) v e = row-last c vs v (omega arith)

below-more : (c : ℕ) (is : List ℕ) → list_all (is_below c) is ≡ true → list_all (is_below (c + 1)) is ≡ true
below-more c [] h = refl
below-more c (i ∷ is) h =
    let below : nat_lt i c ≡ true = and_left (is_below c i) (list_all (is_below c) is) h in
    both (is_below (c + 1) i) (list_all (is_below (c + 1)) is) (grind (arith, nat_tests)) (below-more c is (and_right (is_below c i) (list_all (is_below c) is) h))

all-last : {T : Type 0} (t : T → Bool) (xs : List T) (v : T) → list_all t xs ≡ true → t v ≡ true → list_all t (xs ++ v ∷ []) ≡ true
all-last t [] v h last = both (t v) true last refl
all-last t (x ∷ xs) v h last = both (t x) (list_all t (xs ++ v ∷ [])) (and_left (t x) (list_all t xs) h) (all-last t xs v (and_right (t x) (list_all t xs) h) last)

length-taken : (n : ℕ) (vs : List Version) → n ≤ length vs → length (take n vs) ≡ n
length-taken zero vs le = refl
length-taken (suc n) [] le = absurd (omega arith)
length-taken (suc n) (v ∷ vs) le = ap suc (length-taken n vs (omega arith))

module _ (c : ℕ) (firsts : List ℕ) (vs : List Version) (v : Version) (h : IsIndex c firsts vs) (lt : c < length vs) (is : v ≡ get_or vs c v) (done : v.done ≡ true) where
  taken : take (c + 1) vs ≡ take c vs ++ v ∷ []
  taken = take_more vs c v lt ∙ ap (λ x. take c vs ++ x ∷ []) (sym is)

  long : length (take c vs) ≡ c
  long = length-taken c vs h.within

  all_done : list_all is_done (take (c + 1) vs) ≡ true
  all_done = ap (list_all is_done) taken ∙ all-last is_done (take c vs) v h.done done

  le : c ≤ length (take c vs)
  le = omega (arith, long)

  index-known : list_any (stands_for v) (take c vs) ≡ true → is_punch v.write ≡ false → IsIndex (c + 1) firsts vs
  index-known known update = record {
    within = omega arith;
    done = all_done;
    below = below-more c firsts h.below;
    named =
        subst (λ xs. AreNamed xs (picked firsts xs)) (sym taken)
        (subst (AreNamed (take c vs ++ v ∷ [])) (sym (picked-more c firsts (take c vs) (v ∷ []) h.below le))
        (named-known (take c vs) (picked firsts (take c vs)) v h.named known update));
  }

  index-new : IsIndex (c + 1) (firsts ++ c ∷ []) vs
  index-new = record {
    within = omega arith;
    done = all_done;
    below = all-last (is_below (c + 1)) firsts c (below-more c firsts h.below) (let lower : c < c + 1 = omega arith in grind (arith, nat_tests));
    named =
        subst (λ xs. AreNamed xs (picked (firsts ++ c ∷ []) xs)) (sym taken)
        (subst (AreNamed (take c vs ++ v ∷ [])) (sym (picked-append firsts (c ∷ []) (take c vs ++ v ∷ []) ∙ ap (λ xs. xs ++ picked (c ∷ []) (take c vs ++ v ∷ [])) (picked-more c firsts (take c vs) (v ∷ []) h.below le) ∙ ap (λ xs. picked firsts (take c vs) ++ xs) (append-nil (take 1 (drop c (take c vs ++ v ∷ []))) ∙ row-last c (take c vs) v long)))
        (named-new (take c vs) (picked firsts (take c vs)) v h.named));
  }

  pub index-next : (known : Bool) (next : List ℕ) → (known ≡ true → list_any (stands_for v) (take c vs) ≡ true) → (known ≡ true → is_punch v.write ≡ false) → next ≡ (if known then firsts else firsts ++ c ∷ []) → IsIndex (c + 1) next vs
  index-next true next f g e = subst (λ is. IsIndex (c + 1) is vs) (sym e) (index-known (f refl) (g refl))
  index-next false next f g e = subst (λ is. IsIndex (c + 1) is vs) (sym e) index-new

-- ---- other rows

pub index-none : (vs : List Version) → IsIndex 0 [] vs
index-none vs = record { within = omega arith; done = refl; below = refl; named = record { names = λ p e d a. refl; punches = λ e. refl } }

-- rows of which the first stayed as they were
rows-same : (c : ℕ) (firsts : List ℕ) (vs us : List Version) → IsIndex c firsts vs → take c vs ≡ take c us → c ≤ length us → IsIndex c firsts us
rows-same c firsts vs us h same within = record {
  within = within;
  done = ap (list_all is_done) (sym same) ∙ h.done;
  below = h.below;
  named = subst (λ xs. AreNamed xs (picked firsts xs)) same h.named;
}

pub index-same : (i : ReadIndex) (vs us : List Version) → IsIndexOf i vs → take i.covered vs ≡ take i.covered us → i.covered ≤ length us → IsIndexOf i us
index-same i vs us h same within = record {
  rows = rows-same i.covered i.firsts.items vs us h.rows same within;
  chained = subst (λ xs. AreChained (map version_place xs) i.chains.lasts.items i.chains.links.items) same h.chained;
}

pub index-kept : (i : ReadIndex) (n : ℕ) (vs us : List Version) → IsIndexOf i vs → take n vs ≡ take n us → n ≤ length us → i.covered ≤ n → IsIndexOf i us
index-kept i n vs us h same within le =
    index-same i vs us h (sym (take-take i.covered n vs le) ∙ ap (λ xs. take i.covered xs) same ∙ take-take i.covered n us le) (omega arith)

-- ---- what an index says of all rows

module _ (c : ℕ) (firsts : List ℕ) (vs : List Version) (h : IsIndex c firsts vs) where
  pub names-whole : (p : Path) (e : ℕ) → p.dkey ≡ None → p.akey ≡ None → names_from p e (drop c vs) (names_from p e (picked firsts (take c vs)) []) ≡ names_from p e vs []
  names-whole p e d a =
      ap (names_from p e (drop c vs)) (sym (h.named.names p e d a))
      ∙ sym (names-append p e (take c vs) (drop c vs) [])
      ∙ ap (λ xs. names_from p e xs []) (take-append-drop c vs)

  pub punches-whole : (e : ℕ) → list_any (is_seen_punch e) vs ≡ (list_any (is_seen_punch e) (picked firsts (take c vs)) || list_any (is_seen_punch e) (drop c vs))
  punches-whole e =
      ap (list_any (is_seen_punch e)) (sym (take-append-drop c vs))
      ∙ list_any-append (is_seen_punch e) (take c vs) (drop c vs)
      ∙ ap (λ (b : Bool). b || list_any (is_seen_punch e) (drop c vs)) (h.named.punches e)
