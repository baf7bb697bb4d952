-- The last punch that is found at the places on a path's way is the last that covers the path.
use Rattle.std.proofs.Common.{◌≡◌, ℕ, ◌==◌, ◌&&◌, ◌||◌, nat_lt, Bool, true, false, List, [], ◌∷◌, Option, Some, None, refl, sym, ap, ◌∙◌, subst, arith, ◌⊎◌, inl, inr}
use Rattle.std.specs.Prelude.{All, if◌then◌else◌, is_none, is_some}
use Rattle.std.specs.List.{list_any}
use Rattle.std.specs.Option.{option_eq}
use Rattle.std.proofs.lemmas.Bool.Decides.{nat_tests}
use Rattle.std.proofs.lemmas.List.Elements.{All-cons, All-head, All-nil, All-tail}
use Rattle.base_types.specs.Keys.{same_key}
use Rattle.base_types.specs.Operations.{write_path}
use Rattle.base_types.specs.Paths.{cut_at, leads_to, same_object, same_path}
use Rattle.base_types.specs.declared.epoch.Epoch.{Epoch}
use Rattle.base_types.specs.declared.id.ContId.{ContId}
use Rattle.base_types.specs.declared.id.ObjId.{ObjId}
use Rattle.base_types.specs.declared.operation.Write.{Write}
use Rattle.base_types.specs.declared.operation.Write.TheVariants as write
use Rattle.base_types.specs.declared.path.Level.TheVariants.{Obj, Dkey}
use Rattle.base_types.specs.declared.path.Path.{Path}
use Rattle.daos_model.specs.Forms.{is_write_in_form}
use Rattle.daos_model.specs.Prunes.{is_punch}
use Rattle.daos_model.specs.Versions.{version_path}
use Rattle.daos_model.specs.declared.durable.Version.{Version}
use Rattle.vos_levels.specs.vos_values.declared.keys.Moment.{Moment}
use Rattle.vos_levels.specs.Levels.{or_else}
use Rattle.vos_levels.specs.Moments.{AllLater, is_earlier, same_moment}
use Rattle.vos_punches.specs.Moments.{AreInOrder, has_moment, is_below, itself, last_below, later_moment}
use Rattle.vos_punches.specs.Punches.{ArePunchesOf, IsLast, IsLastOver, PunchesAt, covering, covers, is_punch_of, moment_of}
use Rattle.vos_punches.proofs.Order.{same_equal, same_self}

clash : {X : Type 0} (b : Bool) → b ≡ true → b ≡ false → X
clash true h k = absurd (let n : ⊥ = cc in n)
clash false h k = absurd (let n : ⊥ = cc in n)

and_left : (a b : Bool) → (a && b) ≡ true → a ≡ true
and_left true b h = refl
and_left false b h = absurd (let n : ⊥ = cc in n)

and_right : (a b : Bool) → (a && b) ≡ true → b ≡ true
and_right true b h = h
and_right false b h = absurd (let n : ⊥ = cc in n)

both : (a b : Bool) → a ≡ true → b ≡ true → (a && b) ≡ true
both true b h k = k
both false b h k = absurd (let n : ⊥ = cc in n)

or_left : (a b : Bool) → a ≡ true → (a || b) ≡ true
or_left true b h = refl
or_left false b h = absurd (let n : ⊥ = cc in n)

or_right : (a b : Bool) → b ≡ true → (a || b) ≡ true
or_right true b h = refl
or_right false b h = h

-- ---- the paths that lead to a path

no_key : (x s t : Bool) → ((x && true) && true) ≡ (((x && true) && true) || (((x && s) && true) || ((x && s) && t)))
no_key true s t = refl
no_key false s t = refl

one_key : (x k t : Bool) → ((x && k) && true) ≡ (((x && false) && true) || (((x && k) && true) || ((x && k) && t)))
one_key true true t = refl
one_key true false t = refl
one_key false k t = refl

two_keys : (x k t : Bool) → ((x && k) && t) ≡ (((x && false) && false) || (((x && k) && false) || ((x && k) && t)))
two_keys true true t = refl
two_keys true false t = refl
two_keys false k t = refl

abbrev on_way : Path → Path → Bool
on_way q p = same_path q (cut_at Obj p) || (same_path q (cut_at Dkey p) || same_path q p)

way_from : (c : ContId) (o : ObjId) (d a : Option (List ℕ)) (p : Path) → (is_none a || is_some d) ≡ true → leads_to (record { cont = c; obj = Some o; dkey = d; akey = a }) p ≡ on_way (record { cont = c; obj = Some o; dkey = d; akey = a }) p
unfolding leads_to same_path
way_from c o None None p h = no_key ((c.0 == p.cont.0) && option_eq same_object (Some o) p.obj) (option_eq same_key None p.dkey) (option_eq same_key None p.akey)
way_from c o None (Some a) p h = absurd (let n : ⊥ = cc in n)
way_from c o (Some d) None p h = one_key ((c.0 == p.cont.0) && option_eq same_object (Some o) p.obj) (option_eq same_key (Some d) p.dkey) (option_eq same_key None p.akey)
way_from c o (Some d) (Some a) p h = two_keys ((c.0 == p.cont.0) && option_eq same_object (Some o) p.obj) (option_eq same_key (Some d) p.dkey) (option_eq same_key (Some a) p.akey)

-- a path of an object, a dkey or an akey
record IsPlace (q : Path) : Type 0 where
  object : is_some q.obj ≡ true
  keys : (is_none q.akey || is_some q.dkey) ≡ true

leads_on_way : (q p : Path) → IsPlace q → leads_to q p ≡ on_way q p
leads_on_way q p h = by q.obj h.object
  where
    by : (o : Option ObjId) → is_some o ≡ true → leads_to (record { cont = q.cont; obj = o; dkey = q.dkey; akey = q.akey }) p ≡ on_way (record { cont = q.cont; obj = o; dkey = q.dkey; akey = q.akey }) p
    by None e = absurd (let n : ⊥ = cc in n)
    by (Some o) e = way_from q.cont o q.dkey q.akey p h.keys

none_or : (a b : Bool) → a ≡ true → (a || b) ≡ true
none_or a b h = or_left a b h

punch_place : (w : Write) → is_punch w ≡ true → is_write_in_form w ≡ true → IsPlace (write_path w)
unfolding is_write_in_form
punch_place (write.Single p bytes) u h = absurd (let n : ⊥ = cc in n)
punch_place (write.Extent p low bytes) u h = absurd (let n : ⊥ = cc in n)
punch_place (write.PunchObject p) u h = record { object = and_left (is_some p.obj) (is_none p.dkey) (and_left (is_some p.obj && is_none p.dkey) (is_none p.akey) h); keys = or_left (is_none p.akey) (is_some p.dkey) (and_right (is_some p.obj && is_none p.dkey) (is_none p.akey) h) }
punch_place (write.PunchDkey p) u h = record { object = and_left (is_some p.obj) (is_some p.dkey) (and_left (is_some p.obj && is_some p.dkey) (is_none p.akey) h); keys = or_left (is_none p.akey) (is_some p.dkey) (and_right (is_some p.obj && is_some p.dkey) (is_none p.akey) h) }
punch_place (write.PunchAkey p) u h = record { object = and_left (is_some p.obj) (is_some p.dkey) (and_left (is_some p.obj && is_some p.dkey) (is_some p.akey) h); keys = or_right (is_none p.akey) (is_some p.dkey) (and_right (is_some p.obj) (is_some p.dkey) (and_left (is_some p.obj && is_some p.dkey) (is_some p.akey) h)) }

-- ---- the last of moments in order

not_itself : (m : Moment) → is_earlier m m ≡ false
not_itself m = grind (arith, nat_tests)

not_back : (m n : Moment) → is_earlier m n ≡ true → is_earlier n m ≡ false
not_back m n h = grind (arith, nat_tests)

later_here : (m n : Moment) (xs : List Moment) → AllLater itself m xs → has_moment n xs ≡ true → is_earlier m n ≡ true
later_here m n [] h k = absurd (let z : ⊥ = cc in z)
later_here m n (x ∷ xs) h k = by (same_moment x n) refl k (later_here m n xs h.1)
  where
    by : (b : Bool) → same_moment x n ≡ b → (b || has_moment n xs) ≡ true → (has_moment n xs ≡ true → is_earlier m n ≡ true) → is_earlier m n ≡ true
    by true e l r = subst (λ z. is_earlier m z ≡ true) (same_equal x n e) h.0
    by false e l r = r l

-- a moment is the last of some below an epoch, or there is none
record IsLastOf (e : Epoch) (m : Moment) (ms : List Moment) : Type 0 where
  there : has_moment m ms ≡ true
  low : is_below e m ≡ true
  last : (n : Moment) → has_moment n ms ≡ true → is_below e n ≡ true → is_earlier m n ≡ false

abbrev Tells : Epoch → Option Moment → List Moment → Type 0
Tells e None ms = (n : Moment) → has_moment n ms ≡ true → is_below e n ≡ true → ⊥
Tells e (Some m) ms = IsLastOf e m ms

last_tells : (e : Epoch) (ms : List Moment) → AreInOrder ms → Tells e (last_below e ms) ms
last_tells e [] o = λ n h l. clash false h refl
last_tells e (x ∷ xs) o = by (last_below e xs) (last_tells e xs o.1) (is_below e x) refl
  where
    none : (n : Moment) → (same_moment x n || has_moment n xs) ≡ true → is_below e n ≡ true → ((k : Moment) → has_moment k xs ≡ true → is_below e k ≡ true → ⊥) → is_below e x ≡ false → ⊥
    none n h l r f = split (same_moment x n) refl h
      where
        split : (b : Bool) → same_moment x n ≡ b → (b || has_moment n xs) ≡ true → ⊥
        split true s k = clash (is_below e x) (ap (is_below e) (same_equal x n s) ∙ l) f
        split false s k = r n k l

    first : (n : Moment) → (same_moment x n || has_moment n xs) ≡ true → is_below e n ≡ true → ((k : Moment) → has_moment k xs ≡ true → is_below e k ≡ true → ⊥) → is_earlier x n ≡ false
    first n h l r = split (same_moment x n) refl h
      where
        split : (b : Bool) → same_moment x n ≡ b → (b || has_moment n xs) ≡ true → is_earlier x n ≡ false
        split true s k = subst (λ z. is_earlier x z ≡ false) (same_equal x n s) (not_itself x)
        split false s k = absurd (r n k l)

    over : (y n : Moment) → IsLastOf e y xs → (same_moment x n || has_moment n xs) ≡ true → is_below e n ≡ true → is_earlier y n ≡ false
    over y n r h l = split (same_moment x n) refl h
      where
        split : (b : Bool) → same_moment x n ≡ b → (b || has_moment n xs) ≡ true → is_earlier y n ≡ false
        split true s k = subst (λ z. is_earlier y z ≡ false) (same_equal x n s) (not_back x y (later_here x y xs o.0 r.there))
        split false s k = r.last n k l

    by : (y : Option Moment) → Tells e y xs → (b : Bool) → is_below e x ≡ b → Tells e (or_else y (if b then Some x else None)) (x ∷ xs)
    by None r true f = record { there = or_left (same_moment x x) (has_moment x xs) (same_self x); low = f; last = λ n h l. first n h l r }
    by None r false f = λ n h l. none n h l r f
    by (Some y) r b f = record { there = or_right (same_moment x y) (has_moment y xs) r.there; low = r.low; last = λ n h l. over y n r h l }

-- ---- the later of two

later_none : (x y : Option Moment) → later_moment x y ≡ None → (x ≡ None) × (y ≡ None)
later_none None y h = (refl, h)
later_none (Some a) None h = absurd (let n : ⊥ = cc in n)
later_none (Some a) (Some b) h = absurd (by (is_earlier b a) h)
  where
    by : (t : Bool) → (if t then Some a else Some b) ≡ None → ⊥
    by true h = cc
    by false h = cc

-- none of an option is later than a moment
abbrev NotAfter : Moment → Option Moment → Type 0
NotAfter m None = Unit {0}
NotAfter m (Some a) = is_earlier m a ≡ false

record IsLater (m : Moment) (x y : Option Moment) : Type 0 where
  from : (x ≡ Some m) ⊎ (y ≡ Some m)
  first : NotAfter m x
  second : NotAfter m y

same_some : (m : Moment) (x : Option Moment) → x ≡ Some m → NotAfter m x
same_some m x h = subst (NotAfter m) (sym h) (not_itself m)

later_some : (x y : Option Moment) (m : Moment) → later_moment x y ≡ Some m → IsLater m x y
later_some None y m h = record { from = inr h; first = tt; second = same_some m y h }
later_some (Some a) None m h = record { from = inl h; first = same_some m (Some a) h; second = tt }
later_some (Some a) (Some b) m h = by (is_earlier b a) refl h
  where
    inside : (u v : Moment) → Some u ≡ Some v → u ≡ v
    inside u v h = cc

    by : (t : Bool) → is_earlier b a ≡ t → (if t then Some a else Some b) ≡ Some m → IsLater m (Some a) (Some b)
    by true e k = record { from = inl k; first = same_some m (Some a) k; second = subst (λ z. is_earlier z b ≡ false) (inside a m k) (not_back b a e) }
    by false e k = record { from = inr k; first = subst (λ z. is_earlier z a ≡ false) (inside b m k) e; second = same_some m (Some b) k }

-- ---- versions of a list

abbrev IsIn : Version → List Version → Type 0
IsIn v vs = (t : Version → Bool) → t v ≡ true → list_any t vs ≡ true

all_in : (P Q : Version → Type 0) (vs : List Version) → All Q vs → ((v : Version) → Q v → IsIn v vs → P v) → All P vs
all_in P Q [] q h = All-nil P
all_in P Q (v ∷ vs) q h =
    All-cons P v vs (h v (All-head Q v vs q) (λ t e. or_left (t v) (list_any t vs) e))
    (all_in P Q vs (All-tail Q v vs q) (λ w k i. h w k (λ t e. or_right (t v) (list_any t vs) (i t e))))

all_false : (t : Version → Bool) (vs : List Version) → All (λ v. t v ≡ true → ⊥) vs → list_any t vs ≡ false
all_false t [] h = refl
all_false t (v ∷ vs) h = by (t v) refl (all_false t vs (All-tail (λ v. t v ≡ true → ⊥) v vs h))
  where
    by : (b : Bool) → t v ≡ b → list_any t vs ≡ false → (b || list_any t vs) ≡ false
    by true e r = absurd (All-head (λ v. t v ≡ true → ⊥) v vs h e)
    by false e r = r

any_then : (Q : Version → Type 0) (s t : Version → Bool) (vs : List Version) → All Q vs → ((v : Version) → Q v → s v ≡ true → t v ≡ true) → list_any s vs ≡ true → list_any t vs ≡ true
any_then Q s t [] q h k = k
any_then Q s t (v ∷ vs) q h k = by (s v) refl k (any_then Q s t vs (All-tail Q v vs q) h)
  where
    by : (b : Bool) → s v ≡ b → (b || list_any s vs) ≡ true → (list_any s vs ≡ true → list_any t vs ≡ true) → (t v || list_any t vs) ≡ true
    by true e l r = or_left (t v) (list_any t vs) (h v (All-head Q v vs q) e)
    by false e l r = or_right (t v) (list_any t vs) (r l)

-- ---- what covers a path

abbrev InForm : Version → Type 0
InForm v = is_write_in_form v.write ≡ true

module _ (e : Epoch) (p : Path) (vs : List Version) (f : PunchesAt) (form : All InForm vs) (are : ArePunchesOf vs f) where
  found : (q : Path) → Option Moment
  found q = last_below e (f q)

  tells : (q : Path) → Tells e (last_below e (f q)) (f q)
  tells q = last_tells e (f q) (are.order q)

  -- a punch of the versions stands at its path
  stands : (q : Path) (v : Version) → IsIn v vs → is_punch v.write ≡ true → same_path (version_path v) q ≡ true → has_moment (moment_of v) (f q) ≡ true
  stands q v i u s = are.exact q (moment_of v) ∙ i (is_punch_of q (moment_of v)) (both (is_punch v.write) (same_path (version_path v) q && same_moment (moment_of v) (moment_of v)) u (both (same_path (version_path v) q) (same_moment (moment_of v) (moment_of v)) s (same_self (moment_of v))))

  none_at : (q : Path) (v : Version) → IsIn v vs → is_punch v.write ≡ true → nat_lt v.epoch.0 e.0 ≡ true → last_below e (f q) ≡ None → same_path (version_path v) q ≡ true → ⊥
  none_at q v i u l h s = (subst (λ z. Tells e z (f q)) h (tells q)) (moment_of v) (stands q v i u s) l

  not_after : (q : Path) (v : Version) (m : Moment) → IsIn v vs → is_punch v.write ≡ true → nat_lt v.epoch.0 e.0 ≡ true → NotAfter m (last_below e (f q)) → same_path (version_path v) q ≡ true → is_earlier m (moment_of v) ≡ false
  not_after q v m i u l h s = by (last_below e (f q)) (tells q) h
    where
      by : (x : Option Moment) → Tells e x (f q) → NotAfter m x → is_earlier m (moment_of v) ≡ false
      by None t k = absurd (t (moment_of v) (stands q v i u s) l)
      by (Some a) t k = not_later m a (moment_of v) k (t.last (moment_of v) (stands q v i u s) l)
        where
          not_later : (x y z : Moment) → is_earlier x y ≡ false → is_earlier y z ≡ false → is_earlier x z ≡ false
          not_later x y z g h = grind (arith, nat_tests)

  any_way : {X : Type 0} (v : Version) → on_way (version_path v) p ≡ true → (same_path (version_path v) (cut_at Obj p) ≡ true → X) → (same_path (version_path v) (cut_at Dkey p) ≡ true → X) → (same_path (version_path v) p ≡ true → X) → X
  any_way {X = X} v h x y z = by (same_path (version_path v) (cut_at Obj p)) (same_path (version_path v) (cut_at Dkey p)) refl refl h
    where
      by : (a b : Bool) → same_path (version_path v) (cut_at Obj p) ≡ a → same_path (version_path v) (cut_at Dkey p) ≡ b → (a || (b || same_path (version_path v) p)) ≡ true → X
      by true b e1 e2 k = x e1
      by false true e1 e2 k = y e2
      by false false e1 e2 k = z k

  way_of : (v : Version) → InForm v → covers e p v ≡ true → on_way (version_path v) p ≡ true
  way_of v h c =
      let u = and_left (is_punch v.write) (nat_lt v.epoch.0 e.0 && leads_to (version_path v) p) c in
      let l = and_right (nat_lt v.epoch.0 e.0) (leads_to (version_path v) p) (and_right (is_punch v.write) (nat_lt v.epoch.0 e.0 && leads_to (version_path v) p) c) in
      sym (leads_on_way (version_path v) p (punch_place v.write u h)) ∙ l

  is_one : (v : Version) → covers e p v ≡ true → is_punch v.write ≡ true
  is_one v c = and_left (is_punch v.write) (nat_lt v.epoch.0 e.0 && leads_to (version_path v) p) c

  is_low : (v : Version) → covers e p v ≡ true → nat_lt v.epoch.0 e.0 ≡ true
  is_low v c = and_left (nat_lt v.epoch.0 e.0) (leads_to (version_path v) p) (and_right (is_punch v.write) (nat_lt v.epoch.0 e.0 && leads_to (version_path v) p) c)

  -- where nothing is found, nothing covers the path
  no_cover : last_below e (f (cut_at Obj p)) ≡ None → last_below e (f (cut_at Dkey p)) ≡ None → last_below e (f p) ≡ None → list_any (covers e p) vs ≡ false
  no_cover x y z =
      all_false (covers e p) vs
      (all_in (λ v. covers e p v ≡ true → ⊥) InForm vs form (λ v h i c.
      any_way v (way_of v h c) (none_at (cut_at Obj p) v i (is_one v c) (is_low v c) x) (none_at (cut_at Dkey p) v i (is_one v c) (is_low v c) y) (none_at p v i (is_one v c) (is_low v c) z)))

  -- what is found at a place on the way covers the path
  covers_at : (q : Path) (m : Moment) → ((v : Version) → same_path (version_path v) q ≡ true → on_way (version_path v) p ≡ true) → last_below e (f q) ≡ Some m → list_any (λ v. covers e p v && same_moment (moment_of v) m) vs ≡ true
  covers_at q m on h =
      let t : IsLastOf e m (f q) = subst (λ z. Tells e z (f q)) h (tells q) in
      any_then InForm (is_punch_of q m) (λ v. covers e p v && same_moment (moment_of v) m) vs form
      (λ v k s.
      let u = and_left (is_punch v.write) (same_path (version_path v) q && same_moment (moment_of v) m) s in
      let r = and_right (is_punch v.write) (same_path (version_path v) q && same_moment (moment_of v) m) s in
      let path = and_left (same_path (version_path v) q) (same_moment (moment_of v) m) r in
      let same = and_right (same_path (version_path v) q) (same_moment (moment_of v) m) r in
      let low : nat_lt v.epoch.0 e.0 ≡ true = ap (is_below e) (same_equal (moment_of v) m same) ∙ t.low in
      let leads : leads_to (version_path v) p ≡ true = leads_on_way (version_path v) p (punch_place v.write u k) ∙ on v path in
      both (covers e p v) (same_moment (moment_of v) m) (both (is_punch v.write) (nat_lt v.epoch.0 e.0 && leads_to (version_path v) p) u (both (nat_lt v.epoch.0 e.0) (leads_to (version_path v) p) low leads)) same)
      (sym (are.exact q m) ∙ t.there)

  on_object : (v : Version) → same_path (version_path v) (cut_at Obj p) ≡ true → on_way (version_path v) p ≡ true
  on_object v h = or_left (same_path (version_path v) (cut_at Obj p)) (same_path (version_path v) (cut_at Dkey p) || same_path (version_path v) p) h

  on_dkey : (v : Version) → same_path (version_path v) (cut_at Dkey p) ≡ true → on_way (version_path v) p ≡ true
  on_dkey v h = or_right (same_path (version_path v) (cut_at Obj p)) (same_path (version_path v) (cut_at Dkey p) || same_path (version_path v) p) (or_left (same_path (version_path v) (cut_at Dkey p)) (same_path (version_path v) p) h)

  on_itself : (v : Version) → same_path (version_path v) p ≡ true → on_way (version_path v) p ≡ true
  on_itself v h = or_right (same_path (version_path v) (cut_at Obj p)) (same_path (version_path v) (cut_at Dkey p) || same_path (version_path v) p) (or_right (same_path (version_path v) (cut_at Dkey p)) (same_path (version_path v) p) h)

  -- the latest of the three is the last that covers the path
  latest : (m : Moment) → list_any (λ v. covers e p v && same_moment (moment_of v) m) vs ≡ true → NotAfter m (last_below e (f (cut_at Obj p))) → NotAfter m (last_below e (f (cut_at Dkey p))) → NotAfter m (last_below e (f p)) → IsLast (covers e p) m vs
  latest m there x y z = record {
    there = there;
    last = all_in (λ v. covers e p v ≡ true → is_earlier m (moment_of v) ≡ false) InForm vs form (λ v h i c.
        any_way v (way_of v h c) (not_after (cut_at Obj p) v m i (is_one v c) (is_low v c) x) (not_after (cut_at Dkey p) v m i (is_one v c) (is_low v c) y) (not_after p v m i (is_one v c) (is_low v c) z));
  }

  -- what is not after the later of two is after neither
  lower : (m : Moment) (x y : Option Moment) → NotAfter m (later_moment x y) → NotAfter m x × NotAfter m y
  lower m None y h = (tt, h)
  lower m (Some a) None h = (h, tt)
  lower m (Some a) (Some b) h = by (is_earlier b a) refl h
    where
      not_later : (u v w : Moment) → is_earlier u v ≡ false → is_earlier v w ≡ false → is_earlier u w ≡ false
      not_later u v w g k = grind (arith, nat_tests)

      by : (t : Bool) → is_earlier b a ≡ t → NotAfter m (if t then Some a else Some b) → NotAfter m (Some a) × NotAfter m (Some b)
      by true t k = (k, not_later m a b k (not_back b a t))
      by false t k = (not_later m b a k t, k)

  pub covering_last : IsLastOver (covering e p f) e p vs
  covering_last = by (covering e p f) refl
    where
      by : (o : Option Moment) → covering e p f ≡ o → IsLastOver o e p vs
      by None h =
          let one = later_none (last_below e (f (cut_at Obj p))) (later_moment (last_below e (f (cut_at Dkey p))) (last_below e (f p))) h in
          let two = later_none (last_below e (f (cut_at Dkey p))) (last_below e (f p)) one.1 in
          no_cover one.0 two.0 two.1
      by (Some m) h =
          let one = later_some (last_below e (f (cut_at Obj p))) (later_moment (last_below e (f (cut_at Dkey p))) (last_below e (f p))) m h in
          let low = lower m (last_below e (f (cut_at Dkey p))) (last_below e (f p)) one.second in
          latest m
          (elim one.from [
            | inl a ↦ covers_at (cut_at Obj p) m on_object a
            | inr b ↦ elim (later_some (last_below e (f (cut_at Dkey p))) (last_below e (f p)) m b).from [
              | inl c ↦ covers_at (cut_at Dkey p) m on_dkey c
              | inr d ↦ covers_at p m on_itself d
            ]
          ])
          one.first low.0 low.1
