-- What holds of marks that are planned from a place on.
use Rattle.std.proofs.Common.{◌≡◌, ℕ, zero, suc, ◌+◌, ◌<◌, ◌≤◌, Bool, true, false, ◌&&◌, ◌||◌, not, List, [], ◌∷◌, Option, Some, None, ◌-◌, length, get_or, set, map, refl, sym, subst, ◌∙◌, ap, arith}
use Rattle.std.specs.Prelude.{is_none, is_some}
use Rattle.std.specs.List.{list_all, list_any}
use Rattle.std.proofs.lemmas.List.{get_or-map, length-map}
use Rattle.base_types.specs.declared.epoch.Epoch.{Epoch}
use Rattle.base_types.specs.declared.id.ContId.{ContId}
use Rattle.base_types.specs.declared.operation.Write.{Write}
use Rattle.base_types.specs.declared.operation.Write.TheVariants.{Single, Extent, PunchObject, PunchDkey, PunchAkey}
use Rattle.base_types.specs.declared.path.Level.{Level}
use Rattle.base_types.specs.declared.path.Level.TheVariants.{Cont, Obj, Dkey, Akey}
use Rattle.base_types.specs.declared.path.Path.{Path}
use Rattle.base_types.specs.declared.snapshot.Snap.{Snap}
use Rattle.base_types.specs.Operations.{write_path}
use Rattle.base_types.specs.Paths.{cut_at, leads_to}
use Rattle.daos_model.specs.declared.durable.Version.{Version}
use Rattle.daos_model.specs.Answers.{is_before}
use Rattle.daos_model.specs.BoolLaws.{and_left, and_right, both, clash, false_of, not_true}
use Rattle.daos_model.specs.Durables.{version_key}
use Rattle.daos_model.specs.OrderLaws.{before-trans}
use Rattle.daos_model.specs.Ordered.{all_after, is_rising}
use Rattle.daos_model.specs.Prunes.{is_going, is_idle, is_in_sight, is_needing, is_old, is_punch, is_unseen}
use Rattle.daos_model.specs.Versions.{version_path}
use Rattle.vos_aggregate.specs.declared.buckets.Buckets.{Buckets}
use Rattle.vos_aggregate.specs.Buckets.{AreOf, bucket_by}
use Rattle.vos_aggregate.specs.Chains.{AreChained, LeadsTo}
use Rattle.vos_aggregate.specs.Places.{IsLastBefore}
use Rattle.vos_aggregate.specs.Saying.{AreLater, is_plain, is_plain_version}
use Rattle.vos_aggregate.specs.Sparing.{ArePlanned, goes_by, is_over, marks_from, needs, spared}
use Rattle.vos_aggregate.proofs.Covering.{parts-akey, parts-cont, parts-dkey, parts-obj}
use Rattle.vos_aggregate.proofs.Hiding.{plain-at, rising-at}
use Rattle.vos_aggregate.proofs.Planned.{goes-at, punch-at, stays-at}

-- ---- punches of a level

none-is : {T : Type 0} (x : Option T) → is_none x ≡ true → x ≡ None
none-is None e = refl
none-is (Some a) e = absurd (let n : ⊥ = cc in n)

same-record : (p q : Path) → p.cont.0 ≡ q.cont.0 → p.obj ≡ q.obj → p.dkey ≡ q.dkey → p.akey ≡ q.akey → p ≡ q
same-record p q cont obj dkey akey = λ i. record { cont = record { 0 = cont i }; obj = obj i; dkey = dkey i; akey = akey i }

-- a punch of a level that leads to a path is at that path, as far as the level
over-path : (l : Level) (q : Path) (w : Write) → is_plain w ≡ true → is_over l q w ≡ true → write_path w ≡ cut_at l q
unfolding is_plain
over-path Cont q w plain h = absurd (let n : ⊥ = cc in n)
over-path Obj q (Single p bytes) plain h = absurd (let n : ⊥ = cc in n)
over-path Obj q (Extent p low bytes) plain h = absurd (let n : ⊥ = cc in n)
over-path Obj q (PunchObject p) plain h =
    let two : (is_some p.obj && is_none p.dkey) ≡ true = and_left (is_some p.obj && is_none p.dkey) (is_none p.akey) plain in
    same-record p (cut_at Obj q) (parts-cont p q h) (parts-obj p q h (and_left (is_some p.obj) (is_none p.dkey) two)) (none-is p.dkey (and_right (is_some p.obj) (is_none p.dkey) two))
    (none-is p.akey (and_right (is_some p.obj && is_none p.dkey) (is_none p.akey) plain))
over-path Obj q (PunchDkey p) plain h = absurd (let n : ⊥ = cc in n)
over-path Obj q (PunchAkey p) plain h = absurd (let n : ⊥ = cc in n)
over-path Dkey q (Single p bytes) plain h = absurd (let n : ⊥ = cc in n)
over-path Dkey q (Extent p low bytes) plain h = absurd (let n : ⊥ = cc in n)
over-path Dkey q (PunchObject p) plain h = absurd (let n : ⊥ = cc in n)
over-path Dkey q (PunchDkey p) plain h =
    let two : (is_some p.obj && is_some p.dkey) ≡ true = and_left (is_some p.obj && is_some p.dkey) (is_none p.akey) plain in
    same-record p (cut_at Dkey q) (parts-cont p q h) (parts-obj p q h (and_left (is_some p.obj) (is_some p.dkey) two)) (parts-dkey p q h (and_right (is_some p.obj) (is_some p.dkey) two))
    (none-is p.akey (and_right (is_some p.obj && is_some p.dkey) (is_none p.akey) plain))
over-path Dkey q (PunchAkey p) plain h = absurd (let n : ⊥ = cc in n)
over-path Akey q (Single p bytes) plain h = absurd (let n : ⊥ = cc in n)
over-path Akey q (Extent p low bytes) plain h = absurd (let n : ⊥ = cc in n)
over-path Akey q (PunchObject p) plain h = absurd (let n : ⊥ = cc in n)
over-path Akey q (PunchDkey p) plain h = absurd (let n : ⊥ = cc in n)
over-path Akey q (PunchAkey p) plain h =
    let two : (is_some p.obj && is_some p.dkey) ≡ true = and_left (is_some p.obj && is_some p.dkey) (is_some p.akey) plain in
    same-record p q (parts-cont p q h) (parts-obj p q h (and_left (is_some p.obj) (is_some p.dkey) two)) (parts-dkey p q h (and_right (is_some p.obj) (is_some p.dkey) two))
    (parts-akey p q h (and_right (is_some p.obj && is_some p.dkey) (is_some p.akey) plain))

over-punch : (l : Level) (q : Path) (w : Write) → is_over l q w ≡ true → is_punch w ≡ true
over-punch Cont q w h = absurd (let n : ⊥ = cc in n)
over-punch Obj q (Single p bytes) h = absurd (let n : ⊥ = cc in n)
over-punch Obj q (Extent p low bytes) h = absurd (let n : ⊥ = cc in n)
over-punch Obj q (PunchObject p) h = refl
over-punch Obj q (PunchDkey p) h = refl
over-punch Obj q (PunchAkey p) h = refl
over-punch Dkey q (Single p bytes) h = absurd (let n : ⊥ = cc in n)
over-punch Dkey q (Extent p low bytes) h = absurd (let n : ⊥ = cc in n)
over-punch Dkey q (PunchObject p) h = refl
over-punch Dkey q (PunchDkey p) h = refl
over-punch Dkey q (PunchAkey p) h = refl
over-punch Akey q (Single p bytes) h = absurd (let n : ⊥ = cc in n)
over-punch Akey q (Extent p low bytes) h = absurd (let n : ⊥ = cc in n)
over-punch Akey q (PunchObject p) h = refl
over-punch Akey q (PunchDkey p) h = refl
over-punch Akey q (PunchAkey p) h = refl

over-code : (l m : Level) (q r : Path) (v w : Write) → is_over l q v ≡ true → is_over m r v ≡ true → is_over m r w ≡ true → write_path w ≡ write_path v → is_over l q w ≡ true
over-code Cont m q r v w h k t e = absurd (let n : ⊥ = cc in n)
over-code Obj m q r (Single p bytes) w h k t e = absurd (let n : ⊥ = cc in n)
over-code Obj m q r (Extent p low bytes) w h k t e = absurd (let n : ⊥ = cc in n)
over-code Obj m q r (PunchDkey p) w h k t e = absurd (let n : ⊥ = cc in n)
over-code Obj m q r (PunchAkey p) w h k t e = absurd (let n : ⊥ = cc in n)
over-code Obj Cont q r (PunchObject p) w h k t e = absurd (let n : ⊥ = cc in n)
over-code Obj Dkey q r (PunchObject p) w h k t e = absurd (let n : ⊥ = cc in n)
over-code Obj Akey q r (PunchObject p) w h k t e = absurd (let n : ⊥ = cc in n)
over-code Obj Obj q r (PunchObject p) (PunchObject s) h k t e = ap (λ x. leads_to x q) e ∙ h
over-code Obj Obj q r (PunchObject p) (Single s bytes) h k t e = absurd (let n : ⊥ = cc in n)
over-code Obj Obj q r (PunchObject p) (Extent s low bytes) h k t e = absurd (let n : ⊥ = cc in n)
over-code Obj Obj q r (PunchObject p) (PunchDkey s) h k t e = absurd (let n : ⊥ = cc in n)
over-code Obj Obj q r (PunchObject p) (PunchAkey s) h k t e = absurd (let n : ⊥ = cc in n)
over-code Dkey m q r (Single p bytes) w h k t e = absurd (let n : ⊥ = cc in n)
over-code Dkey m q r (Extent p low bytes) w h k t e = absurd (let n : ⊥ = cc in n)
over-code Dkey m q r (PunchObject p) w h k t e = absurd (let n : ⊥ = cc in n)
over-code Dkey m q r (PunchAkey p) w h k t e = absurd (let n : ⊥ = cc in n)
over-code Dkey Cont q r (PunchDkey p) w h k t e = absurd (let n : ⊥ = cc in n)
over-code Dkey Obj q r (PunchDkey p) w h k t e = absurd (let n : ⊥ = cc in n)
over-code Dkey Akey q r (PunchDkey p) w h k t e = absurd (let n : ⊥ = cc in n)
over-code Dkey Dkey q r (PunchDkey p) (PunchDkey s) h k t e = ap (λ x. leads_to x q) e ∙ h
over-code Dkey Dkey q r (PunchDkey p) (Single s bytes) h k t e = absurd (let n : ⊥ = cc in n)
over-code Dkey Dkey q r (PunchDkey p) (Extent s low bytes) h k t e = absurd (let n : ⊥ = cc in n)
over-code Dkey Dkey q r (PunchDkey p) (PunchObject s) h k t e = absurd (let n : ⊥ = cc in n)
over-code Dkey Dkey q r (PunchDkey p) (PunchAkey s) h k t e = absurd (let n : ⊥ = cc in n)
over-code Akey m q r (Single p bytes) w h k t e = absurd (let n : ⊥ = cc in n)
over-code Akey m q r (Extent p low bytes) w h k t e = absurd (let n : ⊥ = cc in n)
over-code Akey m q r (PunchObject p) w h k t e = absurd (let n : ⊥ = cc in n)
over-code Akey m q r (PunchDkey p) w h k t e = absurd (let n : ⊥ = cc in n)
over-code Akey Cont q r (PunchAkey p) w h k t e = absurd (let n : ⊥ = cc in n)
over-code Akey Obj q r (PunchAkey p) w h k t e = absurd (let n : ⊥ = cc in n)
over-code Akey Dkey q r (PunchAkey p) w h k t e = absurd (let n : ⊥ = cc in n)
over-code Akey Akey q r (PunchAkey p) (PunchAkey s) h k t e = ap (λ x. leads_to x q) e ∙ h
over-code Akey Akey q r (PunchAkey p) (Single s bytes) h k t e = absurd (let n : ⊥ = cc in n)
over-code Akey Akey q r (PunchAkey p) (Extent s low bytes) h k t e = absurd (let n : ⊥ = cc in n)
over-code Akey Akey q r (PunchAkey p) (PunchObject s) h k t e = absurd (let n : ⊥ = cc in n)
over-code Akey Akey q r (PunchAkey p) (PunchDkey s) h k t e = absurd (let n : ⊥ = cc in n)

same-over : (l m : Level) (q r : Path) (v w : Write) → is_plain v ≡ true → is_plain w ≡ true → is_over l q v ≡ true → is_over m r v ≡ true → is_over m r w ≡ true → is_over l q w ≡ true
same-over l m q r v w pv pw h k t = over-code l m q r v w h k t (over-path m r w pw t ∙ sym (over-path m r v pv k))

-- ---- marks that are spared

pub spared-length : (l : Level) (q : Path) (ms : List Bool) (vs : List Version) → length (spared l q ms vs) ≡ length ms
spared-length l q [] vs = refl
spared-length l q (m ∷ ms) [] = refl
spared-length l q (m ∷ ms) (v ∷ vs) = omega (arith, spared-length l q ms vs)

spared-false : (l : Level) (q : Path) (ms : List Bool) (vs : List Version) (k : ℕ) → get_or ms k false ≡ false → get_or (spared l q ms vs) k false ≡ false
spared-false l q [] vs k e = e
spared-false l q (m ∷ ms) [] k e = e
spared-false l q (m ∷ ms) (v ∷ vs) zero e = ap (λ b. b && not (is_over l q v.write)) e
spared-false l q (m ∷ ms) (v ∷ vs) (suc k) e = spared-false l q ms vs k e

-- a mark that was taken is one of a punch over the path
spared-taken : (l : Level) (q : Path) (ms : List Bool) (vs : List Version) (k : ℕ) (d : Version) → k < length vs → length ms ≡ length vs → get_or ms k false ≡ true → get_or (spared l q ms vs) k false ≡ false → is_over l q (get_or vs k d).write ≡ true
spared-taken l q [] vs k d lt e h t = absurd (let n : ⊥ = cc in n)
spared-taken l q (m ∷ ms) [] k d lt e h t = absurd (omega arith)
spared-taken l q (m ∷ ms) (v ∷ vs) zero d lt e h t = by m (is_over l q v.write) h t
  where
    by : (a o : Bool) → a ≡ true → (a && not o) ≡ false → o ≡ true
    by true true x y = refl
    by true false x y = absurd (let n : ⊥ = cc in n)
    by false o x y = absurd (let n : ⊥ = cc in n)
spared-taken l q (m ∷ ms) (v ∷ vs) (suc k) d lt e h t = spared-taken l q ms vs k d (omega arith) (omega arith) h t

-- a mark of a punch over the path is taken
spared-over : (l : Level) (q : Path) (ms : List Bool) (vs : List Version) (k : ℕ) (d : Version) → k < length vs → is_over l q (get_or vs k d).write ≡ true → get_or (spared l q ms vs) k false ≡ false
spared-over l q [] vs k d lt h = refl
spared-over l q (m ∷ ms) [] k d lt h = absurd (omega arith)
spared-over l q (m ∷ ms) (v ∷ vs) zero d lt h = by m (is_over l q v.write) h
  where
    by : (a o : Bool) → o ≡ true → (a && not o) ≡ false
    by true true e = refl
    by false true e = refl
    by a false e = absurd (let n : ⊥ = cc in n)
spared-over l q (m ∷ ms) (v ∷ vs) (suc k) d lt h = spared-over l q ms vs k d (omega arith) h

true_of : (b : Bool) → (b ≡ false → ⊥) → b ≡ true
true_of true h = refl
true_of false h = absurd (h refl)

pub planned-spared : (c : ContId) (upto : Epoch) (n : ℕ) (ms : List Bool) (vs : List Version) (l : Level) (q : Path) → list_all is_plain_version vs ≡ true → ArePlanned c upto n ms vs → ArePlanned c upto n (spared l q ms vs) vs
planned-spared c upto n ms vs l q plain p = record {
  each = spared-length l q ms vs ∙ p.each;
  before = λ k lt. spared-false l q ms vs k (p.before k lt);
  old = λ k d lt h. p.old k d lt (true_of (get_or ms k false) (λ e. clash (get_or (spared l q ms vs) k false) h (spared-false l q ms vs k e)));
  behind = λ m r j k d from lt in' oj ok old free. by m r j k d from lt in' oj ok old free (get_or ms j false) refl;
}
  where
    by : (m : Level) (r : Path) (j k : ℕ) (d : Version) → n ≤ j → j < k → k < length vs → is_over m r (get_or vs j d).write ≡ true → is_over m r (get_or vs k d).write ≡ true
        → is_old c upto (get_or vs j d) ≡ true → get_or (spared l q ms vs) j false ≡ false → (b : Bool) → get_or ms j false ≡ b → get_or (spared l q ms vs) k false ≡ false
    by m r j k d from lt in' oj ok old free false e = spared-false l q ms vs k (p.behind m r j k d from lt in' oj ok old e)
    by m r j k d from lt in' oj ok old free true e =
        let there : j < length vs = omega arith in
        spared-over l q ms vs k d in'
        (same-over l m q r (get_or vs j d).write (get_or vs k d).write (plain-at vs j d there plain) (plain-at vs k d in' plain) (spared-taken l q ms vs j d there p.each e free) oj ok)

-- ---- marks that are planned

module _ (unseen : Version → Bool) (c : ContId) (upto : Epoch) (calm : (w : Version) → is_punch w.write ≡ true → unseen w ≡ false) (aged : (w : Version) → unseen w ≡ true → is_old c upto w ≡ true) where
  goes-old : (us : List Version) (w : Version) → goes_by unseen c upto us w ≡ true → is_old c upto w ≡ true
  unfolding goes_by
  goes-old us w h = by (unseen w) refl h
    where
      by : (u : Bool) → unseen w ≡ u → (u || (is_old c upto w && is_punch w.write && not (list_any (needs unseen w) us))) ≡ true → is_old c upto w ≡ true
      by true e k = aged w e
      by false e k =
          and_left (is_old c upto w) (is_punch w.write) (and_left (is_old c upto w && is_punch w.write) (not (list_any (needs unseen w) us)) k)

  -- an update that needs a punch needs each after it at the same path
  needs-later : (v w u : Version) → is_before (version_key v) (version_key w) ≡ true → version_path v ≡ version_path w → needs unseen v u ≡ true → needs unseen w u ≡ true
  unfolding needs
  needs-later v w u lt same h =
      let a : (not (is_punch u.write) && not (is_before (version_key v) (version_key u)) && leads_to (version_path v) (version_path u)) ≡ true =
      and_left (not (is_punch u.write) && not (is_before (version_key v) (version_key u)) && leads_to (version_path v) (version_path u)) (not (unseen u)) h in
      let b : (not (is_punch u.write) && not (is_before (version_key v) (version_key u))) ≡ true =
      and_left (not (is_punch u.write) && not (is_before (version_key v) (version_key u))) (leads_to (version_path v) (version_path u)) a in
      let free : is_before (version_key v) (version_key u) ≡ false = not_true (is_before (version_key v) (version_key u)) (and_right (not (is_punch u.write)) (not (is_before (version_key v) (version_key u))) b) in
      let later : is_before (version_key w) (version_key u) ≡ false = false_of (is_before (version_key w) (version_key u)) (λ k. clash (is_before (version_key v) (version_key u)) (before-trans (version_key v) (version_key w) (version_key u) lt k) free) in
      both (not (is_punch u.write) && not (is_before (version_key w) (version_key u)) && leads_to (version_path w) (version_path u)) (not (unseen u))
      (both (not (is_punch u.write) && not (is_before (version_key w) (version_key u))) (leads_to (version_path w) (version_path u))
      (both (not (is_punch u.write)) (not (is_before (version_key w) (version_key u))) (and_left (not (is_punch u.write)) (not (is_before (version_key v) (version_key u))) b) (ap not later))
      (ap (λ p. leads_to p (version_path u)) (sym same) ∙ and_right (not (is_punch u.write) && not (is_before (version_key v) (version_key u))) (leads_to (version_path v) (version_path u)) a))
      (and_right (not (is_punch u.write) && not (is_before (version_key v) (version_key u)) && leads_to (version_path v) (version_path u)) (not (unseen u)) h)

  or-more : (a b x y : Bool) → (a ≡ true → b ≡ true) → (x ≡ true → y ≡ true) → (a || x) ≡ true → (b || y) ≡ true
  or-more a true x y m k h = refl
  or-more true false x y m k h = absurd (let e : false ≡ true = m refl in let n : ⊥ = cc in n)
  or-more false false x y m k h = k h

  any-more : (f g : Version → Bool) → ((u : Version) → f u ≡ true → g u ≡ true) → (us : List Version) → list_any f us ≡ true → list_any g us ≡ true
  any-more f g more [] h = h
  any-more f g more (u ∷ us) h = or-more (f u) (g u) (list_any f us) (list_any g us) (more u) (any-more f g more us) h

  needed : (o p a : Bool) (u : Bool) → o ≡ true → p ≡ true → (u || (o && p && not a)) ≡ false → a ≡ true
  needed true true true u e f h = refl
  needed true true false true e f h = absurd (let n : ⊥ = cc in n)
  needed true true false false e f h = absurd (let n : ⊥ = cc in n)
  needed true false a u e f h = absurd (let n : ⊥ = cc in n)
  needed false p a u e f h = absurd (let n : ⊥ = cc in n)

  kept : (o p a u : Bool) → u ≡ false → a ≡ true → (u || (o && p && not a)) ≡ false
  kept true true true false e f = refl
  kept true false true false e f = refl
  kept false p true false e f = refl
  kept o p a true e f = absurd (let n : ⊥ = cc in n)
  kept o p false false e f = absurd (let n : ⊥ = cc in n)

  -- where a punch stays, one after it at the same path does
  goes-behind : (us : List Version) (v w : Version) → is_before (version_key v) (version_key w) ≡ true → version_path v ≡ version_path w → is_punch v.write ≡ true → is_punch w.write ≡ true
      → is_old c upto v ≡ true → goes_by unseen c upto us v ≡ false → goes_by unseen c upto us w ≡ false
  unfolding goes_by
  goes-behind us v w lt same pv pw old h =
      let a : list_any (needs unseen v) us ≡ true = needed (is_old c upto v) (is_punch v.write) (list_any (needs unseen v) us) (unseen v) old pv h in
      kept (is_old c upto w) (is_punch w.write) (list_any (needs unseen w) us) (unseen w) (calm w pw) (any-more (needs unseen v) (needs unseen w) (λ u. needs-later v w u lt same) us a)

  pub marks-length : (n : ℕ) (vs : List Version) → length (marks_from unseen c upto n vs) ≡ length vs
  marks-length zero vs = length-map vs (goes_by unseen c upto vs)
  marks-length (suc n) [] = refl
  marks-length (suc n) (v ∷ vs) = omega (arith, marks-length n vs)

  marks-before : (n : ℕ) (vs : List Version) (k : ℕ) → k < n → get_or (marks_from unseen c upto n vs) k false ≡ false
  marks-before zero vs k lt = absurd (omega arith)
  marks-before (suc n) [] k lt = refl
  marks-before (suc n) (v ∷ vs) zero lt = refl
  marks-before (suc n) (v ∷ vs) (suc k) lt = marks-before n vs k (omega arith)

  marks-old : (n : ℕ) (vs : List Version) (k : ℕ) (d : Version) → k < length vs → get_or (marks_from unseen c upto n vs) k false ≡ true → is_old c upto (get_or vs k d) ≡ true
  marks-old zero vs k d lt h = goes-old vs (get_or vs k d) (sym (get_or-map (goes_by unseen c upto vs) vs k d false lt) ∙ h)
  marks-old (suc n) [] k d lt h = absurd (omega arith)
  marks-old (suc n) (v ∷ vs) zero d lt h = absurd (let k : ⊥ = cc in k)
  marks-old (suc n) (v ∷ vs) (suc k) d lt h = marks-old n vs k d (omega arith) h

  marks-behind : (n : ℕ) (vs : List Version) → is_rising version_key vs ≡ true → list_all is_plain_version vs ≡ true → (l : Level) (q : Path) (j k : ℕ) (d : Version) → n ≤ j → j < k → k < length vs
      → is_over l q (get_or vs j d).write ≡ true → is_over l q (get_or vs k d).write ≡ true → is_old c upto (get_or vs j d) ≡ true
      → get_or (marks_from unseen c upto n vs) j false ≡ false → get_or (marks_from unseen c upto n vs) k false ≡ false
  marks-behind zero vs rising plain l q j k d from lt in' oj ok old free =
      let v : Version = get_or vs j d in
      let w : Version = get_or vs k d in
      let there : j < length vs = omega arith in
      get_or-map (goes_by unseen c upto vs) vs k d false in'
      ∙ goes-behind vs v w (rising-at vs j k d d lt in' rising)
      (over-path l q v.write (plain-at vs j d there plain) oj ∙ sym (over-path l q w.write (plain-at vs k d in' plain) ok))
      (over-punch l q v.write oj) (over-punch l q w.write ok) old (sym (get_or-map (goes_by unseen c upto vs) vs j d false there) ∙ free)
  marks-behind (suc n) [] rising plain l q j k d from lt in' oj ok old free = absurd (omega arith)
  marks-behind (suc n) (v ∷ vs) rising plain l q zero k d from lt in' oj ok old free = absurd (omega arith)
  marks-behind (suc n) (v ∷ vs) rising plain l q (suc j) zero d from lt in' oj ok old free = absurd (omega arith)
  marks-behind (suc n) (v ∷ vs) rising plain l q (suc j) (suc k) d from lt in' oj ok old free =
      marks-behind n vs (and_right (all_after version_key (version_key v) vs) (is_rising version_key vs) rising) (and_right (is_plain v.write) (list_all is_plain_version vs) plain) l q j k d (omega arith) (omega arith) (omega arith) oj ok old free

  pub marks-planned : (n : ℕ) (vs : List Version) → is_rising version_key vs ≡ true → list_all is_plain_version vs ≡ true → ArePlanned c upto n (marks_from unseen c upto n vs) vs
  marks-planned n vs rising plain = record {
    each = marks-length n vs;
    before = marks-before n vs;
    old = marks-old n vs;
    behind = marks-behind n vs rising plain;
  }

  -- as long as all versions, with none set, they are planned from the end on
  pub none-planned : (ms : List Bool) (vs : List Version) → length ms ≡ length vs → ((k : ℕ) → get_or ms k false ≡ false) → ms ≡ marks_from unseen c upto (length vs) vs
  none-planned [] [] e none = refl
  none-planned [] (v ∷ vs) e none = absurd (omega arith)
  none-planned (m ∷ ms) [] e none = absurd (omega arith)
  none-planned (m ∷ ms) (v ∷ vs) e none = ap (λ b. b ∷ ms) (none 0) ∙ ap (λ xs. false ∷ xs) (none-planned ms vs (omega arith) (λ k. none (suc k)))

-- ---- the updates that a prune removes

module _ (c : ContId) (upto : Epoch) (vs : List Version) (snaps : List Snap) where
  unseen-calm : (w : Version) → is_punch w.write ≡ true → is_unseen c upto vs snaps w ≡ false
  unfolding is_unseen
  unseen-calm w h = by (is_old c upto w) (is_punch w.write) (is_in_sight c upto vs snaps w) h
    where
      by : (o p s : Bool) → p ≡ true → (o && not p && not s) ≡ false
      by true true s e = refl
      by false true s e = refl
      by o false s e = absurd (let n : ⊥ = cc in n)

  unseen-aged : (w : Version) → is_unseen c upto vs snaps w ≡ true → is_old c upto w ≡ true
  unfolding is_unseen
  unseen-aged w h = and_left (is_old c upto w) (not (is_punch w.write)) (and_left (is_old c upto w && not (is_punch w.write)) (not (is_in_sight c upto vs snaps w)) h)

  -- planned from the first version on, they are those that go
  pub all-going : marks_from (is_unseen c upto vs snaps) c upto 0 vs ≡ map (is_going c upto vs snaps) vs
  unfolding goes_by needs is_going is_idle is_needing
  all-going = refl

  pub start-planned : (ms : List Bool) → length ms ≡ length vs → ((k : ℕ) → get_or ms k false ≡ false) → ms ≡ marks_from (is_unseen c upto vs snaps) c upto (length vs) vs
  start-planned ms each none = none-planned (is_unseen c upto vs snaps) c upto unseen-calm unseen-aged ms vs each none

  module _ (rising : is_rising version_key vs ≡ true) (plain : list_all is_plain_version vs ≡ true) where
    pub unseen-planned : (n : ℕ) (ms : List Bool) → ms ≡ marks_from (is_unseen c upto vs snaps) c upto n vs → ArePlanned c upto n ms vs
    unseen-planned n ms is = subst (λ (xs : List Bool). ArePlanned c upto n xs vs) (sym is) (marks-planned (is_unseen c upto vs snaps) c upto unseen-calm unseen-aged n vs rising plain)

    module _ (v : Version) (at start : ℕ) (next : start ≡ at + 1) (last : IsLastBefore vs start v) (ms : List Bool) (is : ms ≡ marks_from (is_unseen c upto vs snaps) c upto (at + 1) vs) where
      here : get_or vs at v ≡ v
      here = let same : start - 1 ≡ at = omega arith in ap (λ n. get_or vs n v) (sym same) ∙ last.is

      there : at < length vs
      there = omega (arith, last.within)

      from-next : ms ≡ marks_from (is_unseen c upto vs snaps) c upto (suc at) vs
      from-next = let same : at + 1 ≡ suc at = omega arith in is ∙ ap (λ n. marks_from (is_unseen c upto vs snaps) c upto n vs) same

      pub mark-within : at < length ms
      mark-within = let each : length ms ≡ length vs = (unseen-planned (at + 1) ms is).each in omega (arith, there)

      pub mark-punch : is_punch v.write ≡ true → set ms at (is_old c upto v) ≡ marks_from (is_unseen c upto vs snaps) c upto at vs
      mark-punch punch = ap (λ xs. set xs at (is_old c upto v)) from-next ∙ punch-at (is_unseen c upto vs snaps) c upto unseen-calm v punch vs at there here rising

      pub mark-goes : is_punch v.write ≡ false → is_unseen c upto vs snaps v ≡ true → set ms at true ≡ marks_from (is_unseen c upto vs snaps) c upto at vs
      mark-goes update goes =
          ap (λ xs. set xs at true) from-next ∙ ap (λ b. set (marks_from (is_unseen c upto vs snaps) c upto (suc at) vs) at b) (sym goes)
          ∙ goes-at (is_unseen c upto vs snaps) c upto unseen-calm v update goes vs at there here rising

      pub mark-stays : (q : Path) (ns : List Bool) → q ≡ write_path v.write → ns ≡ spared Akey q (spared Dkey q (spared Obj q ms vs) vs) vs → is_punch v.write ≡ false → is_unseen c upto vs snaps v ≡ false
          → set ns at false ≡ marks_from (is_unseen c upto vs snaps) c upto at vs
      mark-stays q ns same spare update stays =
          ap (λ xs. set xs at false) (spare ∙ ap (λ p. spared Akey p (spared Dkey p (spared Obj p ms vs) vs) vs) same)
          ∙ ap (λ xs. set (spared Akey (write_path v.write) (spared Dkey (write_path v.write) (spared Obj (write_path v.write) xs vs) vs) vs) at false) from-next
          ∙ ap (λ b. set (spared Akey (write_path v.write) (spared Dkey (write_path v.write) (spared Obj (write_path v.write) (marks_from (is_unseen c upto vs snaps) c upto (suc at) vs) vs) vs) vs) at b) (sym stays)
          ∙ stays-at (is_unseen c upto vs snaps) c upto unseen-calm v update stays vs at there here rising

-- ---- places

pub last-at : (vs : List Version) (at : ℕ) (v : Version) → at < length vs → v ≡ get_or vs at v → IsLastBefore vs (at + 1) v
last-at vs at v lt is = record {
  some = omega arith;
  within = omega arith;
  is = let same : at + 1 - 1 ≡ at = omega arith in ap (λ n. get_or vs n v) same ∙ sym is;
}

pub own-count : (m : ℕ) (p : Path) (b : Buckets) → AreOf m p b → AreOf b.count p b
own-count m p b of = subst (λ n. AreOf n p b) (sym of.count) of

-- one place more in chains
pub later-more : (vs : List Version) (heads nexts hs ns : List ℕ) (at : ℕ) → AreLater vs heads nexts (at + 1) → length hs ≡ length heads → length ns ≡ length nexts
    → ((bs : List ℕ) → length bs ≡ length nexts → get_or bs at 0 ≡ get_or (map (bucket_by (length heads)) vs) at 0 → AreChained bs heads nexts (at + 1) → AreChained bs hs ns at)
    → AreLater vs hs ns at
later-more vs heads nexts hs ns at later lh ln more = record {
  chained = subst (λ n. AreChained (map (bucket_by n) vs) hs ns at) (sym lh) (more (map (bucket_by (length heads)) vs) (length-map vs (bucket_by (length heads)) ∙ sym later.all) refl later.chained);
  rising = later.rising;
  plain = later.plain;
  some = omega (arith, later.some);
  all = ln ∙ later.all;
}

-- none in chains
pub none-later : (vs : List Version) (heads nexts : List ℕ) → is_rising version_key vs ≡ true → list_all is_plain_version vs ≡ true → 0 < length vs → length heads ≡ length vs → length nexts ≡ length vs
    → ((k : ℕ) → k < length vs → get_or heads k 0 ≡ length vs) → AreLater vs heads nexts (length vs)
none-later vs heads nexts rising plain some lh ln ends = record {
  chained = record {
    heads_lead = λ b lt. ended b (get_or heads b 0) (ends b (omega arith));
    nexts_lead = λ j from lt. absurd (omega (arith, length-map vs (bucket_by (length heads))));
  };
  rising = rising;
  plain = plain;
  some = omega arith;
  all = ln;
}
  where
    ended : (b at : ℕ) → at ≡ length vs → LeadsTo (map (bucket_by (length heads)) vs) b (length vs) at
    ended b at e = record {
      above = omega arith;
      within = omega (arith, length-map vs (bucket_by (length heads)));
      none = λ j from lt. absurd (omega arith);
      same = λ lt. absurd (omega (arith, length-map vs (bucket_by (length heads))));
    }
