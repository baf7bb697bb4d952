-- Lists to which several come, and lists in the order of a key.
use Rattle.std.proofs.Common.{◌≡◌, ℕ, ◌+◌, ◌≤◌, Bool, true, false, List, [], ◌∷◌, ◌++◌, length, refl, sym, ap, ◌∙◌, subst, arith}
use Rattle.std.specs.Prelude.{◌≢◌, All, filter}
use Rattle.std.proofs.lemmas.List.Elements.{All-append, All-cons, All-head, All-nil, All-tail, filter-append}
use Rattle.base_types.specs.declared.entry.Entry.{Entry}
use Rattle.daos_model.specs.declared.durable.Version.{Version}
use Rattle.daos_model.specs.Durables.{entry_key, version_key}
use Rattle.daos_model.specs.Ordered.{in_order, put, puts}
use Rattle.vos_levels.specs.Levels.{HasMore}
use Rattle.vos_pool_write.specs.Lists.{AreNew, EntriesComeInOrder, HaveMore, VersionsComeInOrder}
use Rattle.vos_tables.proofs.Order.{put-put}

-- ---- what all of a list have

pub all_front : {A : Type 0} (P : A → Type 0) (xs ys : List A) → All P (xs ++ ys) → All P xs
all_front P [] ys h = All-nil P
all_front P (x ∷ xs) ys h = All-cons P x xs (All-head P x (xs ++ ys) h) (all_front P xs ys (All-tail P x (xs ++ ys) h))

pub all_back : {A : Type 0} (P : A → Type 0) (xs ys : List A) → All P (xs ++ ys) → All P ys
all_back P [] ys h = h
all_back P (x ∷ xs) ys h = all_back P xs ys (All-tail P x (xs ++ ys) h)

pub all_more : {A : Type 0} (P : A → Type 0) (v : A) (xs ys : List A) → HasMore v xs ys → P v → All P xs → All P ys
all_more P v xs ys m here h =
    let parts = subst (All P) m.before_is h in
    subst (All P) (sym m.after_is) (All-append P m.left (v ∷ m.right) (all_front P m.left m.right parts) (All-cons P v m.right here (all_back P m.left m.right parts)))

pub all_fewer : {A : Type 0} (P : A → Type 0) (v : A) (xs ys : List A) → HasMore v xs ys → All P ys → All P xs
all_fewer P v xs ys m h =
    let parts = subst (All P) m.after_is h in
    subst (All P) (sym m.before_is) (All-append P m.left m.right (all_front P m.left (v ∷ m.right) parts) (All-tail P v m.right (all_back P m.left (v ∷ m.right) parts)))

pub all_have : {A : Type 0} (P : A → Type 0) (vs xs ys : List A) → HaveMore vs xs ys → All P vs → All P xs → All P ys
all_have P [] xs ys is new h = subst (All P) (sym is) h
all_have P (v ∷ vs) xs ys m new h = all_have P vs m.0 ys m.1.1 (All-tail P v vs new) (all_more P v xs m.0 m.1.0 (All-head P v vs new) h)

-- one more comes behind several
pub have_last : {A : Type 0} (vs : List A) (v : A) (xs ys zs : List A) → HaveMore vs xs ys → HasMore v ys zs → HaveMore (vs ++ v ∷ []) xs zs
have_last [] v xs ys zs is m = (zs, (subst (λ l. HasMore v l zs) is m, refl))
have_last (u ∷ vs) v xs ys zs h m = (h.0, (h.1.0, have_last vs v h.0 ys zs h.1.1 m))

-- ---- tests

pub filter_none : {A : Type 0} (p : A → Bool) (v : A) (xs ys : List A) → HasMore v xs ys → p v ≡ false → filter p ys ≡ filter p xs
filter_none p v xs ys m off =
    let rest : filter p (v ∷ m.right) ≡ filter p m.right = rw off refl in
    ap (filter p) m.after_is ∙ (filter-append p m.left (v ∷ m.right) ∙ (ap (λ l. filter p m.left ++ l) rest ∙ (sym (filter-append p m.left m.right) ∙ ap (filter p) (sym m.before_is))))

pub filter_some : {A : Type 0} (p : A → Bool) (v : A) (xs ys : List A) → HasMore v xs ys → p v ≡ true → HasMore v (filter p xs) (filter p ys)
filter_some p v xs ys m on =
    let here : filter p (v ∷ m.right) ≡ v ∷ filter p m.right = rw on refl in
    record {
      left = filter p m.left;
      right = filter p m.right;
      before_is = ap (filter p) m.before_is ∙ filter-append p m.left m.right;
      after_is = ap (filter p) m.after_is ∙ (filter-append p m.left (v ∷ m.right) ∙ ap (λ l. filter p m.left ++ l) here);
    }

pub filter_all : {A : Type 0} (p : A → Bool) (xs : List A) → All (λ x. p x ≡ true) xs → filter p xs ≡ xs
filter_all p [] h = refl
filter_all p (x ∷ xs) h = let here : p x ≡ true = All-head (λ y. p y ≡ true) x xs h in rw here (ap (λ l. x ∷ l) (filter_all p xs (All-tail (λ y. p y ≡ true) x xs h)))

pub filter_nothing : {A : Type 0} (p : A → Bool) (xs : List A) → All (λ x. p x ≡ false) xs → filter p xs ≡ []
filter_nothing p [] h = refl
filter_nothing p (x ∷ xs) h = let here : p x ≡ false = All-head (λ y. p y ≡ false) x xs h in rw here (filter_nothing p xs (All-tail (λ y. p y ≡ false) x xs h))

length_more : {A : Type 0} (v : A) (l r : List A) → length (l ++ v ∷ r) ≡ length (l ++ r) + 1
length_more v [] r = omega arith
length_more v (x ∷ l) r = let h = length_more v l r in omega (arith, h)

pub more_length : {A : Type 0} (v : A) (xs ys : List A) → HasMore v xs ys → length ys ≡ length xs + 1
more_length v xs ys m = let a = ap length m.after_is in let b = ap length m.before_is in let c = length_more v m.left m.right in omega (arith, a, b, c)

pub have_length : {A : Type 0} (vs xs ys : List A) → HaveMore vs xs ys → length ys ≡ length xs + length vs
have_length [] xs ys is = let e = ap length is in omega (arith, e)
have_length (v ∷ vs) xs ys m = let a = more_length v xs m.0 m.1.0 in let b = have_length vs m.0 ys m.1.1 in omega (arith, a, b)

-- those that come all fail a test
pub filter_have_none : {A : Type 0} (p : A → Bool) (vs xs ys : List A) → HaveMore vs xs ys → All (λ v. p v ≡ false) vs → filter p ys ≡ filter p xs
filter_have_none p [] xs ys is off = ap (filter p) is
filter_have_none p (v ∷ vs) xs ys m off = filter_have_none p vs m.0 ys m.1.1 (All-tail (λ u. p u ≡ false) v vs off) ∙ filter_none p v xs m.0 m.1.0 (All-head (λ u. p u ≡ false) v vs off)

-- at most so many more pass one as come
pub filter_have : {A : Type 0} (p : A → Bool) (vs xs ys : List A) → HaveMore vs xs ys → length (filter p ys) ≤ length (filter p xs) + length vs
filter_have p [] xs ys is = let e = ap (λ l. length (filter p l)) is in omega (arith, e)
filter_have p (v ∷ vs) xs ys m = let h = filter_have p vs m.0 ys m.1.1 in let one = by (p v) refl in omega (arith, h, one)
  where
    by : (t : Bool) → p v ≡ t → length (filter p m.0) ≤ length (filter p xs) + 1
    by true on = let e = more_length v (filter p xs) (filter p m.0) (filter_some p v xs m.0 m.1.0 on) in omega (arith, e)
    by false off = let e = ap length (filter_none p v xs m.0 m.1.0 off) in omega (arith, e)

-- ---- in order

module _ (A : Type 0) (key : A → List ℕ) where
  put_between : (v : A) (l r : List A) → All (λ x. key x ≢ key v) l → in_order key (l ++ v ∷ r) ≡ put key v (in_order key (l ++ r))
  unfolding in_order
  put_between v [] r new = refl
  put_between v (x ∷ l) r new =
      ap (put key x) (put_between v l r (All-tail (λ y. key y ≢ key v) x l new))
      ∙ put-put key x v (in_order key (l ++ r)) (All-head (λ y. key y ≢ key v) x l new)

  pub one_in_order : (v : A) (xs ys : List A) → HasMore v xs ys → All (λ x. key x ≢ key v) xs → in_order key ys ≡ put key v (in_order key xs)
  one_in_order v xs ys m new =
      ap (in_order key) m.after_is
      ∙ (put_between v m.left m.right (all_front (λ x. key x ≢ key v) m.left m.right (subst (All (λ x. key x ≢ key v)) m.before_is new))
      ∙ ap (λ l. put key v (in_order key l)) (sym m.before_is))

  puts-put : (vs : List A) (v : A) (us : List A) → All (λ u. key u ≢ key v) vs → puts key vs (put key v us) ≡ put key v (puts key vs us)
  puts-put [] v us new = refl
  puts-put (w ∷ vs) v us new =
      ap (put key w) (puts-put vs v us (All-tail (λ u. key u ≢ key v) w vs new))
      ∙ put-put key w v (puts key vs us) (All-head (λ u. key u ≢ key v) w vs new)

  pub turned : (vs : List A) (v : A) → All (λ u. key u ≢ key v) vs → All (λ u. key v ≢ key u) vs
  turned [] v h = All-nil (λ u. key v ≢ key u)
  turned (u ∷ vs) v h = All-cons (λ w. key v ≢ key w) u vs (λ is. All-head (λ w. key w ≢ key v) u vs h (sym is)) (turned vs v (All-tail (λ w. key w ≢ key v) u vs h))

  pub still_new : (vs xs ys : List A) (v : A) → HasMore v xs ys → All (λ u. key v ≢ key u) vs → AreNew key vs xs → AreNew key vs ys
  still_new [] xs ys v m apart new = tt
  still_new (u ∷ vs) xs ys v m apart new = (
    all_more (λ x. key x ≢ key u) v xs ys m (All-head (λ w. key v ≢ key w) u vs apart) new.0,
    (new.1.0, still_new vs xs ys v m (All-tail (λ w. key v ≢ key w) u vs apart) new.1.1),
  )

  pub several_in_order : (vs xs ys : List A) → HaveMore vs xs ys → AreNew key vs xs → in_order key ys ≡ puts key vs (in_order key xs)
  several_in_order [] xs ys is new = ap (in_order key) is
  several_in_order (v ∷ vs) xs ys m new =
      several_in_order vs m.0 ys m.1.1 (still_new vs xs m.0 v m.1.0 (turned vs v new.1.0) new.1.1)
      ∙ (ap (puts key vs) (one_in_order v xs m.0 m.1.0 new.0) ∙ puts-put vs v (in_order key xs) new.1.0)

pub entries_come : EntriesComeInOrder
entries_come = one_in_order Entry entry_key

pub versions_come : VersionsComeInOrder
versions_come = several_in_order Version version_key
