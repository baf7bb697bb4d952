-- Lists with one more, and lists put together.
use Rattle.std.proofs.Common.{◌≡◌, Bool, true, false, List, [], ◌∷◌, ◌++◌, Option, Some, None, map, refl, sym, ap, ◌∙◌, subst, append_assoc}
use Rattle.std.specs.Prelude.{filter, All, if◌then◌else◌}
use Rattle.std.specs.List.{find}
use Rattle.std.proofs.lemmas.List.Elements.{All-head, All-tail}
use Rattle.vos_extent.specs.vos_levels.Levels.{HasMore}
use Rattle.vos_path.specs.Calls.{IsPut}
use Rattle.vos_path.specs.Objects.{listed, or_none, together}
use Rattle.vos_path.specs.Writes.{MoreIf}

pub more_after : {V : Type 0} (v : V) (front xs ys : List V) → HasMore v xs ys → HasMore v (front ++ xs) (front ++ ys)
more_after v front xs ys h = record {
  left = front ++ h.left;
  right = h.right;
  before_is = ap (λ z. front ++ z) h.before_is ∙ sym (append_assoc front h.left h.right);
  after_is = ap (λ z. front ++ z) h.after_is ∙ sym (append_assoc front h.left (v ∷ h.right));
}

pub more_before : {V : Type 0} (v : V) (back xs ys : List V) → HasMore v xs ys → HasMore v (xs ++ back) (ys ++ back)
more_before v back xs ys h = record {
  left = h.left;
  right = h.right ++ back;
  before_is = ap (λ z. z ++ back) h.before_is ∙ append_assoc h.left h.right back;
  after_is = ap (λ z. z ++ back) h.after_is ∙ append_assoc h.left (v ∷ h.right) back;
}

pub map_append : {A B : Type 0} (f : A → B) (xs ys : List A) → map f (xs ++ ys) ≡ map f xs ++ map f ys
map_append f [] ys = refl
map_append f (x ∷ xs) ys = ap (λ z. f x ∷ z) (map_append f xs ys)

pub more_map : {A B : Type 0} (f : A → B) (a : A) (xs ys : List A) → HasMore a xs ys → HasMore (f a) (map f xs) (map f ys)
more_map f a xs ys h = record {
  left = map f h.left;
  right = map f h.right;
  before_is = ap (map f) h.before_is ∙ map_append f h.left h.right;
  after_is = ap (map f) h.after_is ∙ map_append f h.left (a ∷ h.right);
}

pub filter_append : {A : Type 0} (p : A → Bool) (xs ys : List A) → filter p (xs ++ ys) ≡ filter p xs ++ filter p ys
filter_append p [] ys = refl
filter_append {A = A} p (x ∷ xs) ys = by (p x) (filter_append p xs ys)
  where
    by : (t : Bool) → filter p (xs ++ ys) ≡ filter p xs ++ filter p ys → (if t then x ∷ filter p (xs ++ ys) else filter p (xs ++ ys)) ≡ (if t then x ∷ filter p xs else filter p xs) ++ filter p ys
    by true r = ap (λ z. x ∷ z) r
    by false r = r

-- one more where the test holds
filter_one : {A : Type 0} (p : A → Bool) (a : A) (left right : List A) → MoreIf (p a) a (filter p (left ++ right)) (filter p (left ++ a ∷ right))
filter_one {A = A} p a left right =
    subst (λ z. MoreIf (p a) a z (filter p (left ++ a ∷ right))) (sym (filter_append p left right))
    (subst (λ z. MoreIf (p a) a (filter p left ++ filter p right) z) (sym (filter_append p left (a ∷ right))) (by (p a)))
  where
    by : (t : Bool) → MoreIf t a (filter p left ++ filter p right) (filter p left ++ (if t then a ∷ filter p right else filter p right))
    by true = record { left = filter p left; right = filter p right; before_is = refl; after_is = refl }
    by false = refl

-- a thing that fails the test is as none
filter_gone : {A : Type 0} (p : A → Bool) (a : A) (left right : List A) → p a ≡ false → filter p (left ++ a ∷ right) ≡ filter p (left ++ right)
filter_gone p a left right h =
    filter_append p left (a ∷ right) ∙ (ap (λ (t : Bool). filter p left ++ (if t then a ∷ filter p right else filter p right)) h ∙ sym (filter_append p left right))

-- what an element that is put makes of those that pass a test, where one in its place failed it
pub filter_put : {A : Type 0} (p : A → Bool) (x : Option A) (b : A) (xs ys : List A) → IsPut x b xs ys → ((a : A) → x ≡ Some a → p a ≡ false) → MoreIf (p b) b (filter p xs) (filter p ys)
filter_put p None b xs ys h fails =
    subst (λ z. MoreIf (p b) b (filter p z) (filter p ys)) (sym h.before_is) (subst (λ z. MoreIf (p b) b (filter p (h.left ++ h.right)) (filter p z)) (sym h.after_is) (filter_one p b h.left h.right))
filter_put p (Some a) b xs ys h fails =
    subst (λ z. MoreIf (p b) b (filter p z) (filter p ys)) (sym h.before_is)
    (subst (λ z. MoreIf (p b) b (filter p (h.left ++ a ∷ h.right)) (filter p z)) (sym h.after_is)
    (subst (λ z. MoreIf (p b) b z (filter p (h.left ++ b ∷ h.right))) (sym (filter_gone p a h.left h.right (fails a refl))) (filter_one p b h.left h.right)))

-- ---- lists put together

pub together_append : {A V : Type 0} (f : A → List V) (xs ys : List A) → together f (xs ++ ys) ≡ together f xs ++ together f ys
together_append f [] ys = refl
together_append f (x ∷ xs) ys = ap (λ z. f x ++ z) (together_append f xs ys) ∙ sym (append_assoc (f x) (together f xs) (together f ys))

pub together_more : {A V : Type 0} (f : A → List V) (x : Option A) (b : A) (v : V) (xs ys : List A) → IsPut x b xs ys → HasMore v (listed f x) (f b) → HasMore v (together f xs) (together f ys)
together_more f None b v xs ys h more =
    let inside = more_after v (together f h.left) (together f h.right) (f b ++ together f h.right) (more_before v (together f h.right) [] (f b) more) in
    subst (λ z. HasMore v z (together f ys)) (sym (ap (together f) h.before_is ∙ together_append f h.left h.right))
    (subst (λ z. HasMore v (together f h.left ++ together f h.right) z) (sym (ap (together f) h.after_is ∙ together_append f h.left (b ∷ h.right))) inside)
together_more f (Some a) b v xs ys h more =
    let inside = more_after v (together f h.left) (f a ++ together f h.right) (f b ++ together f h.right) (more_before v (together f h.right) (f a) (f b) more) in
    subst (λ z. HasMore v z (together f ys)) (sym (ap (together f) h.before_is ∙ together_append f h.left (a ∷ h.right)))
    (subst (λ z. HasMore v (together f h.left ++ (f a ++ together f h.right)) z) (sym (ap (together f) h.after_is ∙ together_append f h.left (b ∷ h.right))) inside)

-- what holds of all holds of one that is found, or of none
-- what holds of those that pass a test holds of the one that is found
pub passes_found : {A P : Type 0} (f : A → P) (none : P) (Q : P → Type 0) (test : A → Bool) (xs : List A) → Q none → All (λ a. test a ≡ true → Q (f a)) xs → Q (or_none f none (find test xs))
passes_found f none Q test [] n h = n
passes_found {A = A} {P = P} f none Q test (x ∷ xs) n h = by (test x) refl (passes_found f none Q test xs n (All-tail (λ a. test a ≡ true → Q (f a)) x xs h))
  where
    by : (t : Bool) → test x ≡ t → Q (or_none f none (find test xs)) → Q (or_none f none (if t then Some x else find test xs))
    by true e r = All-head (λ a. test a ≡ true → Q (f a)) x xs h e
    by false e r = r

pub all_found : {A P : Type 0} (f : A → P) (none : P) (Q : P → Type 0) (test : A → Bool) (xs : List A) → Q none → All (λ a. Q (f a)) xs → Q (or_none f none (find test xs))
all_found f none Q test [] n h = n
all_found {A = A} {P = P} f none Q test (x ∷ xs) n h = by (test x) (all_found f none Q test xs n (All-tail (λ a. Q (f a)) x xs h))
  where
    by : (t : Bool) → Q (or_none f none (find test xs)) → Q (or_none f none (if t then Some x else find test xs))
    by true r = All-head (λ a. Q (f a)) x xs h
    by false r = r

pub some_same : {A : Type 0} (a b : A) → Some a ≡ Some b → a ≡ b
some_same a b h = cc
