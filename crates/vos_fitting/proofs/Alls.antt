-- What holds of each of a list, where the list changes.
use Rattle.std.proofs.Common.{◌≡◌, Bool, true, false, cond, List, [], ◌∷◌, ◌++◌, Option, Some, None, refl, sym, ap, ◌∙◌, subst, inl, inr}
use Rattle.std.specs.Prelude.{All, filter, map, if◌then◌else◌}
use Rattle.std.specs.List.{find}
use Rattle.std.proofs.lemmas.List.Elements.{All-cons, All-head, All-nil, All-same, All-tail}
use Rattle.vos_levels.specs.Changes.{changed_by}
use Rattle.vos_levels.specs.Levels.{HasMore, map_those, without_those}
use Rattle.vos_image.specs.vos_path.Calls.{IsPut, Swapped}
use Rattle.vos_image.specs.vos_path.Nodes.{OnePut}
use Rattle.vos_image.specs.vos_path.Objects.{or_none, together}
use Rattle.vos_settle.specs.Nodes.{ChangesOne}

pub on_all : {A : Type 0} (P Q : A → Type 0) → ((a : A) → P a → Q a) → (xs : List A) → All P xs → All Q xs
on_all P Q on [] all = All-nil Q
on_all P Q on (x ∷ xs) all = All-cons Q x xs (on x (All-head P x xs all)) (on_all P Q on xs (All-tail P x xs all))

pub on_both : {A : Type 0} (P Q R : A → Type 0) → ((a : A) → P a → Q a → R a) → (xs : List A) → All P xs → All Q xs → All R xs
on_both P Q R on [] p q = All-nil R
on_both P Q R on (x ∷ xs) p q = All-cons R x xs (on x (All-head P x xs p) (All-head Q x xs q)) (on_both P Q R on xs (All-tail P x xs p) (All-tail Q x xs q))

pub joined : {A : Type 0} (P : A → Type 0) (xs ys : List A) → All P xs → All P ys → All P (xs ++ ys)
joined P [] ys p q = q
joined P (x ∷ xs) ys p q = All-cons P x (xs ++ ys) (All-head P x xs p) (joined P xs ys (All-tail P x xs p) q)

pub front : {A : Type 0} (P : A → Type 0) (xs ys : List A) → All P (xs ++ ys) → All P xs
front P [] ys p = All-nil P
front P (x ∷ xs) ys p = All-cons P x xs (All-head P x (xs ++ ys) p) (front P xs ys (All-tail P x (xs ++ ys) p))

pub back : {A : Type 0} (P : A → Type 0) (xs ys : List A) → All P (xs ++ ys) → All P ys
back P [] ys p = p
back P (x ∷ xs) ys p = back P xs ys (All-tail P x (xs ++ ys) p)

pub of_map : {A B : Type 0} (P : B → Type 0) (f : A → B) (xs : List A) → All (λ a. P (f a)) xs → All P (map f xs)
of_map P f [] all = All-nil P
of_map P f (x ∷ xs) all = All-cons P (f x) (map f xs) (All-head (λ a. P (f a)) x xs all) (of_map P f xs (All-tail (λ a. P (f a)) x xs all))

pub from_map : {A B : Type 0} (P : B → Type 0) (f : A → B) (xs : List A) → All P (map f xs) → All (λ a. P (f a)) xs
from_map P f [] all = All-nil (λ a. P (f a))
from_map P f (x ∷ xs) all = All-cons (λ a. P (f a)) x xs (All-head P (f x) (map f xs) all) (from_map P f xs (All-tail P (f x) (map f xs) all))

pub of_filter : {A : Type 0} (P : A → Type 0) (t : A → Bool) (xs : List A) → All P xs → All P (filter t xs)
of_filter P t [] all = All-nil P
of_filter P t (x ∷ xs) all =
    let rest = of_filter P t xs (All-tail P x xs all) in
    elim (t x) as (λ b. All P (cond b (x ∷ filter t xs) (filter t xs))) [ true ↦ All-cons P x (filter t xs) (All-head P x xs all) rest | false ↦ rest ]

-- what each of a list stands for, one after another
pub all_together : {A V : Type 0} (P : V → Type 0) (f : A → List V) (xs : List A) → All (λ a. All P (f a)) xs → All P (together f xs)
all_together P f [] all = All-nil P
all_together P f (x ∷ xs) all = joined P (f x) (together f xs) (All-head (λ a. All P (f a)) x xs all) (all_together P f xs (All-tail (λ a. All P (f a)) x xs all))

pub all_apart : {A V : Type 0} (P : V → Type 0) (f : A → List V) (xs : List A) → All P (together f xs) → All (λ a. All P (f a)) xs
all_apart P f [] all = All-nil (λ a. All P (f a))
all_apart P f (x ∷ xs) all = All-cons (λ a. All P (f a)) x xs (front P (f x) (together f xs) all) (all_apart P f xs (back P (f x) (together f xs) all))

-- ---- changes

pub with_more : {A : Type 0} (P : A → Type 0) (a : A) (xs ys : List A) → HasMore a xs ys → P a → All P xs → All P ys
with_more P a xs ys h here all =
    let parts = All-same P (h.left ++ h.right) xs (sym h.before_is) all in
    All-same P ys (h.left ++ a ∷ h.right) h.after_is (joined P h.left (a ∷ h.right) (front P h.left h.right parts) (All-cons P a h.right here (back P h.left h.right parts)))

swapped : {A : Type 0} (P : A → Type 0) (a b : A) (xs ys : List A) → Swapped a b xs ys → P b → All P xs → All P ys
swapped P a b xs ys h here all =
    let parts = All-same P (h.left ++ a ∷ h.right) xs (sym h.before_is) all in
    All-same P ys (h.left ++ b ∷ h.right) h.after_is (joined P h.left (b ∷ h.right) (front P h.left (a ∷ h.right) parts) (All-cons P b h.right here (All-tail P a h.right (back P h.left (a ∷ h.right) parts))))

pub with_put : {A : Type 0} (P : A → Type 0) (x : Option A) (b : A) (xs ys : List A) → IsPut x b xs ys → P b → All P xs → All P ys
with_put P None b xs ys put here all = with_more P b xs ys put here all
with_put P (Some a) b xs ys put here all = swapped P a b xs ys put here all

some_is : {A : Type 0} (P : A → Type 0) (a b : A) → Some a ≡ Some b → P a → P b
some_is P a b e p = let same : a ≡ b = cc in subst P same p

found : {A : Type 0} (P : A → Type 0) (t : A → Bool) (xs : List A) → All P xs → (a : A) → find t xs ≡ Some a → P a
found P t [] all a e = absurd (cc)
found P t (x ∷ xs) all a e = by (t x) refl (found P t xs (All-tail P x xs all) a)
  where
    by : (b : Bool) → t x ≡ b → (find t xs ≡ Some a → P a) → P a
    by true is on = some_is P x a (sym (ap (λ (b : Bool). cond b (Some x) (find t xs)) is) ∙ e) (All-head P x xs all)
    by false is on = on (sym (ap (λ (b : Bool). cond b (Some x) (find t xs)) is) ∙ e)

-- the one that passes has another in its place, made of what was there or of nothing
pub one_put : {A B : Type 0} (P : A → Type 0) (Q : B → Type 0) (t : A → Bool) (f : A → B) (none : B) (Named : A → Type 0) (N : B → B → Type 0) (xs ys : List A) → OnePut t f none Named N xs ys
    → Q none → ((a : A) → P a → Q (f a)) → ((b d : B) → N b d → Q b → Q d) → ((a : A) → Named a → Q (f a) → P a) → All P xs → All P ys
one_put P Q t f none Named N xs ys h empty part step whole all =
    with_put P (find t xs) h.now xs ys h.put (whole h.now h.named (step (or_none f none (find t xs)) (f h.now) h.nodes (was (find t xs) refl))) all
  where
    was : (x : Option _) → find t xs ≡ x → Q (or_none f none x)
    was None e = empty
    was (Some a) e = part a (found P t xs all a e)

-- the one that passes became another
pub one_changed : {A : Type 0} (P : A → Type 0) (t : A → Bool) (Q : A → A → Type 0) (xs ys : List A) → ChangesOne t Q xs ys → ((a b : A) → Q a b → P a → P b) → All P xs → All P ys
one_changed P t Q xs ys (inl h) step all =
    let parts = All-same P (h.left ++ h.was ∷ h.right) xs (sym h.before_is) all in
    let rest = back P h.left (h.was ∷ h.right) parts in
    All-same P ys (h.left ++ h.now ∷ h.right) h.after_is (joined P h.left (h.now ∷ h.right) (front P h.left (h.was ∷ h.right) parts) (All-cons P h.now h.right (step h.was h.now h.so (All-head P h.was h.right rest)) (All-tail P h.was h.right rest)))
one_changed P t Q xs ys (inr h) step all = All-same P ys xs h.same all

-- those that pass become others, or go
pub of_those : {A : Type 0} (P : A → Type 0) (t : A → Bool) (f : A → A) → ((a : A) → P a → P (f a)) → (xs : List A) → All P xs → All P (map_those t f xs)
of_those P t f on [] all = All-nil P
of_those P t f on (x ∷ xs) all =
    let here = All-head P x xs all in
    All-cons P (if t x then f x else x) (map_those t f xs) (elim (t x) as (λ b. P (if b then f x else x)) [ true ↦ on x here | false ↦ here ]) (of_those P t f on xs (All-tail P x xs all))

pub of_others : {A : Type 0} (P : A → Type 0) (t : A → Bool) (xs : List A) → All P xs → All P (without_those t xs)
of_others P t [] all = All-nil P
of_others P t (x ∷ xs) all =
    let rest = of_others P t xs (All-tail P x xs all) in
    elim (t x) as (λ b. All P (if b then without_those t xs else x ∷ without_those t xs)) [ true ↦ rest | false ↦ All-cons P x (without_those t xs) (All-head P x xs all) rest ]

pub of_changed : {A : Type 0} (P : A → Type 0) (keeps : Bool) (t : A → Bool) (f : A → A) → ((a : A) → P a → P (f a)) → (xs : List A) → All P xs → All P (changed_by keeps t f xs)
of_changed P true t f on xs all = of_those P t f on xs all
of_changed P false t f on xs all = of_others P t xs all
