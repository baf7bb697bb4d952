-- Entries and versions as they are found once something was put among them.
use Rattle.std.specs.Prelude.{ℕ, ◌≡◌, ◌≢◌, ◌⊎◌, Bool, true, false, ◌&&◌, ◌==◌, List, [], ◌∷◌, map, find, AllPairs, Some, None, refl, if◌then◌else◌}
use Rattle.std.specs.Option.{option_map}
use Rattle.std.proofs.Common.{sym, ◌∙◌, ap, inl, inr}
use Rattle.base_types.specs.declared.entry.Entry.{Entry}
use Rattle.base_types.specs.declared.id.AttemptId.{AttemptId}
use Rattle.daos_model.specs.Answers.{is_before}
use Rattle.daos_model.specs.Changes.{committed_at}
use Rattle.daos_model.specs.Durables.{attempt_key, is_entry_of, same_attempt}
use Rattle.daos_model.specs.Ordered.{put, puts}
use Rattle.model_laws.specs.DecidedLaws.{all-from_has}
use Rattle.model_laws.specs.Members.{Has, has-from_map}
use Rattle.model_laws.specs.VersionLaws.{pairs-head, pairs-tail}
use Rattle.std.proofs.lemmas.List.Kept.{AllPairs-cons}
use Rattle.model_laws.specs.TargetLaws.{number_same}
use Rattle.daos_model.specs.BoolLaws.{and_left, and_right}

-- ---- attempts

abbrev made : ℕ → ℕ → ℕ → AttemptId
made c d n = record { client = c; command = d; attempt = n }

pub same-attempt : (a b : AttemptId) → same_attempt a b ≡ true → a ≡ b
unfolding same_attempt
same-attempt a b e =
    let two : ((a.client == b.client) && (a.command == b.command)) ≡ true = and_left ((a.client == b.client) && (a.command == b.command)) (a.attempt == b.attempt) e in
    let c : a.client ≡ b.client = number_same a.client b.client (and_left (a.client == b.client) (a.command == b.command) two) in
    let d : a.command ≡ b.command = number_same a.command b.command (and_right (a.client == b.client) (a.command == b.command) two) in
    let n : a.attempt ≡ b.attempt = number_same a.attempt b.attempt (and_right ((a.client == b.client) && (a.command == b.command)) (a.attempt == b.attempt) e) in
    three c d n
  where
    three : a.client ≡ b.client → a.command ≡ b.command → a.attempt ≡ b.attempt → a ≡ b
    three c d n = ap (λ k. made k a.command a.attempt) c ∙ ap (λ k. made b.client k a.attempt) d ∙ ap (λ k. made b.client b.command k) n

-- attempts with one key are one
pub key-is : (a b : AttemptId) → attempt_key a ≡ attempt_key b → a ≡ b
key-is a b same =
    let client : a.client ≡ b.client = cc in
    let command : a.command ≡ b.command = cc in
    let attempt : a.attempt ≡ b.attempt = cc in
    ap (λ k. made k a.command a.attempt) client ∙ ap (λ k. made b.client k a.attempt) command ∙ ap (λ k. made b.client b.command k) attempt

-- ---- what is put among others

module _ {T : Type 0} (key : T → List ℕ) where
  pub put-has : (v : T) (us : List T) (x : T) → (x ≡ v) ⊎ Has x us → Has x (put key v us)
  put-has v [] x h = h
  put-has v (u ∷ us) x h = by (put-has v us x) (is_before (key u) (key v)) h
    where
      by : ((x ≡ v) ⊎ Has x us → Has x (put key v us)) → (b : Bool) → (x ≡ v) ⊎ Has x (u ∷ us) → Has x (if b then u ∷ put key v us else v ∷ u ∷ us)
      by more true (inl e) = inr (more (inl e))
      by more true (inr (inl e)) = inl e
      by more true (inr (inr i)) = inr (more (inr i))
      by more false k = k

  pub has-put : (v : T) (us : List T) (x : T) → Has x (put key v us) → (x ≡ v) ⊎ Has x us
  has-put v [] x h = h
  has-put v (u ∷ us) x h = by (has-put v us x) (is_before (key u) (key v)) h
    where
      by : (Has x (put key v us) → (x ≡ v) ⊎ Has x us) → (b : Bool) → Has x (if b then u ∷ put key v us else v ∷ u ∷ us) → (x ≡ v) ⊎ Has x (u ∷ us)
      by more true (inl e) = inr (inl e)
      by more true (inr i) = elim (more i) [ inl e ↦ inl e | inr j ↦ inr (inr j) ]
      by more false k = k

  pub puts-has : (vs us : List T) (x : T) → Has x vs ⊎ Has x us → Has x (puts key vs us)
  puts-has [] us x (inl i) = absurd i
  puts-has [] us x (inr i) = i
  puts-has (v ∷ vs) us x (inl (inl e)) = put-has v (puts key vs us) x (inl e)
  puts-has (v ∷ vs) us x (inl (inr i)) = put-has v (puts key vs us) x (inr (puts-has vs us x (inl i)))
  puts-has (v ∷ vs) us x (inr i) = put-has v (puts key vs us) x (inr (puts-has vs us x (inr i)))

  pub has-puts : (vs us : List T) (x : T) → Has x (puts key vs us) → Has x vs ⊎ Has x us
  has-puts [] us x h = inr h
  has-puts (v ∷ vs) us x h = elim (has-put v (puts key vs us) x h) [
    | inl e ↦ inl (inl e)
    | inr i ↦ elim (has-puts vs us x i) [ inl j ↦ inl (inr j) | inr j ↦ inr j ]
  ]

  -- what was found is still found, and what wasn't there is
  pub find-put : (p : T → Bool) (v : T) (us : List T) → p v ≡ false → find p (put key v us) ≡ find p us
  find-put p v [] off = ap (λ b. if b then Some v else None) off
  find-put p v (u ∷ us) off = by (is_before (key u) (key v)) (find-put p v us off)
    where
      by : (b : Bool) → find p (put key v us) ≡ find p us → find p (if b then u ∷ put key v us else v ∷ u ∷ us) ≡ find p (u ∷ us)
      by true e = ap (λ o. if p u then Some u else o) e
      by false e = ap (λ b. if b then Some v else find p (u ∷ us)) off

  pub find-new : (p : T → Bool) (v : T) (us : List T) → p v ≡ true → find p us ≡ None → find p (put key v us) ≡ Some v
  find-new p v [] yes' none = ap (λ b. if b then Some v else None) yes'
  find-new p v (u ∷ us) yes' none = by (find-new p v us yes') (p u) refl (is_before (key u) (key v))
    where
      rest : p u ≡ false → find p us ≡ None
      rest e = sym (ap (λ b. if b then Some u else find p us) e) ∙ none

      by : (find p us ≡ None → find p (put key v us) ≡ Some v) → (c : Bool) → p u ≡ c → (b : Bool) → find p (if b then u ∷ put key v us else v ∷ u ∷ us) ≡ Some v
      by more true e b = let no : ⊥ = cc (sym (ap (λ c. if c then Some u else find p us) e) ∙ none) in absurd no
      by more false e true = ap (λ c. if c then Some u else find p (put key v us)) e ∙ more (rest e)
      by more false e false = ap (λ c. if c then Some v else find p (u ∷ us)) yes'

-- what is found among changed ones, where the test doesn't see the change
pub find-map : {T : Type 0} (p : T → Bool) (f : T → T) (xs : List T) → ((x : T) → p (f x) ≡ p x) → find p (map f xs) ≡ option_map f (find p xs)
find-map p f [] same = refl
find-map p f (x ∷ xs) same = by (find-map p f xs same) (p x) refl
  where
    by : find p (map f xs) ≡ option_map f (find p xs) → (b : Bool) → p x ≡ b → (if p (f x) then Some (f x) else find p (map f xs)) ≡ option_map f (if p x then Some x else find p xs)
    by more true e = ap (λ c. if c then Some (f x) else find p (map f xs)) (same x ∙ e) ∙ sym (ap (λ c. option_map f (if c then Some x else find p xs)) e)
    by more false e = ap (λ c. if c then Some (f x) else find p (map f xs)) (same x ∙ e) ∙ more ∙ sym (ap (λ c. option_map f (if c then Some x else find p xs)) e)

-- an entry stays its attempt's once it is committed
pub is-entry-committed : (x a : AttemptId) (e : Entry) → is_entry_of x (committed_at a e) ≡ is_entry_of x e
is-entry-committed x a e = by (same_attempt e.attempt a)
  where
    by : (b : Bool) → is_entry_of x (if b then record e { committed = true } else e) ≡ is_entry_of x e
    by true = refl
    by false = refl

-- what is found passes the test, and is there
pub found-passes : {T : Type 0} (p : T → Bool) (xs : List T) (x : T) → find p xs ≡ Some x → p x ≡ true
found-passes p [] x h = let no : ⊥ = cc in absurd no
found-passes p (y ∷ ys) x h = by (found-passes p ys x) (p y) refl h
  where
    by : (find p ys ≡ Some x → p x ≡ true) → (b : Bool) → p y ≡ b → (if b then Some y else find p ys) ≡ Some x → p x ≡ true
    by more true e f = let same : y ≡ x = cc in sym (ap p same) ∙ e
    by more false e f = more f

pub found-has : {T : Type 0} (p : T → Bool) (xs : List T) (x : T) → find p xs ≡ Some x → Has x xs
found-has p [] x h = let no : ⊥ = cc in absurd no
found-has p (y ∷ ys) x h = by (found-has p ys x) (p y) h
  where
    by : (find p ys ≡ Some x → Has x ys) → (b : Bool) → (if b then Some y else find p ys) ≡ Some x → Has x (y ∷ ys)
    by more true f = let same : y ≡ x = cc in inl (sym same)
    by more false f = inr (more f)

-- ---- pairs of a list that is changed, where the relation doesn't see the change
pub pairs-map : {T : Type 0} (key : T → List ℕ) (f : T → T) (xs : List T) → ((x : T) → key (f x) ≡ key x) → AllPairs (λ x y. key x ≢ key y) xs → AllPairs (λ x y. key x ≢ key y) (map f xs)
pairs-map {T = T} key f xs same all = pairs xs all
  where
    first : (x : T) (xs : List T) → AllPairs (λ x y. key x ≢ key y) (x ∷ xs) → (y : T) → Has y (map f xs) → key (f x) ≢ key y
    first x xs all y i e =
        let z = has-from_map f xs y i in
        pairs-head key (λ x y. key x ≢ key y) x xs z.0 all z.1 (sym (same x) ∙ e ∙ sym (ap key z.2) ∙ same z.0)

    pairs : (xs : List T) → AllPairs (λ x y. key x ≢ key y) xs → AllPairs (λ x y. key x ≢ key y) (map f xs)
    pairs [] all = all
    pairs (x ∷ xs) all =
        AllPairs-cons (λ x y. key x ≢ key y) (f x) (map f xs) (all-from_has (λ y. key (f x) ≢ key y) (map f xs) (first x xs all)) (pairs xs (pairs-tail key (λ x y. key x ≢ key y) x xs all))
