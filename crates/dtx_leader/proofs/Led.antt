-- The entries that a leader keeps are those that it leads, and a begin that came to nothing leaves them.
use Rattle.std.proofs.Common.{◌≡◌, ℕ, Bool, true, false, List, [], ◌∷◌, Option, Some, None, map, refl, sym, ◌∙◌, ap, subst}
use Rattle.std.specs.Prelude.{◌==◌, ◌^◌, bit_or, filter, find, not, All, if◌then◌else◌}
use Rattle.std.proofs.lemmas.List.Elements.{All-cons, All-filter, All-head, All-nil, All-tail, filter_passes}
use Rattle.base_types.specs.declared.entry.Entry.{Entry}
use Rattle.base_types.specs.declared.id.AttemptId.{AttemptId}
use Rattle.base_messages.specs.declared.message.Message.{Message}
use Rattle.base_messages.specs.declared.message.Message.TheVariants as message
use Rattle.daos_model.specs.Answers.{is_before}
use Rattle.daos_model.specs.Changes.{committed_at, confirmed_at, is_other}
use Rattle.daos_model.specs.Durables.{entry_key, is_entry_of, same_attempt}
use Rattle.daos_model.specs.EntryLaws.{same_attempt-itself}
use Rattle.daos_model.specs.Ordered.{put}
use Rattle.dtx_base.specs.Leading.{LeaderOf, LeaderStep, all_confirmed_by, confirmed_by, down_told, is_led, mark_reset, may_confirm, prepare_reset, reset_heard, reset_of, status_asked, entry_led, undecided_of}
use Rattle.dtx_base.specs.declared.leading.Undecided.{Undecided}

-- ---- lists of which every element passes a test

module _ {T : Type 0} (p : T → Bool) where
  Pass : List T → Type 0
  Pass xs = All (λ x. p x ≡ true) xs

  whole : (xs : List T) → All (λ x. p x ≡ true) xs → filter p xs ≡ xs
  whole [] each = refl
  whole (x ∷ xs) each = rw (All-head (λ y. p y ≡ true) x xs each) (ap (λ ys. x ∷ ys) (whole xs (All-tail (λ y. p y ≡ true) x xs each)))

  each-passes : (xs : List T) → filter p xs ≡ xs → All (λ x. p x ≡ true) xs
  each-passes xs all = subst (λ ys. All (λ x. p x ≡ true) ys) all (filter_passes p xs)

  each-put : (key : T → List ℕ) (v : T) (us : List T) → p v ≡ true → All (λ x. p x ≡ true) us → All (λ x. p x ≡ true) (put key v us)
  each-put key v [] passes each = All-cons (λ x. p x ≡ true) v [] passes each
  each-put key v (u ∷ us) passes each =
      elim (is_before (key u) (key v)) as (λ b. All (λ x. p x ≡ true) (if b then u ∷ put key v us else v ∷ u ∷ us)) [
        | true ↦ All-cons (λ x. p x ≡ true) u (put key v us) (All-head (λ x. p x ≡ true) u us each) (each-put key v us passes (All-tail (λ x. p x ≡ true) u us each))
        | false ↦ All-cons (λ x. p x ≡ true) v (u ∷ us) passes each
      ]

  each-mapped : (f : T → T) → ((x : T) → p (f x) ≡ p x) → (us : List T) → All (λ x. p x ≡ true) us → All (λ x. p x ≡ true) (map f us)
  each-mapped f same [] each = All-nil (λ x. p x ≡ true)
  each-mapped f same (u ∷ us) each =
      All-cons (λ x. p x ≡ true) (f u) (map f us) (same u ∙ All-head (λ x. p x ≡ true) u us each) (each-mapped f same us (All-tail (λ x. p x ≡ true) u us each))

  pub whole-put : (key : T → List ℕ) (v : T) (us : List T) → p v ≡ true → filter p us ≡ us → filter p (put key v us) ≡ put key v us
  whole-put key v us passes all = whole (put key v us) (each-put key v us passes (each-passes us all))

  pub whole-mapped : (f : T → T) → ((x : T) → p (f x) ≡ p x) → (us : List T) → filter p us ≡ us → filter p (map f us) ≡ map f us
  whole-mapped f same us all = whole (map f us) (each-mapped f same us (each-passes us all))

  pub whole-filtered : (q : T → Bool) (us : List T) → filter p us ≡ us → filter p (filter q us) ≡ filter q us
  whole-filtered q us all = whole (filter q us) (All-filter q (λ x. p x ≡ true) us (each-passes us all))

-- what was filtered passes
pub passed-again : {T : Type 0} (p : T → Bool) (xs : List T) → filter p (filter p xs) ≡ filter p xs
passed-again p xs = whole p (filter p xs) (filter_passes p xs)

-- ---- entries

committed-led : (me : ℕ) (a : AttemptId) (e : Entry) → is_led me (committed_at a e) ≡ is_led me e
committed-led me a e = elim (same_attempt e.attempt a) as (λ b. is_led me (if b then record e { committed = true } else e) ≡ is_led me e) [ true ↦ refl | false ↦ refl ]

confirmed-led : (me : ℕ) (a : AttemptId) (t : ℕ) (e : Entry) → is_led me (confirmed_at a t e) ≡ is_led me e
confirmed-led me a t e = elim (same_attempt e.attempt a) as (λ b. is_led me (if b then record e { confirmed = bit_or e.confirmed (2 ^ t) } else e) ≡ is_led me e) [ true ↦ refl | false ↦ refl ]

pub led-committed : (me : ℕ) (a : AttemptId) (es : List Entry) → filter (is_led me) es ≡ es → filter (is_led me) (map (committed_at a) es) ≡ map (committed_at a) es
led-committed me a es all = whole-mapped (is_led me) (committed_at a) (committed-led me a) es all

led-confirmed_by : (me t : ℕ) (a : AttemptId) (es : List Entry) → filter (is_led me) es ≡ es → filter (is_led me) (confirmed_by t a es) ≡ confirmed_by t a es
led-confirmed_by me t a es all =
    elim (may_confirm t (find (is_entry_of a) es)) as (λ b. filter (is_led me) (if b then map (confirmed_at a t) es else es) ≡ (if b then map (confirmed_at a t) es else es)) [
      | true ↦ whole-mapped (is_led me) (confirmed_at a t) (confirmed-led me a t) es all
      | false ↦ all
    ]

pub led-confirmed : (me t : ℕ) (ids : List AttemptId) (es : List Entry) → filter (is_led me) es ≡ es → filter (is_led me) (all_confirmed_by t ids es) ≡ all_confirmed_by t ids es
led-confirmed me t [] es all = all
led-confirmed me t (a ∷ ids) es all = led-confirmed me t ids (confirmed_by t a es) (led-confirmed_by me t a es all)

others-stay : (a : AttemptId) (us : List Entry) → find (is_entry_of a) us ≡ None → filter (is_other a) us ≡ us
others-stay a [] none = refl
others-stay a (u ∷ us) none = one (same_attempt u.attempt a) refl (others-stay a us)
  where
    one : (b : Bool) → same_attempt u.attempt a ≡ b → (find (is_entry_of a) us ≡ None → filter (is_other a) us ≡ us) → filter (is_other a) (u ∷ us) ≡ u ∷ us
    one true is rest = absurd (let found : find (is_entry_of a) (u ∷ us) ≡ Some u = rw is refl in let n : ⊥ = cc in n)
    one false is rest = let none-left : find (is_entry_of a) us ≡ None = subst (λ b. (if b then Some u else find (is_entry_of a) us) ≡ None) is none in rw is (ap (λ vs. u ∷ vs) (rest none-left))

-- an entry that was put among those of other attempts, and taken away again
pub put-undone : (e : Entry) (es : List Entry) → find (is_entry_of e.attempt) es ≡ None → filter (is_other e.attempt) (put entry_key e es) ≡ es
put-undone e [] none = rw (same_attempt-itself e.attempt) refl
put-undone e (u ∷ us) none = by (same_attempt u.attempt e.attempt) refl (put-undone e us)
  where
    by : (b : Bool) → same_attempt u.attempt e.attempt ≡ b → (find (is_entry_of e.attempt) us ≡ None → filter (is_other e.attempt) (put entry_key e us) ≡ us) → filter (is_other e.attempt) (put entry_key e (u ∷ us)) ≡ u ∷ us
    by true is rest = absurd (let found : find (is_entry_of e.attempt) (u ∷ us) ≡ Some u = rw is refl in let n : ⊥ = cc in n)
    by false is rest =
        let none-left : find (is_entry_of e.attempt) us ≡ None = subst (λ b. (if b then Some u else find (is_entry_of e.attempt) us) ≡ None) is none in
        elim (is_before (entry_key u) (entry_key e)) as (λ b. filter (is_other e.attempt) (if b then u ∷ put entry_key e us else e ∷ u ∷ us) ≡ u ∷ us) [
          | true ↦ rw is (ap (λ vs. u ∷ vs) (rest none-left))
          | false ↦ rw (same_attempt-itself e.attempt) (others-stay e.attempt (u ∷ us) none)
        ]
