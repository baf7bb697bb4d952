-- Places of targets: of which none is set, in which one is set, and to which stores come back.
use Rattle.std.specs.Prelude.{ℕ, zero, suc, ◌≡◌, ◌≤◌, ◌<◌, ◌+◌, List, [], ◌∷◌, ◌++◌, length, replicate, set, Option, Some, None, slice_get, refl}
use Rattle.std.proofs.Common.{inl, inr, sym, ◌∙◌, ap, subst, arith}
use Rattle.std.proofs.lemmas.Bool.{cases_eq}
use Rattle.std.proofs.lemmas.Option.{slice_get_within}
use Rattle.model_laws.specs.Lists.{length-replicate}
use Rattle.daos_run.specs.Slots.{AreSet, IsAt}
use Rattle.run_targets.specs.Ends.{one-there}
use Rattle.run_targets.specs.Below.{TargetOf, length-set}
use Rattle.world_base.specs.StepLaws.{set-here, set-there}

-- so many places without anything; there is room for these
pub record AreNone {T : Type 0} (slots : List (Option T)) (count room cap : ℕ) : Type 0 where
  pub none : slots ≡ replicate count None
  pub room_is : room ≤ cap

-- ---- places that are set, one after another

-- so many of the places have a store and a clock, which are so; the others have nothing yet
pub record AreSetSoFar {S C : Type 0} (P : ℕ → S → C → Type 0) (targets n : ℕ) (slots : List (Option (S × C))) : Type 0 where
  pub many : length slots ≡ targets
  pub are : (t : ℕ) → t < n → (x : S × C) × IsAt slots t x × P t x.0 x.1
  pub unset : (t : ℕ) → n ≤ t → t < targets → slice_get slots t ≡ Some None

-- to the targets from a number on no clocks may be handed out that might not have been at first
abbrev pub GivesAsFirst : {C : Type 0} → ℕ → (ℕ → C → Type 0) → (ℕ → C → Type 0) → Type 0
GivesAsFirst {C} n first now = (t : ℕ) (clock : C) → n ≤ t → now t clock → first t clock

at-replicate : {T : Type 0} (n t : ℕ) (x : T) → t < n → slice_get (replicate n x) t ≡ Some x
at-replicate zero t x low = absurd (omega (arith, low))
at-replicate (suc n) zero x low = refl
at-replicate (suc n) (suc t) x low = at-replicate n t x (omega (arith, low))

module _ {S C : Type 0} (P : ℕ → S → C → Type 0) where
  pub none-set : (targets : ℕ) (slots : List (Option (S × C))) → slots ≡ replicate targets None → AreSetSoFar P targets 0 slots
  none-set targets slots none = record {
    many = ap length none ∙ length-replicate targets None;
    are = λ t low. absurd (omega (arith, low));
    unset = λ t high low. ap (λ l. slice_get l t) none ∙ at-replicate targets t None low;
  }

  pub one-set : (targets n : ℕ) (slots slots' : List (Option (S × C))) (store : S) (clock : C) → AreSetSoFar P targets n slots → n < targets → slots' ≡ set slots n (Some (store, clock)) → P n store clock → AreSetSoFar P targets (n + 1) slots'
  one-set targets n slots slots' store clock k within is new = record {
    many = ap length is ∙ length-set slots n (Some (store, clock)) ∙ k.many;
    are = λ t low. elim (cases_eq t n) [
      | inl same ↦ ((store, clock), ap (slice_get slots') same ∙ ap (λ l. slice_get l n) is ∙ set-here slots n None (Some (store, clock)) (k.unset n (omega arith) within), subst (λ i. P i store clock) (sym same) new)
      | inr apart ↦
          let x = k.are t (omega (arith, low, apart)) in
          (x.0, ap (λ l. slice_get l t) is ∙ set-there slots n t (Some (store, clock)) apart ∙ x.1, x.2)
    ];
    unset = λ t high low. ap (λ l. slice_get l t) is ∙ set-there slots n t (Some (store, clock)) (λ same. omega (arith, high, same)) ∙ k.unset t (omega (arith, high)) low;
  }

  pub all-are-set : (targets n : ℕ) (slots : List (Option (S × C))) → AreSetSoFar P targets n slots → n ≡ targets → AreSet targets slots
  all-are-set targets n slots k done = record { many = k.many; each = λ t within. (let x = k.are t (omega (arith, within, done)) in (x.0, x.1)) }

  pub all-are-so : (targets n : ℕ) (slots : List (Option (S × C))) → AreSetSoFar P targets n slots → n ≡ targets → (t : ℕ) (x : S × C) → IsAt slots t x → P t x.0 x.1
  all-are-so targets n slots k done t x at =
      let low : t < targets = subst (λ m. t < m) k.many (slice_get_within slots t (Some x) at) in
      let y = k.are t (omega (arith, low, done)) in
      let same : y.0 ≡ x = (let e : Some (Some y.0) ≡ Some (Some x) = sym y.1 ∙ at in cc) in
      subst (λ z. P t z.0 z.1) same y.2

-- ---- lists with one more at the end

pub length-end : {T : Type 0} (xs : List T) (x : T) → length (xs ++ x ∷ []) ≡ length xs + 1
length-end [] x = refl
length-end (y ∷ ys) x = let k : length (ys ++ x ∷ []) ≡ length ys + 1 = length-end ys x in ap suc k ∙ (let e : suc (length ys + 1) ≡ suc (length ys) + 1 = omega arith in e)

pub at-last : {T : Type 0} (xs : List T) (x : T) → slice_get (xs ++ x ∷ []) (length xs) ≡ Some x
at-last [] x = refl
at-last (y ∷ ys) x = at-last ys x

pub before-end : {T : Type 0} (xs : List T) (x : T) (n : ℕ) (y : T) → slice_get xs n ≡ Some y → slice_get (xs ++ x ∷ []) n ≡ Some y
before-end [] x n y at = let no : ⊥ = cc in absurd no
before-end (z ∷ zs) x zero y at = at
before-end (z ∷ zs) x (suc n) y at = before-end zs x n y at

-- an element of a list with one more is an old one, or the new one at its end
pub at-end : {T : Type 0} (P : ℕ → T → Type 0) (xs : List T) (x : T) → ((k : ℕ) (y : T) → slice_get xs k ≡ Some y → P k y) → P (length xs) x → (k : ℕ) (y : T) → slice_get (xs ++ x ∷ []) k ≡ Some y → P k y
at-end P [] x old new zero y at = let same : x ≡ y = cc in subst (P 0) same new
at-end P [] x old new (suc k) y at = let no : ⊥ = cc in absurd no
at-end P (z ∷ zs) x old new zero y at = old 0 y at
at-end P (z ∷ zs) x old new (suc k) y at = at-end (λ n. P (suc n)) zs x (λ n w h. old (suc n) w h) new k y at

pub same-pair : {T : Type 0} (slots : List (Option T)) (t : ℕ) (x y : T) → slice_get slots t ≡ Some (Some x) → slice_get slots t ≡ Some (Some y) → x ≡ y
same-pair slots t x y at to = let e : Some (Some x) ≡ Some (Some y) = sym at ∙ to in cc

-- a place isn't both set and without anything
pub set-not-none : {T : Type 0} (slots : List (Option T)) (t : ℕ) (x : T) → slice_get slots t ≡ Some (Some x) → slice_get slots t ≡ Some None → ⊥
set-not-none slots t x at none = let e : Some (Some x) ≡ Some None = sym at ∙ none in let no : ⊥ = cc in no

-- ---- stores that come back

-- The stores of the last so many targets are in their places again; those of the first are still to come back to places without anything.
pub record AreBackSoFar {S C : Type 0} (all left : List (TargetOf S C)) (old now : List (Option (S × C))) (n : ℕ) : Type 0 where
  pub so_many : length left + n ≡ length all
  pub first : (t : ℕ) (x : TargetOf S C) → slice_get left t ≡ Some x → slice_get all t ≡ Some x
  pub many : length now ≡ length old
  pub back : (t : ℕ) (x : TargetOf S C) → length left ≤ t → slice_get all t ≡ Some x → IsAt now t (x.store, x.clock)
  pub waits : (t : ℕ) → t < length left → slice_get now t ≡ Some None
  pub others : (t : ℕ) → length all ≤ t → slice_get now t ≡ slice_get old t

pub beyond : {T : Type 0} (xs : List T) (n : ℕ) (x : T) → length xs ≤ n → slice_get xs n ≡ Some x → ⊥
beyond [] n x le at = let no : ⊥ = cc in no
beyond (y ∷ ys) zero x le at = omega (arith, le)
beyond (y ∷ ys) (suc n) x le at = beyond ys n x (omega (arith, le)) at

module _ {S C : Type 0} where
  pub none-back : (all : List (TargetOf S C)) (old : List (Option (S × C))) → ((t : ℕ) → t < length all → slice_get old t ≡ Some None) → AreBackSoFar all all old old 0
  none-back all old taken = record {
    so_many = omega arith;
    first = λ t x at. at;
    many = refl;
    back = λ t x past at. absurd (beyond all t x past at);
    waits = taken;
    others = λ t past. refl;
  }

  pub one-back : (all left left' : List (TargetOf S C)) (old now now' : List (Option (S × C))) (n : ℕ) (x : TargetOf S C) → AreBackSoFar all left old now n → left ≡ left' ++ x ∷ [] → now' ≡ set now (length left') (Some (x.store, x.clock))
      → AreBackSoFar all left' old now' (n + 1)
  one-back all left left' old now now' n x k more is =
      let longer : length left ≡ length left' + 1 = ap length more ∙ length-end left' x in
      let many = k.so_many in
      let its : slice_get all (length left') ≡ Some x = k.first (length left') x (ap (λ l. slice_get l (length left')) more ∙ at-last left' x) in
      record {
        so_many = omega (arith, longer, many);
        first = λ t y at. k.first t y (ap (λ l. slice_get l t) more ∙ before-end left' x t y at);
        many = ap length is ∙ length-set now (length left') (Some (x.store, x.clock)) ∙ k.many;
        back = λ t y past at. elim (cases_eq t (length left')) [
          | inl same ↦
              let here : slice_get now' t ≡ Some (Some (x.store, x.clock)) = ap (λ m. slice_get now' m) same ∙ ap (λ l. slice_get l (length left')) is ∙ set-here now (length left') None (Some (x.store, x.clock)) (k.waits (length left') (omega (arith, longer))) in
              let x-is-y : x ≡ y = one-there all (length left') x y its (ap (λ m. slice_get all m) (sym same) ∙ at) in
              subst (λ z. IsAt now' t (z.store, z.clock)) x-is-y here
          | inr apart ↦
              let old-one = k.back t y (omega (arith, longer, past, apart)) at in
              ap (λ l. slice_get l t) is ∙ set-there now (length left') t (Some (x.store, x.clock)) apart ∙ old-one
        ];
        waits = λ t low. ap (λ l. slice_get l t) is ∙ set-there now (length left') t (Some (x.store, x.clock)) (λ same. omega (arith, low, same)) ∙ k.waits t (omega (arith, longer, low));
        others = λ t past. ap (λ l. slice_get l t) is ∙ set-there now (length left') t (Some (x.store, x.clock)) (λ same. omega (arith, past, same, longer, many)) ∙ k.others t past;
      }
