-- Stores and clocks that are taken from their places, and set back.
use Rattle.std.specs.Prelude.{ℕ, ◌≡◌, ◌≤◌, ◌<◌, ◌+◌, List, [], ◌∷◌, ◌++◌, length, set, slice_get, Option, Some, None}
use Rattle.std.proofs.Common.{inl, inr, sym, ◌∙◌, ap, subst, arith}
use Rattle.std.proofs.lemmas.Bool.{cases_eq}
use Rattle.daos_run.specs.Slots.{AreApart, AreTaken, IsAt}
use Rattle.daos_run.proofs.Slots.{at-last, before-end, length-end, same-pair}
use Rattle.run_targets.specs.Below.{length-set}
use Rattle.world_base.specs.StepLaws.{set-here, set-there}

-- ---- places from which all is taken, one after another

pub one-taken : {T : Type 0} (n : ℕ) (old slots slots' : List (Option T)) (x : T) → AreTaken n old slots → slice_get slots n ≡ Some (Some x) → slots' ≡ set slots n None → AreTaken (n + 1) old slots'
one-taken n old slots slots' x k at taken = record {
  many = ap length taken ∙ length-set slots n None ∙ k.many;
  taken = λ t low within. elim (cases_eq t n) [
    | inl same ↦ ap (λ m. slice_get slots' m) same ∙ ap (λ l. slice_get l n) taken ∙ set-here slots n (Some x) None at
    | inr apart ↦ ap (λ l. slice_get l t) taken ∙ set-there slots n t None apart ∙ k.taken t (omega (arith, low, apart)) within
  ];
  left = λ t high. ap (λ l. slice_get l t) taken ∙ set-there slots n t None (λ same. omega (arith, high, same)) ∙ k.left t (omega (arith, high));
}

module _ {S C : Type 0} (targets : ℕ) where
  -- the stores and the clocks of the first so many targets were taken; there is room for all
  pub record AreTakenSoFar (n : ℕ) (old slots : List (Option (S × C))) (stores : List S) (clocks : List C) (store_room clock_room : ℕ) : Type 0 where
    pub taken : AreTaken n old slots
    pub many_stores : length stores ≡ n
    pub many_clocks : length clocks ≡ n
    pub each : (t : ℕ) (x : S × C) → t < n → IsAt old t x → (slice_get stores t ≡ Some x.0) × (slice_get clocks t ≡ Some x.1)
    pub room_stores : targets ≤ store_room
    pub room_clocks : targets ≤ clock_room

  pub one-apart : (n : ℕ) (old slots slots' : List (Option (S × C))) (stores stores' : List S) (clocks clocks' : List C) (a a' b b' : ℕ) (x : S × C) → AreTakenSoFar n old slots stores clocks a b → IsAt slots n x → slots' ≡ set slots n None
      → stores' ≡ stores ++ x.0 ∷ [] → clocks' ≡ clocks ++ x.1 ∷ [] → a ≤ a' → b ≤ b' → AreTakenSoFar (n + 1) old slots' stores' clocks' a' b'
  one-apart n old slots slots' stores stores' clocks clocks' a a' b b' x k at taken more ticks grows rises =
      let room = k.room_stores in
      let space = k.room_clocks in
      record {
        taken = one-taken n old slots slots' x k.taken at taken;
        many_stores = ap length more ∙ length-end stores x.0 ∙ ap (λ m. m + 1) k.many_stores;
        many_clocks = ap length ticks ∙ length-end clocks x.1 ∙ ap (λ m. m + 1) k.many_clocks;
        each = λ t y low there. elim (cases_eq t n) [
          | inl same ↦
              let is : x ≡ y = same-pair old n x y (sym (k.taken.left n (omega arith)) ∙ at) (ap (slice_get old) (sym same) ∙ there) in
              subst (λ z. (slice_get stores' t ≡ Some z.0) × (slice_get clocks' t ≡ Some z.1)) is (
                ap (λ l. slice_get l t) more ∙ ap (slice_get (stores ++ x.0 ∷ [])) (same ∙ sym k.many_stores) ∙ at-last stores x.0,
                ap (λ l. slice_get l t) ticks ∙ ap (slice_get (clocks ++ x.1 ∷ [])) (same ∙ sym k.many_clocks) ∙ at-last clocks x.1,
              )
          | inr apart ↦
              let e = k.each t y (omega (arith, low, apart)) there in
              (ap (λ l. slice_get l t) more ∙ before-end stores x.0 t y.0 e.0, ap (λ l. slice_get l t) ticks ∙ before-end clocks x.1 t y.1 e.1)
        ];
        room_stores = omega (arith, room, grows);
        room_clocks = omega (arith, space, rises);
      }

  pub all-apart : (n : ℕ) (old slots : List (Option (S × C))) (stores : List S) (clocks : List C) (a b : ℕ) → AreTakenSoFar n old slots stores clocks a b → n ≡ targets → ((t : ℕ) (x : S × C) → IsAt old t x → t < targets) → AreApart targets old stores clocks
  all-apart n old slots stores clocks a b k done within = record {
    many_stores = k.many_stores ∙ done;
    many_clocks = k.many_clocks ∙ done;
    each = λ t x at. (let low = within t x at in k.each t x (omega (arith, low, done)) at);
  }

-- ---- stores and clocks that come back

-- The last so many stores and clocks are in their places again; the first are still to come back to places without anything.
pub record AreSetSoFar {S C : Type 0} (stores : List S) (clocks : List C) (left : List S) (ticks : List C) (old now : List (Option (S × C))) (n : ℕ) : Type 0 where
  pub so_many : length left + n ≡ length stores
  pub as_many : length ticks ≡ length left
  pub first_stores : (t : ℕ) (x : S) → slice_get left t ≡ Some x → slice_get stores t ≡ Some x
  pub first_clocks : (t : ℕ) (x : C) → slice_get ticks t ≡ Some x → slice_get clocks t ≡ Some x
  pub many : length now ≡ length old
  pub back : (t : ℕ) (x : S) (y : C) → length left ≤ t → slice_get stores t ≡ Some x → slice_get clocks t ≡ Some y → IsAt now t (x, y)
  pub waits : (t : ℕ) → t < length left → slice_get now t ≡ Some None
