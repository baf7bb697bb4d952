-- The greatest lease of stores, of those so far.
use Rattle.std.specs.Prelude.{ℕ, ◌≡◌, ◌≤◌, ◌<◌, ◌+◌, max, List, length, slice_get, Option, Some}
use Rattle.std.specs.Option.{ForSome}
use Rattle.std.proofs.Common.{inl, inr, sym, ◌∙◌, ap, subst, arith}
use Rattle.std.proofs.lemmas.Bool.{cases_eq}
use Rattle.std.proofs.lemmas.Option.{slice_get_within}
use Rattle.base_types.specs.Epochs.{restart_floor}
use Rattle.daos_model.specs.declared.durable.Durable.{Durable}
use Rattle.daos_model.specs.Family.{greatest_lease}
use Rattle.run_opening.specs.All.{AreKept}
use Rattle.vos_store.specs.Calls.{State}
use Rattle.world_closing.specs.stands.Lasting.{lease-within, leases-below}
use Rattle.run_starts.specs.Calls.{AreCovered}
use Rattle.run_starts.proofs.Adding.{same-at, there}

module _ {S : Type 0} (durable : S → Option Durable) (state : S → State) (stores : List S) where
  -- the greatest of the leases of the first so many stores
  pub record IsGreatestSoFar (n greatest : ℕ) : Type 0 where
    pub covers : (t : ℕ) (x : S) → t < n → slice_get stores t ≡ Some x → (state x).opening.0.0 ≤ restart_floor greatest
    pub above : (F : List Durable) → AreKept durable stores F → (t : ℕ) (d : Durable) → t < n → slice_get F t ≡ Some d → d.lease ≤ greatest
    pub within : (F : List Durable) → AreKept durable stores F → greatest ≤ greatest_lease F

  pub none-seen : IsGreatestSoFar 0 0
  none-seen = record { covers = λ t x low. absurd (omega (arith, low)); above = λ F k t d low. absurd (omega (arith, low)); within = λ F k. omega arith }

  -- one more
  one-lease : (a b : ℕ) → a ≤ max b a
  one-lease a b = omega arith

  other-lease : (a b : ℕ) → b ≤ max b a
  other-lease a b = omega arith

  floor-rises : (e a b : ℕ) → e ≤ restart_floor a → a ≤ b → e ≤ restart_floor b
  floor-rises e a b le up = omega (arith, le, up)

  both-within : (a b c : ℕ) → a ≤ c → b ≤ c → max b a ≤ c
  both-within a b c p q = omega (arith, p, q)

  pub one-seen : (n greatest lease : ℕ) (x : S) → IsGreatestSoFar n greatest → slice_get stores n ≡ Some x → ForSome (durable x) (λ d. lease ≡ d.lease) → (state x).opening.0.0 ≤ restart_floor lease → IsGreatestSoFar (n + 1) (max lease greatest)
  one-seen n greatest lease x k here told covers = record {
    covers = λ t y low at. elim (cases_eq t n) [
      | inl same ↦
          let is : x ≡ y = same-at stores n x y here (ap (slice_get stores) (sym same) ∙ at) in
          subst (λ z. (state z).opening.0.0 ≤ restart_floor (max lease greatest)) is (floor-rises (state x).opening.0.0 lease (max lease greatest) covers (other-lease greatest lease))
      | inr apart ↦ floor-rises (state y).opening.0.0 greatest (max lease greatest) (k.covers t y (omega (arith, low, apart)) at) (one-lease greatest lease)
    ];
    above = λ F kept t d low at. elim (cases_eq t n) [
      | inl same ↦
          let its : lease ≡ d.lease = told d (kept.each n x d here (ap (slice_get F) (sym same) ∙ at)) in
          let up = other-lease greatest lease in
          omega (arith, its, up)
      | inr apart ↦ (let le = k.above F kept t d (omega (arith, low, apart)) at in let up = one-lease greatest lease in omega (arith, le, up))
    ];
    within = λ F kept.
        let d = there stores F n x kept.many here in
        let its : lease ≡ d.0.lease = told d.0 (kept.each n x d.0 here d.1) in
        let le = lease-within F n d.0 d.1 in
        both-within greatest lease (greatest_lease F) (k.within F kept) (omega (arith, its, le));
  }

  pub all-covered : (n greatest : ℕ) → IsGreatestSoFar n greatest → length stores ≤ n → AreCovered state stores greatest
  all-covered n greatest k done t x at = let low = slice_get_within stores t x at in k.covers t x (omega (arith, low, done)) at

  pub is-greatest : (n greatest : ℕ) → IsGreatestSoFar n greatest → length stores ≤ n → (F : List Durable) → AreKept durable stores F → greatest ≡ greatest_lease F
  is-greatest n greatest k done F kept =
      let low = k.within F kept in
      let many = kept.many in
      let high = leases-below F greatest (λ t d at. let below = slice_get_within F t d at in k.above F kept t d (omega (arith, below, many, done)) at) in
      omega (arith, low, high)
