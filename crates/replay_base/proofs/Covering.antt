-- The lease is extended where it doesn't cover an epoch, and then the turn goes on.
use Rattle.std.proofs.Common.{ℕ, ◌≡◌, ◌≤◌, ◌<◌, ◌+◌, refl, sym, ◌∙◌, ap, subst, Bool, true, Option, Some, None, arith}
use Rattle.base_types.specs.Epochs.{lease_for}
use Rattle.daos_model.specs.declared.durable.Durable.{Durable}
use Rattle.daos_model.specs.Changes.{leased}
use Rattle.world_base.specs.Changes.{Change, Extends, Kept, Steps}
use Rattle.world_base.specs.Turns.{Whole}
use Rattle.replay_base.specs.declared.leases.Covered.{Covered}
use Rattle.replay_base.specs.Leases.{Already, Extended, IsCovered, Never}
use Rattle.replay_base.specs.Onward.{Iff, Onward, keeps}
use Rattle.replay_base.proofs.Starts.{AtOnce, First, Later, change_first, durable_is, first, free_least, free_more, silent_first}

abbrev pub covered_as : Durable → Bool → Covered
covered_as d changed = record { durable = d; changed = changed }

-- a step where the lease is to cover ticks: it is extended, or covers them already
pub data CoverStep {S : Type 0} (ticks : ℕ) (known onto : S) (k : Kept) : Option Change → S → Type 0 where
  Extending : (lease : ℕ) → k.durable.lease < ticks → lease_for ticks ≡ Some lease → CoverStep ticks known onto k (Some (Extends lease)) known
  Covering : ticks ≤ k.durable.lease → CoverStep ticks known onto k None onto

module _ {S R : Type 0} (Next : S → Kept → Option Change → S → Type 0) (Ends : S → Kept → R → Type 0) (ticks : ℕ) (known onto : S)
    (step_is : (k : Kept) (o : Option Change) (u : S) → Next known k o u → CoverStep ticks known onto k o u)
    (steps : (k : Kept) (o : Option Change) (u : S) → CoverStep ticks known onto k o u → Next known k o u)
    (goes : (k : Kept) (r : R) → Ends known k r → ⊥) where
  leased_lease : (lease : ℕ) (d : Durable) → (leased lease d).lease ≡ lease
  unfolding leased
  leased_lease lease d = refl

  -- where it covers them, the turn goes on
  on_covered : (k new : Kept) (r : R) → ticks ≤ k.durable.lease → Whole Next Ends known k new r → Whole Next Ends onto k new r
  on_covered k new r le w = by (first Next Ends known k new r w)
    where
      step : (o : Option Change) (u : S) (m : Kept) → CoverStep ticks known onto k o u → Steps o k m → Whole Next Ends u m new r → Whole Next Ends onto k new r
      step o u m (Extending lease low is) taken rest = let bad : ⊥ = omega (arith, le, low) in absurd bad
      step o u m (Covering covers) taken rest = subst (λ x. Whole Next Ends onto x new r) taken rest

      by : First Next Ends known k new r → Whole Next Ends onto k new r
      by (AtOnce same ends) = absurd (goes k r ends)
      by (Later o u m next taken rest) = step o u m (step_is k o u next) taken rest

  pub covered_already : (d : Durable) (changed : Bool) (free : ℕ) (new : Kept) (r : R) → ticks ≤ d.lease → Iff (Onward Next Ends known d changed free new r) (Onward Next Ends onto d changed free new r)
  covered_already d changed free new r le = (
    λ o. record { blocks = o.blocks; may = o.may; turn = on_covered (keeps d o.blocks) new r le o.turn },
    λ o. record { blocks = o.blocks; may = o.may; turn = silent_first Next Ends known onto (keeps d o.blocks) new r (steps (keeps d o.blocks) None onto (Covering le)) o.turn },
  )

  -- else it is extended
  extended_on : (d : Durable) (changed : Bool) (free : ℕ) (new : Kept) (r : R) (lease : ℕ) → d.lease < ticks → lease_for ticks ≡ Some lease → ticks ≤ lease
      → Onward Next Ends known d changed free new r → Onward Next Ends onto (leased lease d) true free new r
  extended_on d changed free new r lease low is covers w = by (first Next Ends known (keeps d w.blocks) new r w.turn)
    where
      extends : (m : Kept) → m.durable ≡ leased lease d → w.blocks ≤ m.free + 0 → Whole Next Ends known m new r → Onward Next Ends onto (leased lease d) true free new r
      extends m durable more rest =
          let at : m ≡ keeps (leased lease d) m.free = durable_is m (leased lease d) durable in
          let le : ticks ≤ m.durable.lease = subst (λ x. ticks ≤ x) (sym (ap (λ x. x.lease) durable ∙ leased_lease lease d)) covers in
          let more' : w.blocks ≤ m.free = omega (arith, more) in
          record {
            blocks = m.free;
            may = free_more changed free w.blocks m.free w.may more';
            turn = subst (λ x. Whole Next Ends onto x new r) at (on_covered m new r le rest);
          }

      step : (o : Option Change) (u : S) (m : Kept) → CoverStep ticks known onto (keeps d w.blocks) o u → Steps o (keeps d w.blocks) m → Whole Next Ends u m new r → Onward Next Ends onto (leased lease d) true free new r
      step o u m (Extending other low' is') taken rest =
          let same : other ≡ lease = cc in
          extends m (taken.0 ∙ ap (λ x. leased x d) same) taken.1 rest
      step o u m (Covering le) taken rest = let bad : ⊥ = omega (arith, le, low) in absurd bad

      by : First Next Ends known (keeps d w.blocks) new r → Onward Next Ends onto (leased lease d) true free new r
      by (AtOnce same ends) = absurd (goes (keeps d w.blocks) r ends)
      by (Later o u m next taken rest) = step o u m (step_is (keeps d w.blocks) o u next) taken rest

  extended_back : (d : Durable) (changed : Bool) (free : ℕ) (new : Kept) (r : R) (lease : ℕ) → d.lease < ticks → lease_for ticks ≡ Some lease → ticks ≤ lease
      → Onward Next Ends onto (leased lease d) true free new r → Onward Next Ends known d changed free new r
  extended_back d changed free new r lease low is covers w =
      let least = free_least changed free w.blocks w.may in
      let le : ticks ≤ (leased lease d).lease = subst (λ x. ticks ≤ x) (sym (leased_lease lease d)) covers in
      let fewer : least.0 ≤ w.blocks + 0 = (let l = least.1.1 in omega (arith, l)) in
      record {
        blocks = least.0;
        may = least.1.0;
        turn = change_first Next Ends known known (keeps d least.0) (keeps (leased lease d) w.blocks) new r (Extends lease) (steps (keeps d least.0) (Some (Extends lease)) known (Extending lease low is)) refl fewer
            (silent_first Next Ends known onto (keeps (leased lease d) w.blocks) new r (steps (keeps (leased lease d) w.blocks) None onto (Covering le)) w.turn);
      }

  pub covered_by : (d : Durable) (changed : Bool) (free : ℕ) (new : Kept) (r : R) (lease : ℕ) → d.lease < ticks → lease_for ticks ≡ Some lease → ticks ≤ lease
      → Iff (Onward Next Ends known d changed free new r) (Onward Next Ends onto (leased lease d) true free new r)
  covered_by d changed free new r lease low is covers = (extended_on d changed free new r lease low is covers, extended_back d changed free new r lease low is covers)

  -- no lease covers them: the turn doesn't go on
  pub covered_never : (d : Durable) (changed : Bool) (free : ℕ) (new : Kept) (r : R) → d.lease < ticks → lease_for ticks ≡ None → Onward Next Ends known d changed free new r → ⊥
  covered_never d changed free new r low none w = by (first Next Ends known (keeps d w.blocks) new r w.turn)
    where
      step : (o : Option Change) (u : S) → CoverStep ticks known onto (keeps d w.blocks) o u → ⊥
      step o u (Extending other low' is') = let bad : ⊥ = cc in bad
      step o u (Covering le) = let bad : ⊥ = omega (arith, le, low) in bad

      by : First Next Ends known (keeps d w.blocks) new r → ⊥
      by (AtOnce same ends) = goes (keeps d w.blocks) r ends
      by (Later o u m next taken rest) = step o u (step_is (keeps d w.blocks) o u next)

  -- as it is computed
  pub cover_iff : (d : Durable) (changed : Bool) (c : Covered) (free : ℕ) (new : Kept) (r : R) → IsCovered ticks d changed (Some c)
      → Iff (Onward Next Ends known d changed free new r) (Onward Next Ends onto c.durable c.changed free new r)
  cover_iff d changed c free new r (Already le at) =
      let here : covered_as d changed ≡ c = cc in
      subst (λ y. Iff (Onward Next Ends known d changed free new r) (Onward Next Ends onto y.durable y.changed free new r)) here (covered_already d changed free new r le)
  cover_iff d changed c free new r (Extended lease low at covers there) =
      let here : covered_as (leased lease d) true ≡ c = cc in
      subst (λ y. Iff (Onward Next Ends known d changed free new r) (Onward Next Ends onto y.durable y.changed free new r)) here (covered_by d changed free new r lease low at covers)
  cover_iff d changed c free new r (Never low none at) = (let bad : ⊥ = cc in absurd bad)

  pub cover_none : (d : Durable) (changed : Bool) (free : ℕ) (new : Kept) (r : R) → IsCovered ticks d changed None → Onward Next Ends known d changed free new r → ⊥
  cover_none d changed free new r (Already le at) w = (let bad : ⊥ = cc in bad)
  cover_none d changed free new r (Extended lease low at covers there) w = (let bad : ⊥ = cc in bad)
  cover_none d changed free new r (Never low none at) w = covered_never d changed free new r low none w
