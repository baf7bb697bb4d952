-- Fuses of targets, set one after another.
use Rattle.std.specs.Prelude.{ℕ, suc, ◌≡◌, ◌≤◌, ◌<◌, ◌+◌, List, length, slice_get, slice_set, Option, Some}
use Rattle.std.proofs.Common.{add-one, inl, inr, sym, ◌∙◌, ap, subst, arith}
use Rattle.std.proofs.lemmas.Bool.{cases_eq}
use Rattle.std.proofs.lemmas.Option.{slice_get_within}
use Rattle.daos_model.specs.declared.durable.Durable.{Durable}
use Rattle.run_loop.specs.Below.{AreArmed, AreUnfused, HasFuse, HaveFuses, TargetOf, length-set, lines_left, next-left}
use Rattle.run_watch.specs.Watches.{WatchNow, fuse_set, next_fuse}
use Rattle.vos_store.specs.Calls.{State}
use Rattle.world_base.specs.StepLaws.{set-is, set-there}

both-ways : (a b : ℕ) → b ≤ a → a ≤ b → a ≡ b
both-ways a b low high = omega (arith, low, high)

module _ {S C : Type 0} (durable : S → Option Durable) (state : S → State) (may : S → Durable → Type 0) where
  -- fuses of the first t targets were set so, and nothing else of any target changed
  pub record AreSetTo (write : ℕ → ℕ) (t : ℕ) (xs ys : List (TargetOf S C)) : Type 0 where
    pub within : t ≤ length xs
    pub many : length ys ≡ length xs
    pub each : (u : ℕ) (x y : TargetOf S C) → slice_get xs u ≡ Some x → slice_get ys u ≡ Some y → u < t → HasFuse durable state may (write u) x y
    pub later : (u : ℕ) → t ≤ u → slice_get ys u ≡ slice_get xs u

  -- they are those of each one's first stop line
  pub record AreArmedTo (t : ℕ) (xs ys : List (TargetOf S C)) (w v : WatchNow) : Type 0 where
    pub set : AreSetTo (λ u. next_fuse u w.stops) t xs ys
    pub watch : v ≡ record w { stops = lines_left t w.stops }

  -- they were taken away
  abbrev pub AreUnfusedTo : ℕ → List (TargetOf S C) → List (TargetOf S C) → Type 0
  AreUnfusedTo t xs ys = AreSetTo (λ u. 0) t xs ys

  -- ---- one more

  module _ (t : ℕ) (xs ys : List (TargetOf S C)) (y z : TargetOf S C) (at : slice_get ys t ≡ Some y) where
    set-more : (write : ℕ → ℕ) → HasFuse durable state may (write t) y z → AreSetTo write t xs ys → AreSetTo write (suc t) xs (slice_set ys t z)
    set-more write f s = record {
      within = let there = slice_get_within ys t y at in let many = s.many in omega (arith, there, many);
      many = length-set ys t z ∙ s.many;
      each = λ u x q here there low. elim (cases_eq u t) as (λ c. HasFuse durable state may (write u) x q) [
        | inl same ↦
            let new : z ≡ q = set-is ys t z q (subst (λ n. slice_get (slice_set ys t z) n ≡ Some q) same there) in
            let old : y ≡ x = let e : Some y ≡ Some x = sym at ∙ s.later t (omega arith) ∙ subst (λ n. slice_get xs n ≡ Some x) same here in cc in
            subst (λ n. HasFuse durable state may (write n) x q) (sym same) (subst (λ p. HasFuse durable state may (write t) p q) old (subst (HasFuse durable state may (write t) y) new f))
        | inr apart ↦ s.each u x q here (sym (set-there ys t u z apart) ∙ there) (omega (arith, low, apart))
      ];
      later = λ u past. set-there ys t u z (λ same. absurd (omega (arith, same, past))) ∙ s.later u (omega (arith, past));
    }

    pub armed-more : (w v : WatchNow) → HasFuse durable state may (next_fuse t v.stops) y z → AreArmedTo t xs ys w v → AreArmedTo (suc t) xs (slice_set ys t z) w (fuse_set t v)
    armed-more w v f k = record {
      set = set-more (λ u. next_fuse u w.stops) (subst (λ n. HasFuse durable state may n y z) (ap (λ x. next_fuse t x.stops) k.watch ∙ next-left t t w.stops (omega arith)) f) k.set;
      watch = ap (fuse_set t) k.watch;
    }

    -- as the code sets it: of the target that stands there, at the write of its next stop line, which is no more to come
    pub armed-there : (k : ℕ) (w v now : WatchNow) → k ≡ next_fuse t v.stops → now ≡ fuse_set t v → HasFuse durable state may k y z → AreArmedTo t xs ys w v → AreArmedTo (t + 1) xs (slice_set ys t z) w now
    armed-there k w v now write left f a =
        rw (add-one t) (subst (AreArmedTo (suc t) xs (slice_set ys t z) w) (sym left) (armed-more w v (subst (λ n. HasFuse durable state may n y z) write f) a))

    pub unfused-there : HasFuse durable state may 0 y z → AreUnfusedTo t xs ys → AreUnfusedTo (t + 1) xs (slice_set ys t z)
    unfused-there f a = rw (add-one t) (set-more (λ u. 0) f a)

  -- ---- all of them

  all-set : (write : ℕ → ℕ) (t : ℕ) (xs ys : List (TargetOf S C)) → length xs ≤ t → AreSetTo write t xs ys → HaveFuses durable state may write xs ys
  all-set write t xs ys all k = record {
    many = k.many;
    each = λ u x y here there. k.each u x y here there (let low = slice_get_within xs u x here in omega (arith, all, low));
  }

  pub all-armed : (t : ℕ) (xs ys : List (TargetOf S C)) (w v : WatchNow) → length xs ≤ t → AreArmedTo t xs ys w v → AreArmed durable state may xs ys w v
  all-armed t xs ys w v all k = record {
    fuses = all-set (λ u. next_fuse u w.stops) t xs ys all k.set;
    watch = k.watch ∙ ap (λ n. record w { stops = lines_left n w.stops }) (both-ways t (length xs) all k.set.within);
  }

  pub all-unfused : (t : ℕ) (xs ys : List (TargetOf S C)) → length xs ≤ t → AreUnfusedTo t xs ys → AreUnfused durable state may xs ys
  all-unfused t xs ys all k = all-set (λ u. 0) t xs ys all k
