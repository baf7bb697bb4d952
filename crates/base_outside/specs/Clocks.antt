-- Readings of a clock, one after another.
use Rattle.std.proofs.Common.{subst, arith}
use Rattle.std.specs.Prelude.{ℕ, ◌≡◌, ◌+◌}

-- a clock is another one after so many readings
pub data AreReadings {C : Type 0} (IsRead : C → C → Type 0) : ℕ → C → C → Type 0 where
  Unread : {c : C} → AreReadings IsRead 0 c c
  ReadOn : {n : ℕ} {c d e : C} → AreReadings IsRead n c d → IsRead d e → AreReadings IsRead (n + 1) c e

-- so many readings, and then so many more
pub both-readings : {C : Type 0} (IsRead : C → C → Type 0) (n m : ℕ) (c d e : C) → AreReadings IsRead n c d → AreReadings IsRead m d e → AreReadings IsRead (n + m) c e
both-readings IsRead n m c d e first Unread = let same : n ≡ n + 0 = omega arith in subst (λ k. AreReadings IsRead k c d) same first
both-readings IsRead n m c d e first (ReadOn {n = k} more one) =
    let same : n + k + 1 ≡ n + (k + 1) = omega arith in subst (λ i. AreReadings IsRead i c e) same (ReadOn (both-readings IsRead n k c d _ first more) one)
