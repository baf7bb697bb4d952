-- Zeros behind the bytes that were written.
use Rattle.std.proofs.Common.{◌≡◌, ◌≢◌, ℕ, zero, suc, ◌≤◌, get_or, set, replicate, refl, arith, get_or-set_other}

zeros : (n i : ℕ) → ◌≡◌ {A = ℕ} (get_or (replicate n 0) i 0) 0
zeros zero i = refl
zeros (suc n) zero = refl
zeros (suc n) (suc i) = zeros n i

pub two_set : (n a b i : ℕ) → 2 ≤ i → get_or (set (set (replicate n 0) 0 a) 1 b) i 0 ≡ 0
two_set n a b i h =
    let one : i ≢ 1 = λ z. absurd (omega arith) in
    let none : i ≢ 0 = λ z. absurd (omega arith) in
    rw (get_or-set_other, get_or-set_other) (zeros n i)

pub one_set : (n a i : ℕ) → 1 ≤ i → get_or (set (replicate n 0) 0 a) i 0 ≡ 0
one_set n a i h =
    let none : i ≢ 0 = λ z. absurd (omega arith) in
    rw get_or-set_other (zeros n i)
