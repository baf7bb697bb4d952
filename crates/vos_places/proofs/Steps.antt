-- What a reading of a field says of the field, and the other way round.
use Rattle.std.proofs.Common.{◌≡◌, ℕ, ◌+◌, ◌==◌, Bool, true, false, List, [], ◌∷◌, Result, Ok, Err, zero, suc, replicate, subst, sym, refl}
use Rattle.vos_image.specs.Steps.{Step, ◌>>=◌, onward, rule, zeros}

-- a rule that a reading went over holds
pub rule_was : {B : Type 0} (at : ℕ) (t : Bool) (f : Unit {0} → Step B) (led : List ℕ) (r : B × List ℕ) → (rule at t >>= f) led ≡ Ok r → (t ≡ true) × (f tt led ≡ Ok r)
unfolding ◌>>=◌ rule
rule_was at true f led r h = (refl, h)
rule_was at false f led r h = absurd (cc)

pub rule_goes : {B : Type 0} (at : ℕ) (t : Bool) (f : Unit {0} → Step B) (led : List ℕ) (r : B × List ℕ) → t ≡ true → f tt led ≡ Ok r → (rule at t >>= f) led ≡ Ok r
unfolding ◌>>=◌ rule
rule_goes at t f led r h k = rw h k

-- bytes that are read as zeros, wherever the reading has been
abbrev pub AreZeros : ℕ → List ℕ → Type 0
AreZeros at bs = (led : List ℕ) → zeros at bs led ≡ Ok (tt, led)

pub first_was : {B : Type 0} (at : ℕ) (t : Bool) (x : Step (Unit {0})) (f : Unit {0} → Step B) (led : List ℕ) (r : B × List ℕ) → ((rule at t >>= λ _. x) >>= f) led ≡ Ok r → (t ≡ true) × ((x >>= f) led ≡ Ok r)
unfolding ◌>>=◌ rule
first_was at true x f led r h = (refl, h)
first_was at false x f led r h = absurd (cc)

first_zero : (at b : ℕ) (bs : List ℕ) → (b == 0) ≡ true → AreZeros (at + 1) bs → AreZeros at (b ∷ bs)
unfolding ◌>>=◌ rule
first_zero at b bs h more led = rw h (more led)

pub zeros_were : {B : Type 0} (at : ℕ) (bs : List ℕ) (f : Unit {0} → Step B) (led : List ℕ) (r : B × List ℕ) → (zeros at bs >>= f) led ≡ Ok r → AreZeros at bs × (f tt led ≡ Ok r)
unfolding ◌>>=◌
zeros_were at [] f led r h = (λ l. refl, h)
zeros_were at (b ∷ bs) f led r h =
    let one = first_was at (b == 0) (zeros (at + 1) bs) f led r h in
    let rest = zeros_were (at + 1) bs f led r one.1 in
    (first_zero at b bs one.0 rest.0, rest.1)

-- zeros that were read once are read wherever the reading has been
pub zeros_told : (at : ℕ) (bs led : List ℕ) → zeros at bs led ≡ Ok (tt, led) → AreZeros at bs
zeros_told at [] led h = λ other. refl
zeros_told at (b ∷ bs) led h =
    let one = rule_was at (b == 0) (λ _. zeros (at + 1) bs) led (tt, led) h in
    first_zero at b bs one.0 (zeros_told (at + 1) bs led one.1)

pub zeros_go : {B : Type 0} (at : ℕ) (bs : List ℕ) (f : Unit {0} → Step B) (led : List ℕ) (r : B × List ℕ) → AreZeros at bs → f tt led ≡ Ok r → (zeros at bs >>= f) led ≡ Ok r
unfolding ◌>>=◌
zeros_go at bs f led r h k = rw (h led) k

-- so many bytes that are known to be zero
pub zeros_known : (at : ℕ) (bs : List ℕ) (n : ℕ) → bs ≡ replicate n 0 → AreZeros at bs
zeros_known at bs n is = subst (λ (z : List ℕ). AreZeros at z) (sym is) (only_zeros n at)
  where
    only_zeros : (m k : ℕ) → AreZeros k (replicate m 0)
    only_zeros zero k = λ led. refl
    only_zeros (suc m) k = first_zero k 0 (replicate m 0) refl (only_zeros m (k + 1))

-- a step that reads the same wherever the reading has been
pub step_goes : {A B : Type 0} (x : Step A) (f : A → Step B) (a : A) (led after : List ℕ) (r : B × List ℕ) → x led ≡ Ok (a, after) → f a after ≡ Ok r → (x >>= f) led ≡ Ok r
unfolding ◌>>=◌
step_goes x f a led after r h k = rw h k

-- what went before a reading that went well
pub record Bound {A B : Type 0} (x : Step A) (f : A → Step B) (led : List ℕ) (r : B × List ℕ) : Type 0 where
  pub given : A
  pub after : List ℕ
  pub first : x led ≡ Ok (given, after)
  pub behind : f given after ≡ Ok r

pub bound_was : {A B : Type 0} (x : Step A) (f : A → Step B) (led : List ℕ) (r : B × List ℕ) → (x >>= f) led ≡ Ok r → Bound x f led r
unfolding ◌>>=◌
bound_was {A = A} x f led r h = by (x led) refl h
  where
    by : (y : Result (A × List ℕ) ℕ) → x led ≡ y → onward y f ≡ Ok r → Bound x f led r
    by (Ok q) e k = record { given = q.0; after = q.1; first = e; behind = k }
    by (Err at) e k = absurd (cc)
