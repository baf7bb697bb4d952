-- What stands in blocks, and which blocks it owns. Trees, chains, pairs, lists and trees of these are
-- owners.
use Rattle.std.specs.Prelude.{◌≡◌, ℕ, cond, ◌==◌, ◌≤◌, ◌<◌, ◌+◌, List, [], ◌∷◌, ◌++◌, Option, Some, None}
use Rattle.std.proofs.Common.{arith, inl, inr}
use Rattle.std.proofs.lemmas.Bool.{cases_lt}
use Rattle.pmem_pages.specs.Blocks.{Blocks, IsTaken}

-- how often a block stands in a list
unfoldable pub times : ℕ → List ℕ → ℕ
times q [] = 0
times q (b ∷ bs) = cond (q == b) 1 0 + times q bs

-- the blocks of a list hold the same in both
abbrev pub SameIn : Blocks → Blocks → List ℕ → Type 0
SameIn m n bs = (q : ℕ) → 0 < times q bs → n q ≡ m q

-- a kind of thing that stands in blocks of its own, whatever the other blocks hold
pub record Owner (G : Type 0) : Type 1 where
  pub stands : Blocks → G → Type 0
  pub owned : G → List ℕ
  pub is_taken : (m : Blocks) (g : G) → stands m g → (q : ℕ) → 0 < times q (owned g) → IsTaken m q
  pub frame : (m n : Blocks) (g : G) → SameIn m n (owned g) → stands m g → stands n g

-- it stands, and owns no block twice
pub record Holds {G : Type 0} (O : Owner G) (m : Blocks) (g : G) : Type 0 where
  pub here : O.stands m g
  pub apart : (q : ℕ) → times q (O.owned g) ≤ 1

-- One thing became another. A block that is neither's is as it was: it keeps its bytes and stays taken,
-- or stays free. A block that it took was free, and one that it gave back is free.
pub record Changed {G : Type 0} (O : Owner G) (m : Blocks) (g : G) (n : Blocks) (h : G) : Type 0 where
  pub holds : Holds O n h
  pub outside : (q : ℕ) → times q (O.owned g) ≡ 0 → times q (O.owned h) ≡ 0 → n q ≡ m q
  pub taken : (q : ℕ) → times q (O.owned g) ≡ 0 → 0 < times q (O.owned h) → m q ≡ None
  pub given : (q : ℕ) → 0 < times q (O.owned g) → times q (O.owned h) ≡ 0 → n q ≡ None

pub times-append : (q : ℕ) (xs ys : List ℕ) → times q (xs ++ ys) ≡ times q xs + times q ys
unfolding times
times-append q [] ys = omega arith
times-append q (x ∷ xs) ys = omega (arith, times-append q xs ys)

pub both_is_taken : {A B : Type 0} (O : Owner A) (P : Owner B) (m : Blocks) (g : A × B) → O.stands m g.0 × P.stands m g.1 → (q : ℕ) → 0 < times q (O.owned g.0 ++ P.owned g.1) → IsTaken m q
both_is_taken O P m g s q h =
    elim (cases_lt 0 (times q (O.owned g.0))) [
      | inl first ↦ O.is_taken m g.0 s.0 q first
      | inr none ↦ P.is_taken m g.1 s.1 q (omega (arith, times-append q (O.owned g.0) (P.owned g.1)))
    ]

pub both_frame : {A B : Type 0} (O : Owner A) (P : Owner B) (m n : Blocks) (g : A × B) → SameIn m n (O.owned g.0 ++ P.owned g.1) → O.stands m g.0 × P.stands m g.1 → O.stands n g.0 × P.stands n g.1
both_frame O P m n g f s = (
  O.frame m n g.0 (λ q h. f q (omega (arith, times-append q (O.owned g.0) (P.owned g.1)))) s.0,
  P.frame m n g.1 (λ q h. f q (omega (arith, times-append q (O.owned g.0) (P.owned g.1)))) s.1,
)

-- two things side by side
abbrev pub both : {A B : Type 0} → Owner A → Owner B → Owner (A × B)
both O P = record { stands = λ m g. O.stands m g.0 × P.stands m g.1; owned = λ g. O.owned g.0 ++ P.owned g.1; is_taken = both_is_taken O P; frame = both_frame O P }

-- a list of things
abbrev pub stands_each : {A : Type 0} → Owner A → Blocks → List A → Type 0
stands_each O m [] = Unit {0}
stands_each O m (a ∷ xs) = O.stands m a × stands_each O m xs

abbrev pub owned_each : {A : Type 0} → Owner A → List A → List ℕ
owned_each O [] = []
owned_each O (a ∷ xs) = O.owned a ++ owned_each O xs

pub each_is_taken : {A : Type 0} (O : Owner A) (m : Blocks) (xs : List A) → stands_each O m xs → (q : ℕ) → 0 < times q (owned_each O xs) → IsTaken m q
unfolding times
each_is_taken O m [] s q h = absurd (omega arith)
each_is_taken O m (a ∷ xs) s q h =
    elim (cases_lt 0 (times q (O.owned a))) [
      | inl here ↦ O.is_taken m a s.0 q here
      | inr out ↦ each_is_taken O m xs s.1 q (omega (arith, times-append q (O.owned a) (owned_each O xs)))
    ]

pub each_frame : {A : Type 0} (O : Owner A) (m n : Blocks) (xs : List A) → SameIn m n (owned_each O xs) → stands_each O m xs → stands_each O n xs
each_frame O m n [] f s = tt
each_frame O m n (a ∷ xs) f s = (
  O.frame m n a (λ q h. f q (omega (arith, times-append q (O.owned a) (owned_each O xs)))) s.0,
  each_frame O m n xs (λ q h. f q (omega (arith, times-append q (O.owned a) (owned_each O xs)))) s.1,
)

abbrev pub each : {A : Type 0} → Owner A → Owner (List A)
each O = record { stands = stands_each O; owned = owned_each O; is_taken = each_is_taken O; frame = each_frame O }

-- a thing of which a plain fact holds besides
abbrev pub such : {A : Type 0} → (A → Type 0) → Owner A → Owner A
such P O = record { stands = λ m g. O.stands m g × P g; owned = O.owned; is_taken = λ m g s. O.is_taken m g s.0; frame = λ m n g f s. (O.frame m n g f s.0, s.1) }

-- a thing that may be missing
abbrev pub stands_maybe : {A : Type 0} → Owner A → Blocks → Option A → Type 0
stands_maybe O m None = Unit {0}
stands_maybe O m (Some a) = O.stands m a

abbrev pub owned_maybe : {A : Type 0} → Owner A → Option A → List ℕ
owned_maybe O None = []
owned_maybe O (Some a) = O.owned a

pub maybe_is_taken : {A : Type 0} (O : Owner A) (m : Blocks) (x : Option A) → stands_maybe O m x → (q : ℕ) → 0 < times q (owned_maybe O x) → IsTaken m q
unfolding times
maybe_is_taken O m None s q h = absurd (omega arith)
maybe_is_taken O m (Some a) s q h = O.is_taken m a s q h

pub maybe_frame : {A : Type 0} (O : Owner A) (m n : Blocks) (x : Option A) → SameIn m n (owned_maybe O x) → stands_maybe O m x → stands_maybe O n x
maybe_frame O m n None f s = tt
maybe_frame O m n (Some a) f s = O.frame m n a f s

-- Where it changes from none, it was made in blocks that were free; where to none, all its blocks were given
-- back.
abbrev pub maybe : {A : Type 0} → Owner A → Owner (Option A)
maybe O = record { stands = stands_maybe O; owned = owned_maybe O; is_taken = maybe_is_taken O; frame = maybe_frame O }
