-- How often a block stands in a list, and lists of distinct blocks.
use Rattle.std.proofs.Common.{◌≡◌, ◌≢◌, ℕ, zero, suc, ◌+◌, ◌≤◌, ◌<◌, cond, ◌==◌, true, false, List, [], ◌∷◌, length, refl, ap, arith, inl, inr}
use Rattle.std.proofs.lemmas.Bool.Decides.{eqb_tells}
use Rattle.std.proofs.lemmas.Bool.{ne_eqb}
use Rattle.pmem_pages.specs.Owners.{times}

pub times_none : (q : ℕ) → times q [] ≡ 0
unfolding times
times_none q = refl

pub times_one : (q b : ℕ) (bs : List ℕ) → times q (b ∷ bs) ≡ times q (b ∷ []) + times q bs
unfolding times
times_one q b bs = omega arith

pub times_own : (b : ℕ) → times b (b ∷ []) ≡ 1
unfolding times
times_own b = grind arith

pub times_other : (q b : ℕ) → q ≢ b → times q (b ∷ []) ≡ 0
unfolding times
times_other q b ne = grind arith

-- the list without a number
without : ℕ → List ℕ → List ℕ
without k [] = []
without k (b ∷ bs) = cond (k == b) (without k bs) (b ∷ without k bs)

length_without : (k : ℕ) (bs : List ℕ) → length bs ≡ times k bs + length (without k bs)
unfolding times without
length_without k [] = omega arith
length_without k (b ∷ bs) =
    elim (k == b) as (λ t. length (b ∷ bs) ≡ (cond t 1 0 + times k bs) + length (cond t (without k bs) (b ∷ without k bs))) [
      | true ↦ omega (arith, length_without k bs)
      | false ↦ omega (arith, length_without k bs)
    ]

times_without : (q k : ℕ) (bs : List ℕ) → times q (without k bs) ≤ times q bs
unfolding times without
times_without q k [] = omega arith
times_without q k (b ∷ bs) =
    elim (k == b) as (λ t. times q (cond t (without k bs) (b ∷ without k bs)) ≤ cond (q == b) 1 0 + times q bs) [
      | true ↦ omega (arith, times_without q k bs)
      | false ↦ omega (arith, times_without q k bs)
    ]

times_own_without : (k : ℕ) (bs : List ℕ) → times k (without k bs) ≡ 0
unfolding times without
times_own_without k [] = refl
times_own_without k (b ∷ bs) =
    elim (eqb_tells k b) [
      | inl a ↦ rw a.0 (omega (arith, times_own_without k bs))
      | inr a ↦ rw (ne_eqb k b a.1) (rw (ne_eqb k b a.1) (omega (arith, times_own_without k bs)))
    ]

nothing : (bs : List ℕ) → ((q : ℕ) → 0 < times q bs → ⊥) → length bs ≤ 0
nothing [] h = omega arith
nothing (b ∷ bs) h = absurd (h b (omega (arith, times_one b b bs, times_own b)))

-- distinct numbers below n are at most n
pub at_most : (n : ℕ) (bs : List ℕ) → ((q : ℕ) → times q bs ≤ 1) → ((q : ℕ) → 0 < times q bs → q < n) → length bs ≤ n
at_most zero bs once low = nothing bs (λ q h. let l = low q h in omega arith)
at_most (suc n) bs once low =
    let below : (q : ℕ) → 0 < times q (without n bs) → q < n = λ q h.
    elim (eqb_tells q n) [
      | inl a ↦ absurd (let z : times q (without n bs) ≡ times n (without n bs) = ap (λ k. times k (without n bs)) a.1 in omega (arith, z, h, times_own_without n bs))
      | inr a ↦ let ne = a.1 in omega (arith, low q (omega (arith, h, times_without q n bs)), ne)
    ] in
    let less = at_most n (without n bs) (λ q. omega (arith, once q, times_without q n bs)) below in
    omega (arith, length_without n bs, once n, less)
