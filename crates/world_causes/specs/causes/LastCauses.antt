-- When all attempts have their lines, every line shows its cause in the whole list of lines.
use Rattle.std.specs.Prelude.{ℕ, ◌≡◌, ◌≢◌, ◌≤◌, ◌+◌, ◌⊎◌, ◌++◌, ◌==◌, Bool, true, false, ◌||◌, List, [], ◌∷◌, length, map, Contains, Some, refl, if◌then◌else◌}
use Rattle.std.proofs.Common.{sym, ◌∙◌, ap, subst, inl, inr, arith}
use Rattle.base_types.specs.declared.epoch.Epoch.{Epoch}
use Rattle.base_types.specs.declared.id.AttemptId.{AttemptId}
use Rattle.base_types.specs.declared.outcome.Outcome.{Outcome}
use Rattle.base_types.specs.declared.outcome.Outcome.TheVariants as outcome
use Rattle.base_types.specs.declared.report.Attempt.{Attempt}
use Rattle.base_types.specs.declared.script.Script.{Script}
use Rattle.model_laws.specs.EntryLaws.{same-attempt}
use Rattle.model_laws.specs.Lists.{has-cut}
use Rattle.model_laws.specs.TargetLaws.{number_same}
use Rattle.model_laws.specs.Members.{Has, has-cases, has-left, has-right}
use Rattle.daos_model.specs.Attempts.{tries}
use Rattle.daos_model.specs.CausesShown.{blocks_at, blocks_of_others, lacks_space_at}
use Rattle.daos_model.specs.Durables.{same_attempt}
use Rattle.world_base.specs.declared.world.World.{World}
use Rattle.world_causes.specs.causes.Causes.{Stored, blocks_if, blocks_of_stored}
use Rattle.world_causes.specs.causes.Storing.{AreApart, HasItsLine, StoredOnce}

-- ---- the statement

abbrev pub ids : List Attempt → List AttemptId
ids xs = map (λ a. a.id) xs

-- where each attempt with an epoch has its line, each that was stored somewhere has one that tells of no lack of space there
fits-there : (t : ℕ) (how : Outcome) → ((need free : ℕ) → how ≡ outcome.NoSpace t need free → ⊥) → lacks_space_at t how ≡ false
fits-there t outcome.Committed off = refl
fits-there t (outcome.CondFailed op) off = refl
fits-there t (outcome.Restart why) off = refl
fits-there t (outcome.NoSpace target need free) off = by (target == t) refl
  where
    by : (b : Bool) → (target == t) ≡ b → (target == t) ≡ false
    by true is = absurd (off need free (ap (λ n. outcome.NoSpace n need free) (number_same target t is)))
    by false is = is
fits-there t outcome.EpochsSpent off = refl
fits-there t outcome.NoSnapshot off = refl
fits-there t (outcome.Unknown target) off = refl

pub stored-are-told : (stored : Stored) (w : World) → StoredOnce stored w → ((x : AttemptId) (e : Epoch) → Contains w.issued (x, e) → (a : Attempt) × Contains (tries w.lines) a × (a.id ≡ x) × (a.epoch ≡ Some e)) → (t : ℕ) (x : AttemptId) → Contains stored (t, x)
    → (a : Attempt) × Contains (tries w.lines) a × (a.id ≡ x) × (lacks_space_at t a.outcome ≡ false)
stored-are-told stored w S lines t x i =
    let e = S.issued t x i in
    let b = lines x e.0 e.1 in
    (b.0, b.1, b.2, fits-there t b.0.outcome (λ need free is. (S.refused t x (HasItsLine b.0 need free b.1 b.2 is)).0 i))

-- ---- lists

beside : {T : Type 0} (us vs : List T) (x z : T) → Has z (us ++ x ∷ vs) → (z ≡ x) ⊎ Has z (us ++ vs)
beside us vs x z i = by (has-cases us (x ∷ vs) z i)
  where
    by : Has z us ⊎ ((z ≡ x) ⊎ Has z vs) → (z ≡ x) ⊎ Has z (us ++ vs)
    by (inl j) = inr (has-left us vs z j)
    by (inr (inl same)) = inl same
    by (inr (inr j)) = inr (has-right us vs z j)

length-beside : {T : Type 0} (us vs : List T) (x : T) → length (us ++ x ∷ vs) ≡ length (us ++ vs) + 1
length-beside [] vs x = omega arith
length-beside (u ∷ us) vs x = let k : length (us ++ x ∷ vs) ≡ length (us ++ vs) + 1 = length-beside us vs x in omega (arith, k)

-- ---- how many lines there are

-- attempts that have lines are at most as many
pub count-within : (ys : List AttemptId) (xs : List Attempt) → AreApart ys → ((y : AttemptId) → Has y ys → (a : Attempt) × Has a xs × (a.id ≡ y)) → length ys ≤ length xs
count-within [] xs k lines = omega arith
count-within (y ∷ ys) xs k lines =
    let more : length ys ≤ length (us ++ vs) = count-within ys (us ++ vs) k.1 others in
    let all : length xs ≡ length (us ++ vs) + 1 = ap length cut.2 ∙ length-beside us vs own.0 in
    omega (arith, more, all)
  where
    own : (a : Attempt) × Has a xs × (a.id ≡ y)
    own = lines y (inl refl)

    cut : (us : List Attempt) × (vs : List Attempt) × (xs ≡ us ++ own.0 ∷ vs)
    cut = has-cut xs own.0 own.1

    us : List Attempt
    us = cut.0

    vs : List Attempt
    vs = cut.1

    others : (z : AttemptId) → Has z ys → (a : Attempt) × Has a (us ++ vs) × (a.id ≡ z)
    others z i = by (lines z (inr i))
      where
        by : (a : Attempt) × Has a xs × (a.id ≡ z) → (a : Attempt) × Has a (us ++ vs) × (a.id ≡ z)
        by b = elim (beside us vs own.0 b.0 (subst (Has b.0) cut.2 b.1)) [
          | inl same ↦ absurd (k.0 (subst (λ x. Has x ys) (sym b.2 ∙ ap (λ c. c.id) same ∙ own.2) i))
          | inr j ↦ (b.0, j, b.2)
        ]

-- ---- blocks

-- the blocks of one line among others
abbrev own_blocks : Script → ℕ → AttemptId → Attempt → ℕ
own_blocks s t x a = if same_attempt a.id x || lacks_space_at t a.outcome then 0 else blocks_at s t a.id

others-beside : (s : Script) (t : ℕ) (x : AttemptId) (us vs : List Attempt) (a : Attempt) → blocks_of_others s t x (us ++ a ∷ vs) ≡ own_blocks s t x a + blocks_of_others s t x (us ++ vs)
unfolding blocks_of_others
others-beside s t x [] vs a = refl
others-beside s t x (u ∷ us) vs a = sum (own_blocks s t x u) (own_blocks s t x a) (others-beside s t x us vs a)
  where
    sum : (m n : ℕ) → blocks_of_others s t x (us ++ a ∷ vs) ≡ n + blocks_of_others s t x (us ++ vs) → m + blocks_of_others s t x (us ++ a ∷ vs) ≡ n + (m + blocks_of_others s t x (us ++ vs))
    sum m n e = omega (arith, e)

stored-blocks : (s : Script) (t : ℕ) (x : AttemptId) (a : Attempt) → a.id ≢ x → lacks_space_at t a.outcome ≡ false → own_blocks s t x a ≡ blocks_at s t a.id
stored-blocks s t x a off fits = by (same_attempt a.id x) refl
  where
    by : (b : Bool) → same_attempt a.id x ≡ b → (if b || lacks_space_at t a.outcome then 0 else blocks_at s t a.id) ≡ blocks_at s t a.id
    by true same = absurd (off (same-attempt a.id x same))
    by false same = ap (λ l. if false || l then 0 else blocks_at s t a.id) fits

-- an attempt that was stored at a target, and is another than this one, has such a line
abbrev IsTold : ℕ → AttemptId → List Attempt → ℕ × AttemptId → Type 0
IsTold t x xs i = (i.1 ≢ x) × ((a : Attempt) × Has a xs × (a.id ≡ i.1) × (lacks_space_at t a.outcome ≡ false))

-- attempts other than one that were stored at a target have lines that account for their blocks
pub blocks-within : (s : Script) (t : ℕ) (x : AttemptId) (ds : Stored) (xs : List Attempt) → AreApart ds → ((i : ℕ × AttemptId) → Has i ds → i.0 ≡ t → IsTold t x xs i) → blocks_of_stored s t ds ≤ blocks_of_others s t x xs
blocks-within s t x [] xs k lines = omega arith
blocks-within s t x (d ∷ ds) xs k lines = by (λ ys told. blocks-within s t x ds ys k.1 told) (d.0 == t) refl
  where
    -- the same of what follows
    Rest : Type 0
    Rest = (ys : List Attempt) → ((i : ℕ × AttemptId) → Has i ds → i.0 ≡ t → IsTold t x ys i) → blocks_of_stored s t ds ≤ blocks_of_others s t x ys

    sum : (m n : ℕ) → blocks_of_others s t x xs ≡ m + n → blocks_of_stored s t ds ≤ n → m + blocks_of_stored s t ds ≤ blocks_of_others s t x xs
    sum m n e l = omega (arith, e, l)

    one : Rest → d.0 ≡ t → blocks_at s t d.1 + blocks_of_stored s t ds ≤ blocks_of_others s t x xs
    one rest here = sum (blocks_at s t d.1) (blocks_of_others s t x (us ++ vs)) all (rest (us ++ vs) others)
      where
        own : (a : Attempt) × Has a xs × (a.id ≡ d.1) × (lacks_space_at t a.outcome ≡ false)
        own = (lines d (inl refl) here).1

        cut : (us : List Attempt) × (vs : List Attempt) × (xs ≡ us ++ own.0 ∷ vs)
        cut = has-cut xs own.0 own.1

        us : List Attempt
        us = cut.0

        vs : List Attempt
        vs = cut.1

        off : own.0.id ≢ x
        off e = (lines d (inl refl) here).0 (sym own.2 ∙ e)

        all : blocks_of_others s t x xs ≡ blocks_at s t d.1 + blocks_of_others s t x (us ++ vs)
        all =
            ap (blocks_of_others s t x) cut.2 ∙ others-beside s t x us vs own.0 ∙ ap (λ n. n + blocks_of_others s t x (us ++ vs)) (stored-blocks s t x own.0 off own.3)
            ∙ ap (λ y. blocks_at s t y + blocks_of_others s t x (us ++ vs)) own.2

        others : (i : ℕ × AttemptId) → Has i ds → i.0 ≡ t → IsTold t x (us ++ vs) i
        others i j at = told (lines i (inr j) at)
          where
            twice : i.1 ≡ d.1 → ⊥
            twice same = k.0 (subst (λ z. Has z ds) (ap (λ u. (u, i.1)) (at ∙ sym here) ∙ ap (λ y. (d.0, y)) same) j)

            told : IsTold t x xs i → IsTold t x (us ++ vs) i
            told b = elim (beside us vs own.0 b.1.0 (subst (Has b.1.0) cut.2 b.1.1)) [
              | inl same ↦ absurd (twice (sym b.1.2 ∙ ap (λ c. c.id) same ∙ own.2))
              | inr l ↦ (b.0, (b.1.0, l, b.1.2, b.1.3))
            ]

    by : Rest → (b : Bool) → (d.0 == t) ≡ b → blocks_if b (blocks_at s t d.1) + blocks_of_stored s t ds ≤ blocks_of_others s t x xs
    by rest true is = one rest (number_same d.0 t is)
    by rest false is = let low : blocks_of_stored s t ds ≤ blocks_of_others s t x xs = rest xs (λ i j. lines i (inr j)) in omega (arith, low)
