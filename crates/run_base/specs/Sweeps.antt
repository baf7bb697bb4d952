-- What goes to targets that are given up, by how the targets stand.
use Rattle.std.specs.Prelude.{ℕ, zero, suc, ◌≡◌, ◌++◌, ◌&&◌, not, Bool, true, false, List, [], ◌∷◌, filter, map, slice_get, Option, Some, None, refl, if◌then◌else◌}
use Rattle.std.proofs.Common.{append-nil, inl, inr, sym, ◌∙◌, ap}
use Rattle.model_laws.specs.Lists.{filter-all}
use Rattle.model_laws.specs.Members.{Has, has-from_filter}
use Rattle.world_base.specs.declared.letter.Letter.{Letter}
use Rattle.world_base.specs.declared.target.Life.{Life}
use Rattle.world_base.specs.declared.target.TargetState.{TargetState}
use Rattle.world_base.specs.declared.world.World.{World}
use Rattle.world_base.specs.Stops.{is_down_at, is_given_up, is_not_to_down, is_to_down, reset_letter, swept}

abbrev pub is_given_up_there : Option Life → Bool
is_given_up_there None = false
is_given_up_there (Some l) = is_given_up l

-- the target of a number is given up, where the targets stand so
abbrev pub is_down_in : List Life → ℕ → Bool
is_down_in lives t = is_given_up_there (slice_get lives t)

-- a letter goes to such a target
abbrev pub is_lost_by : List Life → Letter → Bool
is_lost_by lives l = not l.to.client && is_down_in lives l.to.number

abbrev pub is_left_by : List Life → Letter → Bool
is_left_by lives l = not (is_lost_by lives l)

-- how the targets of a world stand
abbrev pub lives_of : World → List Life
lives_of w = map (λ s. s.life) w.targets

-- ---- the statements

-- Where the targets of a world stand so, this is which of them are given up in it.
abbrev pub LivesTellDowns : Type 0
LivesTellDowns = (w : World) (t : ℕ) → is_down_in (lives_of w) t ≡ is_down_at w.targets t

-- What is left of messages, and of what is without an answer, is what an event of a run leaves.
abbrev pub SweepsAreOfLives : Type 0
SweepsAreOfLives =
    (w : World) → ((swept w).messages ≡ filter (is_left_by (lives_of w)) (w.messages ++ map (reset_letter true) (filter (is_lost_by (lives_of w)) w.asked)))
    × ((swept w).asked ≡ filter (is_left_by (lives_of w)) w.asked)

-- Where no target is given up, nothing is lost.
abbrev pub NoneIsSwept : Type 0
NoneIsSwept = (w : World) → ((t : ℕ) → is_down_at w.targets t ≡ false) → swept w ≡ w

-- What is left once is left again.
abbrev pub SweepingIsDone : Type 0
SweepingIsDone = (w : World) → swept (swept w) ≡ swept w

-- ---- tests

pub down-in : (ss : List TargetState) (t : ℕ) → is_down_in (map (λ s. s.life) ss) t ≡ is_down_at ss t
down-in [] t = refl
down-in (s ∷ ss) zero = refl
down-in (s ∷ ss) (suc t) = down-in ss t

pub lives-tell_downs : LivesTellDowns
lives-tell_downs w t = down-in w.targets t

pub lost-is : (w : World) (l : Letter) → is_lost_by (lives_of w) l ≡ is_to_down w.targets l
lost-is w l = ap (λ b. not l.to.client && b) (down-in w.targets l.to.number)

pub left-is : (w : World) (l : Letter) → is_left_by (lives_of w) l ≡ is_not_to_down w.targets l
left-is w l = ap not (lost-is w l)

-- ---- filters

module _ {T : Type 0} where
  -- tests that say the same pass the same
  pub filter-same : (p q : T → Bool) (xs : List T) → ((x : T) → p x ≡ q x) → filter p xs ≡ filter q xs
  filter-same p q [] same = refl
  filter-same p q (x ∷ xs) same = ap (λ b. if b then x ∷ filter p xs else filter p xs) (same x) ∙ ap (λ ys. if q x then x ∷ ys else ys) (filter-same p q xs same)

  filter-none : (p : T → Bool) (xs : List T) → ((x : T) → Has x xs → p x ≡ false) → filter p xs ≡ []
  filter-none p [] none = refl
  filter-none p (x ∷ xs) none = ap (λ b. if b then x ∷ filter p xs else filter p xs) (none x (inl refl)) ∙ filter-none p xs (λ y i. none y (inr i))

  -- what is left by a test is left again
  filter-again : (p : T → Bool) (xs : List T) → filter p (filter p xs) ≡ filter p xs
  filter-again p xs = filter-all p (filter p xs) (λ x i. (has-from_filter p xs x i).1)

-- ---- the laws

pub sweeps-are_of_lives : SweepsAreOfLives
sweeps-are_of_lives w = (
  sym (filter-same (is_left_by (lives_of w)) (is_not_to_down w.targets) (w.messages ++ map (reset_letter true) (filter (is_lost_by (lives_of w)) w.asked)) (left-is w)
      ∙ ap (λ ls. filter (is_not_to_down w.targets) (w.messages ++ map (reset_letter true) ls)) (filter-same (is_lost_by (lives_of w)) (is_to_down w.targets) w.asked (lost-is w))),
  sym (filter-same (is_left_by (lives_of w)) (is_not_to_down w.targets) w.asked (left-is w)),
)

-- a world with these messages, and these without an answer
with_both : World → List Letter → List Letter → World
with_both w messages asked = record w { messages = messages; asked = asked }

-- where nothing goes to a target that is given up, sweeping leaves all
left-whole : (w : World) → filter (is_not_to_down w.targets) w.messages ≡ w.messages → filter (is_not_to_down w.targets) w.asked ≡ w.asked → filter (is_to_down w.targets) w.asked ≡ [] → swept w ≡ w
unfolding with_both
left-whole w messages asked none =
    ap (λ ls. with_both w (filter (is_not_to_down w.targets) (w.messages ++ map (reset_letter true) ls)) (filter (is_not_to_down w.targets) w.asked)) none
    ∙ ap (λ ls. with_both w (filter (is_not_to_down w.targets) ls) (filter (is_not_to_down w.targets) w.asked)) (append-nil w.messages)
    ∙ ap (λ ls. with_both w ls (filter (is_not_to_down w.targets) w.asked)) messages ∙ ap (with_both w w.messages) asked

pub none-is_swept : NoneIsSwept
none-is_swept w none =
    left-whole w (filter-all (is_not_to_down w.targets) w.messages (λ l i. ap not (off l))) (filter-all (is_not_to_down w.targets) w.asked (λ l i. ap not (off l)))
    (filter-none (is_to_down w.targets) w.asked (λ l i. off l))
  where
    with-false : (b : Bool) → b && false ≡ false
    with-false true = refl
    with-false false = refl

    off : (l : Letter) → is_to_down w.targets l ≡ false
    off l = ap (λ b. not l.to.client && b) (none l.to.number) ∙ with-false (not l.to.client)

pub sweeping-is_done : SweepingIsDone
sweeping-is_done w =
    left-whole (swept w) (filter-again (is_not_to_down w.targets) (w.messages ++ map (reset_letter true) (filter (is_to_down w.targets) w.asked))) (filter-again (is_not_to_down w.targets) w.asked)
    (filter-none (is_to_down w.targets) (filter (is_not_to_down w.targets) w.asked) (λ l i. off (is_to_down w.targets l) (has-from_filter (is_not_to_down w.targets) w.asked l i).1))
  where
    off : (b : Bool) → not b ≡ true → b ≡ false
    off true h = let no : ⊥ = cc in absurd no
    off false h = refl
