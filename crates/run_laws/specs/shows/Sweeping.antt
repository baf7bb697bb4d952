-- Where no target is given up, nothing is lost.
use Rattle.std.specs.Prelude.{ℕ, zero, suc, ◌≡◌, ◌++◌, ◌||◌, ◌&&◌, not, Bool, true, false, List, [], ◌∷◌, filter, map, refl, if◌then◌else◌}
use Rattle.std.proofs.Common.{append-nil, ◌∙◌, ap}
use Rattle.std.specs.List.{list_any}
use Rattle.model_laws.specs.Lists.{filter-all}
use Rattle.run_base.specs.Letters.{BetweenNow}
use Rattle.run_base.specs.Sweeps.{is_down_in, is_left_by, is_lost_by}
use Rattle.run_laws.specs.shows.Turned.{swept_between}
use Rattle.world_base.specs.declared.letter.Letter.{Letter}
use Rattle.world_base.specs.declared.target.Life.{Life}
use Rattle.world_base.specs.Stops.{is_given_up, reset_letter}

left-off : (a b : Bool) → a || b ≡ false → a ≡ false
left-off true b h = let no : ⊥ = cc in absurd no
left-off false b h = refl

right-off : (a b : Bool) → a || b ≡ false → b ≡ false
right-off true b h = let no : ⊥ = cc in absurd no
right-off false b h = h

-- none of them was given up
none-down : (lives : List Life) → list_any (λ life. is_given_up life) lives ≡ false → (n : ℕ) → is_down_in lives n ≡ false
none-down [] none n = refl
none-down (l ∷ ls) none zero = left-off (is_given_up l) (list_any (λ life. is_given_up life) ls) none
none-down (l ∷ ls) none (suc n) = none-down ls (right-off (is_given_up l) (list_any (λ life. is_given_up life) ls) none) n

filter-none : (test : Letter → Bool) (xs : List Letter) → ((x : Letter) → test x ≡ false) → filter test xs ≡ []
filter-none test [] none = refl
filter-none test (x ∷ xs) none = ap (λ b. if b then x ∷ filter test xs else filter test xs) (none x) ∙ filter-none test xs none

module _ (lives : List Life) (b : BetweenNow) (none : list_any (λ life. is_given_up life) lives ≡ false) where
  kept : (l : Letter) → is_lost_by lives l ≡ false
  kept l = by l.to.client (none-down lives none l.to.number)
    where
      by : (c : Bool) → is_down_in lives l.to.number ≡ false → not c && is_down_in lives l.to.number ≡ false
      by true off = refl
      by false off = off

  all-left : (xs : List Letter) → filter (is_left_by lives) xs ≡ xs
  all-left xs = filter-all (is_left_by lives) xs (λ x i. ap not (kept x))

  pub nothing-lost : swept_between lives b ≡ b
  nothing-lost =
      ap (λ ms. record b { messages = ms; asked = filter (is_left_by lives) b.asked })
      (all-left (b.messages ++ map (reset_letter true) (filter (is_lost_by lives) b.asked)) ∙ ap (λ qs. b.messages ++ map (reset_letter true) qs) (filter-none (is_lost_by lives) b.asked kept) ∙ append-nil b.messages)
      ∙ ap (λ qs. record b { asked = qs }) (all-left b.asked)
