-- What goes to targets that are given up is lost, as a list of these tells.
use Rattle.std.specs.Prelude.{ℕ, zero, suc, ◌+◌, ◌≡◌, ◌<◌, ◌==◌, ◌&&◌, not, nat_eq, Bool, true, false, List, [], ◌∷◌, ◌++◌, filter, map, refl, if◌then◌else◌}
use Rattle.std.specs.List.{list_any}
use Rattle.std.proofs.Common.{sym, ◌∙◌, ap, arith}
use Rattle.std.proofs.lemmas.Bool.Decides.{nat_tests}
use Rattle.world_base.specs.declared.letter.Letter.{Letter}
use Rattle.world_base.specs.declared.target.TargetState.{TargetState}
use Rattle.world_base.specs.declared.world.World.{World}
use Rattle.world_base.specs.Stops.{is_down_at, is_given_up, is_not_to_down, is_to_down, reset_letter, swept}

-- the numbers of the targets that are given up, where the first one has this number
abbrev pub downs_from : ℕ → List TargetState → List ℕ
downs_from n [] = []
downs_from n (s ∷ ss) = if is_given_up s.life then n ∷ downs_from (n + 1) ss else downs_from (n + 1) ss

abbrev pub downs_of : List TargetState → List ℕ
downs_of ss = downs_from 0 ss

-- a letter goes to one of these targets
abbrev pub is_to_one_of : List ℕ → Letter → Bool
is_to_one_of downs l = not l.to.client && list_any (λ t. t == l.to.number) downs

abbrev pub is_to_none_of : List ℕ → Letter → Bool
is_to_none_of downs l = not (is_to_one_of downs l)

-- what goes to these targets is lost, and who waits for their answers is told
abbrev pub swept_by : List ℕ → World → World
swept_by downs w = record w {
  messages = filter (is_to_none_of downs) (w.messages ++ map (reset_letter true) (filter (is_to_one_of downs) w.asked));
  asked = filter (is_to_none_of downs) w.asked;
}

-- none of them has a number below the first
none-below : (n t : ℕ) (ss : List TargetState) → t < n → list_any (λ u. u == t) (downs_from n ss) ≡ false
none-below n t [] less = refl
none-below n t (s ∷ ss) less = by (is_given_up s.life) (none-below (n + 1) t ss (omega (arith, less)))
  where
    apart : nat_eq n t ≡ false
    apart = grind (arith, nat_tests, less)

    by : (b : Bool) → list_any (λ u. u == t) (downs_from (n + 1) ss) ≡ false → list_any (λ u. u == t) (if b then n ∷ downs_from (n + 1) ss else downs_from (n + 1) ss) ≡ false
    by true k = rw apart k
    by false k = k

-- a target is given up exactly where it is listed
listed : (n : ℕ) (ss : List TargetState) (t : ℕ) → is_down_at ss t ≡ list_any (λ u. u == n + t) (downs_from n ss)
listed n [] t = refl
listed n (s ∷ ss) zero = by (is_given_up s.life)
  where
    same : nat_eq n (n + 0) ≡ true
    same = grind (arith, nat_tests)

    by : (b : Bool) → b ≡ list_any (λ u. u == n + 0) (if b then n ∷ downs_from (n + 1) ss else downs_from (n + 1) ss)
    by true = rw same refl
    by false = sym (none-below (n + 1) (n + 0) ss (omega arith))
listed n (s ∷ ss) (suc t) = listed (n + 1) ss t ∙ by (is_given_up s.life)
  where
    apart : nat_eq n (n + suc t) ≡ false
    apart = grind (arith, nat_tests)

    on : n + 1 + t ≡ n + suc t
    on = omega arith

    by : (b : Bool) → list_any (λ u. u == n + 1 + t) (downs_from (n + 1) ss) ≡ list_any (λ u. u == n + suc t) (if b then n ∷ downs_from (n + 1) ss else downs_from (n + 1) ss)
    by true = rw (apart, on) refl
    by false = rw on refl

-- tests that agree leave the same of a list
filter-alike : {T : Type 0} (p q : T → Bool) → ((x : T) → p x ≡ q x) → (xs : List T) → filter p xs ≡ filter q xs
filter-alike p q same [] = refl
filter-alike p q same (x ∷ xs) = rw (same x, filter-alike p q same xs) refl

pub sweeps-by_downs : (w : World) → swept w ≡ swept_by (downs_of w.targets) w
sweeps-by_downs w = rw (to-them, left-of w.asked, left-of (w.messages ++ map (reset_letter true) (filter (is_to_one_of (downs_of w.targets)) w.asked))) refl
  where
    same : (l : Letter) → is_to_down w.targets l ≡ is_to_one_of (downs_of w.targets) l
    same l = let plain : 0 + l.to.number ≡ l.to.number = omega arith in ap (λ b. not l.to.client && b) (listed 0 w.targets l.to.number ∙ ap (λ n. list_any (λ u. u == n) (downs_of w.targets)) plain)

    to-them : filter (is_to_down w.targets) w.asked ≡ filter (is_to_one_of (downs_of w.targets)) w.asked
    to-them = filter-alike _ _ same w.asked

    left-of : (ls : List Letter) → filter (is_not_to_down w.targets) ls ≡ filter (is_to_none_of (downs_of w.targets)) ls
    left-of ls = filter-alike _ _ (λ l. ap not (same l)) ls
