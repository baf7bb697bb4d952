-- Letters to an actor, counted.
use Rattle.std.specs.Prelude.{ℕ, ◌≡◌, ◌<◌, ◌++◌, Bool, true, false, ◌&&◌, ◌==◌, nat_lt, List, [], ◌∷◌, length, Contains, if◌then◌else◌, refl}
use Rattle.std.proofs.Common.{sym, subst, arith}
use Rattle.std.proofs.lemmas.Bool.Decides.{nat_tests}
use Rattle.model_laws.specs.Members.{Has, has-filter, has-from_contains}
use Rattle.base_messages.specs.declared.actor.ActorId.{ActorId}
use Rattle.run_base.specs.Letters.{IsPicked, is_to, letters_to, same_actor, same_kind}
use Rattle.run_base.specs.Picks.{count_to}
use Rattle.world_base.specs.declared.letter.Letter.{Letter}

same-kind : (b : Bool) → same_kind b b ≡ true
same-kind true = refl
same-kind false = refl

same-number : (n : ℕ) → (n == n) ≡ true
same-number n = grind (arith, nat_tests)

both-true : (a b : Bool) → a ≡ true → b ≡ true → a && b ≡ true
both-true a b h k = rw (h, k) refl

pub to-itself : (a : ActorId) → same_actor a a ≡ true
to-itself a = both-true (same_kind a.client a.client) (a.number == a.number) (same-kind a.client) (same-number a.number)

-- where none is counted to an actor, there is none to it
pub none-to : (a : ActorId) (letters : List Letter) → nat_lt 0 (count_to a letters) ≡ false → (l : Letter) → Contains letters l → l.to ≡ a → ⊥
none-to a letters none l i to = empty (letters_to a letters) none (has-filter (is_to a) letters l (has-from_contains letters l i) (subst (λ x. same_actor l.to x ≡ true) to (to-itself l.to)))
  where
    empty : (ls : List Letter) → nat_lt 0 (length ls) ≡ false → Has l ls → ⊥
    empty [] h i' = absurd i'
    empty (m ∷ ms) h i' = let no : ⊥ = grind (arith, nat_tests) in no

-- the number of a letter that is picked is below how many there are
pub picked-is-counted : (a : ActorId) (letters : List Letter) (k : ℕ) (l : Letter) (rest : List Letter) → IsPicked letters a k l rest → k < count_to a letters
picked-is-counted a letters k l rest p = subst (λ ls. k < count_to a ls) (sym p.among) (subst (λ n. n < count_to a (p.before ++ l ∷ p.after)) p.first (beyond p.before))
  where
    to_it : is_to a l ≡ true
    to_it = subst (λ x. same_actor l.to x ≡ true) p.to_it (to-itself l.to)

    beyond : (ls : List Letter) → length (letters_to a ls) < length (letters_to a (ls ++ l ∷ p.after))
    beyond [] = rw to_it (omega arith)
    beyond (m ∷ ms) = by (is_to a m) (beyond ms)
      where
        by : (b : Bool) → length (letters_to a ms) < length (letters_to a (ms ++ l ∷ p.after))
            → length (if b then m ∷ letters_to a ms else letters_to a ms) < length (if b then m ∷ letters_to a (ms ++ l ∷ p.after) else letters_to a (ms ++ l ∷ p.after))
        by true h = omega (arith, h)
        by false h = h
