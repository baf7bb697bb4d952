-- The place of an actor's letter of a number.
use Rattle.std.specs.Prelude.{ℕ, ◌≡◌, ◌≤◌, ◌+◌, Bool, true, false, ◌&&◌, List, [], ◌∷◌, ◌++◌, length, take, drop, slice_get, slice_index_or, Some, refl}
use mathlib.Core.Bool.{beq}
use Rattle.std.proofs.Common.{zero, suc, ◌∙◌, ap, sym, arith, nat_eq}
use Rattle.std.proofs.lemmas.Bool.Decides.{nat_tests}
use Rattle.model_laws.specs.Lists.{cut-at}
use Rattle.base_messages.specs.declared.actor.ActorId.{ActorId}
use Rattle.run_base.specs.Letters.{IsPicked, IsPlaceOf, letters_to}
use Rattle.std.proofs.lemmas.Bool.{and_parts}
use Rattle.world_base.specs.declared.letter.Letter.{Letter}

-- of the letters before a place so many are to the actor, no more than the number that is looked for
pub record AreCounted (letters : List Letter) (to : ActorId) (number place before : ℕ) : Type 0 where
  pub counted : before ≡ length (letters_to to (take place letters))
  pub few : before ≤ number

pub index-is : {T : Type 0} (xs : List T) (n : ℕ) (x y : T) → slice_get xs n ≡ Some x → slice_index_or xs n y ≡ x
index-is [] n x y h = let no : ⊥ = cc in absurd no
index-is (z ∷ zs) zero x y h = let same : z ≡ x = cc in same
index-is (z ∷ zs) (suc n) x y h = index-is zs n x y h

-- what stands at that place is picked
pub picked-at : (letters : List Letter) (to : ActorId) (number place : ℕ) (l : Letter) (rest : List Letter) → IsPlaceOf letters to number place → l ≡ slice_index_or letters place l
    → rest ≡ take place letters ++ drop (place + 1) letters → IsPicked letters to number l rest
picked-at letters to number place l rest k value left = record {
  before = take place letters;
  after = drop (place + 1) letters;
  among = cut-at letters place l (k.here ∙ ap (λ x. Some x) (sym same)) ∙ ap (λ m. take place letters ++ l ∷ drop m letters) next;
  left = left;
  to_it = ap (λ x. x.to) same ∙ k.to_it;
  first = k.first;
}
  where
    next : suc place ≡ place + 1
    next = omega arith

    same : l ≡ k.letter
    same = value ∙ index-is letters place k.letter l k.here

same-kind : (a b : Bool) → beq a b ≡ true → a ≡ b
same-kind true true h = refl
same-kind true false h = let no : ⊥ = cc in absurd no
same-kind false true h = let no : ⊥ = cc in absurd no
same-kind false false h = refl

same-number : (m n : ℕ) → nat_eq m n ≡ true → m ≡ n
same-number m n h = grind (arith, nat_tests)

actor : Bool → ℕ → ActorId
actor kind n = record { client = kind; number = n }

-- actors that test the same are the same
pub same-actor : (a b : ActorId) → beq a.client b.client && nat_eq a.number b.number ≡ true → a ≡ b
unfolding actor
same-actor a b h = let k = and_parts (beq a.client b.client) (nat_eq a.number b.number) h in ap (λ x. actor x a.number) (same-kind a.client b.client k.0) ∙ ap (actor b.client) (same-number a.number b.number k.1)
