-- What is without an answer once letters were sent.
use Rattle.std.specs.Prelude.{◌≡◌, ◌⊎◌, ◌+◌, Bool, true, false, List, [], ◌∷◌, ◌++◌, refl, if◌then◌else◌}
use Rattle.std.proofs.Common.{◌∙◌, ap, subst, inl, inr}
use Rattle.model_laws.specs.Members.{Has, has-cases}
use Rattle.world_commit.specs.fates.Frames.{AskedComes}
use Rattle.world_base.specs.declared.letter.Letter.{Letter}
use Rattle.world_base.specs.declared.world.World.{World}
use Rattle.world_base.specs.Letters.{asked_after, asked_with, is_answer_to, is_answerable, without_first}
use Rattle.world_letters.specs.waits.ClientLaws.{without-yes, without-no}

-- one that is left was there
pub left-was : {T : Type 0} (p : T → Bool) (xs : List T) (x : T) → Has x (without_first p xs) → Has x xs
left-was p [] x i = i
left-was p (y ∷ ys) x i = by (left-was p ys x) (p y) refl
  where
    by : (Has x (without_first p ys) → Has x ys) → (b : Bool) → p y ≡ b → Has x (y ∷ ys)
    by rest true is = inr (subst (Has x) (without-yes p y ys is) i)
    by rest false off = or (subst (Has x) (without-no p y ys off) i)
      where
        or : Has x (y ∷ without_first p ys) → Has x (y ∷ ys)
        or (inl same) = inl same
        or (inr j) = inr (rest j)

asked-once : (asked : List Letter) (l n : Letter) → Has n (asked_with asked l) → Has n asked ⊎ ((n ≡ l) × (is_answerable l.message ≡ true))
unfolding asked_with
asked-once asked l n i = by (is_answerable l.message) refl i
  where
    by : (b : Bool) → is_answerable l.message ≡ b → Has n (if b then asked ++ l ∷ [] else without_first (is_answer_to l) asked) → Has n asked ⊎ ((n ≡ l) × (is_answerable l.message ≡ true))
    by true is i = elim (has-cases asked (l ∷ []) n i) [
      | inl before ↦ inl before
      | inr (inl same) ↦ inr (same, is)
      | inr (inr none) ↦ absurd none
    ]
    by false is i = inl (left-was (is_answer_to l) asked n i)

-- what is without an answer was so before, or is one of these
pub asked-was : (asked ls : List Letter) (n : Letter) → Has n (asked_after asked ls) → Has n asked ⊎ (Has n ls × (is_answerable n.message ≡ true))
asked-was asked [] n i = inl i
asked-was asked (l ∷ ls) n i = elim (asked-was (asked_with asked l) ls n i) [
  | inl j ↦ elim (asked-once asked l n j) [
    | inl before ↦ inl before
    | inr new ↦ inr (inl new.0, ap (λ q. is_answerable q.message) new.0 ∙ new.1)
  ]
  | inr new ↦ inr (inr new.0, new.1)
]

pub asked-comes : (w : World) (ls : List Letter) (v : World) → v.asked ≡ asked_after w.asked ls → ((n : Letter) → Has n ls → Has n v.messages) → AskedComes w v
asked-comes w ls v is sent n i = elim (asked-was w.asked ls n (subst (Has n) is i)) [ inl before ↦ inl before | inr new ↦ inr (sent n new.0, new.1) ]
