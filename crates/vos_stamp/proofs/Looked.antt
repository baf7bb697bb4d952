-- What a look-up at a level finds.
use Rattle.std.proofs.Common.{◌≡◌, ℕ, suc, ◌≤◌, ◌<◌, ◌%◌, Bool, true, false, nat_eq, List, [], ◌∷◌, ◌++◌, length, zero, Option, Some, None, refl, sym, subst, inl, inr, arith}
use Rattle.std.specs.Map.{lookup}
use Rattle.base_types.specs.declared.shown.Shown.{Shown}
use Rattle.vos_stamp.specs.declared.marks.Marks.{Marks}
use Rattle.vos_stamp.specs.declared.marks.Raise.{Raise}
use Rattle.vos_stamp.specs.Marks.{above, no_marks, rank, side}
use Rattle.vos_stamp.specs.Raised.{AnswersAt, StandsFor, WasRaised, WereRaised, own_mark, slot_marks}
use Rattle.vos_stamp.proofs.Entries.{finds}
use Rattle.vos_stamp.proofs.Joined.{above-none, above-some}
use Rattle.lru.proofs.Splits.{Contains-nil}

-- ---- a level at which nothing was raised

none-raised : (rs : List Raise) (i : ℕ) → WereRaised rs i no_marks
none-raised rs i true q is = absurd (let none : ⊥ = cc in none)
none-raised rs i false q is = absurd (let none : ⊥ = cc in none)

pub stands-empty : (slots : List Marks) → length slots ≡ 4096 → ((i : ℕ) → slot_marks slots i ≡ no_marks) → StandsFor [] slots []
stands-empty slots sized empty = record {
  bounded = omega arith;
  sized = sized;
  found = λ r c low. absurd (Contains-nil r c);
  own = λ e c. absurd (Contains-nil e c);
  shared = λ i lt. subst (WereRaised [] i) (sym (empty i)) (none-raised [] i);
}

pub one-more-empty : (slots : List Marks) → ((i : ℕ) → slot_marks slots i ≡ no_marks) → (i : ℕ) → slot_marks (slots ++ no_marks ∷ []) i ≡ no_marks
one-more-empty [] empty zero = refl
one-more-empty [] empty (suc i) = refl
one-more-empty (m ∷ slots) empty zero = empty zero
one-more-empty (m ∷ slots) empty (suc i) = one-more-empty slots (λ j. empty (suc j)) i

-- ---- a look-up

module _ (es : List (ℕ × Marks)) (slots : List Marks) (rs : List Raise) (s : StandsFor es slots rs) (low : Bool) (k e : ℕ) where
  -- the read of the entity's own mark
  pub own-answers : (q : Shown) → above e (own_mark low (lookup (nat_eq k) es)) ≡ Some q → AnswersAt rs low k e (Some q)
  own-answers q is = by (lookup (nat_eq k) es) refl (above-some e (own_mark low (lookup (nat_eq k) es)) q is)
    where
      by : (o : Option Marks) → lookup (nat_eq k) es ≡ o → (own_mark low o ≡ Some q) × (e < q.epoch.0) → WasRaised rs low (k % 4096) q × (e < q.epoch.0)
      by None none h = absurd (let false_is : ⊥ = cc (h.0) in false_is)
      by (Some m) here h = (s.own (k, m) (finds k es m here).among low q h.0, h.1)

  -- where there is none above the epoch, that of its slot's
  pub slot-answers : above e (own_mark low (lookup (nat_eq k) es)) ≡ None → AnswersAt rs low k e (above e (side low (slot_marks slots (k % 4096))))
  slot-answers none = by (above e (side low (slot_marks slots (k % 4096)))) refl
    where
      by : (o : Option Shown) → above e (side low (slot_marks slots (k % 4096))) ≡ o → AnswersAt rs low k e o
      by None empty = λ r c same.
          let own : rank (own_mark low (lookup (nat_eq r.entity) es)) ≤ e = subst (λ x. rank (own_mark low (lookup (nat_eq x) es)) ≤ e) (sym same) (above-none e (own_mark low (lookup (nat_eq k) es)) none) in
          let slot : rank (side low (slot_marks slots (r.entity % 4096))) ≤ e = subst (λ x. rank (side low (slot_marks slots (x % 4096))) ≤ e) (sym same) (above-none e (side low (slot_marks slots (k % 4096))) empty) in
          elim (s.found r c low) [ inl le ↦ omega (arith, le, own) | inr le ↦ omega (arith, le, slot) ]
      by (Some q) is = let there = above-some e (side low (slot_marks slots (k % 4096))) q is in (s.shared (k % 4096) (omega arith) low q there.0, there.1)
