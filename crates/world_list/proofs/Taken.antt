-- A letter that was taken stood at some place.
use Rattle.std.proofs.Common.{ℕ, ◌≡◌, ◌+◌, ◌<◌, ◌++◌, List, [], ◌∷◌, Some, zero, suc, refl, sym, ◌∙◌, ap, length, slice_get, append_assoc, arith, subst, ◌⊎◌, inl, inr, ◌≤◌, slice_index_or}
use Rattle.std.proofs.lemmas.Option.{slice_get_read, slice_get_within}
use Rattle.std.proofs.Math.ListN.{take, drop}
use Rattle.world_base.specs.declared.letter.Letter.{Letter}
use Rattle.world_list.specs.Taken.{IsTaken, IsTakenAt}

-- a list around one of its elements
around : {A : Type 0} (xs : List A) (k : ℕ) (x : A) → slice_get xs k ≡ Some x → xs ≡ take k xs ++ (x ∷ drop (suc k) xs)
around [] k x here = let no : ⊥ = cc in absurd no
around (y ∷ ys) zero x here = let e : y ≡ x = cc in ap (λ z. z ∷ ys) e
around (y ∷ ys) (suc k) x here = ap (λ zs. y ∷ zs) (around ys k x here)

between : {A : Type 0} (before : List A) (x : A) (after : List A) → slice_get (before ++ (x ∷ after)) (length before) ≡ Some x
between [] x after = refl
between (y ∷ ys) x after = between ys x after

before_it : {A : Type 0} (before after : List A) → take (length before) (before ++ after) ≡ before
before_it [] after = refl
before_it (y ∷ ys) after = ap (λ zs. y ∷ zs) (before_it ys after)

behind_it : {A : Type 0} (before : List A) (x : A) (after : List A) → drop (suc (length before)) (before ++ (x ∷ after)) ≡ after
behind_it [] x after = refl
behind_it (y ∷ ys) x after = behind_it ys x after

next_of : (k : ℕ) → k + 1 ≡ suc k
next_of k = omega arith

pub taken : (after before : List Letter) (at : ℕ) (l : Letter) (sent : List Letter) → IsTakenAt after before at l sent → IsTaken after before l sent
taken after before at l sent h = record {
  rest = take at before ++ drop (suc at) before;
  takes = record { before = take at before; after = drop (suc at) before; among = around before at l h.here; left = refl };
  left =
      h.left ∙ ap (λ k. take at before ++ (drop k before ++ sent)) (next_of at) ∙ sym (append_assoc (take at before) (drop (suc at) before) sent);
}

taken_there : (after : List Letter) (b : List Letter) (l : Letter) (a : List Letter) (sent : List Letter) → after ≡ (b ++ a) ++ sent
    → IsTakenAt after (b ++ (l ∷ a)) (length b) l sent
taken_there after b l a sent left = record {
  here = between b l a;
  left =
      left ∙ append_assoc b a sent ∙ ap (λ x. x ++ (a ++ sent)) (sym (before_it b (l ∷ a)))
      ∙ ap (λ x. take (length b) (b ++ (l ∷ a)) ++ (x ++ sent)) (sym (behind_it b l a))
      ∙ ap (λ k. take (length b) (b ++ (l ∷ a)) ++ (drop k (b ++ (l ∷ a)) ++ sent)) (sym (next_of (length b)));
}

-- it is found by trying each place
pub taken_somewhere : (after before : List Letter) (l : Letter) (sent : List Letter) → ((k : ℕ) → IsTakenAt after before k l sent → ⊥) → IsTaken after before l sent → ⊥
taken_somewhere after before l sent nowhere h =
    nowhere (length h.takes.before)
    (subst (λ x. IsTakenAt after x (length h.takes.before) l sent) (sym h.takes.among)
    (taken_there after h.takes.before l h.takes.after sent (h.left ∙ ap (λ x. x ++ sent) h.takes.left)))

pub none_more : (P : ℕ → Type 0) (n : ℕ) → ((k : ℕ) → k < n → P k → ⊥) → (P n → ⊥) → (k : ℕ) → k < n + 1 → (k ≡ n) ⊎ ((k < n) ⊎ (n < k)) → P k → ⊥
none_more P n before here k within (inl same) p = here (subst P same p)
none_more P n before here k within (inr (inl less)) p = before k less p
none_more P n before here k within (inr (inr more)) p = let past : ⊥ = omega (arith, within, more) in past

pub nowhere :
    (after before : List Letter) (l : Letter) (sent : List Letter) (n : ℕ) → length before ≤ n
    → ((k : ℕ) → k < n → IsTakenAt after before k l sent → ⊥) → IsTaken after before l sent → ⊥
nowhere after before l sent n past none h =
    taken_somewhere after before l sent
    (λ k at. let within : k < length before = slice_get_within before k l at.here in none k (omega (arith, within, past)) at) h

-- a letter at a place is the one there
pub at_place : (before : List Letter) (at : ℕ) (x l : Letter) → at < length before → x ≡ slice_index_or before at x → x ≡ l → slice_get before at ≡ Some l
at_place before at x l within is same = slice_get_read before (length before) at x refl within is ∙ ap (λ z. Some z) same

pub only_one : (before : List Letter) (at : ℕ) (x l : Letter) → at < length before → x ≡ slice_index_or before at x → slice_get before at ≡ Some l → x ≡ l
only_one before at x l within is here =
    let there : slice_get before at ≡ Some x = slice_get_read before (length before) at x refl within is in
    cc
