-- What is found among rows after a change.
use Rattle.std.specs.Prelude.{◌≡◌, Bool, true, false, ◌||◌, not, map, List, [], ◌∷◌, Some, None, if◌then◌else◌, refl}
use Rattle.std.specs.Option.{option_map}
use Rattle.std.proofs.Common.{sym, ◌∙◌, ap}
use Rattle.base_types.specs.declared.id.AttemptId.{AttemptId}
use Rattle.daos_model.specs.Answers.{is_before}
use Rattle.daos_model.specs.BoolLaws.{false_of}
use Rattle.daos_model.specs.Durables.{attempt_key, same_attempt}
use Rattle.daos_model.specs.Ordered.{put}
use Rattle.dtx_base.specs.LeaderLaws.{same-is}
use Rattle.dtx_base.specs.Rows.{is_among, itself, row_key, row_of, with_row, without_row}

-- no attempt is another one
pub other-is_not : (x a b : AttemptId) → (a ≡ b → ⊥) → same_attempt x b ≡ true → same_attempt x a ≡ false
other-is_not x a b apart is = false_of (same_attempt x a) (λ same. apart (sym (same-is x a same) ∙ same-is x b is))

module _ {T : Type 0} (of : T → AttemptId) where
  -- the row of an attempt is that attempt's
  pub row-is : (a : AttemptId) (rows : List T) (r : T) → row_of of a rows ≡ Some r → same_attempt (of r) a ≡ true
  row-is a [] r found = absurd (let no : ⊥ = cc in no)
  row-is a (x ∷ rows) r found = by (row-is a rows r) (same_attempt (of x) a) refl found
    where
      by : (row_of of a rows ≡ Some r → same_attempt (of r) a ≡ true) → (s : Bool) → same_attempt (of x) a ≡ s → (if s then Some x else row_of of a rows) ≡ Some r → same_attempt (of r) a ≡ true
      by rest true is same = let one : x ≡ r = cc in ap (λ y. same_attempt (of y) a) (sym one) ∙ is
      by rest false is same = rest same

  -- where an attempt has no row, none goes
  pub without-none : (a : AttemptId) (rows : List T) → row_of of a rows ≡ None → without_row of a rows ≡ rows
  without-none a [] none = refl
  without-none a (x ∷ rows) none = by (without-none a rows) (same_attempt (of x) a) none
    where
      by : (row_of of a rows ≡ None → without_row of a rows ≡ rows) → (s : Bool) → (if s then Some x else row_of of a rows) ≡ None → (if not s then x ∷ without_row of a rows else without_row of a rows) ≡ x ∷ rows
      by rest true none = let no : ⊥ = cc in absurd no
      by rest false none = ap (λ ys. x ∷ ys) (rest none)

  -- the row of an attempt stays where another one's goes
  pub row-without : (a b : AttemptId) (rows : List T) → (a ≡ b → ⊥) → row_of of a (without_row of b rows) ≡ row_of of a rows
  row-without a b [] apart = refl
  row-without a b (x ∷ rows) apart = by (row-without a b rows apart) (same_attempt (of x) b) refl
    where
      by : row_of of a (without_row of b rows) ≡ row_of of a rows → (s : Bool) → same_attempt (of x) b ≡ s → row_of of a (if not s then x ∷ without_row of b rows else without_row of b rows) ≡ row_of of a (x ∷ rows)
      by rest true is = rest ∙ sym (ap (λ (s : Bool). if s then Some x else row_of of a rows) (other-is_not (of x) a b apart is))
      by rest false is = ap (λ r. if same_attempt (of x) a then Some x else r) rest

  -- and where another one's comes
  pub row-with : (a : AttemptId) (r : T) (rows : List T) → (a ≡ of r → ⊥) → row_of of a (with_row of r rows) ≡ row_of of a rows
  row-with a r [] apart = ap (λ (s : Bool). if s then Some r else None) (false_of (same_attempt (of r) a) (λ same. apart (sym (same-is (of r) a same))))
  row-with a r (x ∷ rows) apart = by (row-with a r rows apart) (is_before (row_key of x) (row_key of r))
    where
      other : same_attempt (of r) a ≡ false
      other = false_of (same_attempt (of r) a) (λ same. apart (sym (same-is (of r) a same)))

      by : row_of of a (with_row of r rows) ≡ row_of of a rows → (s : Bool) → row_of of a (if s then x ∷ with_row of r rows else r ∷ x ∷ rows) ≡ row_of of a (x ∷ rows)
      by rest true = ap (λ z. if same_attempt (of x) a then Some x else z) rest
      by rest false = ap (λ (s : Bool). if s then Some r else row_of of a (x ∷ rows)) other

  -- a change of rows that leaves each its attempt
  pub row-map : (f : T → T) → ((x : T) → of (f x) ≡ of x) → (a : AttemptId) (rows : List T) → row_of of a (map f rows) ≡ option_map f (row_of of a rows)
  row-map f same a [] = refl
  row-map f same a (x ∷ rows) =
      ap (λ y. if same_attempt y a then Some (f x) else row_of of a (map f rows)) (same x)
      ∙ ap (λ z. if same_attempt (of x) a then Some (f x) else z) (row-map f same a rows)
      ∙ by (same_attempt (of x) a)
    where
      by : (s : Bool) → (if s then Some (f x) else option_map f (row_of of a rows)) ≡ option_map f (if s then Some x else row_of of a rows)
      by true = refl
      by false = refl

-- where an attempt isn't among others, none of them goes
pub without-absent : (a : AttemptId) (ids : List AttemptId) → is_among a ids ≡ false → without_row itself a ids ≡ ids
without-absent a [] absent = refl
without-absent a (x ∷ ids) absent = by (without-absent a ids) (same_attempt x a) absent
  where
    by : (is_among a ids ≡ false → without_row itself a ids ≡ ids) → (s : Bool) → (s || is_among a ids) ≡ false → (if not s then x ∷ without_row itself a ids else without_row itself a ids) ≡ x ∷ ids
    by rest true absent = let no : ⊥ = cc in absurd no
    by rest false absent = ap (λ ys. x ∷ ys) (rest absent)

-- an attempt that is among others stays so where one more comes
pub among-with : (a b : AttemptId) (ids : List AttemptId) → is_among a ids ≡ true → is_among a (put (row_key itself) b ids) ≡ true
among-with a b [] among = absurd (let no : ⊥ = cc in no)
among-with a b (x ∷ ids) among = by (among-with a b ids) (is_before (attempt_key x) (attempt_key b)) among
  where
    later : (own r q : Bool) → (r ≡ true → q ≡ true) → (own || r) ≡ true → (own || q) ≡ true
    later true r q h e = refl
    later false r q h e = h e

    right : (s r : Bool) → r ≡ true → (s || r) ≡ true
    right true r e = refl
    right false r e = e

    by : (is_among a ids ≡ true → is_among a (put (row_key itself) b ids) ≡ true) → (s : Bool) → is_among a (x ∷ ids) ≡ true → is_among a (if s then x ∷ put (row_key itself) b ids else b ∷ x ∷ ids) ≡ true
    by rest true e = later (same_attempt x a) (is_among a ids) (is_among a (put (row_key itself) b ids)) rest e
    by rest false e = right (same_attempt b a) (is_among a (x ∷ ids)) e

-- and where another one goes
pub among-without : (a b : AttemptId) (ids : List AttemptId) → (a ≡ b → ⊥) → is_among a ids ≡ true → is_among a (without_row itself b ids) ≡ true
among-without a b [] apart among = absurd (let no : ⊥ = cc in no)
among-without a b (x ∷ ids) apart among = by (among-without a b ids apart) (same_attempt x b) refl (same_attempt x a) refl among
  where
    by : (is_among a ids ≡ true → is_among a (without_row itself b ids) ≡ true) → (s : Bool) → same_attempt x b ≡ s → (own : Bool) → same_attempt x a ≡ own → (own || is_among a ids) ≡ true → is_among a (if not s then x ∷ without_row itself b ids else without_row itself b ids) ≡ true
    by rest true is true own e = absurd (let no : ⊥ = cc (other-is_not x a b apart is, own) in no)
    by rest true is false own e = rest e
    by rest false is true own e = ap (λ (s : Bool). s || is_among a (without_row itself b ids)) own
    by rest false is false own e = ap (λ (s : Bool). s || is_among a (without_row itself b ids)) own ∙ rest e
