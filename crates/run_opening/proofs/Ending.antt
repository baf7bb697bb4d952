-- The attempts of one target are settled, one after another.
use Rattle.std.specs.Prelude.{find, ℕ, zero, suc, ◌≡◌, ◌≤◌, ◌<◌, ◌+◌, Bool, true, false, List, [], ◌∷◌, ◌++◌, length, take, drop, slice_get, slice_index_or, Some, if◌then◌else◌}
use Rattle.std.proofs.Common.{refl, sym, ◌∙◌, ap, subst, inl, inr, arith}
use Rattle.std.proofs.lemmas.List.{take_all, take_more}
use Rattle.base_types.specs.declared.entry.Entry.{Entry}
use Rattle.base_types.specs.declared.entry.Settle.TheVariants.{Forget}
use Rattle.base_types.specs.declared.id.AttemptId.{AttemptId}
use Rattle.model_laws.specs.Lists.{cut-at, has-at}
use Rattle.model_laws.specs.Members.{Has, has-right}
use Rattle.model_laws.specs.RisingLaws.{after-has}
use Rattle.daos_model.specs.declared.durable.Durable.{Durable}
use Rattle.daos_model.specs.Answers.{is_before}
use Rattle.daos_model.specs.BoolLaws.{and_left, and_right}
use Rattle.daos_model.specs.Changes.{settled}
use Rattle.daos_model.specs.Durables.{is_entry_of, attempt_key, entry_key, entry_of}
use Rattle.daos_model.specs.OrderLaws.{before-itself}
use Rattle.daos_model.specs.Ordered.{all_after, is_rising}
use Rattle.dtx_base.specs.Leading.{entry_attempt}
use Rattle.dtx_base.specs.RowLaws.{row-without}
use Rattle.vos_store.specs.Conditions.{CanSettle, IsStep}
use Rattle.target_parts.specs.world_commit.attempts.Stored.{entry-committed, found-here}
use Rattle.target_parts.specs.world_base.EntryLaws.{entry-aborted_other}
use Rattle.run_opening.specs.Steps.{all_ended, all_forgotten, ended, ended_at, ending, forgotten}

-- ---- which entries are found

-- another attempt's entry stays where one is settled
other-ended : (r : AttemptId → Bool) (e : Entry) (d : Durable) (x : AttemptId) → (x ≡ e.attempt → ⊥) → entry_of (ended_at r e d) x ≡ entry_of d x
other-ended r e d x apart = by e.committed (r e.attempt)
  where
    by : (b c : Bool) → entry_of (if b then d else settled e.attempt (ending c) d) x ≡ entry_of d x
    by true c = refl
    by false true = entry-committed e.attempt d x apart
    by false false = entry-aborted_other e.attempt d x apart

pub still-ended : (r : AttemptId → Bool) (es : List Entry) (d : Durable) (x : AttemptId) → ((e : Entry) → Has e es → x ≡ e.attempt → ⊥) → entry_of (all_ended r es d) x ≡ entry_of d x
still-ended r [] d x apart = refl
still-ended r (e ∷ es) d x apart = still-ended r es (ended_at r e d) x (λ z i. apart z (inr i)) ∙ other-ended r e d x (apart e (inl refl))

-- the next one comes last
pub ended-next : (r : AttemptId → Bool) (es : List Entry) (e : Entry) (d : Durable) → all_ended r (es ++ e ∷ []) d ≡ ended_at r e (all_ended r es d)
ended-next r [] e d = refl
ended-next r (z ∷ es) e d = ended-next r es e (ended_at r z d)

-- ---- one attempt

-- a prepared attempt may be ended either way
pub can-end : (b : Bool) (e : Entry) (d : Durable) → entry_of d e.attempt ≡ Some e → e.committed ≡ false → CanSettle e.attempt (ending b) d
can-end true e d here open' = record { entry = e; here = here; fits = open' }
can-end false e d here open' = record { entry = e; here = here; fits = open' }

-- where no entries are kept none is here
pub none-here : (d : Durable) (x : AttemptId) (e : Entry) → d.entries ≡ [] → entry_of d x ≡ Some e → ⊥
unfolding entry_of
none-here d x e none is = let bad : find (is_entry_of x) [] ≡ Some e = ap (find (is_entry_of x)) (sym none) ∙ is in let no : ⊥ = cc in no

pub is-step : (b : Bool) → IsStep (ending b)
is-step true = tt
is-step false = tt

-- a committed one stays as it is, and a prepared one is ended
pub at-committed : (r : AttemptId → Bool) (e : Entry) (d : Durable) → e.committed ≡ true → d ≡ ended_at r e d
at-committed r e d is = ap (λ (b : Bool). if b then d else settled e.attempt (ending (r e.attempt)) d) (sym is)

pub at-prepared : (r : AttemptId → Bool) (e : Entry) (d : Durable) (b : Bool) → e.committed ≡ false → b ≡ r e.attempt → settled e.attempt (ending b) d ≡ ended_at r e d
at-prepared r e d b is same = ap (λ (c : Bool). settled e.attempt (ending c) d) same ∙ ap (λ (c : Bool). if c then d else settled e.attempt (ending (r e.attempt)) d) (sym is)

-- ---- the next entry

-- what stands before another in a list that rises has another key
pub keys-apart : {T : Type 0} (key : T → List ℕ) (xs ys : List T) (e : T) → is_rising key (xs ++ e ∷ ys) ≡ true → (z : T) → Has z xs → key e ≡ key z → ⊥
keys-apart key [] ys e rises z i same = i
keys-apart key (x ∷ xs) ys e rises z (inl is) same =
    let before = after-has key (key x) (xs ++ e ∷ ys) e (and_left (all_after key (key x) (xs ++ e ∷ ys)) (is_rising key (xs ++ e ∷ ys)) rises) (has-right xs (e ∷ ys) e (inl refl)) in
    let none = before-itself (key x) in
    let own : key e ≡ key x = same ∙ ap key is in
    let no : true ≡ false = sym before ∙ ap (is_before (key x)) own ∙ none in
    let n : ⊥ = cc in n
keys-apart key (x ∷ xs) ys e rises z (inr i) same = keys-apart key xs ys e (and_right (all_after key (key x) (xs ++ e ∷ ys)) (is_rising key (xs ++ e ∷ ys)) rises) z i same

pub keys-apart_at : {T : Type 0} (key : T → List ℕ) (xs : List T) (i : ℕ) (e : T) → is_rising key xs ≡ true → slice_get xs i ≡ Some e → (z : T) → Has z (take i xs) → key e ≡ key z → ⊥
keys-apart_at key xs i e rises at = keys-apart key (take i xs) (drop (suc i) xs) e (subst (λ ys. is_rising key ys ≡ true) (cut-at xs i e at) rises)

apart-at : (d : Durable) (i : ℕ) (e : Entry) → is_rising entry_key d.entries ≡ true → slice_get d.entries i ≡ Some e → (z : Entry) → Has z (take i d.entries) → e.attempt ≡ z.attempt → ⊥
apart-at d i e rises at z among same = keys-apart_at entry_key d.entries i e rises at z among (ap attempt_key same)

-- the next entry is found as it was
pub next-ended : (r : AttemptId → Bool) (d : Durable) (i : ℕ) (e : Entry) → is_rising entry_key d.entries ≡ true → slice_get d.entries i ≡ Some e → entry_of (all_ended r (take i d.entries) d) e.attempt ≡ Some e
next-ended r d i e rises at =
    still-ended r (take i d.entries) d e.attempt (apart-at d i e rises at) ∙ found-here d e rises (has-at d.entries i e at)

-- ---- entries are forgotten

pub forgotten-next : (es : List Entry) (e : Entry) (d : Durable) → all_forgotten (es ++ e ∷ []) d ≡ settled e.attempt Forget (all_forgotten es d)
forgotten-next [] e d = refl
forgotten-next (z ∷ es) e d = forgotten-next es e (settled z.attempt Forget d)

other-forgotten : (a : AttemptId) (d : Durable) (x : AttemptId) → (x ≡ a → ⊥) → entry_of (settled a Forget d) x ≡ entry_of d x
unfolding entry_of settled
other-forgotten a d x apart = row-without entry_attempt x a d.entries apart

still-kept : (es : List Entry) (d : Durable) (x : AttemptId) → ((e : Entry) → Has e es → x ≡ e.attempt → ⊥) → entry_of (all_forgotten es d) x ≡ entry_of d x
still-kept [] d x apart = refl
still-kept (e ∷ es) d x apart = still-kept es (settled e.attempt Forget d) x (λ z i. apart z (inr i)) ∙ other-forgotten e.attempt d x (apart e (inl refl))

pub next-kept : (d : Durable) (i : ℕ) (e : Entry) → is_rising entry_key d.entries ≡ true → slice_get d.entries i ≡ Some e → entry_of (all_forgotten (take i d.entries) d) e.attempt ≡ Some e
next-kept d i e rises at = still-kept (take i d.entries) d e.attempt (apart-at d i e rises at) ∙ found-here d e rises (has-at d.entries i e at)

-- ---- walks along entries

pub at-read : {T : Type 0} (xs : List T) (i : ℕ) (z : T) → i < length xs → slice_get xs i ≡ Some (slice_index_or xs i z)
at-read [] i z lt = absurd (omega (arith, lt))
at-read (x ∷ xs) zero z lt = refl
at-read (x ∷ xs) (suc i) z lt = at-read xs i z (omega (arith, lt))

module _ (r : AttemptId → Bool) (es : List Entry) (i : ℕ) (z : Entry) (lt : i < length es) where
  -- the next entry is found
  pub read-ended : (d x : Durable) → es ≡ d.entries → is_rising entry_key d.entries ≡ true → x ≡ all_ended r (take i es) d → entry_of x (slice_index_or es i z).attempt ≡ Some (slice_index_or es i z)
  read-ended d x own rises is =
      let at : slice_get d.entries i ≡ Some (slice_index_or es i z) = ap (λ ys. slice_get ys i) (sym own) ∙ at-read es i z lt in
      ap (λ y. entry_of y (slice_index_or es i z).attempt) (is ∙ ap (λ ys. all_ended r (take i ys) d) own) ∙ next-ended r d i (slice_index_or es i z) rises at

  -- and it is the next step
  pub more-ended : (d : Durable) → ended_at r (slice_index_or es i z) (all_ended r (take i es) d) ≡ all_ended r (take (i + 1) es) d
  more-ended d = sym (ended-next r (take i es) (slice_index_or es i z) d) ∙ ap (λ ys. all_ended r ys d) (sym (take_more es i z lt))

module _ (es : List Entry) (i : ℕ) (z : Entry) (lt : i < length es) where
  pub read-kept : (d x : Durable) → es ≡ d.entries → is_rising entry_key d.entries ≡ true → x ≡ all_forgotten (take i es) d → entry_of x (slice_index_or es i z).attempt ≡ Some (slice_index_or es i z)
  read-kept d x own rises is =
      let at : slice_get d.entries i ≡ Some (slice_index_or es i z) = ap (λ ys. slice_get ys i) (sym own) ∙ at-read es i z lt in
      ap (λ y. entry_of y (slice_index_or es i z).attempt) (is ∙ ap (λ ys. all_forgotten (take i ys) d) own) ∙ next-kept d i (slice_index_or es i z) rises at

  pub more-forgotten : (d : Durable) → settled (slice_index_or es i z).attempt Forget (all_forgotten (take i es) d) ≡ all_forgotten (take (i + 1) es) d
  more-forgotten d = sym (forgotten-next (take i es) (slice_index_or es i z) d) ∙ ap (λ ys. all_forgotten ys d) (sym (take_more es i z lt))

  -- it is one of them
  pub read-among : (d : Durable) → es ≡ d.entries → Has (slice_index_or es i z) d.entries
  read-among d own = subst (Has (slice_index_or es i z)) own (has-at es i (slice_index_or es i z) (at-read es i z lt))

-- after the last one
pub last-ended : (r : AttemptId → Bool) (es : List Entry) (i : ℕ) (d : Durable) → length es ≤ i → es ≡ d.entries → all_ended r (take i es) d ≡ ended r d
last-ended r es i d le own = ap (λ ys. all_ended r ys d) (take_all i es le ∙ own)

pub last-forgotten : (es : List Entry) (i : ℕ) (d : Durable) → length es ≤ i → es ≡ d.entries → all_forgotten (take i es) d ≡ forgotten d
last-forgotten es i d le own = ap (λ ys. all_forgotten ys d) (take_all i es le ∙ own)
