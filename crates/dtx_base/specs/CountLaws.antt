-- A member counts only by its own Ok.
use Rattle.std.specs.Prelude.{ℕ, ◌≡◌, ◌⊎◌, Bool, true, false, ◌==◌, not, map, List, [], ◌∷◌, Option, Some, None, if◌then◌else◌, refl}
use Rattle.std.specs.Option.{option_map}
use Rattle.std.proofs.Common.{sym, ◌∙◌, ap, subst, arith, inl, inr}
use Rattle.std.proofs.lemmas.Bool.Decides.{nat_tests}
use Rattle.base_types.specs.declared.entry.Entry.{Entry}
use Rattle.base_types.specs.declared.id.AttemptId.{AttemptId}
use Rattle.base_types.specs.declared.outcome.Outcome.{Outcome}
use Rattle.base_types.specs.declared.outcome.Outcome.TheVariants.{Committed}
use Rattle.daos_model.specs.BoolLaws.{clash}
use Rattle.daos_model.specs.Durables.{same_attempt}
use Rattle.daos_model.specs.EntryLaws.{same_attempt-itself}
use Rattle.dtx_base.specs.declared.leading.Undecided.{Undecided}
use Rattle.dtx_base.specs.LeaderLaws.{had_or_is, same-is}
use Rattle.dtx_base.specs.Leading.{LeaderOf, ack_heard, answer_heard, answer_if_awaited, counted_at, decided, ended, entry_led, quietly, undecided_attempt, undecided_of, with_undecided}
use Rattle.dtx_base.specs.Members.{are_all_counted, has_target, is_other_member, with_target}
use Rattle.dtx_base.specs.RowLaws.{row-is, row-map, row-without}
use Rattle.dtx_base.specs.Rows.{row_of, without_row}

-- a member is counted as Ok of an attempt that is undecided here
pub record IsCounted (b : AttemptId) (m : ℕ) (us : List Undecided) : Type 0 where
  pub row : Undecided
  pub found : row_of undecided_attempt b us ≡ Some row
  pub counts : has_target row.counted m ≡ true

abbrev pub CountsAt : ℕ → AttemptId → ℕ → Option Outcome → LeaderOf → AttemptId → ℕ → Type 0
CountsAt t a inc refusal l b m = IsCounted b m l.memory.undecided ⊎ ((b ≡ a) × (m ≡ t) × (refusal ≡ None) × (inc ≡ l.incarnation))

-- a member that is counted after an Ack was counted before, or the Ack is its Ok, of this incarnation, for that attempt
abbrev pub CountsOnlyOks : Type 0
CountsOnlyOks = (t : ℕ) (a : AttemptId) (inc : ℕ) (refusal : Option Outcome) (l : LeaderOf) (b : AttemptId) (m : ℕ)
    → IsCounted b m (ack_heard t a inc refusal l).leader.memory.undecided → CountsAt t a inc refusal l b m

-- the row of an attempt is gone once it was taken away
row-gone : (a : AttemptId) (us : List Undecided) → row_of undecided_attempt a (without_row undecided_attempt a us) ≡ None
row-gone a [] = refl
row-gone a (u ∷ us) = by (row-gone a us) (same_attempt u.attempt a) refl
  where
    by : row_of undecided_attempt a (without_row undecided_attempt a us) ≡ None → (s : Bool) → same_attempt u.attempt a ≡ s
        → row_of undecided_attempt a (if not s then u ∷ without_row undecided_attempt a us else without_row undecided_attempt a us) ≡ None
    by rest true is = rest
    by rest false is = ap (λ (s : Bool). if s then Some u else row_of undecided_attempt a (without_row undecided_attempt a us)) is ∙ rest

counted_without : (a b : AttemptId) (m : ℕ) (us : List Undecided) → IsCounted b m (without_row undecided_attempt a us) → IsCounted b m us
counted_without a b m us c = by (same_attempt b a) refl
  where
    by : (s : Bool) → same_attempt b a ≡ s → IsCounted b m us
    by true is =
        let gone : row_of undecided_attempt b (without_row undecided_attempt a us) ≡ None =
        subst (λ x. row_of undecided_attempt x (without_row undecided_attempt a us) ≡ None) (sym (same-is b a is)) (row-gone a us) in
        absurd (let no : ⊥ = cc (c.found, gone) in no)
    by false is =
        let other : b ≡ a → ⊥ = λ same. clash (same_attempt a a) (same_attempt-itself a) (subst (λ x. same_attempt x a ≡ false) same is) in
        record { row = c.row; found = sym (row-without undecided_attempt b a us other) ∙ c.found; counts = c.counts }

counted-attempt : (a : AttemptId) (t : ℕ) (u : Undecided) → undecided_attempt (counted_at a t u) ≡ undecided_attempt u
counted-attempt a t u = by (same_attempt u.attempt a)
  where
    by : (s : Bool) → undecided_attempt (if s then record u { counted = with_target u.counted t } else u) ≡ undecided_attempt u
    by true = refl
    by false = refl

counted_more : (a b : AttemptId) (t m : ℕ) (us : List Undecided) → IsCounted b m (map (counted_at a t) us) → IsCounted b m us ⊎ ((b ≡ a) × (m ≡ t))
counted_more a b t m us c = by (row_of undecided_attempt b us) refl
  where
    mapped : option_map (counted_at a t) (row_of undecided_attempt b us) ≡ Some c.row
    mapped = sym (row-map undecided_attempt (counted_at a t) (counted-attempt a t) b us) ∙ c.found

    one : (u : Undecided) → row_of undecided_attempt b us ≡ Some u → (s : Bool) → same_attempt u.attempt a ≡ s
        → has_target (if s then record u { counted = with_target u.counted t } else u).counted m ≡ true → IsCounted b m us ⊎ ((b ≡ a) × (m ≡ t))
    one u found false is has = inl (record { row = u; found = found; counts = has })
    one u found true is has = this (had_or_is u.counted t m has)
      where
        this : (m ≡ t) ⊎ (has_target u.counted m ≡ true) → IsCounted b m us ⊎ ((b ≡ a) × (m ≡ t))
        this (inl same) = inr (sym (same-is u.attempt b (row-is undecided_attempt b us u found)) ∙ same-is u.attempt a is, same)
        this (inr before) = inl (record { row = u; found = found; counts = before })

    by : (o : Option Undecided) → row_of undecided_attempt b us ≡ o → IsCounted b m us ⊎ ((b ≡ a) × (m ≡ t))
    by None is = absurd (let no : ⊥ = cc (mapped, is) in no)
    by (Some u) is =
        let same : counted_at a t u ≡ c.row = cc (mapped, is) in
        one u is (same_attempt u.attempt a) refl (subst (λ x. has_target x.counted m ≡ true) (sym same) c.counts)

module _ (t : ℕ) (a : AttemptId) (inc : ℕ) (l : LeaderOf) (b : AttemptId) (m : ℕ) (own : inc ≡ l.incarnation) where
  counts_ok : (e : Entry) (u : Undecided) → (s : Bool)
      → IsCounted b m (if s then record { leader = decided a l; posts = ended u.client a e.epoch Committed } else quietly (with_undecided (map (counted_at a t) l.memory.undecided) l)).leader.memory.undecided
      → CountsAt t a inc None l b m
  counts_ok e u true c = inl (counted_without a b m l.memory.undecided c)
  counts_ok e u false c = more (counted_more a b t m l.memory.undecided c)
    where
      more : IsCounted b m l.memory.undecided ⊎ ((b ≡ a) × (m ≡ t)) → CountsAt t a inc None l b m
      more (inl before) = inl before
      more (inr this) = inr (this.0, this.1, refl, own)

  counts_answer : (refusal : Option Outcome) (e : Entry) (u : Undecided) (s : Bool)
      → IsCounted b m (if s then answer_heard t a refusal e u l else quietly l).leader.memory.undecided → CountsAt t a inc refusal l b m
  counts_answer refusal e u false c = inl c
  counts_answer None e u true c = counts_ok e u (are_all_counted e (with_target u.counted t)) c
  counts_answer (Some how) e u true c = inl (counted_without a b m l.memory.undecided c)

  counts_awaited : (refusal : Option Outcome) (e : Option Entry) (u : Option Undecided)
      → IsCounted b m (answer_if_awaited t a refusal e u l).leader.memory.undecided → CountsAt t a inc refusal l b m
  counts_awaited refusal None u c = inl c
  counts_awaited refusal (Some e) None c = inl c
  counts_awaited refusal (Some e) (Some u) c = counts_answer refusal e u (is_other_member e t) c

pub counts-only_oks : CountsOnlyOks
unfolding ack_heard
counts-only_oks t a inc refusal l b m c = by (inc == l.incarnation) refl c
  where
    by : (s : Bool) → (inc == l.incarnation) ≡ s
        → IsCounted b m (if s then answer_if_awaited t a refusal (entry_led a l) (undecided_of a l) l else quietly l).leader.memory.undecided
        → CountsAt t a inc refusal l b m
    by true is c = let own : inc ≡ l.incarnation = grind (arith, nat_tests) in counts_awaited t a inc l b m own refusal (entry_led a l) (undecided_of a l) c
    by false is c = inl c
