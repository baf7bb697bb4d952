-- Which versions count, where the entry of an attempt is committed, confirmed or goes.
use Rattle.std.proofs.Common.{◌≡◌, ℕ, ◌==◌, ◌&&◌, ◌||◌, Bool, true, false, not, cond, List, [], ◌∷◌, map, refl, sym, ap, ◌∙◌, arith, ◌^◌}
use Rattle.std.specs.Prelude.{All, bit_or, filter, if◌then◌else◌}
use Rattle.std.specs.List.{list_any}
use Rattle.std.proofs.lemmas.Bool.Decides.{nat_tests}
use Rattle.std.proofs.lemmas.List.Elements.{All-head, All-tail}
use Rattle.base_types.specs.declared.entry.Entry.{Entry}
use Rattle.base_types.specs.declared.id.AttemptId.{AttemptId}
use Rattle.daos_model.specs.BoolLaws.{clash}
use Rattle.daos_model.specs.Changes.{committed_at, confirmed_at, is_other}
use Rattle.daos_model.specs.declared.durable.Version.{Version}
use Rattle.daos_model.specs.Durables.{same_attempt}
use Rattle.daos_model.specs.Versions.{done_by, is_not_pending, is_pending}
use Rattle.vos_tables.specs.vos_image.Kept.{counts, is_prepared_for}

apart_numbers : (a b c x y z u v w : ℕ) → ((x == a) && (y == b) && (z == c)) ≡ true → ((u == a) && (v == b) && (w == c)) ≡ false → ((x == u) && (y == v) && (z == w)) ≡ false
apart_numbers a b c x y z u v w one other = grind (arith, nat_tests)

joined_numbers : (a b c x y z u v w : ℕ) → ((x == a) && (y == b) && (z == c)) ≡ false → ((u == a) && (v == b) && (w == c)) ≡ true → ((x == u) && (y == v) && (z == w)) ≡ false
joined_numbers a b c x y z u v w one other = grind (arith, nat_tests)

-- of two attempts one is this, and the other isn't: they aren't one
pub apart_left : (e v a : AttemptId) → same_attempt e a ≡ true → same_attempt v a ≡ false → same_attempt e v ≡ false
unfolding same_attempt
apart_left e v a one other = apart_numbers a.client a.command a.attempt e.client e.command e.attempt v.client v.command v.attempt one other

pub apart_right : (e v a : AttemptId) → same_attempt e a ≡ false → same_attempt v a ≡ true → same_attempt e v ≡ false
unfolding same_attempt
apart_right e v a one other = joined_numbers a.client a.command a.attempt e.client e.command e.attempt v.client v.command v.attempt one other

-- ---- entries prepared for a version

no_and : (b : Bool) → (b && false) ≡ false
no_and true = refl
no_and false = refl

-- of another attempt they stay
committed_other : (a : AttemptId) (v : Version) (e : Entry) → same_attempt v.by a ≡ false → is_prepared_for v (committed_at a e) ≡ is_prepared_for v e
committed_other a v e other = by (same_attempt e.attempt a) refl
  where
    by : (b : Bool) → same_attempt e.attempt a ≡ b → is_prepared_for v (if b then record e { committed = true } else e) ≡ is_prepared_for v e
    by true is = let none = apart_left e.attempt v.by a is other in rw none refl
    by false is = refl

pub any_committed : (a : AttemptId) (v : Version) (es : List Entry) → same_attempt v.by a ≡ false → list_any (is_prepared_for v) (map (committed_at a) es) ≡ list_any (is_prepared_for v) es
any_committed a v [] other = refl
any_committed a v (e ∷ es) other = ap (λ (b : Bool). b || list_any (is_prepared_for v) (map (committed_at a) es)) (committed_other a v e other) ∙ ap (λ (b : Bool). is_prepared_for v e || b) (any_committed a v es other)

confirmed_same : (a : AttemptId) (t : ℕ) (v : Version) (e : Entry) → is_prepared_for v (confirmed_at a t e) ≡ is_prepared_for v e
confirmed_same a t v e = elim (same_attempt e.attempt a) as (λ b. is_prepared_for v (if b then record e { confirmed = bit_or e.confirmed (2 ^ t) } else e) ≡ is_prepared_for v e) [ true ↦ refl | false ↦ refl ]

pub any_confirmed : (a : AttemptId) (t : ℕ) (v : Version) (es : List Entry) → list_any (is_prepared_for v) (map (confirmed_at a t) es) ≡ list_any (is_prepared_for v) es
any_confirmed a t v [] = refl
any_confirmed a t v (e ∷ es) = ap (λ (b : Bool). b || list_any (is_prepared_for v) (map (confirmed_at a t) es)) (confirmed_same a t v e) ∙ ap (λ (b : Bool). is_prepared_for v e || b) (any_confirmed a t v es)

-- where the entries of an attempt go, those of its versions go, and those of others stay
pub any_other : (a : AttemptId) (v : Version) (s : Bool) (es : List Entry) → same_attempt v.by a ≡ s → list_any (is_prepared_for v) (filter (is_other a) es) ≡ (not s && list_any (is_prepared_for v) es)
any_other a v true [] is = refl
any_other a v false [] is = refl
any_other a v true (e ∷ es) is = by (same_attempt e.attempt a) refl (any_other a v true es is)
  where
    by : (b : Bool) → same_attempt e.attempt a ≡ b → list_any (is_prepared_for v) (filter (is_other a) es) ≡ false → list_any (is_prepared_for v) (cond (not b) (e ∷ filter (is_other a) es) (filter (is_other a) es)) ≡ false
    by true at rest = rest
    by false at rest = let none = apart_right e.attempt v.by a at is in rw (none, rest) refl
any_other a v false (e ∷ es) is = by (same_attempt e.attempt a) refl (any_other a v false es is)
  where
    by : (b : Bool) → same_attempt e.attempt a ≡ b → list_any (is_prepared_for v) (filter (is_other a) es) ≡ list_any (is_prepared_for v) es
        → list_any (is_prepared_for v) (cond (not b) (e ∷ filter (is_other a) es) (filter (is_other a) es)) ≡ (is_prepared_for v e || list_any (is_prepared_for v) es)
    by true at rest = let none = apart_left e.attempt v.by a at is in rest ∙ sym (rw none refl)
    by false at rest = ap (λ (b : Bool). is_prepared_for v e || b) rest

-- ---- what counts

pub counts_committed : (a : AttemptId) (es : List Entry) (v : Version) → counts es v ≡ true → counts (map (committed_at a) es) (done_by a v) ≡ true
unfolding counts done_by
counts_committed a es v h = by v.done refl (same_attempt v.by a) refl
  where
    by : (d : Bool) → v.done ≡ d → (s : Bool) → same_attempt v.by a ≡ s → ((d || s) || list_any (is_prepared_for v) (map (committed_at a) es)) ≡ true
    by true done s is = refl
    by false done true is = refl
    by false done false is = any_committed a v es is ∙ (sym (ap (λ (b : Bool). b || list_any (is_prepared_for v) es) done) ∙ h)

pub counts_confirmed : (a : AttemptId) (t : ℕ) (es : List Entry) (v : Version) → counts (map (confirmed_at a t) es) v ≡ counts es v
unfolding counts
counts_confirmed a t es v = ap (λ (b : Bool). v.done || b) (any_confirmed a t v es)

pub counts_other : (a : AttemptId) (es : List Entry) (v : Version) → counts es v ≡ true → counts (filter (is_other a) es) v ≡ is_not_pending a v
unfolding counts is_pending
counts_other a es v h = by v.done refl (same_attempt v.by a) refl
  where
    by : (d : Bool) → v.done ≡ d → (s : Bool) → same_attempt v.by a ≡ s → (d || list_any (is_prepared_for v) (filter (is_other a) es)) ≡ not (s && not d)
    by true done true is = refl
    by true done false is = refl
    by false done true is = any_other a v true es is
    by false done false is = any_other a v false es is ∙ (sym (ap (λ (b : Bool). b || list_any (is_prepared_for v) es) done) ∙ h)

-- no entry of an attempt is prepared where all of its are committed
none_prepared : (a : AttemptId) (v : Version) (es : List Entry) → same_attempt v.by a ≡ true → All (λ e. same_attempt e.attempt a ≡ true → e.committed ≡ true) es → list_any (is_prepared_for v) es ≡ false
none_prepared a v [] is all = refl
none_prepared a v (e ∷ es) is all = by (same_attempt e.attempt a) refl (none_prepared a v es is (All-tail (λ e. same_attempt e.attempt a ≡ true → e.committed ≡ true) e es all))
  where
    by : (b : Bool) → same_attempt e.attempt a ≡ b → list_any (is_prepared_for v) es ≡ false → (is_prepared_for v e || list_any (is_prepared_for v) es) ≡ false
    by true at rest =
        let done = All-head (λ e. same_attempt e.attempt a ≡ true → e.committed ≡ true) e es all at in
        let here : is_prepared_for v e ≡ false = rw done (ap (λ (b : Bool). same_attempt e.attempt v.by && b) (no_and (e.epoch.0 == v.epoch.0)) ∙ no_and (same_attempt e.attempt v.by)) in
        rw (here, rest) refl
    by false at rest = let none = apart_right e.attempt v.by a at is in rw (none, rest) refl

pub counts_forgotten : (a : AttemptId) (es : List Entry) (v : Version) → All (λ e. same_attempt e.attempt a ≡ true → e.committed ≡ true) es → counts es v ≡ true → counts (filter (is_other a) es) v ≡ true
unfolding counts
counts_forgotten a es v all h = by v.done refl (same_attempt v.by a) refl
  where
    by : (d : Bool) → v.done ≡ d → (s : Bool) → same_attempt v.by a ≡ s → (d || list_any (is_prepared_for v) (filter (is_other a) es)) ≡ true
    by true done s is = refl
    by false done true is = let none = none_prepared a v es is all in clash (list_any (is_prepared_for v) es) (sym (ap (λ (b : Bool). b || list_any (is_prepared_for v) es) done) ∙ h) none
    by false done false is = any_other a v false es is ∙ (sym (ap (λ (b : Bool). b || list_any (is_prepared_for v) es) done) ∙ h)

-- a version that waits after its attempt's are done waited before
pub waited : (a b : AttemptId) (v : Version) → is_pending b (done_by a v) ≡ true → is_pending b v ≡ true
unfolding is_pending done_by
waited a b v h = by (same_attempt v.by b) v.done (same_attempt v.by a) h
  where
    by : (s d t : Bool) → (s && not (d || t)) ≡ true → (s && not d) ≡ true
    by true true t h = h
    by true false t h = refl
    by false d t h = h
