-- What a target finds among its entries and rows after a change.
use Rattle.std.specs.Prelude.{ℕ, ◌≡◌, ◌≢◌, Bool, true, false, ◌||◌, not, bit_or, ◌^◌, map, List, [], ◌∷◌, Option, Some, None, refl, if◌then◌else◌, filter, find, ◌==◌}
use Rattle.std.specs.Option.{option_map}
use Rattle.std.proofs.Common.{sym, ◌∙◌, ap, subst, inl, inr, arith}
use Rattle.base_types.specs.declared.entry.Entry.{Entry}
use Rattle.base_types.specs.declared.entry.Settle.TheVariants.{Commit, Abort, Confirm}
use Rattle.base_types.specs.declared.id.AttemptId.{AttemptId}
use Rattle.base_types.specs.declared.operation.MinorWrite.{MinorWrite}
use Rattle.model_laws.specs.DecidedLaws.{all-from_has}
use Rattle.model_laws.specs.EntryLaws.{key-is, found-has}
use Rattle.model_laws.specs.Members.{Has, any-has, has-any, has-filter, has-from_filter}
use Rattle.model_laws.specs.RisingLaws.{after-has}
use Rattle.daos_model.specs.declared.durable.Durable.{Durable}
use Rattle.daos_model.specs.Answers.{is_before}
use Rattle.daos_model.specs.BoolLaws.{and_left, and_right, clash, false_of, or_from_right}
use Rattle.daos_model.specs.Changes.{committed_at, confirmed_at, is_other, leased, prepared, settled}
use Rattle.daos_model.specs.Durables.{attempt_key, entry_key, entry_of, same_attempt, is_entry_of}
use Rattle.daos_model.specs.EntryLaws.{same_attempt-itself}
use Rattle.daos_model.specs.Ordered.{all_after, is_rising}
use Rattle.daos_model.specs.OrderLaws.{before-itself, rising-filter, rising-map, rising-put}
use Rattle.dtx_base.specs.LeaderLaws.{same-is}
use Rattle.dtx_base.specs.Leading.{entry_attempt, entry_led, is_led}
use Rattle.dtx_base.specs.RowLaws.{other-is_not, row-is, row-map}
use Rattle.dtx_base.specs.Rows.{is_among, is_attempt, itself, row_key, row_of, with_row, without_row}
use Rattle.world_base.specs.EntryLaws.{same-committed, same-confirmed}
use Rattle.world_base.specs.Roles.{is_open_entry, is_prepared, leader_at, other_leader, other_leader_of}
use Rattle.world_base.specs.declared.target.TargetMemory.{TargetMemory}
use Rattle.world_base.specs.declared.target.TargetPlan.{TargetPlan}
use Rattle.std.proofs.lemmas.Bool.Decides.{nat_tests}
use Rattle.world_base.specs.Letters.{target}

-- ---- rows of any kind

module _ {T : Type 0} (of : T → AttemptId) where
  -- the row of an attempt is gone once it was taken away
  pub row-gone : (a : AttemptId) (rows : List T) → row_of of a (without_row of a rows) ≡ None
  row-gone a [] = refl
  row-gone a (u ∷ rows) = by (row-gone a rows) (same_attempt (of u) a) refl
    where
      by : row_of of a (without_row of a rows) ≡ None → (s : Bool) → same_attempt (of u) a ≡ s → row_of of a (if not s then u ∷ without_row of a rows else without_row of a rows) ≡ None
      by rest true is = rest
      by rest false is = ap (λ (s : Bool). if s then Some u else row_of of a (without_row of a rows)) is ∙ rest

  -- one that comes is found where there was none
  pub row-new : (r : T) (rows : List T) → row_of of (of r) rows ≡ None → row_of of (of r) (with_row of r rows) ≡ Some r
  row-new r [] none = ap (λ (b : Bool). if b then Some r else None) (same_attempt-itself (of r))
  row-new r (x ∷ rows) none = by (row-new r rows) (same_attempt (of x) (of r)) refl (is_before (row_key of x) (row_key of r))
    where
      after : same_attempt (of x) (of r) ≡ false → row_of of (of r) rows ≡ None
      after is = sym (ap (λ (b : Bool). if b then Some x else row_of of (of r) rows) is) ∙ none

      by : (row_of of (of r) rows ≡ None → row_of of (of r) (with_row of r rows) ≡ Some r) → (s : Bool) → same_attempt (of x) (of r) ≡ s → (b : Bool)
          → row_of of (of r) (if b then x ∷ with_row of r rows else r ∷ x ∷ rows) ≡ Some r
      by rest true is b = let one : Some x ≡ None = sym (ap (λ (c : Bool). if c then Some x else row_of of (of r) rows) is) ∙ none in let no : ⊥ = cc in absurd no
      by rest false is true = ap (λ (c : Bool). if c then Some x else row_of of (of r) (with_row of r rows)) is ∙ rest (after is)
      by rest false is false = ap (λ (c : Bool). if c then Some r else row_of of (of r) (x ∷ rows)) (same_attempt-itself (of r))

  -- a change of the rows of one attempt leaves those of others
  pub row-other : (f : T → T) → ((x : T) → of (f x) ≡ of x) → (a b : AttemptId) → ((x : T) → same_attempt (of x) b ≡ false → f x ≡ x) → (a ≡ b → ⊥) → (rows : List T) → row_of of a (map f rows) ≡ row_of of a rows
  row-other f same a b leaves apart rows = row-map of f same a rows ∙ by (row_of of a rows) refl
    where
      by : (o : Option T) → row_of of a rows ≡ o → option_map f o ≡ o
      by None is = refl
      by (Some x) is = ap (λ y. Some y) (leaves x (false_of (same_attempt (of x) b) (λ own. apart (sym (same-is (of x) a (row-is of a rows x is)) ∙ same-is (of x) b own))))

  -- none has an attempt's row where none is found
  pub row-none : (a : AttemptId) (rows : List T) (x : T) → row_of of a rows ≡ None → Has x rows → same_attempt (of x) a ≡ true → ⊥
  row-none a [] x none i is = absurd i
  row-none a (y ∷ rows) x none (inl here) is =
      let own : same_attempt (of y) a ≡ true = sym (ap (λ z. same_attempt (of z) a) here) ∙ is in
      let one : Some y ≡ None = sym (ap (λ (c : Bool). if c then Some y else row_of of a rows) own) ∙ none in
      (let no : ⊥ = cc in no)
  row-none a (y ∷ rows) x none (inr i) is = by (λ n. row-none a rows x n i is) (same_attempt (of y) a) refl
    where
      by : (row_of of a rows ≡ None → ⊥) → (s : Bool) → same_attempt (of y) a ≡ s → ⊥
      by rest true own = let one : Some y ≡ None = sym (ap (λ (c : Bool). if c then Some y else row_of of a rows) own) ∙ none in (let no : ⊥ = cc in no)
      by rest false own = rest (sym (ap (λ (c : Bool). if c then Some y else row_of of a rows) own) ∙ none)

-- rows stay in order where one comes that wasn't there
pub rows-rising : {T : Type 0} (of : T → AttemptId) (r : T) (rows : List T) → row_of of (of r) rows ≡ None → is_rising (row_key of) rows ≡ true → is_rising (row_key of) (with_row of r rows) ≡ true
rows-rising of r rows none rises =
    rising-put (row_key of) r rows
    (all-from_has (λ u. row_key of u ≢ row_key of r) rows
    (λ u i same. row-none of (of r) rows u none i (subst (λ y. same_attempt (of u) y ≡ true) (key-is (of u) (of r) same) (same_attempt-itself (of u)))))
    rises

-- in rows in order one that stands there is found
pub row-found : {T : Type 0} (of : T → AttemptId) (rows : List T) (x : T) → is_rising (row_key of) rows ≡ true → Has x rows → row_of of (of x) rows ≡ Some x
row-found of [] x rises i = absurd i
row-found of (y ∷ rows) x rises (inl same) =
    ap (λ z. row_of of (of z) (y ∷ rows)) same ∙ ap (λ (b : Bool). if b then Some y else row_of of (of y) rows) (same_attempt-itself (of y)) ∙ ap (λ z. Some z) (sym same)
row-found of (y ∷ rows) x rises (inr i) =
    ap (λ (b : Bool). if b then Some y else row_of of (of x) rows) other ∙ row-found of rows x (and_right (all_after (row_key of) (row_key of y) rows) (is_rising (row_key of) rows) rises) i
  where
    later : is_before (row_key of y) (row_key of x) ≡ true
    later = after-has (row_key of) (row_key of y) rows x (and_left (all_after (row_key of) (row_key of y) rows) (is_rising (row_key of) rows) rises) i

    other : same_attempt (of y) (of x) ≡ false
    other = false_of (same_attempt (of y) (of x)) (λ own. clash (is_before (row_key of y) (row_key of x)) later (ap (λ z. is_before (row_key of y) (attempt_key z)) (sym (same-is (of y) (of x) own)) ∙ before-itself (row_key of y)))

-- ---- attempts among others

pub among-is : (a : AttemptId) (ids : List AttemptId) → is_among a ids ≡ true → Has a ids
among-is a ids is = let z = has-any (is_attempt a) ids is in subst (λ x. Has x ids) (same-is z.0 a z.2) z.1

pub among-has : (a : AttemptId) (ids : List AttemptId) → Has a ids → is_among a ids ≡ true
among-has a ids i = any-has (is_attempt a) ids a i (same_attempt-itself a)

pub among-other : (a b : AttemptId) (ids : List AttemptId) → (a ≡ b → ⊥) → is_among a (without_row itself b ids) ≡ is_among a ids
among-other a b [] apart = refl
among-other a b (x ∷ ids) apart = by (among-other a b ids apart) (same_attempt x b) refl
  where
    by : is_among a (without_row itself b ids) ≡ is_among a ids → (s : Bool) → same_attempt x b ≡ s → is_among a (if not s then x ∷ without_row itself b ids else without_row itself b ids) ≡ is_among a (x ∷ ids)
    by rest true is = rest ∙ sym (ap (λ (s : Bool). s || is_among a ids) (other-is_not x a b apart is))
    by rest false is = ap (λ s. same_attempt x a || s) rest

pub among-more : (a b : AttemptId) (ids : List AttemptId) → (a ≡ b → ⊥) → is_among a (with_row itself b ids) ≡ is_among a ids
among-more a b ids apart = each ids
  where
    off : same_attempt b a ≡ false
    off = false_of (same_attempt b a) (λ same. apart (sym (same-is b a same)))

    by : (x : AttemptId) (ids : List AttemptId) → is_among a (with_row itself b ids) ≡ is_among a ids → (s : Bool) → is_among a (if s then x ∷ with_row itself b ids else b ∷ x ∷ ids) ≡ is_among a (x ∷ ids)
    by x ids rest true = ap (λ s. same_attempt x a || s) rest
    by x ids rest false = ap (λ (s : Bool). s || is_among a (x ∷ ids)) off

    each : (ids : List AttemptId) → is_among a (with_row itself b ids) ≡ is_among a ids
    each [] = ap (λ (s : Bool). s || false) off
    each (x ∷ ids) = by x ids (each ids) (is_before (attempt_key x) (attempt_key b))

pub among-new : (a : AttemptId) (ids : List AttemptId) → is_among a (with_row itself a ids) ≡ true
among-new a [] = ap (λ (s : Bool). s || false) (same_attempt-itself a)
among-new a (x ∷ ids) = by (among-new a ids) (is_before (attempt_key x) (attempt_key a))
  where
    by : is_among a (with_row itself a ids) ≡ true → (s : Bool) → is_among a (if s then x ∷ with_row itself a ids else a ∷ x ∷ ids) ≡ true
    by rest true = or_from_right (same_attempt x a) (is_among a (with_row itself a ids)) rest
    by rest false = ap (λ (s : Bool). s || is_among a (x ∷ ids)) (same_attempt-itself a)

pub among-gone : (a : AttemptId) (ids : List AttemptId) → is_among a (without_row itself a ids) ≡ false
among-gone a [] = refl
among-gone a (x ∷ ids) = by (among-gone a ids) (same_attempt x a) refl
  where
    by : is_among a (without_row itself a ids) ≡ false → (s : Bool) → same_attempt x a ≡ s → is_among a (if not s then x ∷ without_row itself a ids else without_row itself a ids) ≡ false
    by rest true is = rest
    by rest false is = ap (λ (s : Bool). s || is_among a (without_row itself a ids)) is ∙ rest

-- ---- entries

-- a change of what is kept leaves the incarnation
pub inc-leased : (ticks : ℕ) (d : Durable) → (leased ticks d).incarnation ≡ d.incarnation
unfolding leased
inc-leased ticks d = refl

pub entry-committed : (a : AttemptId) (d : Durable) (x : AttemptId) → (x ≡ a → ⊥) → entry_of (settled a Commit d) x ≡ entry_of d x
unfolding entry_of settled
entry-committed a d x apart = row-other entry_attempt (committed_at a) (same-committed a) x a (λ e off. ap (λ (b : Bool). if b then record e { committed = true } else e) off) apart d.entries

pub entry-committed_own : (a : AttemptId) (d : Durable) (e : Entry) → entry_of d a ≡ Some e → entry_of (settled a Commit d) a ≡ Some (record e { committed = true })
unfolding entry_of settled
entry-committed_own a d e found =
    row-map entry_attempt (committed_at a) (same-committed a) a d.entries ∙ ap (option_map (committed_at a)) found
    ∙ ap (λ (b : Bool). Some (if b then record e { committed = true } else e)) (row-is entry_attempt a d.entries e found)

pub entry-confirmed : (a : AttemptId) (t : ℕ) (d : Durable) (x : AttemptId) → (x ≡ a → ⊥) → entry_of (settled a (Confirm t) d) x ≡ entry_of d x
unfolding entry_of settled
entry-confirmed a t d x apart = row-other entry_attempt (confirmed_at a t) (same-confirmed a t) x a (λ e off. ap (λ (b : Bool). if b then record e { confirmed = bit_or e.confirmed (2 ^ t) } else e) off) apart d.entries

pub entry-confirmed_own : (a : AttemptId) (t : ℕ) (d : Durable) (e : Entry) → entry_of d a ≡ Some e → entry_of (settled a (Confirm t) d) a ≡ Some (record e { confirmed = bit_or e.confirmed (2 ^ t) })
unfolding entry_of settled
entry-confirmed_own a t d e found =
    row-map entry_attempt (confirmed_at a t) (same-confirmed a t) a d.entries ∙ ap (option_map (confirmed_at a t)) found
    ∙ ap (λ (b : Bool). Some (if b then record e { confirmed = bit_or e.confirmed (2 ^ t) } else e)) (row-is entry_attempt a d.entries e found)

-- entries stay in order
pub rising-prepared : (e : Entry) (ws : List MinorWrite) (d : Durable) → entry_of d e.attempt ≡ None → is_rising entry_key d.entries ≡ true → is_rising entry_key (prepared e ws d).entries ≡ true
unfolding entry_of prepared
rising-prepared e ws d none rises = rows-rising entry_attempt e d.entries none rises

pub rising-committed : (a : AttemptId) (d : Durable) → is_rising entry_key d.entries ≡ true → is_rising entry_key (settled a Commit d).entries ≡ true
unfolding settled
rising-committed a d rises = rising-map entry_key (committed_at a) (λ e. ap attempt_key (same-committed a e)) d.entries ∙ rises

pub rising-confirmed : (a : AttemptId) (t : ℕ) (d : Durable) → is_rising entry_key d.entries ≡ true → is_rising entry_key (settled a (Confirm t) d).entries ≡ true
unfolding settled
rising-confirmed a t d rises = rising-map entry_key (confirmed_at a t) (λ e. ap attempt_key (same-confirmed a t e)) d.entries ∙ rises

pub rising-aborted : (a : AttemptId) (d : Durable) → is_rising entry_key d.entries ≡ true → is_rising entry_key (settled a Abort d).entries ≡ true
unfolding settled
rising-aborted a d rises = rising-filter entry_key (is_other a) d.entries rises

-- what is prepared has an entry that isn't committed
pub prepared-entry : (a : AttemptId) (d : Durable) → is_prepared a d ≡ true → (e : Entry) × (entry_of d a ≡ Some e) × (e.committed ≡ false)
unfolding is_prepared
prepared-entry a d is = by (entry_of d a) refl is
  where
    by : (o : Option Entry) → entry_of d a ≡ o → is_open_entry o ≡ true → (e : Entry) × (entry_of d a ≡ Some e) × (e.committed ≡ false)
    by None at is = let no : ⊥ = cc in absurd no
    by (Some e) at is = (e, at, off e.committed is)
      where
        off : (b : Bool) → not b ≡ true → b ≡ false
        off true is = let no : ⊥ = cc in absurd no
        off false is = refl

pub found-attempt : (d : Durable) (a : AttemptId) (e : Entry) → entry_of d a ≡ Some e → e.attempt ≡ a
unfolding entry_of
found-attempt d a e found = same-is e.attempt a (row-is entry_attempt a d.entries e found)

-- what stands among the entries is found
pub found-here : (d : Durable) (e : Entry) → is_rising entry_key d.entries ≡ true → Has e d.entries → entry_of d e.attempt ≡ Some e
unfolding entry_of
found-here d e rises i = row-found entry_attempt d.entries e rises i

-- what a leader finds is found among all entries, and it leads it
pub led-found : (p : TargetPlan) (m : TargetMemory) (d : Durable) (a : AttemptId) (e : Entry) → is_rising entry_key d.entries ≡ true → entry_led a (leader_at p m d) ≡ Some e → (entry_of d a ≡ Some e) × (e.leader ≡ p.me)
led-found p m d a e rises at =
    let is = has-from_filter (is_led p.me) d.entries e (found-has (is_entry_of a) (filter (is_led p.me) d.entries) e at) in
    let own : e.attempt ≡ a = same-is e.attempt a (row-is entry_attempt a (filter (is_led p.me) d.entries) e at) in
    let leads : (e.leader == p.me) ≡ true = is.1 in
    (subst (λ x. entry_of d x ≡ Some e) own (found-here d e rises is.0), grind (arith, nat_tests))

-- and what is found that it leads, a leader finds
pub found-led : (p : TargetPlan) (m : TargetMemory) (d : Durable) (a : AttemptId) (e : Entry) → is_rising entry_key d.entries ≡ true → entry_of d a ≡ Some e → e.leader ≡ p.me → entry_led a (leader_at p m d) ≡ Some e
unfolding entry_of
found-led p m d a e rises at leads =
    let own : e.attempt ≡ a = found-attempt d a e at in
    let leads-test : is_led p.me e ≡ true = grind (arith, nat_tests) in
    subst (λ x. find (is_entry_of x) (filter (is_led p.me) d.entries) ≡ Some e) own
    (row-found entry_attempt (filter (is_led p.me) d.entries) e (rising-filter entry_key (is_led p.me) d.entries rises)
    (has-filter (is_led p.me) d.entries e (found-has (is_entry_of a) d.entries e at) leads-test))

pub target-is : (t u : ℕ) → target t ≡ target u → t ≡ u
target-is t u same = ap (λ a. a.number) same

-- the other target that leads an attempt with an entry here
pub other-entry : (p : TargetPlan) (a : AttemptId) (d : Durable) (leader : ℕ) → other_leader p a d ≡ Some leader → (e : Entry) × (entry_of d a ≡ Some e) × (e.leader ≡ leader) × (e.leader ≡ p.me → ⊥)
unfolding other_leader
other-entry p a d leader is = by (entry_of d a) refl is
  where
    by : (o : Option Entry) → entry_of d a ≡ o → other_leader_of p.me o ≡ Some leader → (e : Entry) × (entry_of d a ≡ Some e) × (e.leader ≡ leader) × (e.leader ≡ p.me → ⊥)
    by None at is = let no : ⊥ = cc in absurd no
    by (Some e) at is = led (e.leader == p.me) refl is
      where
        led : (b : Bool) → (e.leader == p.me) ≡ b → (if b then None else Some e.leader) ≡ Some leader → (e : Entry) × (entry_of d a ≡ Some e) × (e.leader ≡ leader) × (e.leader ≡ p.me → ⊥)
        led true own is = let no : ⊥ = cc in absurd no
        led false own is = (e, at, (let same : e.leader ≡ leader = cc in same), λ same. (let no : ⊥ = grind (arith, nat_tests) in no))

-- an attempt that isn't among others is no row of theirs
pub not-among : (a : AttemptId) (ids : List AttemptId) → is_among a ids ≡ false → row_of itself a ids ≡ None
not-among a [] off = refl
not-among a (x ∷ ids) off = by (not-among a ids) (same_attempt x a) off
  where
    by : (is_among a ids ≡ false → row_of itself a ids ≡ None) → (b : Bool) → (b || is_among a ids) ≡ false → (if b then Some x else row_of itself a ids) ≡ None
    by rest true e = let no : ⊥ = cc in absurd no
    by rest false e = rest e
