-- What holds of every step of a leader.
use Rattle.std.specs.Prelude.{ℕ, ◌≡◌, ◌^◌, ◌⊎◌, Bool, true, false, ◌&&◌, ◌||◌, ◌==◌, not, filter, map, All, List, [], ◌∷◌, ◌++◌, Option, Some, None, if◌then◌else◌, refl}
use Rattle.std.specs.List.{list_all, list_any}
use Rattle.std.specs.Int.{bit_at}
use Rattle.std.proofs.Common.{sym, ◌∙◌, ap, arith, inl, inr, max}
use Rattle.std.proofs.lemmas.Bool.Decides.{nat_tests}
use Rattle.std.proofs.lemmas.List.Elements.{All-cons, All-head, All-tail, filter_passes}
use Rattle.std.proofs.lemmas.Nat.Bits.{bit_at_or, bit_at-pow_other}
use Rattle.base_types.specs.declared.entry.Entry.{Entry}
use Rattle.base_types.specs.declared.id.AttemptId.{AttemptId}
use Rattle.base_types.specs.declared.outcome.Outcome.{Outcome}
use Rattle.base_types.specs.declared.outcome.Outcome.TheVariants.{Committed}
use Rattle.base_messages.specs.declared.message.Message.TheVariants.{Mark}
use Rattle.base_messages.specs.declared.message.Post.{Post}
use Rattle.daos_model.specs.Answers.{is_before}
use Rattle.daos_model.specs.BoolLaws.{and_left, and_right, both, clash, not_true}
use Rattle.daos_model.specs.Durables.{attempt_key, entry_key, same_attempt}
use Rattle.daos_model.specs.Ordered.{all_after, is_rising, put}
use Rattle.daos_model.specs.OrderLaws.{rising-filter}
use Rattle.dtx_base.specs.declared.leading.Naming.{Naming}
use Rattle.dtx_base.specs.declared.leading.Undecided.{Undecided}
use Rattle.dtx_base.specs.Leading.{LeaderOf, ack_heard, answer_heard, answer_if_awaited, batched, commit_mark, counted_at, decided, ended, entry_attempt, entry_led, is_batch_due, is_due_to, is_named, is_owed, mark_with, marks_for, ok_heard, owed, quietly, to_target, undecided_of, with_undecided}
use Rattle.dtx_base.specs.Members.{all_targets, are_all_counted, has_target, is_other_member, other_members, with_target}
use Rattle.dtx_base.specs.Rows.{is_among, is_empty, itself, row_key}

abbrev attempt_of : ℕ → ℕ → ℕ → AttemptId
attempt_of client command attempt = record { client = client; command = command; attempt = attempt }

-- attempts that are found to be one are one
pub same-is : (a b : AttemptId) → same_attempt a b ≡ true → a ≡ b
unfolding same_attempt
same-is a b is =
    let two = and_left ((a.client == b.client) && (a.command == b.command)) (a.attempt == b.attempt) is in
    let first : (a.client == b.client) ≡ true = and_left (a.client == b.client) (a.command == b.command) two in
    let second : (a.command == b.command) ≡ true = and_right (a.client == b.client) (a.command == b.command) two in
    let third : (a.attempt == b.attempt) ≡ true = and_right ((a.client == b.client) && (a.command == b.command)) (a.attempt == b.attempt) is in
    let client : a.client ≡ b.client = grind (arith, nat_tests) in
    let command : a.command ≡ b.command = grind (arith, nat_tests) in
    let attempt : a.attempt ≡ b.attempt = grind (arith, nat_tests) in
    ap (λ x. attempt_of x a.command a.attempt) client ∙ ap (λ x. attempt_of b.client x a.attempt) command ∙ ap (λ x. attempt_of b.client b.command x) attempt

-- ---- an attempt is decided once all its other members answered Ok

-- a target whose bit is set once one more is added is that one, or had it before
pub had_or_is : (set t m : ℕ) → has_target (with_target set t) m ≡ true → (m ≡ t) ⊎ (has_target set m ≡ true)
unfolding has_target
had_or_is set t m has = by (m == t) refl
  where
    by : (b : Bool) → (m == t) ≡ b → (m ≡ t) ⊎ ((bit_at set m == 1) ≡ true)
    by true same = inl (grind (arith, nat_tests))
    by false apart =
        let other : bit_at (2 ^ t) m ≡ 0 = bit_at-pow_other t m (λ is. clash (m == t) (grind (arith, nat_tests)) apart) in
        let bits : bit_at (with_target set t) m ≡ max (bit_at set m) (bit_at (2 ^ t) m) = bit_at_or set (2 ^ t) m in
        let one : bit_at (with_target set t) m ≡ 1 = grind (arith, nat_tests) in
        let own : bit_at set m ≡ 1 = omega arith in
        inr (rw own refl)

each_counted : (set t : ℕ) (ms : List ℕ) → list_all (has_target (with_target set t)) ms ≡ true → All (λ m. (m ≡ t) ⊎ (has_target set m ≡ true)) ms
each_counted set t [] all = λ i d lt. absurd (omega arith)
each_counted set t (m ∷ ms) all =
    All-cons (λ m. (m ≡ t) ⊎ (has_target set m ≡ true)) m ms
    (had_or_is set t m (and_left (has_target (with_target set t) m) (list_all (has_target (with_target set t)) ms) all))
    (each_counted set t ms (and_right (has_target (with_target set t) m) (list_all (has_target (with_target set t)) ms) all))

-- An Ack by this member decides an attempt: it is undecided here, the member is one of its others, and each other one was
-- counted as Ok before, or is this one.
pub record IsLastOk (t : ℕ) (a : AttemptId) (l : LeaderOf) : Type 0 where
  pub entry : Entry
  pub row : Undecided
  pub led : entry_led a l ≡ Some entry
  pub undecided : undecided_of a l ≡ Some row
  pub member : is_other_member entry t ≡ true
  pub counted : All (λ m. (m ≡ t) ⊎ (has_target row.counted m ≡ true)) (other_members entry)

among_put : (b v : AttemptId) (us : List AttemptId) → is_among b (put (row_key itself) v us) ≡ true → (same_attempt v b ≡ true) ⊎ (is_among b us ≡ true)
among_put b v [] among = front (same_attempt v b) among
  where
    front : (s : Bool) → (s || false) ≡ true → (s ≡ true) ⊎ (false ≡ true)
    front true e = inl refl
    front false e = inr e
among_put b v (u ∷ us) among = by (is_before (attempt_key u) (attempt_key v)) among (among_put b v us)
  where
    late : (s r : Bool) → (s || r) ≡ true → (r ≡ true → (same_attempt v b ≡ true) ⊎ (is_among b us ≡ true)) → (same_attempt v b ≡ true) ⊎ ((s || is_among b us) ≡ true)
    late true r e rest = inr refl
    late false r e rest = rest e

    early : (s r : Bool) → (s || r) ≡ true → (s ≡ true) ⊎ (r ≡ true)
    early true r e = inl refl
    early false r e = inr e

    by : (s : Bool) → is_among b (if s then u ∷ put (row_key itself) v us else v ∷ u ∷ us) ≡ true
        → (is_among b (put (row_key itself) v us) ≡ true → (same_attempt v b ≡ true) ⊎ (is_among b us ≡ true))
        → (same_attempt v b ≡ true) ⊎ (is_among b (u ∷ us) ≡ true)
    by true e rest = late (same_attempt u b) (is_among b (put (row_key itself) v us)) e rest
    by false e rest = early (same_attempt v b) (is_among b (u ∷ us)) e

-- an attempt that is decided after an Ack was decided before, or the Ack was the last Ok that it waited for
abbrev pub DecidesAt : ℕ → AttemptId → ℕ → Option Outcome → LeaderOf → AttemptId → Type 0
DecidesAt t a inc refusal l b = (is_among b l.memory.decided ≡ true) ⊎ ((b ≡ a) × (refusal ≡ None) × (inc ≡ l.incarnation) × IsLastOk t a l)

abbrev pub DecidedOnlyByLastOk : Type 0
DecidedOnlyByLastOk = (t : ℕ) (a : AttemptId) (inc : ℕ) (refusal : Option Outcome) (l : LeaderOf) (b : AttemptId)
    → is_among b (ack_heard t a inc refusal l).leader.memory.decided ≡ true → DecidesAt t a inc refusal l b

module _ (t : ℕ) (a : AttemptId) (inc : ℕ) (l : LeaderOf) (b : AttemptId) (own : inc ≡ l.incarnation) where
  by_ok : (e : Entry) (u : Undecided) → entry_led a l ≡ Some e → undecided_of a l ≡ Some u → is_other_member e t ≡ true
      → is_among b (ok_heard t a e u l).leader.memory.decided ≡ true → DecidesAt t a inc None l b
  unfolding are_all_counted
  by_ok e u led row member among = by (list_all (has_target (with_target u.counted t)) (other_members e)) refl among
    where
      last : list_all (has_target (with_target u.counted t)) (other_members e) ≡ true → (same_attempt a b ≡ true) ⊎ (is_among b l.memory.decided ≡ true) → DecidesAt t a inc None l b
      last all (inl same) =
          inr (
            sym (same-is a b same),
            refl,
            own,
            record { entry = e; row = u; led = led; undecided = row; member = member; counted = each_counted u.counted t (other_members e) all },
          )
      last all (inr before) = inl before

      by : (s : Bool) → list_all (has_target (with_target u.counted t)) (other_members e) ≡ s
          → is_among b (if s then record { leader = decided a l; posts = ended u.client a e.epoch Committed } else quietly (with_undecided (map (counted_at a t) l.memory.undecided) l)).leader.memory.decided ≡ true
          → DecidesAt t a inc None l b
      by true all among = last all (among_put b a l.memory.decided among)
      by false all among = inl among

  by_answer : (refusal : Option Outcome) (e : Entry) (u : Undecided) → entry_led a l ≡ Some e → undecided_of a l ≡ Some u → (s : Bool) → is_other_member e t ≡ s
      → is_among b (if s then answer_heard t a refusal e u l else quietly l).leader.memory.decided ≡ true → DecidesAt t a inc refusal l b
  by_answer refusal e u led row false member among = inl among
  by_answer None e u led row true member among = by_ok e u led row member among
  by_answer (Some how) e u led row true member among = inl among

  by_awaited : (refusal : Option Outcome) (e : Option Entry) (u : Option Undecided) → entry_led a l ≡ e → undecided_of a l ≡ u
      → is_among b (answer_if_awaited t a refusal e u l).leader.memory.decided ≡ true → DecidesAt t a inc refusal l b
  by_awaited refusal None u led row among = inl among
  by_awaited refusal (Some e) None led row among = inl among
  by_awaited refusal (Some e) (Some u) led row among = by_answer refusal e u led row (is_other_member e t) refl among

pub decided-only_by_last_ok : DecidedOnlyByLastOk
unfolding ack_heard
decided-only_by_last_ok t a inc refusal l b among = by (inc == l.incarnation) refl among
  where
    by : (s : Bool) → (inc == l.incarnation) ≡ s
        → is_among b (if s then answer_if_awaited t a refusal (entry_led a l) (undecided_of a l) l else quietly l).leader.memory.decided ≡ true
        → DecidesAt t a inc refusal l b
    by true is among = let own : inc ≡ l.incarnation = grind (arith, nat_tests) in by_awaited t a inc l b own refusal (entry_led a l) (undecided_of a l) refl refl among
    by false is among = inl among

-- ---- a batch

-- What a batch tells a target: no attempt twice, and none that a Mark names to it which is without an answer.
pub record AreNewMarks (t : ℕ) (named : List Naming) (ids : List AttemptId) : Type 0 where
  pub rising : is_rising attempt_key ids ≡ true
  pub unnamed : All (λ a. is_named t a named ≡ false) ids

abbrev pub BatchesNameOnce : Type 0
BatchesNameOnce = (down : ℕ) (named : List Naming) (es : List Entry) (t : ℕ) → is_rising entry_key es ≡ true → AreNewMarks t named (owed down named es t)

after_attempts : (k : List ℕ) (es : List Entry) → all_after entry_key k es ≡ true → all_after attempt_key k (map entry_attempt es) ≡ true
after_attempts k [] after = refl
after_attempts k (e ∷ es) after =
    both (is_before k (entry_key e)) (all_after attempt_key k (map entry_attempt es))
    (and_left (is_before k (entry_key e)) (all_after entry_key k es) after)
    (after_attempts k es (and_right (is_before k (entry_key e)) (all_after entry_key k es) after))

rising_attempts : (es : List Entry) → is_rising entry_key es ≡ true → is_rising attempt_key (map entry_attempt es) ≡ true
rising_attempts [] rising = refl
rising_attempts (e ∷ es) rising =
    both (all_after attempt_key (entry_key e) (map entry_attempt es)) (is_rising attempt_key (map entry_attempt es))
    (after_attempts (entry_key e) es (and_left (all_after entry_key (entry_key e) es) (is_rising entry_key es) rising))
    (rising_attempts es (and_right (all_after entry_key (entry_key e) es) (is_rising entry_key es) rising))

all_attempts : (P : AttemptId → Type 0) (es : List Entry) → All (λ e. P e.attempt) es → All P (map entry_attempt es)
all_attempts P [] all = λ i d lt. absurd (omega arith)
all_attempts P (e ∷ es) all = All-cons P e.attempt (map entry_attempt es) (All-head (λ x. P x.attempt) e es all) (all_attempts P es (All-tail (λ x. P x.attempt) e es all))

owed-unnamed : (t : ℕ) (named : List Naming) (e : Entry) → is_owed t named e ≡ true → is_named t e.attempt named ≡ false
unfolding is_owed
owed-unnamed t named e owes =
    not_true (is_named t e.attempt named)
    (and_right (e.committed && is_other_member e t && not (has_target e.confirmed t)) (not (is_named t e.attempt named)) owes)

all_owed : (t : ℕ) (named : List Naming) (es : List Entry) → All (λ e. is_owed t named e ≡ true) es → All (λ e. is_named t e.attempt named ≡ false) es
all_owed t named [] all = λ i d lt. absurd (omega arith)
all_owed t named (e ∷ es) all =
    All-cons (λ e. is_named t e.attempt named ≡ false) e es (owed-unnamed t named e (All-head (λ e. is_owed t named e ≡ true) e es all))
    (all_owed t named es (All-tail (λ e. is_owed t named e ≡ true) e es all))

pub batches-name_once : BatchesNameOnce
unfolding owed
batches-name_once down named es t rising = by (has_target down t)
  where
    by : (s : Bool) → AreNewMarks t named (if s then [] else map entry_attempt (filter (is_owed t named) es))
    by true = record { rising = refl; unnamed = λ i d lt. absurd (omega arith) }
    by false = record {
      rising = rising_attempts (filter (is_owed t named) es) (rising-filter entry_key (is_owed t named) es rising);
      unnamed = all_attempts (λ a. is_named t a named ≡ false) (filter (is_owed t named) es) (all_owed t named (filter (is_owed t named) es) (filter_passes (is_owed t named) es));
    }

-- ---- a batch that is due

-- a batch sends something where it is due, and nothing where it isn't
abbrev pub BatchesAreDue : Type 0
BatchesAreDue = (l : LeaderOf) → is_empty (batched l).posts ≡ not (is_batch_due l)

not_empty : {T : Type 0} (x : T) (xs : List T) → is_empty (x ∷ xs) ≡ false
not_empty x xs = grind (arith, nat_tests)

none_owed : (t : ℕ) (named : List Naming) (es : List Entry) → is_empty (map entry_attempt (filter (is_owed t named) es)) ≡ not (list_any (is_owed t named) es)
none_owed t named [] = refl
none_owed t named (e ∷ es) = by (none_owed t named es) (is_owed t named e)
  where
    by : is_empty (map entry_attempt (filter (is_owed t named) es)) ≡ not (list_any (is_owed t named) es) → (s : Bool)
        → is_empty (map entry_attempt (if s then e ∷ filter (is_owed t named) es else filter (is_owed t named) es)) ≡ not (s || list_any (is_owed t named) es)
    by rest true = not_empty e.attempt (map entry_attempt (filter (is_owed t named) es))
    by rest false = rest

none_told : (inc down : ℕ) (named : List Naming) (es : List Entry) (t : ℕ) → is_empty (mark_with inc t (owed down named es t)) ≡ not (is_due_to down named es t)
unfolding owed
none_told inc down named es t = by (has_target down t)
  where
    sent : (s : Bool) (ids : List AttemptId) → is_empty ids ≡ s → is_empty (mark_with inc t ids) ≡ s
    sent true ids is = ap (λ (b : Bool). is_empty (if b then [] else to_target t (Mark inc (map commit_mark ids)) ∷ [])) is
    sent false ids is = ap (λ (b : Bool). is_empty (if b then [] else to_target t (Mark inc (map commit_mark ids)) ∷ [])) is

    by : (s : Bool) → is_empty (mark_with inc t (if s then [] else map entry_attempt (filter (is_owed t named) es))) ≡ not (not s && list_any (is_owed t named) es)
    by true = refl
    by false = sent (not (list_any (is_owed t named) es)) (map entry_attempt (filter (is_owed t named) es)) (none_owed t named es)

none_of_both : (xs ys : List Post) (p q : Bool) → is_empty xs ≡ not p → is_empty ys ≡ not q → is_empty (xs ++ ys) ≡ not (p || q)
none_of_both [] ys true q e f = absurd (let no : ⊥ = cc in no)
none_of_both [] ys false q e f = f
none_of_both (x ∷ xs) ys true q e f = not_empty x (xs ++ ys)
none_of_both (x ∷ xs) ys false q e f = clash (is_empty (x ∷ xs)) e (not_empty x xs)

none_sent : (inc down : ℕ) (named : List Naming) (es : List Entry) (ts : List ℕ) → is_empty (marks_for inc down named es ts) ≡ not (list_any (is_due_to down named es) ts)
none_sent inc down named es [] = refl
none_sent inc down named es (t ∷ ts) =
    none_of_both (mark_with inc t (owed down named es t)) (marks_for inc down named es ts) (is_due_to down named es t) (list_any (is_due_to down named es) ts)
    (none_told inc down named es t) (none_sent inc down named es ts)

pub batches-are_due : BatchesAreDue
unfolding batched is_batch_due
batches-are_due l = none_sent l.incarnation l.memory.down l.memory.named l.entries all_targets
