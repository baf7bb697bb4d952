-- What a target that opens knows and asks: its rows, the questions to other members, and how many of them concern an attempt.
use Rattle.std.specs.Prelude.{ℕ, ◌≡◌, ◌+◌, ◌==◌, ◌⊎◌, ◌&&◌, ◌||◌, Bool, true, false, List, [], ◌∷◌, ◌++◌, map, filter, Some, if◌then◌else◌, refl}
use Rattle.std.proofs.Common.{sym, ◌∙◌, ap, append-nil, arith, inl, inr}
use Rattle.std.proofs.lemmas.Bool.Decides.{nat_tests}
use Rattle.std.proofs.lemmas.List.{append_assoc}
use Rattle.base_types.specs.declared.entry.Entry.{Entry}
use Rattle.base_types.specs.declared.id.AttemptId.{AttemptId}
use Rattle.model_laws.specs.Members.{Has, has-cases, has-from_map}
use Rattle.model_laws.specs.RisingLaws.{after-has}
use Rattle.base_messages.specs.declared.message.Post.{Post}
use Rattle.daos_model.specs.Answers.{is_before}
use Rattle.daos_model.specs.BoolLaws.{and_left, and_right, clash, false_of}
use Rattle.daos_model.specs.Changes.{reopened}
use Rattle.daos_model.specs.Durables.{attempt_key, entry_key, entry_of, same_attempt}
use Rattle.daos_model.specs.EntryLaws.{same_attempt-itself}
use Rattle.daos_model.specs.Ordered.{all_after, is_rising}
use Rattle.daos_model.specs.OrderLaws.{before-itself}
use Rattle.daos_model.specs.declared.durable.Durable.{Durable}
use Rattle.dtx_base.specs.LeaderLaws.{same-is}
use Rattle.dtx_base.specs.Leading.{entry_attempt, first_leader, is_led, is_open, is_open_alone, reopened_undecided}
use Rattle.dtx_base.specs.Members.{other_members}
use Rattle.dtx_base.specs.Rows.{row_of}
use Rattle.world_commit.specs.attempts.Attempts.{count}
use Rattle.world_commit.specs.attempts.Counting.{count-append, count-none, count-same, count-map, is_same}
use Rattle.world_commit.specs.fates.Facts.{answers_for, asks_for, is_between}
use Rattle.world_base.specs.declared.letter.Letter.{Letter}
use Rattle.world_base.specs.Events.{Rules, target_plan}
use Rattle.world_base.specs.Letters.{asked_after, asked_with, is_answer_to, is_answerable, letter_of, target, without_first}
use Rattle.world_base.specs.Statuses.{opening_memory, opening_posts, status_to, statuses_for, statuses_of}

-- ---- rows

module _ {T : Type 0} (of : T → AttemptId) where
  pub row-among : (a : AttemptId) (rows : List T) (u : T) → row_of of a rows ≡ Some u → Has u rows
  row-among a [] u at = let no : ⊥ = cc in absurd no
  row-among a (x ∷ rows) u at = by (same_attempt (of x) a) (row-among a rows u) at
    where
      by : (b : Bool) → (row_of of a rows ≡ Some u → Has u rows) → (if b then Some x else row_of of a rows) ≡ Some u → Has u (x ∷ rows)
      by true rest at = inl (let one : u ≡ x = cc in one)
      by false rest at = inr (rest at)

  pub row-of_some : (a : AttemptId) (rows : List T) (x : T) → Has x rows → same_attempt (of x) a ≡ true → (u : T) × (row_of of a rows ≡ Some u)
  row-of_some a [] x i is = absurd i
  row-of_some a (y ∷ rows) x i is = by (λ j. row-of_some a rows x j is) (same_attempt (of y) a) refl i
    where
      by : (Has x rows → (u : T) × (row_of of a rows ≡ Some u)) → (b : Bool) → same_attempt (of y) a ≡ b → (x ≡ y) ⊎ Has x rows → (u : T) × ((if b then Some y else row_of of a rows) ≡ Some u)
      by rest true own j = (y, refl)
      by rest false off (inl same) = let own : same_attempt (of y) a ≡ true = ap (λ z. same_attempt (of z) a) (sym same) ∙ is in (let no : ⊥ = cc (own, off) in absurd no)
      by rest false off (inr j) = rest j

-- ---- what is asked

pub reopened-entries : (d : Durable) → (reopened d).entries ≡ d.entries
unfolding reopened
reopened-entries d = refl

pub reopened-incarnation : (d : Durable) → (reopened d).incarnation ≡ d.incarnation + 1
unfolding reopened
reopened-incarnation d = refl

pub reopened-entry : (d : Durable) (x : AttemptId) → entry_of (reopened d) x ≡ entry_of d x
unfolding entry_of reopened
reopened-entry d x = refl

-- the attempts that are undecided where a target has opened
abbrev pub reopened_rows : ℕ → Durable → List Entry
reopened_rows t d = filter is_open (filter (is_led t) d.entries)

pub opening-undecided : (r : Rules) (t : ℕ) (d : Durable) → (opening_memory (target_plan r t) (reopened d)).leader.undecided ≡ map reopened_undecided (reopened_rows t d)
unfolding first_leader reopened
opening-undecided r t d = refl

pub opening-decided : (r : Rules) (t : ℕ) (d : Durable) → (opening_memory (target_plan r t) (reopened d)).leader.decided ≡ map entry_attempt (filter is_open_alone (filter (is_led t) d.entries))
unfolding first_leader reopened
opening-decided r t d = refl

pub opening-down : (r : Rules) (t : ℕ) (d : Durable) → (opening_memory (target_plan r t) (reopened d)).leader.down ≡ 0
unfolding first_leader reopened
opening-down r t d = refl

pub opening-asks : (r : Rules) (t : ℕ) (d : Durable) → opening_posts (target_plan r t) (reopened d) ≡ statuses_for (d.incarnation + 1) (reopened_rows t d)
unfolding opening_posts reopened
opening-asks r t d = refl

-- a post is a Status of one of these entries to another member of it
pub record IsQuestion (inc : ℕ) (es : List Entry) (q : Post) : Type 0 where
  pub e : Entry
  pub among : Has e es
  pub member : ℕ
  pub other : Has member (other_members e)
  pub is : q ≡ status_to inc e.attempt member

pub question-is : (inc : ℕ) (es : List Entry) (q : Post) → Has q (statuses_for inc es) → IsQuestion inc es q
question-is inc [] q i = absurd i
question-is inc (e ∷ es) q i = elim (has-cases (statuses_of inc e) (statuses_for inc es) q i) [
  | inl here ↦ let m = has-from_map (status_to inc e.attempt) (other_members e) q here in record { e = e; among = inl refl; member = m.0; other = m.1; is = sym m.2 }
  | inr there ↦ let s = question-is inc es q there in record { e = s.e; among = inr s.among; member = s.member; other = s.other; is = s.is }
]

pub all-unanswered : (asked ls : List Letter) → ((l : Letter) → Has l ls → is_answerable l.message ≡ true) → asked_after asked ls ≡ asked ++ ls
unfolding asked_with
all-unanswered asked [] all = sym (append-nil asked)
all-unanswered asked (l ∷ ls) all =
    ap (λ b. asked_after (if b then asked ++ l ∷ [] else without_first (is_answer_to l) asked) ls) (all l (inl refl)) ∙ all-unanswered (asked ++ l ∷ []) ls (λ n i. all n (inr i)) ∙ append_assoc asked (l ∷ []) ls

-- ---- how many are asked

module _ (r : Rules) (t inc leader m : ℕ) (x : AttemptId) where
  unfoldable pub is_question_of : Post → Bool
  is_question_of q = is_between (asks_for inc x) (answers_for inc x) leader m (letter_of (target t) q)

  only-first : (b c d f : Bool) → (b && (c && true) || d && (f && false)) ≡ (c && b)
  only-first true true d f = refl
  only-first true false true true = refl
  only-first true false true false = refl
  only-first true false false f = refl
  only-first false true true true = refl
  only-first false true true false = refl
  only-first false true false f = refl
  only-first false false true true = refl
  only-first false false true false = refl
  only-first false false false f = refl

  same-number : (n : ℕ) → (n == n) ≡ true
  same-number n = grind (arith, nat_tests)

  question-counted : (a : AttemptId) (n : ℕ) → is_question_of (status_to inc a n) ≡ (same_attempt a x && is_same m n)
  unfolding is_question_of is_between
  question-counted a n = ap (λ b. (n == m) && (same_attempt a x && b) || (n == leader) && ((t == m) && false)) (same-number inc) ∙ only-first (n == m) (same_attempt a x) (n == leader) (t == m)

  questions-of : (e : Entry) → count is_question_of (statuses_of inc e) ≡ count (λ n. same_attempt e.attempt x && is_same m n) (other_members e)
  questions-of e = count-map is_question_of (λ n. same_attempt e.attempt x && is_same m n) (status_to inc e.attempt) (other_members e) (λ n. question-counted e.attempt n)

  none-of : (b : Bool) (ns : List ℕ) → b ≡ false → count (λ n. b && is_same m n) ns ≡ 0
  none-of b ns off = count-none (λ n. b && is_same m n) ns (λ n i. ap (λ c. c && is_same m n) off)

  all-of : (b : Bool) (ns : List ℕ) → b ≡ true → count (λ n. b && is_same m n) ns ≡ count (is_same m) ns
  all-of b ns on = count-same (λ n. b && is_same m n) (is_same m) ns (λ n i. ap (λ c. c && is_same m n) on)

  pub no-question : (es : List Entry) → ((e : Entry) → Has e es → same_attempt e.attempt x ≡ false) → count is_question_of (statuses_for inc es) ≡ 0
  no-question [] off = refl
  no-question (e ∷ es) off =
      let both' = count-append is_question_of (statuses_of inc e) (statuses_for inc es) in
      let first = questions-of e ∙ none-of (same_attempt e.attempt x) (other_members e) (off e (inl refl)) in
      let rest = no-question es (λ k i. off k (inr i)) in
      omega (arith, both', first, rest)

  later-apart : (y e : Entry) → is_before (entry_key y) (entry_key e) ≡ true → same_attempt y.attempt e.attempt ≡ false
  later-apart y e later = false_of (same_attempt y.attempt e.attempt) (λ own. clash (is_before (entry_key y) (entry_key e)) later (ap (λ z. is_before (entry_key y) (attempt_key z)) (sym (same-is y.attempt e.attempt own)) ∙ before-itself (entry_key y)))

  pub one-question : (es : List Entry) (e : Entry) → is_rising entry_key es ≡ true → Has e es → e.attempt ≡ x → count (is_same m) (other_members e) ≡ 1 → count is_question_of (statuses_for inc es) ≡ 1
  one-question [] e rises i its one = absurd i
  one-question (y ∷ es) e rises (inl same) its one =
      let both' = count-append is_question_of (statuses_of inc y) (statuses_for inc es) in
      let own : same_attempt y.attempt x ≡ true = ap (λ z. same_attempt z.attempt x) (sym same) ∙ ap (λ a. same_attempt a x) its ∙ same_attempt-itself x in
      let first = questions-of y ∙ all-of (same_attempt y.attempt x) (other_members y) own ∙ ap (λ z. count (is_same m) (other_members z)) (sym same) ∙ one in
      let rest = no-question es (λ k i. other k i) in
      omega (arith, both', first, rest)
    where
      other : (k : Entry) → Has k es → same_attempt k.attempt x ≡ false
      other k i =
          let later = after-has entry_key (entry_key y) es k (and_left (all_after entry_key (entry_key y) es) (is_rising entry_key es) rises) i in
          let off = later-apart y k later in
          false_of (same_attempt k.attempt x) (λ own.
          let here : y.attempt ≡ x = ap (λ z. z.attempt) (sym same) ∙ its in
          let both'' : same_attempt y.attempt k.attempt ≡ true = ap (λ a. same_attempt a k.attempt) here ∙ ap (same_attempt x) (same-is k.attempt x own) ∙ same_attempt-itself x in
          (let no : ⊥ = cc (both'', off) in no))
  one-question (y ∷ es) e rises (inr i) its one =
      let both' = count-append is_question_of (statuses_of inc y) (statuses_for inc es) in
      let later = after-has entry_key (entry_key y) es e (and_left (all_after entry_key (entry_key y) es) (is_rising entry_key es) rises) i in
      let off : same_attempt y.attempt x ≡ false = ap (same_attempt y.attempt) (sym its) ∙ later-apart y e later in
      let first = questions-of y ∙ none-of (same_attempt y.attempt x) (other_members y) off in
      let rest = one-question es e (and_right (all_after entry_key (entry_key y) es) (is_rising entry_key es) rises) i its one in
      omega (arith, both', first, rest)
