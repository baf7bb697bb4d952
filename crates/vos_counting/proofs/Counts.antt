-- Unsettled versions are counted by attempts.
use Rattle.std.proofs.Common.{◌≡◌, ℕ, ◌+◌, ◌≤◌, ◌==◌, ◌&&◌, Bool, true, false, not, cond, List, [], ◌∷◌, Option, Some, length, refl, ap, ◌∙◌, subst, arith}
use Rattle.std.specs.Prelude.{filter, if◌then◌else◌}
use Rattle.std.proofs.lemmas.Bool.Decides.{nat_tests}
use Rattle.base_types.specs.declared.id.AttemptId.{AttemptId}
use Rattle.daos_model.specs.BoolLaws.{and_left, and_right}
use Rattle.daos_model.specs.declared.durable.Version.{Version}
use Rattle.daos_model.specs.Durables.{same_attempt}
use Rattle.daos_model.specs.Versions.{is_pending}
use Rattle.vos_counting.specs.Counting.{AttemptName, FewWait, attempt_name, most_waiting, or_none, same_attempt_name}

-- ---- attempts

abbrev named : ℕ → ℕ → ℕ → AttemptId
named client command attempt = record { client = client; command = command; attempt = attempt }

pub same_is : (a b : AttemptId) → same_attempt a b ≡ true → a ≡ b
unfolding same_attempt
same_is a b same =
    let both = and_left ((a.client == b.client) && (a.command == b.command)) (a.attempt == b.attempt) same in
    let first = and_left (a.client == b.client) (a.command == b.command) both in
    let second = and_right (a.client == b.client) (a.command == b.command) both in
    let third = and_right ((a.client == b.client) && (a.command == b.command)) (a.attempt == b.attempt) same in
    let client : a.client ≡ b.client = grind (arith, nat_tests) in
    let command : a.command ≡ b.command = grind (arith, nat_tests) in
    let attempt : a.attempt ≡ b.attempt = grind (arith, nat_tests) in
    ap (λ (n : ℕ). named n a.command a.attempt) client ∙ (ap (λ (n : ℕ). named b.client n a.attempt) command ∙ ap (λ (n : ℕ). named b.client b.command n) attempt)

-- ---- one more

-- a map in which the count of an attempt is one more than it was
pub one_more : (a : AttemptId) (n : ℕ) (old new : AttemptName → Option ℕ) → n ≡ or_none (old (attempt_name a)) → ((q : AttemptName) → new q ≡ cond (same_attempt_name (attempt_name a) q) (Some (n + 1)) (old q))
    → (b : AttemptId) → or_none (new (attempt_name b)) ≡ (if same_attempt a b then or_none (old (attempt_name b)) + 1 else or_none (old (attempt_name b)))
unfolding same_attempt
one_more a n old new was updates b = ap or_none (updates (attempt_name b)) ∙ by (same_attempt a b) refl
  where
    by : (t : Bool) → same_attempt a b ≡ t → or_none (cond t (Some (n + 1)) (old (attempt_name b))) ≡ (if t then or_none (old (attempt_name b)) + 1 else or_none (old (attempt_name b)))
    by true same = ap (λ m. m + 1) (was ∙ ap (λ x. or_none (old (attempt_name x))) (same_is a b same))
    by false same = refl

-- ---- versions

abbrev pub waits : AttemptId → List Version → ℕ
waits a vs = length (filter (is_pending a) vs)

-- so many are counted, and those that are left make all
abbrev pub CountsSoFar : (Version → Bool) → (AttemptId → ℕ) → List Version → List Version → Type 0
CountsSoFar test has rest all = (a : AttemptId) → has a + waits a (filter test rest) ≡ waits a (filter test all)

abbrev pub AreFewSoFar : (AttemptId → ℕ) → Type 0
AreFewSoFar has = (a : AttemptId) → has a ≤ most_waiting

-- of how many a version is one
abbrev one_of : Bool → ℕ
one_of b = if b then 1 else 0

with_one : (test : Version → Bool) (a : AttemptId) (v : Version) (rest : List Version) → waits a (filter test (v ∷ rest)) ≡ one_of (test v && is_pending a v) + waits a (filter test rest)
with_one test a v rest = elim (test v) as (λ b. length (filter (is_pending a) (cond b (v ∷ filter test rest) (filter test rest))) ≡ one_of (b && is_pending a v) + waits a (filter test rest)) [
  | true ↦ elim (is_pending a v) as (λ b. length (cond b (v ∷ filter (is_pending a) (filter test rest)) (filter (is_pending a) (filter test rest))) ≡ one_of b + waits a (filter test rest)) [ true ↦ omega arith | false ↦ omega arith ]
  | false ↦ omega arith
]

adds_none : (s d t : Bool) → (not d && t) ≡ false → (t && (s && not d)) ≡ false
adds_none true true true out = refl
adds_none false true true out = refl
adds_none s d false out = refl
adds_none s false true out = absurd (let no : true ≡ false = out in cc)

-- a version that is done or doesn't count adds nothing
pub counts_same : (test : Version → Bool) (has : AttemptId → ℕ) (v : Version) (rest all : List Version) → (not v.done && test v) ≡ false → CountsSoFar test has (v ∷ rest) all → CountsSoFar test has rest all
unfolding is_pending
counts_same test has v rest all out so_far a =
    let here = so_far a in
    let one = with_one test a v rest in
    let none = ap one_of (adds_none (same_attempt v.by a) v.done (test v) out) in
    omega (arith, here, one, none)

adds_one : (s d t : Bool) → (not d && t) ≡ true → (t && (s && not d)) ≡ s
adds_one true false true in_it = refl
adds_one false false true in_it = refl
adds_one s true t in_it = absurd (let no : false ≡ true = in_it in cc)
adds_one s false false in_it = absurd (let no : false ≡ true = in_it in cc)

-- another is one of its attempt's
pub counts_more : (test : Version → Bool) (has more : AttemptId → ℕ) (v : Version) (rest all : List Version) → (not v.done && test v) ≡ true → ((a : AttemptId) → more a ≡ (if same_attempt v.by a then has a + 1 else has a))
    → CountsSoFar test has (v ∷ rest) all → CountsSoFar test more rest all
unfolding is_pending
counts_more test has more v rest all in_it added so_far a =
    let here = so_far a in
    let one = with_one test a v rest in
    let adds = ap one_of (adds_one (same_attempt v.by a) v.done (test v) in_it) in
    let is : more a ≡ has a + one_of (same_attempt v.by a) = added a ∙ plus (same_attempt v.by a) in
    omega (arith, here, one, adds, is)
  where
    plus : (s : Bool) → (if s then has a + 1 else has a) ≡ has a + one_of s
    plus true = refl
    plus false = omega arith

-- so few are of each attempt where so few are of this one
pub still_few : (b : AttemptId) (has more : AttemptId → ℕ) → ((a : AttemptId) → more a ≡ (if same_attempt b a then has a + 1 else has a)) → more b ≤ most_waiting → AreFewSoFar has → AreFewSoFar more
still_few b has more added few so_far a = by (same_attempt b a) refl
  where
    by : (s : Bool) → same_attempt b a ≡ s → more a ≤ most_waiting
    by true same = subst (λ (x : AttemptId). more x ≤ most_waiting) (same_is b a same) few
    by false other =
        let was = so_far a in
        let is : more a ≡ has a = added a ∙ ap (λ s. if s then has a + 1 else has a) other in
        omega (arith, was, is)

-- at last all are counted
pub all_few : (test : Version → Bool) (has : AttemptId → ℕ) (all : List Version) → CountsSoFar test has [] all → AreFewSoFar has → FewWait (filter test all)
all_few test has all so_far few a = let here = so_far a in let low = few a in omega (arith, here, low)
