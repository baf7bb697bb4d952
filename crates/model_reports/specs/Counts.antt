-- What all attempts of a report measure together: each command is attempted at most as often as is allowed.
use Rattle.std.specs.Prelude.{ℕ, ◌+◌, ◌*◌, ◌-◌, ◌≡◌, ◌≤◌, ◌<◌, ◌==◌, Bool, true, false, not, List, [], ◌∷◌, ◌++◌, filter, slice_get, Some, refl, if◌then◌else◌}
use Rattle.std.proofs.Common.{suc, sym, ◌∙◌, ap, subst, arith, inl, inr}
use Rattle.std.proofs.Math.Nat.{mul-le-mul_right}
use Rattle.std.proofs.lemmas.Bool.{cases_lt}
use Rattle.base_types.specs.declared.report.Attempt.{Attempt}
use Rattle.base_types.specs.declared.report.Line.{Line}
use Rattle.base_types.specs.declared.script.Command.{Command}
use Rattle.base_types.specs.declared.script.Script.{Script}
use Rattle.base_types.specs.Scripts.{is_numbered}
use Rattle.model_laws.specs.Members.{Has, has-filter, has-from_filter}
use Rattle.model_laws.specs.TargetLaws.{same_number}
use Rattle.daos_model.specs.Attempts.{is_of_client, tries}
use Rattle.daos_model.specs.BoolLaws.{clash, not_true}
use Rattle.daos_model.specs.Order.{AllInTurn, AreAttempts, AreInTurn, client_commands, commands_or_none}
use Rattle.daos_model.specs.Transactions.{command_of, numbered}
use Rattle.model_reports.specs.Lines.{command-at}
use Rattle.model_reports.specs.Rooms.{sum_of, sum_over}

-- ---- sums

pub sum-append : {T : Type 0} (f : T → ℕ) (xs ys : List T) → sum_of f (xs ++ ys) ≡ sum_of f xs + sum_of f ys
sum-append f [] ys = omega arith
sum-append f (x ∷ xs) ys = let k : sum_of f (xs ++ ys) ≡ sum_of f xs + sum_of f ys = sum-append f xs ys in omega (arith, k)

-- one of them measures no more than all
sum-has : {T : Type 0} (f : T → ℕ) (xs : List T) (x : T) → Has x xs → f x ≤ sum_of f xs
sum-has f [] x i = absurd i
sum-has f (y ∷ ys) x (inl same) = let e : f x ≡ f y = ap f same in omega (arith, e)
sum-has f (y ∷ ys) x (inr i) = let k : f x ≤ sum_of f ys = sum-has f ys x i in omega (arith, k)

-- where each measures nothing, so do all
sum-none : {T : Type 0} (f : T → ℕ) (xs : List T) → ((x : T) → Has x xs → f x ≤ 0) → sum_of f xs ≤ 0
sum-none f [] each = omega arith
sum-none f (x ∷ xs) each =
    let a : f x ≤ 0 = each x (inl refl) in
    let b : sum_of f xs ≤ 0 = sum-none f xs (λ y i. each y (inr i)) in
    omega (arith, a, b)

-- those that pass a test measure no more than all
sum-filter : {T : Type 0} (f : T → ℕ) (t : T → Bool) (xs : List T) → sum_of f (filter t xs) ≤ sum_of f xs
sum-filter f t [] = omega arith
sum-filter f t (x ∷ xs) = by (t x) (sum-filter f t xs)
  where
    by : (b : Bool) → sum_of f (filter t xs) ≤ sum_of f xs → sum_of f (if b then x ∷ filter t xs else filter t xs) ≤ f x + sum_of f xs
    by true k = omega (arith, k)
    by false k = omega (arith, k)

abbrev fails : {T : Type 0} → (T → Bool) → T → Bool
fails t x = not (t x)

-- those that pass and those that fail measure as much as all
sum-split : {T : Type 0} (f : T → ℕ) (t : T → Bool) (xs : List T) → sum_of f xs ≡ sum_of f (filter t xs) + sum_of f (filter (fails t) xs)
sum-split f t [] = omega arith
sum-split f t (x ∷ xs) = by (t x) (sum-split f t xs)
  where
    by : (b : Bool) → sum_of f xs ≡ sum_of f (filter t xs) + sum_of f (filter (fails t) xs)
        → f x + sum_of f xs ≡ sum_of f (if b then x ∷ filter t xs else filter t xs) + sum_of f (if not b then x ∷ filter (fails t) xs else filter (fails t) xs)
    by true k = omega (arith, k)
    by false k = omega (arith, k)

-- a test of fewer passes no more
sum-both : {T : Type 0} (f : T → ℕ) (t u : T → Bool) (xs : List T) → sum_of f (filter t (filter u xs)) ≤ sum_of f (filter t xs)
sum-both f t u [] = omega arith
sum-both {T = T} f t u (x ∷ xs) = by (u x) (sum-both f t u xs)
  where
    with : (b : Bool) → sum_of f (filter t (filter u xs)) ≤ sum_of f (filter t xs) → sum_of f (if b then x ∷ filter t (filter u xs) else filter t (filter u xs)) ≤ sum_of f (if b then x ∷ filter t xs else filter t xs)
    with true k = omega (arith, k)
    with false k = k

    without : (b : Bool) → sum_of f (filter t (filter u xs)) ≤ sum_of f (filter t xs) → sum_of f (filter t (filter u xs)) ≤ sum_of f (if b then x ∷ filter t xs else filter t xs)
    without true k = omega (arith, k)
    without false k = k

    by : (b : Bool) → sum_of f (filter t (filter u xs)) ≤ sum_of f (filter t xs) → sum_of f (filter t (if b then x ∷ filter u xs else filter u xs)) ≤ sum_of f (if t x then x ∷ filter t xs else filter t xs)
    by true k = with (t x) k
    by false k = without (t x) k

-- ---- the attempts of a command

module _ (m : Attempt → ℕ) (limit client : ℕ) where
  of-command : (command n v : ℕ) (xs : List Attempt) → n < limit → ((a : Attempt) → a.id.client ≡ client → a.id.command ≡ command → m a ≤ v) → AreAttempts limit client command n xs → sum_of m xs + n * v ≤ limit * v
  of-command command n v [] within each k = absurd k
  of-command command n v (a ∷ []) within each k =
      let one : m a ≤ v = each a (ap (λ x. x.client) k.0) (ap (λ x. x.command) k.0) in
      let most : (n + 1) * v ≤ limit * v = mul-le-mul_right v (omega (arith, within)) in
      omega (arith, one, most)
  of-command command n v (a ∷ b ∷ more) within each k =
      let one : m a ≤ v = each a (ap (λ x. x.client) k.0) (ap (λ x. x.command) k.0) in
      let rest : sum_of m (b ∷ more) + (n + 1) * v ≤ limit * v = of-command command (n + 1) v (b ∷ more) k.2 each k.3 in
      omega (arith, one, rest)

  -- of the commands of a client
  of-client : (f : Command → ℕ) (n : ℕ) (cs : List Command) (xs : List Attempt) → 0 < limit
      → ((k : ℕ) (c : Command) (a : Attempt) → slice_get cs k ≡ Some c → a.id.client ≡ client → a.id.command ≡ n + k → m a ≤ f c) → AreInTurn limit client n cs xs → sum_of m xs ≤ sum_of f cs * limit
  of-client f n [] xs some each k = let none : sum_of m xs ≡ 0 = ap (sum_of m) k in omega (arith, none)
  of-client f n (c ∷ cs) xs some each k =
      let all : sum_of m xs ≡ sum_of m k.0 + sum_of m k.1 = ap (sum_of m) k.2 ∙ sum-append m k.0 k.1 in
      let own : sum_of m k.0 + 0 * f c ≤ limit * f c = of-command n 0 (f c) k.0 some (λ a at number. each 0 c a refl at (let e : a.id.command ≡ n = number in omega (arith, e))) k.3 in
      let later : sum_of m k.1 ≤ sum_of f cs * limit = of-client f (n + 1) cs k.1 some (λ j d a at own number. each (suc j) d a at own (let e : a.id.command ≡ n + 1 + j = number in omega (arith, e))) k.4 in
      omega (arith, all, own, later)

-- ---- all clients

module _ (m : Attempt → ℕ) (limit : ℕ) (f : Command → ℕ) where
  of-clients : (lists : List (List Command)) (n : ℕ) (xs : List Attempt) → ((a : Attempt) → Has a xs → n ≤ a.id.client)
      → ((k : ℕ) → sum_of m (filter (is_of_client (n + k)) xs) ≤ sum_of f (commands_or_none (slice_get lists k)) * limit) → sum_of m xs ≤ sum_of (sum_of f) lists * limit
  of-clients [] n xs low each = let none : sum_of m xs ≤ 0 = sum-none m xs one in omega (arith, none)
    where
      one : (a : Attempt) → Has a xs → m a ≤ 0
      one a i =
          let from : n ≤ a.id.client = low a i in
          let its : a.id.client ≡ n + (a.id.client - n) = omega (arith, from) in
          let here : Has a (filter (is_of_client (n + (a.id.client - n))) xs) = has-filter (is_of_client (n + (a.id.client - n))) xs a i (subst (λ c. (a.id.client == c) ≡ true) its (same_number a.id.client)) in
          let part : m a ≤ sum_of m (filter (is_of_client (n + (a.id.client - n))) xs) = sum-has m (filter (is_of_client (n + (a.id.client - n))) xs) a here in
          let none : sum_of m (filter (is_of_client (n + (a.id.client - n))) xs) ≤ 0 * limit = each (a.id.client - n) in
          omega (arith, part, none)
  of-clients (list ∷ lists) n xs low each =
      let all : sum_of m xs ≡ sum_of m (filter (is_of_client n) xs) + sum_of m others = sum-split m (is_of_client n) xs in
      let own : sum_of m (filter (is_of_client n) xs) ≤ sum_of f list * limit = first in
      let rest : sum_of m others ≤ sum_of (sum_of f) lists * limit = of-clients lists (n + 1) others above later in
      omega (arith, all, own, rest)
    where
      others : List Attempt
      others = filter (fails (is_of_client n)) xs

      first : sum_of m (filter (is_of_client n) xs) ≤ sum_of f list * limit
      first =
          let same : n + 0 ≡ n = omega arith in
          let some : sum_of m (filter (is_of_client n) xs) ≤ sum_of f (numbered list) * limit = subst (λ c. sum_of m (filter (is_of_client c) xs) ≤ sum_of f (numbered list) * limit) same (each 0) in
          let fewer : sum_of f (numbered list) * limit ≤ sum_of f list * limit = mul-le-mul_right limit (sum-filter f is_numbered list) in
          omega (arith, some, fewer)

      above : (a : Attempt) → Has a others → n + 1 ≤ a.id.client
      above a i =
          let j = has-from_filter (fails (is_of_client n)) xs a i in
          let from : n ≤ a.id.client = low a j.0 in
          by from (λ same. clash (a.id.client == n) (subst (λ c. (c == n) ≡ true) (sym same) (same_number n)) (not_true (a.id.client == n) j.1))
        where
          by : n ≤ a.id.client → (a.id.client ≡ n → ⊥) → n + 1 ≤ a.id.client
          by from apart = elim (cases_lt n a.id.client) [
            | inl less ↦ omega (arith, less)
            | inr least ↦ absurd (apart (omega (arith, from, least)))
          ]

      later : (k : ℕ) → sum_of m (filter (is_of_client (n + 1 + k)) others) ≤ sum_of f (commands_or_none (slice_get lists k)) * limit
      later k =
          let same : n + suc k ≡ n + 1 + k = omega arith in
          let fewer : sum_of m (filter (is_of_client (n + 1 + k)) others) ≤ sum_of m (filter (is_of_client (n + 1 + k)) xs) = sum-both m (is_of_client (n + 1 + k)) (fails (is_of_client n)) xs in
          let some : sum_of m (filter (is_of_client (n + 1 + k)) xs) ≤ sum_of f (commands_or_none (slice_get lists k)) * limit = subst (λ c. sum_of m (filter (is_of_client c) xs) ≤ sum_of f (commands_or_none (slice_get lists k)) * limit) same (each (suc k)) in
          omega (arith, fewer, some)

-- Where an attempt measures no more than its command, all attempts measure no more than all commands, as often as is allowed.
pub all-within : (m : Attempt → ℕ) (f : Command → ℕ) (limit : ℕ) (s : Script) (lines : List Line) → 0 < limit → ((a : Attempt) (c : Command) → command_of s a.id ≡ Some c → m a ≤ f c) → AllInTurn limit s lines
    → sum_of m (tries lines) ≤ sum_over f s * limit
all-within m f limit s lines some each k = of-clients m limit f s.clients 0 (tries lines) (λ a i. omega arith) (λ n. let same : n ≡ 0 + n = omega arith in subst (λ c. sum_of m (filter (is_of_client c) (tries lines)) ≤ sum_of f (client_commands s n) * limit) same (of n))
  where
    of : (n : ℕ) → sum_of m (filter (is_of_client n) (tries lines)) ≤ sum_of f (client_commands s n) * limit
    of n =
        of-client m limit n f 0 (client_commands s n) (filter (is_of_client n) (tries lines)) some
        (λ j c a at own number. each a c (command-at s a.id n j c own (let e : a.id.command ≡ 0 + j = number in omega (arith, e)) at)) (k n)
