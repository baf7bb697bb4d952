-- Attempts whose lines stand in turn have numbers as small as a report's text asks for.
use Rattle.std.specs.Prelude.{ℕ, zero, suc, ◌≡◌, ◌≤◌, ◌<◌, ◌+◌, ◌⊎◌, List, [], ◌∷◌, length, slice_get, Option, Some, None, refl}
use Rattle.std.proofs.Common.{inl, inr, ◌∙◌, ap, subst, arith}
use Rattle.std.proofs.lemmas.List.Sums.{length-filter}
use Rattle.std.proofs.lemmas.Option.{slice_get_within}
use Rattle.base_types.specs.declared.id.AttemptId.{AttemptId}
use Rattle.base_types.specs.declared.report.Attempt.{Attempt}
use Rattle.base_types.specs.declared.script.Command.{Command}
use Rattle.base_types.specs.declared.script.Script.{Script}
use Rattle.base_types.specs.Scripts.{IsInForm, count_numbered, is_numbered}
use Rattle.model_laws.specs.Members.{Has, has-cases}
use Rattle.daos_model.specs.Order.{AreAttempts, AreInTurn, client_commands, commands_or_none}
use Rattle.daos_model.specs.Transactions.{numbered}
use Rattle.report_writer.specs.Forms.{IsAttemptId}

numbered-within : (limit client command n : ℕ) (a : Attempt) → n < limit → a.id ≡ record { client = client; command = command; attempt = n } → (a.id.command ≡ command) × (a.id.attempt < limit)
numbered-within limit client command n a lt is = (ap (λ x. x.command) is, let e : a.id.attempt ≡ n = ap (λ x. x.attempt) is in omega (arith, e, lt))

-- the attempts of a command are numbered below the limit
attempts-within : (limit client command n : ℕ) (xs : List Attempt) (a : Attempt) → n < limit → AreAttempts limit client command n xs → Has a xs → (a.id.command ≡ command) × (a.id.attempt < limit)
attempts-within limit client command n [] a lt k i = absurd i
attempts-within limit client command n (x ∷ []) a lt k (inl same) = numbered-within limit client command n a lt (ap (λ b. b.id) same ∙ k.0)
attempts-within limit client command n (x ∷ []) a lt k (inr i) = absurd i
attempts-within limit client command n (x ∷ y ∷ more) a lt k (inl same) = numbered-within limit client command n a lt (ap (λ b. b.id) same ∙ k.0)
attempts-within limit client command n (x ∷ y ∷ more) a lt k (inr i) = attempts-within limit client command (n + 1) (y ∷ more) a k.2 k.3 i

-- the commands of a client are numbered below their count
pub in_turn-within : (limit client n : ℕ) (cs : List Command) (xs : List Attempt) (a : Attempt) → 0 < limit → AreInTurn limit client n cs xs → Has a xs → (a.id.command < n + length cs) × (a.id.attempt < limit)
in_turn-within limit client n [] xs a some k i = absurd (subst (Has a) k i)
in_turn-within limit client n (c ∷ cs) xs a some k i = by (has-cases k.0 k.1 a (subst (Has a) k.2 i)) (in_turn-within limit client (n + 1) cs k.1 a some k.4)
  where
    by : Has a k.0 ⊎ Has a k.1 → (Has a k.1 → (a.id.command < n + 1 + length cs) × (a.id.attempt < limit)) → (a.id.command < n + suc (length cs)) × (a.id.attempt < limit)
    by (inl j) rest =
        let here = attempts-within limit client n 0 k.0 a some k.3 j in
        let e : a.id.command ≡ n = here.0 in
        (omega (arith, e), here.1)
    by (inr j) rest =
        let later = rest j in
        let low : a.id.command < n + 1 + length cs = later.0 in
        (omega (arith, low), later.1)

-- a client has no more commands with attempts than all clients have
list-few : (lists : List (List Command)) (k : ℕ) (list : List Command) → slice_get lists k ≡ Some list → length (numbered list) ≤ count_numbered lists
list-few [] k list at = let no : ⊥ = cc in absurd no
list-few (own ∷ lists) zero list at = let same : own ≡ list = cc in let count = length-filter is_numbered own in subst (λ l. length (numbered l) ≤ count_numbered (own ∷ lists)) same (omega (arith, count))
list-few (own ∷ lists) (suc k) list at = let rest = list-few lists k list at in omega (arith, rest)

-- an attempt of a client that is there, of one of its commands with attempts, has small numbers, where a command is allowed at most 256
-- attempts
pub number-form : (limit : ℕ) (s : Script) (x : AttemptId) → IsInForm s.targets s → limit ≤ 256 → x.command < length (client_commands s x.client) → x.attempt < limit → IsAttemptId x
number-form limit s x form few low its = by (slice_get s.clients x.client) refl
  where
    by : (o : Option (List Command)) → slice_get s.clients x.client ≡ o → IsAttemptId x
    by None e = let none : length (client_commands s x.client) ≡ 0 = ap (λ o. length (commands_or_none o)) e in absurd (omega (arith, low, none))
    by (Some list) e =
        let count : length (client_commands s x.client) ≡ length (numbered list) = ap (λ o. length (commands_or_none o)) e in
        let less = list-few s.clients x.client list e in
        let all = form.few in
        let here : x.client < length s.clients = slice_get_within s.clients x.client list e in
        let clients = form.clients in
        record { client = omega (arith, here, clients); command = omega (arith, low, count, less, all); attempt = omega (arith, its, few) }
