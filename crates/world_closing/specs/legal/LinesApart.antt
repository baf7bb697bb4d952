-- Attempts whose lines stand in turn have one line each, and those of a command begin with its attempt 0.
use Rattle.std.specs.Prelude.{ℕ, ◌≡◌, ◌≤◌, ◌+◌, ◌++◌, ◌==◌, Bool, true, false, List, [], ◌∷◌, filter, refl, if◌then◌else◌}
use Rattle.std.proofs.Common.{inl, inr, sym, ◌∙◌, ap, subst, arith}
use Rattle.base_types.specs.declared.report.Attempt.{Attempt}
use Rattle.base_types.specs.declared.report.Line.{Line}
use Rattle.base_types.specs.declared.script.Command.{Command}
use Rattle.base_types.specs.declared.script.Script.{Script}
use Rattle.model_laws.specs.Members.{Has, has-cases, has-filter, has-from_map, has-map}
use Rattle.model_laws.specs.TargetLaws.{same_number}
use Rattle.daos_model.specs.Attempts.{is_of_client, tries}
use Rattle.daos_model.specs.Order.{AllInTurn, AreAttempts, AreInTurn, client_commands}
use Rattle.world_answers.specs.world_causes.causes.LastCauses.{ids}
use Rattle.world_answers.specs.world_causes.causes.Storing.{AreApart}

-- ---- one command

-- the attempts of a command from a number on
record IsOf (client command n : ℕ) (a : Attempt) : Type 0 where
  of_client : a.id.client ≡ client
  of_command : a.id.command ≡ command
  up_from : n ≤ a.id.attempt

later-of : (client command n : ℕ) (a : Attempt) → IsOf client command (n + 1) a → IsOf client command n a
later-of client command n a k = record { of_client = k.of_client; of_command = k.of_command; up_from = let low : n + 1 ≤ a.id.attempt = k.up_from in omega (arith, low) }

numbered-of : (client command n : ℕ) (a : Attempt) → a.id ≡ record { client = client; command = command; attempt = n } → IsOf client command n a
numbered-of client command n a is = record {
  of_client = ap (λ x. x.client) is;
  of_command = ap (λ x. x.command) is;
  up_from = let e : a.id.attempt ≡ n = ap (λ x. x.attempt) is in omega (arith, e);
}

attempts-of : (limit client command n : ℕ) (xs : List Attempt) (a : Attempt) → AreAttempts limit client command n xs → Has a xs → IsOf client command n a
attempts-of limit client command n [] a k i = absurd i
attempts-of limit client command n (x ∷ []) a k (inl same) = subst (IsOf client command n) (sym same) (numbered-of client command n x k.0)
attempts-of limit client command n (x ∷ []) a k (inr i) = absurd i
attempts-of limit client command n (x ∷ y ∷ more) a k (inl same) = subst (IsOf client command n) (sym same) (numbered-of client command n x k.0)
attempts-of limit client command n (x ∷ y ∷ more) a k (inr i) = later-of client command n a (attempts-of limit client command (n + 1) (y ∷ more) a k.3 i)

-- an attempt with this number isn't among later ones
not-later : (client command n : ℕ) (x : Attempt) (xs : List Attempt) → x.id ≡ record { client = client; command = command; attempt = n } → ((a : Attempt) → Has a xs → IsOf client command (n + 1) a) → Has x.id (ids xs) → ⊥
not-later client command n x xs is later i =
    let z = has-from_map (λ (a : Attempt). a.id) xs x.id i in
    let low : n + 1 ≤ z.0.id.attempt = (later z.0 z.1).up_from in
    let e : z.0.id.attempt ≡ n = ap (λ y. y.attempt) (z.2 ∙ is) in
    omega (arith, low, e)

attempts-apart : (limit client command n : ℕ) (xs : List Attempt) → AreAttempts limit client command n xs → AreApart (ids xs)
attempts-apart limit client command n [] k = absurd k
attempts-apart limit client command n (x ∷ []) k = (λ i. i, tt)
attempts-apart limit client command n (x ∷ y ∷ more) k =
    (not-later client command n x (y ∷ more) k.0 (λ a i. attempts-of limit client command (n + 1) (y ∷ more) a k.3 i), attempts-apart limit client command (n + 1) (y ∷ more) k.3)

-- ---- the commands of a client

-- two lists of which no attempt is in both
apart-append : (xs ys : List Attempt) → AreApart (ids xs) → AreApart (ids ys) → ((a b : Attempt) → Has a xs → Has b ys → a.id ≡ b.id → ⊥) → AreApart (ids (xs ++ ys))
apart-append [] ys k l off = l
apart-append (x ∷ xs) ys k l off = (first, apart-append xs ys k.1 l (λ a b i j. off a b (inr i) j))
  where
    first : Has x.id (ids (xs ++ ys)) → ⊥
    first i =
        let z = has-from_map (λ (a : Attempt). a.id) (xs ++ ys) x.id i in
        elim (has-cases xs ys z.0 z.1) [
          | inl j ↦ k.0 (subst (λ y. Has y (ids xs)) z.2 (has-map (λ (a : Attempt). a.id) xs z.0 j))
          | inr j ↦ off x z.0 (inl refl) j (sym z.2)
        ]

in-turn-from : (limit client n : ℕ) (cs : List Command) (xs : List Attempt) (a : Attempt) → AreInTurn limit client n cs xs → Has a xs → n ≤ a.id.command
in-turn-from limit client n [] xs a k i = absurd (subst (Has a) k i)
in-turn-from limit client n (c ∷ cs) xs a k i = elim (has-cases k.0 k.1 a (subst (Has a) k.2 i)) [
  | inl j ↦ let e : a.id.command ≡ n = (attempts-of limit client n 0 k.0 a k.3 j).of_command in omega (arith, e)
  | inr j ↦ let low : n + 1 ≤ a.id.command = in-turn-from limit client (n + 1) cs k.1 a k.4 j in omega (arith, low)
]

in-turn-apart : (limit client n : ℕ) (cs : List Command) (xs : List Attempt) → AreInTurn limit client n cs xs → AreApart (ids xs)
in-turn-apart limit client n [] xs k = subst (λ ys. AreApart (ids ys)) (sym k) tt
in-turn-apart limit client n (c ∷ cs) xs k =
    subst (λ ys. AreApart (ids ys)) (sym k.2) (apart-append k.0 k.1 (attempts-apart limit client n 0 k.0 k.3) (in-turn-apart limit client (n + 1) cs k.1 k.4) off)
  where
    off : (a b : Attempt) → Has a k.0 → Has b k.1 → a.id ≡ b.id → ⊥
    off a b i j same =
        let e : a.id.command ≡ n = (attempts-of limit client n 0 k.0 a k.3 i).of_command in
        let low : n + 1 ≤ b.id.command = in-turn-from limit client (n + 1) cs k.1 b k.4 j in
        let one : a.id.command ≡ b.id.command = ap (λ x. x.command) same in
        omega (arith, e, low, one)

-- ---- all clients

clients-apart : (xs : List Attempt) → ((n : ℕ) → AreApart (ids (filter (is_of_client n) xs))) → AreApart (ids xs)
clients-apart [] each = tt
clients-apart (x ∷ xs) each = (first, clients-apart xs rest)
  where
    first : Has x.id (ids xs) → ⊥
    first i =
        let z = has-from_map (λ (a : Attempt). a.id) xs x.id i in
        let own : is_of_client x.id.client z.0 ≡ true = ap (λ y. y.client == x.id.client) z.2 ∙ same_number x.id.client in
        let all : AreApart (ids (x ∷ filter (is_of_client x.id.client) xs)) = with-first x.id.client (same_number x.id.client) in
        all.0 (subst (λ y. Has y (ids (filter (is_of_client x.id.client) xs))) z.2 (has-map (λ (a : Attempt). a.id) (filter (is_of_client x.id.client) xs) z.0 (has-filter (is_of_client x.id.client) xs z.0 z.1 own)))
      where
        with-first : (n : ℕ) → (x.id.client == n) ≡ true → AreApart (ids (x ∷ filter (is_of_client n) xs))
        with-first n is = subst (λ b. AreApart (ids (if b then x ∷ filter (is_of_client n) xs else filter (is_of_client n) xs))) is (each n)

    rest : (n : ℕ) → AreApart (ids (filter (is_of_client n) xs))
    rest n = by (x.id.client == n) (each n)
      where
        by : (b : Bool) → AreApart (ids (if b then x ∷ filter (is_of_client n) xs else filter (is_of_client n) xs)) → AreApart (ids (filter (is_of_client n) xs))
        by true k = k.1
        by false k = k

pub lines-apart : (limit : ℕ) (s : Script) (lines : List Line) → AllInTurn limit s lines → AreApart (ids (tries lines))
lines-apart limit s lines k = clients-apart (tries lines) (λ n. in-turn-apart limit n 0 (client_commands s n) (filter (is_of_client n) (tries lines)) (k n))
