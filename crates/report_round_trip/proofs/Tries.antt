-- What a legal report tells of an attempt: it is one of a command, and its answers and conditions are those of operations that have such.
use Rattle.std.proofs.Common.{◌≡◌, ◌⊎◌, inl, inr, ℕ, suc, ◌+◌, ◌<◌, Bool, true, List, [], ◌∷◌, length, slice_get, Option, Some, None, refl, ap, subst, ◌∙◌, arith}
use Rattle.base_types.specs.declared.answer.Answer.{Answer}
use Rattle.base_types.specs.declared.operation.Op.{Op}
use Rattle.base_types.specs.declared.operation.Read.{Read}
use Rattle.base_types.specs.declared.report.Attempt.{Attempt}
use Rattle.base_types.specs.declared.report.Line.{Line}
use Rattle.base_types.specs.declared.script.Command.{Command}
use Rattle.base_types.specs.declared.script.Script.{Script}
use Rattle.model_laws.specs.DecidedLaws.{has-all}
use Rattle.model_laws.specs.Lists.{at-within}
use Rattle.model_laws.specs.Members.{Has, has-cases, has-filter}
use Rattle.model_laws.specs.TargetLaws.{same_number}
use Rattle.daos_model.specs.declared.cell.CellValue.{CellValue}
use Rattle.daos_model.specs.Accesses.{is_condition}
use Rattle.daos_model.specs.Attempts.{is_of_client, tries, tries_of}
use Rattle.daos_model.specs.Order.{AllInTurn, AreAttempts, AreInTurn, client_commands, commands_or_none}
use Rattle.daos_model.specs.ReadsLegal.{IsRightAnswer, IsRightCondition, IsToldRight}
use Rattle.daos_model.specs.Transactions.{command_of, numbered, numbered_at, read_at}

-- ---- commands

-- the attempts of a command bear its number
of-command : (limit client command n : ℕ) (xs : List Attempt) (a : Attempt) → AreAttempts limit client command n xs → Has a xs → a.id.command ≡ command
of-command limit client command n [] a k i = absurd i
of-command limit client command n (x ∷ []) a k (inl same) = ap (λ b. b.id.command) same ∙ ap (λ id. id.command) k.0
of-command limit client command n (x ∷ []) a k (inr i) = absurd i
of-command limit client command n (x ∷ y ∷ more) a k (inl same) = ap (λ b. b.id.command) same ∙ ap (λ id. id.command) k.0
of-command limit client command n (x ∷ y ∷ more) a k (inr i) = of-command limit client command (n + 1) (y ∷ more) a k.3 i

-- and that is below the number of commands
in-turn : (limit client n : ℕ) (cs : List Command) (xs : List Attempt) (a : Attempt) → AreInTurn limit client n cs xs → Has a xs → a.id.command < n + length cs
in-turn limit client n [] xs a k i = absurd (subst (Has a) k i)
in-turn limit client n (c ∷ cs) xs a k i = by (has-cases k.0 k.1 a (subst (Has a) k.2 i)) (in-turn limit client (n + 1) cs k.1 a k.4)
  where
    by : Has a k.0 ⊎ Has a k.1 → (Has a k.1 → a.id.command < n + 1 + length cs) → a.id.command < n + suc (length cs)
    by (inl j) rest = let e : a.id.command ≡ n = of-command limit client n 0 k.0 a k.3 j in omega (arith, e)
    by (inr j) rest = let low : a.id.command < n + 1 + length cs = rest j in omega (arith, low)

-- an attempt that a line tells of is one of a command
pub is-of-command : (limit : ℕ) (s : Script) (lines : List Line) (a : Attempt) → AllInTurn limit s lines → Has a (tries lines) → (c : Command) × (command_of s a.id ≡ Some c)
unfolding command_of
is-of-command limit s lines a turn i = by (slice_get s.clients a.id.client) refl
  where
    within : a.id.command < 0 + length (client_commands s a.id.client)
    within = in-turn limit a.id.client 0 (client_commands s a.id.client) (tries_of a.id.client lines) a (turn a.id.client)
        (has-filter (is_of_client a.id.client) (tries lines) a i (same_number a.id.client))

    by : (o : Option (List Command)) → slice_get s.clients a.id.client ≡ o → (c : Command) × (numbered_at a.id.command (slice_get s.clients a.id.client) ≡ Some c)
    by None e =
        let none : length (client_commands s a.id.client) ≡ 0 = ap (λ o. length (commands_or_none o)) e in
        absurd (omega (arith, within, none))
    by (Some list) e =
        let count : length (client_commands s a.id.client) ≡ length (numbered list) = ap (λ o. length (commands_or_none o)) e in
        let here = at-within (numbered list) a.id.command (omega (arith, within, count)) in
        (here.0, ap (numbered_at a.id.command) e ∙ here.1)

-- ---- what it was told

pub got-reads : (ops : List Op) (o : Option (List CellValue)) (a : Attempt) → IsToldRight ops o a → (got : ℕ × Answer) → Has got a.gots → (r : Read) × (read_at ops got.0 ≡ Some r)
got-reads ops None a right got i = absurd (subst (Has got) right.0 i)
got-reads ops (Some m) a right got i = let k = has-all (IsRightAnswer ops m) a.gots got right.0 i in (k.0, k.1)

-- the operation of a condition that was told of
pub record IsAskedAt (ops : List Op) (n : ℕ) : Type 0 where
  pub op : Op
  pub at : slice_get ops n ≡ Some op
  pub asked : is_condition op.cond ≡ true

pub cond-asks : (ops : List Op) (o : Option (List CellValue)) (a : Attempt) → IsToldRight ops o a → (told : ℕ × Bool) → Has told a.conds → IsAskedAt ops told.0
cond-asks ops None a right told i = absurd (subst (Has told) right.1 i)
cond-asks ops (Some m) a right told i = let k = has-all (IsRightCondition ops m) a.conds told right.1 i in record { op = k.0; at = k.1; asked = k.2 }
