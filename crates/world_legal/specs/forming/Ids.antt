-- Attempts that clients are at, or that lines tell of, have small numbers; so have all to which an epoch was issued.
use Rattle.std.specs.Prelude.{ℕ, zero, suc, ◌≡◌, ◌≤◌, ◌<◌, ◌+◌, Bool, true, false, List, [], ◌∷◌, length, filter, take, slice_get, Option, Some, None, refl, if◌then◌else◌}
use Rattle.std.proofs.Common.{inl, inr, sym, ◌∙◌, ap, subst, arith}
use Rattle.std.proofs.lemmas.Option.{slice_get_within}
use Rattle.base_types.specs.declared.epoch.Epoch.{Epoch}
use Rattle.base_types.specs.declared.id.AttemptId.{AttemptId}
use Rattle.base_types.specs.declared.report.Attempt.{Attempt}
use Rattle.base_types.specs.declared.script.Command.{Command}
use Rattle.base_types.specs.Scripts.{IsInForm, is_numbered}
use Rattle.model_laws.specs.Members.{Has, has-cases, has-filter, has-from_contains}
use Rattle.model_laws.specs.TargetLaws.{same_number}
use Rattle.daos_model.specs.Attempts.{is_of_client, tries, tries_of}
use Rattle.daos_model.specs.Order as order
use Rattle.daos_model.specs.Transactions.{numbered}
use Rattle.report_writer.specs.Forms.{IsAttemptId}
use Rattle.world_base.specs.declared.client.ClientPlan.{ClientPlan}
use Rattle.world_base.specs.declared.client.ClientState.{ClientState}
use Rattle.world_base.specs.declared.client.Present.{Present}
use Rattle.world_base.specs.declared.world.World.{World}
use Rattle.world_base.specs.Events.{Rules, client_plan, commands_or_none}
use Rattle.world_base.specs.ClientTurns.{attempt_id}
use Rattle.world_standing.specs.world_letters.clients.AnswerLaws.{numbered-here}
use Rattle.world_standing.specs.world_letters.clients.Standing.{AreOfPresent, AreTriedAgain, HasTold, has_number, number_of}
use Rattle.world_standing.specs.world_letters.epochs.Epochs.{Epochs, IsIssued, IsPresent}
use Rattle.world_legal.specs.forming.NumberForms.{in_turn-within, number-form}
use Rattle.world_standing.specs.world_letters.lines.Lines.{AreTheSame, IsTheSame, Lines}

-- ---- commands

-- the first of some commands that pass are no more than all that do
fewer : (p : Command → Bool) (n : ℕ) (cs : List Command) → length (filter p (take n cs)) ≤ length (filter p cs)
fewer p zero cs = omega arith
fewer p (suc n) [] = omega arith
fewer p (suc n) (c ∷ cs) = by (p c) (fewer p n cs)
  where
    by : (b : Bool) → length (filter p (take n cs)) ≤ length (filter p cs) → length (if b then c ∷ filter p (take n cs) else filter p (take n cs)) ≤ length (if b then c ∷ filter p cs else filter p cs)
    by true rest = omega (arith, rest)
    by false rest = rest

-- the command that a client is at, where that has attempts, is one of those of its plan that have
present-within : (p : ClientPlan) (place command n : ℕ) (begun : List Attempt) → command ≡ length (numbered (take place p.commands)) → AreOfPresent p place command begun (Some n) → command < length (numbered p.commands)
present-within p place command n begun is k = by (slice_get p.commands place) refl k.2
  where
    by : (o : Option Command) → slice_get p.commands place ≡ o → has_number o ≡ true → command < length (numbered p.commands)
    by None e h = let no : ⊥ = cc in absurd no
    by (Some d) e h = slice_get_within (numbered p.commands) command d (ap (slice_get (numbered p.commands)) is ∙ numbered-here p place d e h)

-- ---- attempts of one client

-- a number of an attempt that is allowed, of one of its client's commands that have attempts
record IsOfPlan (p : ClientPlan) (x : AttemptId) : Type 0 where
  command : x.command < length (numbered p.commands)
  attempt : x.attempt < p.attempts

tried-up : (client command n m : ℕ) (xs : List Attempt) → AreTriedAgain client command n m xs → n ≤ m
tried-up client command n m [] k = omega (arith, k)
tried-up client command n m (x ∷ xs) k = let rest = tried-up client command (n + 1) m xs k.2 in omega (arith, rest)

tried-within : (client command n m : ℕ) (xs : List Attempt) (a : Attempt) → AreTriedAgain client command n m xs → Has a xs → (a.id.command ≡ command) × (a.id.attempt < m)
tried-within client command n m [] a k i = absurd i
tried-within client command n m (x ∷ xs) a k (inl same) =
    let e : a.id.attempt ≡ n = ap (λ b. b.id.attempt) same ∙ ap (λ y. y.attempt) k.0 in
    let up = tried-up client command (n + 1) m xs k.2 in
    (ap (λ b. b.id.command) same ∙ ap (λ y. y.command) k.0, omega (arith, e, up))
tried-within client command n m (x ∷ xs) a k (inr i) = tried-within client command (n + 1) m xs a k.2 i

begun-within : (p : ClientPlan) (place command : ℕ) (begun : List Attempt) (a : Attempt) (o : Option ℕ) → command ≡ length (numbered (take place p.commands)) → AreOfPresent p place command begun o → Has a begun → IsOfPlan p a.id
begun-within p place command begun a None is k i = absurd (subst (Has a) k i)
begun-within p place command begun a (Some n) is k i =
    let low = present-within p place command n begun is k in
    let its = tried-within p.number command 0 n begun a k.0 i in
    let e : a.id.command ≡ command = its.0 in
    let less : a.id.attempt < n = its.1 in
    let allowed : n < p.attempts = k.1 in
    record { command = omega (arith, low, e); attempt = omega (arith, less, allowed) }

told-within : (p : ClientPlan) (c : ClientState) (attempts : List Attempt) (a : Attempt) → 0 < p.attempts → HasTold p c attempts → Has a attempts → IsOfPlan p a.id
told-within p c attempts a some k i = elim (has-cases k.over k.begun a (subst (Has a) k.all i)) [
  | inl j ↦
      (let its = in_turn-within p.attempts p.number 0 (numbered (take c.place p.commands)) k.over a some k.in_turn j in
      let low : a.id.command < 0 + length (numbered (take c.place p.commands)) = its.0 in
      let few = fewer is_numbered c.place p.commands in
      record { command = omega (arith, low, few); attempt = its.1 })
  | inr j ↦ begun-within p c.place c.command k.begun a (number_of c.present) k.numbers k.at_present j
]

-- ---- attempts that are the same but for their epochs

same-among : (xs ys : List Attempt) (b : Attempt) → AreTheSame xs ys → Has b ys → (a : Attempt) × Has a xs × IsTheSame a b
same-among [] [] b k i = absurd i
same-among [] (y ∷ ys) b k i = absurd k
same-among (x ∷ xs) [] b k i = absurd k
same-among (x ∷ xs) (y ∷ ys) b k (inl same) = (x, inl refl, subst (IsTheSame x) (sym same) k.0)
same-among (x ∷ xs) (y ∷ ys) b k (inr i) = let rest = same-among xs ys b k.1 i in (rest.0, inr rest.1, rest.2)

-- ---- of a run

module _ (r : Rules) (form : IsInForm r.script.targets r.script) (some : 0 < r.attempts) (byte : r.attempts ≤ 256) where
  of-plan : (x : AttemptId) → IsOfPlan (client_plan r x.client) x → IsAttemptId x
  of-plan x k = number-form r.attempts r.script x form byte (subst (λ n. x.command < n) (sym (same (slice_get r.script.clients x.client))) k.command) k.attempt
    where
      same : (o : Option (List Command)) → length (order.commands_or_none o) ≡ length (numbered (commands_or_none o))
      same None = refl
      same (Some list) = refl

  module _ (w : World) (lines : Lines r w) where
    -- of a line
    pub told-id : (a : Attempt) → Has a (tries w.lines) → IsAttemptId a.id
    told-id a i = by (slice_get w.clients a.id.client) refl
      where
        among : Has a (tries_of a.id.client w.lines)
        among = has-filter (is_of_client a.id.client) (tries w.lines) a i (same_number a.id.client)

        by : (o : Option ClientState) → slice_get w.clients a.id.client ≡ o → IsAttemptId a.id
        by None e = absurd (subst (Has a) (lines.nobody a.id.client e) among)
        by (Some c) e =
            let k = lines.told a.id.client c e in
            let b = same-among k.attempts (tries_of a.id.client w.lines) a k.same among in
            of-plan a.id (subst (IsOfPlan (client_plan r a.id.client)) (sym b.2.id) (told-within (client_plan r a.id.client) c k.attempts b.0 some k.tells.told b.1))

    -- of one that a client is at
    present-id : (x : AttemptId) → IsPresent r w x → IsAttemptId x
    present-id x k = of-plan x (subst (IsOfPlan (client_plan r x.client)) k.own (by k.c.present k.at (lines.told x.client k.c k.here).tells.told.at_present))
      where
        t : HasTold (client_plan r x.client) k.c (lines.told x.client k.c k.here).attempts
        t = (lines.told x.client k.c k.here).tells.told

        by : (o : Option Present) → o ≡ Some k.a → AreOfPresent (client_plan r x.client) k.c.place k.c.command t.begun (number_of o) → IsOfPlan (client_plan r x.client) (attempt_id (client_plan r x.client) k.c k.a)
        by o e z = of (subst (λ p. AreOfPresent (client_plan r x.client) k.c.place k.c.command t.begun (number_of p)) e z)
          where
            of : AreOfPresent (client_plan r x.client) k.c.place k.c.command t.begun (Some k.a.attempt) → IsOfPlan (client_plan r x.client) (attempt_id (client_plan r x.client) k.c k.a)
            of y = record { command = present-within (client_plan r x.client) k.c.place k.c.command k.a.attempt t.begun t.numbers y; attempt = y.1 }

    -- of one to which an epoch was issued
    pub issued-id : (top : ℕ) → Epochs r top w → (x : AttemptId) (e : Epoch) → IsIssued w x e → IsAttemptId x
    issued-id top k x e i = elim (k.line x e i) [
      | inl at ↦ present-id x at
      | inr l ↦ subst IsAttemptId l.2 (told-id l.0 (has-from_contains (tries w.lines) l.0 l.1))
    ]
