-- When every client is done, the lines tell of all commands in turn, and every attempt ended as it was answered.
use Rattle.std.specs.Prelude.{ℕ, ◌≡◌, ◌⊎◌, ◌+◌, ◌++◌, true, false, List, [], ◌∷◌, slice_get, map, All, Option, Some, None, refl}
use Rattle.std.proofs.Common.{sym, ◌∙◌, ap, subst}
use Rattle.std.proofs.lemmas.List.Elements.{All-cons, All-head, All-nil, All-tail}
use Rattle.base_types.specs.declared.outcome.Outcome.{Outcome}
use Rattle.base_types.specs.declared.outcome.Outcome.TheVariants as outcome
use Rattle.base_types.specs.declared.report.Attempt.{Attempt}
use Rattle.base_types.specs.declared.operation.Op.{Op}
use Rattle.base_types.specs.declared.script.Command.{Command}
use Rattle.daos_model.specs.Attempts.{is_restart, tries_of}
use Rattle.daos_model.specs.Conditions.{Holds}
use Rattle.daos_model.specs.Order.{AllInTurn, AreAttempts, AreInTurn, IsNumbered, client_commands, commands_or_none as of_option}
use Rattle.daos_model.specs.Transactions.{numbered}
use Rattle.world_base.specs.declared.client.ClientPlan.{ClientPlan}
use Rattle.world_base.specs.declared.client.ClientState.{ClientState}
use Rattle.world_base.specs.declared.world.World.{World}
use Rattle.world_base.specs.ClientTurns.{is_done}
use Rattle.world_letters.specs.clients.Answered.{EndsAsAnswered, EndsWell, ops_numbered}
use Rattle.world_letters.specs.clients.MoveLaws.{clients-end}
use Rattle.world_base.specs.Events.{Rules, client_plan, commands_or_none}
use Rattle.world_letters.specs.lines.Lines.{AreTheSame, IsTheSame, Lines}

-- every client's commands are over, and it is at no attempt
abbrev pub AreDone : Rules → World → Type 0
AreDone r w = (n : ℕ) (c : ClientState) → slice_get w.clients n ≡ Some c → (is_done (client_plan r n) c ≡ true) × (c.present ≡ None)

-- there is a client for each list of the script
abbrev pub HasClients : Rules → World → Type 0
HasClients r w = (n : ℕ) → slice_get w.clients n ≡ None → slice_get r.script.clients n ≡ None

-- ---- attempts that are the same but for epochs

numbered-same : (client command n : ℕ) (a b : Attempt) → IsTheSame a b → IsNumbered client command n a → IsNumbered client command n b
numbered-same client command n a b s k = s.id ∙ k

attempts-same : (limit client command n : ℕ) (xs ys : List Attempt) → AreTheSame xs ys → AreAttempts limit client command n xs → AreAttempts limit client command n ys
attempts-same limit client command n [] [] s k = k
attempts-same limit client command n [] (y ∷ ys) s k = absurd s
attempts-same limit client command n (x ∷ xs) [] s k = absurd s
attempts-same limit client command n (x ∷ []) (y ∷ []) s k = (numbered-same client command n x y s.0 k.0, subst (λ o. (is_restart o ≡ false) ⊎ (n + 1 ≡ limit)) (sym s.0.outcome) k.1)
attempts-same limit client command n (x ∷ []) (y ∷ z ∷ ys) s k = absurd s.1
attempts-same limit client command n (x ∷ u ∷ xs) (y ∷ []) s k = absurd s.1
attempts-same limit client command n (x ∷ u ∷ xs) (y ∷ z ∷ ys) s k =
    (numbered-same client command n x y s.0 k.0, ap is_restart s.0.outcome ∙ k.1, k.2, attempts-same limit client command (n + 1) (u ∷ xs) (z ∷ ys) s.1 k.3)

-- two lists of the same are cut at the same place
pub record CutAlike (us vs ys : List Attempt) : Type 0 where
  pub own : List Attempt
  pub later : List Attempt
  pub all : ys ≡ own ++ later
  pub first : AreTheSame us own
  pub rest : AreTheSame vs later

pub cut-alike : (us vs ys : List Attempt) → AreTheSame (us ++ vs) ys → CutAlike us vs ys
cut-alike [] vs ys s = record { own = []; later = ys; all = refl; first = tt; rest = s }
cut-alike (u ∷ us) vs [] s = absurd s
cut-alike (u ∷ us) vs (y ∷ ys) s =
    let k = cut-alike us vs ys s.1 in
    record { own = y ∷ k.own; later = k.later; all = ap (λ z. y ∷ z) k.all; first = (s.0, k.first); rest = k.rest }

pub none-same : (ys : List Attempt) → AreTheSame [] ys → ys ≡ []
none-same [] s = refl
none-same (y ∷ ys) s = absurd s

in-turn-same : (limit client n : ℕ) (cs : List Command) (xs ys : List Attempt) → AreTheSame xs ys → AreInTurn limit client n cs xs → AreInTurn limit client n cs ys
in-turn-same limit client n [] xs ys s k = none-same ys (subst (λ z. AreTheSame z ys) k s)
in-turn-same limit client n (c ∷ cs) xs ys s k =
    let cut = cut-alike k.0 k.1 ys (subst (λ z. AreTheSame z ys) k.2 s) in
    (cut.own, cut.later, cut.all, attempts-same limit client n 0 k.0 cut.own cut.first k.3, in-turn-same limit client (n + 1) cs k.1 cut.later cut.rest k.4)

-- ---- how they ended

pub ends-same : (ops : List Op) (a b : Attempt) (how : Outcome) → IsTheSame a b → EndsWell ops a how → EndsWell ops b how
ends-same ops a b outcome.Committed s k = record { asked = ap (map (λ t. t.0)) s.conds ∙ k.asked; answered = ap (map (λ t. t.0)) s.gots ∙ k.answered; hold = subst (All (Holds ops)) (sym s.conds) k.hold }
ends-same ops a b (outcome.CondFailed op) s k = record { held = k.held; there = k.there; told = s.conds ∙ k.told; asked = ap (map (λ t. t.0)) s.conds ∙ k.asked; hold = k.hold; fails = k.fails }
ends-same ops a b (outcome.Restart cause) s k = subst (All (Holds ops)) (sym s.conds) k
ends-same ops a b (outcome.NoSpace target need free) s k = subst (All (Holds ops)) (sym s.conds) k
ends-same ops a b outcome.EpochsSpent s k = subst (All (Holds ops)) (sym s.conds) k
ends-same ops a b outcome.NoSnapshot s k = subst (All (Holds ops)) (sym s.conds) k
ends-same ops a b (outcome.Unknown target) s k = subst (All (Holds ops)) (sym s.conds) k

one-ends : (p : ClientPlan) (a b : Attempt) → IsTheSame a b → EndsAsAnswered p a → EndsAsAnswered p b
one-ends p a b s k =
    subst (λ n. EndsWell (ops_numbered p n) b b.outcome) (sym (ap (λ x. x.command) s.id))
    (subst (λ how. EndsWell (ops_numbered p a.id.command) b how) (sym s.outcome) (ends-same (ops_numbered p a.id.command) a b a.outcome s k))

all-end : (p : ClientPlan) (xs ys : List Attempt) → AreTheSame xs ys → All (EndsAsAnswered p) xs → All (EndsAsAnswered p) ys
all-end p [] [] s k = All-nil (EndsAsAnswered p)
all-end p [] (y ∷ ys) s k = absurd s
all-end p (x ∷ xs) [] s k = absurd s
all-end p (x ∷ xs) (y ∷ ys) s k =
    All-cons (EndsAsAnswered p) y ys (one-ends p x y s.0 (All-head (EndsAsAnswered p) x xs k)) (all-end p xs ys s.1 (All-tail (EndsAsAnswered p) x xs k))

-- ---- in the end

-- the lines of a client end as they were answered, at any moment
pub lines-answered : (r : Rules) (w : World) (n : ℕ) (c : ClientState) → Lines r w → slice_get w.clients n ≡ Some c → All (EndsAsAnswered (client_plan r n)) (tries_of n w.lines)
lines-answered r w n c k here = let t = k.told n c here in all-end (client_plan r n) t.attempts (tries_of n w.lines) t.same t.tells.answers.ended

-- when all clients are done, their lines stand in the order of their commands and attempts, all of them
pub lines-in-turn : (r : Rules) (w : World) → Lines r w → AreDone r w → HasClients r w → AllInTurn r.attempts r.script w.lines
lines-in-turn r w k done clients n = by (slice_get w.clients n) refl
  where
    here : (c : ClientState) → slice_get w.clients n ≡ Some c → AreInTurn r.attempts n 0 (client_commands r.script n) (tries_of n w.lines)
    here c at =
        let t = k.told n c at in
        let d = done n c at in
        in-turn-same r.attempts n 0 (client_commands r.script n) t.attempts (tries_of n w.lines) t.same (same-commands (slice_get r.script.clients n) refl (clients-end (client_plan r n) c t.attempts d.0 d.1 t.tells.told))
      where
        same-commands : (o : Option (List Command)) → slice_get r.script.clients n ≡ o → AreInTurn r.attempts n 0 (numbered (commands_or_none (slice_get r.script.clients n))) (k.told n c at).attempts
            → AreInTurn r.attempts n 0 (client_commands r.script n) (k.told n c at).attempts
        same-commands None e t = subst (λ o. AreInTurn r.attempts n 0 (of_option o) (k.told n c at).attempts) (sym e) (subst (λ o. AreInTurn r.attempts n 0 (numbered (commands_or_none o)) (k.told n c at).attempts) e t)
        same-commands (Some list) e t = subst (λ o. AreInTurn r.attempts n 0 (of_option o) (k.told n c at).attempts) (sym e) (subst (λ o. AreInTurn r.attempts n 0 (numbered (commands_or_none o)) (k.told n c at).attempts) e t)

    nobody : slice_get w.clients n ≡ None → AreInTurn r.attempts n 0 (client_commands r.script n) (tries_of n w.lines)
    nobody none = subst (λ o. AreInTurn r.attempts n 0 (of_option o) (tries_of n w.lines)) (sym (clients n none)) (k.nobody n none)

    by : (o : Option ClientState) → slice_get w.clients n ≡ o → AreInTurn r.attempts n 0 (client_commands r.script n) (tries_of n w.lines)
    by None e = nobody e
    by (Some c) e = here c e
