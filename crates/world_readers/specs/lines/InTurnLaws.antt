-- What a client has told begins its commands in turn, and so do the lines that tell of it.
use Rattle.std.specs.Prelude.{ℕ, zero, suc, ◌≡◌, ◌⊎◌, ◌<◌, ◌+◌, Bool, true, false, List, [], ◌∷◌, drop, filter, length, slice_get, take, Option, Some, None, refl, if◌then◌else◌}
use Rattle.std.proofs.Common.{sym, ◌∙◌, ap, subst, arith}
use Rattle.std.proofs.lemmas.List.{take-append-drop}
use Rattle.std.proofs.lemmas.List.Elements.{filter-append}
use Rattle.base_types.specs.declared.report.Attempt.{Attempt}
use Rattle.base_types.specs.declared.report.Line.{Line}
use Rattle.base_types.specs.declared.script.Command.{Command}
use Rattle.base_types.specs.Scripts.{is_numbered}
use Rattle.daos_model.specs.Attempts.{is_restart, tries_of}
use Rattle.daos_model.specs.Order.{AreAttempts, AreInTurn, client_commands, commands_or_none as numbered_or_none}
use Rattle.daos_model.specs.Transactions.{numbered}
use Rattle.world_base.specs.declared.client.ClientPlan.{ClientPlan}
use Rattle.world_base.specs.declared.client.ClientState.{ClientState}
use Rattle.world_base.specs.declared.world.World.{World}
use Rattle.world_base.specs.Events.{Rules, client_plan, commands_or_none}
use Rattle.world_ended.specs.world_letters.clients.Standing.{AreOfPresent, AreTriedAgain, HasTold, has_number, number_of}
use Rattle.world_ended.specs.world_letters.lines.Lines.{AreTheSame, Lines}
use Rattle.world_readers.specs.lines.InTurn.{AllBeginInTurn, AreOfNext, BeginsInTurn, HasItsLines}
use Rattle.world_ended.specs.world_letters.lines.LastLines.{cut-alike, none-same}

-- ---- attempts that are the same but for epochs

attempts-same : (limit client command n : ℕ) (xs ys : List Attempt) → AreTheSame xs ys → AreAttempts limit client command n xs → AreAttempts limit client command n ys
attempts-same limit client command n [] [] s k = k
attempts-same limit client command n [] (y ∷ ys) s k = absurd s
attempts-same limit client command n (x ∷ xs) [] s k = absurd s
attempts-same limit client command n (x ∷ []) (y ∷ []) s k = (s.0.id ∙ k.0, subst (λ o. (is_restart o ≡ false) ⊎ (n + 1 ≡ limit)) (sym s.0.outcome) k.1)
attempts-same limit client command n (x ∷ []) (y ∷ z ∷ ys) s k = absurd s.1
attempts-same limit client command n (x ∷ u ∷ xs) (y ∷ []) s k = absurd s.1
attempts-same limit client command n (x ∷ u ∷ xs) (y ∷ z ∷ ys) s k = (s.0.id ∙ k.0, ap is_restart s.0.outcome ∙ k.1, k.2, attempts-same limit client command (n + 1) (u ∷ xs) (z ∷ ys) s.1 k.3)

again-same : (client command n m : ℕ) (xs ys : List Attempt) → AreTheSame xs ys → AreTriedAgain client command n m xs → AreTriedAgain client command n m ys
again-same client command n m [] [] s k = k
again-same client command n m [] (y ∷ ys) s k = absurd s
again-same client command n m (x ∷ xs) [] s k = absurd s
again-same client command n m (x ∷ xs) (y ∷ ys) s k = (s.0.id ∙ k.0, ap is_restart s.0.outcome ∙ k.1, again-same client command (n + 1) m xs ys s.1 k.2)

many-same : (xs ys : List Attempt) → AreTheSame xs ys → length xs ≡ length ys
many-same [] [] s = refl
many-same [] (y ∷ ys) s = absurd s
many-same (x ∷ xs) [] s = absurd s
many-same (x ∷ xs) (y ∷ ys) s = ap suc (many-same xs ys s.1)

in-turn-same : (limit client n : ℕ) (cs : List Command) (xs ys : List Attempt) → AreTheSame xs ys → AreInTurn limit client n cs xs → AreInTurn limit client n cs ys
in-turn-same limit client n [] xs ys s k = none-same ys (subst (λ z. AreTheSame z ys) k s)
in-turn-same limit client n (c ∷ cs) xs ys s k =
    let cut = cut-alike k.0 k.1 ys (subst (λ z. AreTheSame z ys) k.2 s) in
    (cut.own, cut.later, cut.all, attempts-same limit client n 0 k.0 cut.own cut.first k.3, in-turn-same limit client (n + 1) cs k.1 cut.later cut.rest k.4)

next-same : (limit client n : ℕ) (cs : List Command) (xs ys : List Attempt) → AreTheSame xs ys → AreOfNext limit client n cs xs → AreOfNext limit client n cs ys
next-same limit client n [] xs ys s k = none-same ys (subst (λ z. AreTheSame z ys) k s)
next-same limit client n (c ∷ cs) xs ys s k =
    let many = many-same xs ys s in
    (subst (λ m. AreTriedAgain client n 0 m ys) many (again-same client n 0 (length xs) xs ys s k.0), subst (λ m. m < limit) many k.1)

begins-same : (limit client : ℕ) (cs : List Command) (xs ys : List Attempt) → AreTheSame xs ys → BeginsInTurn limit client cs xs → BeginsInTurn limit client cs ys
begins-same limit client cs xs ys s k =
    let cut = cut-alike k.over k.again ys (subst (λ z. AreTheSame z ys) k.attempts_are s) in
    record {
      first = k.first;
      left = k.left;
      commands_are = k.commands_are;
      over = cut.own;
      again = cut.later;
      attempts_are = cut.all;
      in_turn = in-turn-same limit client 0 k.first k.over cut.own cut.first k.in_turn;
      next = next-same limit client (length k.first) k.left k.again cut.later cut.rest k.next;
    }

-- ---- what a client has told begins in turn

tried-many : (client command n m : ℕ) (xs : List Attempt) → AreTriedAgain client command n m xs → n + length xs ≡ m
tried-many client command n m [] k = omega (arith, k)
tried-many client command n m (x ∷ xs) k = let more : n + 1 + length xs ≡ m = tried-many client command (n + 1) m xs k.2 in omega (arith, more)

none-of-next : (limit client n : ℕ) (cs : List Command) (xs : List Attempt) → 0 < limit → xs ≡ [] → AreOfNext limit client n cs xs
none-of-next limit client n [] xs some none = none
none-of-next limit client n (c ∷ cs) xs some none = subst (λ z. AreTriedAgain client n 0 (length z) z × (length z < limit)) (sym none) (refl, some)

some-of-next : (limit client n m : ℕ) (cs : List Command) (xs : List Attempt) → (cs ≡ [] → ⊥) → AreTriedAgain client n 0 m xs → m < limit → AreOfNext limit client n cs xs
some-of-next limit client n m [] xs some k low = absurd (some refl)
some-of-next limit client n m (c ∷ cs) xs some k low =
    let many : m ≡ length xs = let all : 0 + length xs ≡ m = tried-many client n 0 m xs k in omega (arith, all) in
    (subst (λ z. AreTriedAgain client n 0 z xs) many k, subst (λ z. z < limit) many low)

-- a command with a number is among those that are left where it is the next
one-left : (cs : List Command) (n : ℕ) → has_number (slice_get cs n) ≡ true → numbered (drop n cs) ≡ [] → ⊥
one-left [] n h none = let no : ⊥ = cc in no
one-left (c ∷ cs) zero h none = by (is_numbered c) h none
  where
    by : (b : Bool) → b ≡ true → (if b then c ∷ filter is_numbered cs else filter is_numbered cs) ≡ [] → ⊥
    by true e none = let no : ⊥ = cc in no
    by false e none = let no : ⊥ = cc in no
one-left (c ∷ cs) (suc n) h none = one-left cs n h none

begins : (p : ClientPlan) (c : ClientState) (xs : List Attempt) → 0 < p.attempts → HasTold p c xs → BeginsInTurn p.attempts p.number (numbered p.commands) xs
begins p c xs some k = record {
  first = numbered (take c.place p.commands);
  left = numbered (drop c.place p.commands);
  commands_are = ap numbered (sym (take-append-drop c.place p.commands)) ∙ filter-append is_numbered (take c.place p.commands) (drop c.place p.commands);
  over = k.over;
  again = k.begun;
  attempts_are = k.all;
  in_turn = k.in_turn;
  next = subst (λ n. AreOfNext p.attempts p.number n (numbered (drop c.place p.commands)) k.begun) k.numbers (next (number_of c.present) k.at_present);
}
  where
    next : (o : Option ℕ) → AreOfPresent p c.place c.command k.begun o → AreOfNext p.attempts p.number c.command (numbered (drop c.place p.commands)) k.begun
    next None none = none-of-next p.attempts p.number c.command (numbered (drop c.place p.commands)) k.begun some none
    next (Some m) h = some-of-next p.attempts p.number c.command m (numbered (drop c.place p.commands)) k.begun (one-left p.commands c.place h.2) h.0 h.1

same-commands : (o : Option (List Command)) → numbered (commands_or_none o) ≡ numbered_or_none o
same-commands None = refl
same-commands (Some list) = refl

-- the lines tell of a client what it has told
pub told-begins : (r : Rules) (n : ℕ) (c : ClientState) (lines : List Line) → 0 < r.attempts → HasItsLines (client_plan r n) n c lines → BeginsInTurn r.attempts n (client_commands r.script n) (tries_of n lines)
told-begins r n c lines some k =
    subst (λ cs. BeginsInTurn r.attempts n cs (tries_of n lines)) (same-commands (slice_get r.script.clients n))
    (begins-same r.attempts n (numbered (client_plan r n).commands) k.attempts (tries_of n lines) k.same (begins (client_plan r n) c k.attempts some k.told))

-- of whom no attempt is told, of that they begin
pub nobody-begins : (limit client : ℕ) (cs : List Command) (xs : List Attempt) → 0 < limit → xs ≡ [] → BeginsInTurn limit client cs xs
nobody-begins limit client cs xs some none = record { first = []; left = cs; commands_are = refl; over = []; again = xs; attempts_are = refl; in_turn = refl; next = none-of-next limit client 0 cs xs some none }

-- ---- at any moment

abbrev pub LinesBeginInTurn : Type 0
LinesBeginInTurn = (r : Rules) (w : World) → 0 < r.attempts → Lines r w → AllBeginInTurn r.attempts r.script w.lines

pub lines-begin_in_turn : LinesBeginInTurn
lines-begin_in_turn r w some k n = by (slice_get w.clients n) refl
  where
    by : (o : Option ClientState) → slice_get w.clients n ≡ o → BeginsInTurn r.attempts n (client_commands r.script n) (tries_of n w.lines)
    by None e = nobody-begins r.attempts n (client_commands r.script n) (tries_of n w.lines) some (k.nobody n e)
    by (Some c) e = let t = k.told n c e in told-begins r n c w.lines some (record { attempts = t.attempts; told = t.tells.told; same = t.same })
