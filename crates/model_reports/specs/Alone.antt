-- The lines of a legal report: where none tells of a stop it is known what became of each attempt; of one client all attempts are its own; and
-- of a client that is alone each reads at no snapshot.
use Rattle.std.specs.Prelude.{ℕ, ◌≡◌, ◌⊎◌, ◌<◌, ◌==◌, Bool, true, false, ◌||◌, is_none, List, [], ◌∷◌, ◌++◌, Option, Some, None, refl}
use Rattle.std.proofs.Common.{append_assoc, sym, ◌∙◌, ap, subst, arith, inl, inr}
use Rattle.std.proofs.lemmas.Bool.{cases_lt}
use Rattle.base_types.specs.declared.epoch.Epoch.{Epoch}
use Rattle.base_types.specs.declared.id.AttemptId.{AttemptId}
use Rattle.base_types.specs.declared.outcome.Cause.TheVariants as cause
use Rattle.base_types.specs.declared.outcome.Outcome.{Outcome}
use Rattle.base_types.specs.declared.outcome.Outcome.TheVariants as outcome
use Rattle.base_types.specs.declared.report.Attempt.{Attempt}
use Rattle.base_types.specs.declared.report.Line.{Line}
use Rattle.base_types.specs.declared.report.Line.TheVariants as line
use Rattle.base_types.specs.declared.report.Report.{Report}
use Rattle.base_types.specs.declared.script.Command.{Command}
use Rattle.base_types.specs.declared.script.Command.TheVariants.{Run, Snap, Aggregate, Tell, Skip}
use Rattle.base_types.specs.declared.script.Script.{Script}
use Rattle.model_laws.specs.DecidedLaws.{has-all}
use Rattle.model_laws.specs.Members.{Has, has-cases, has-filter, has-from_contains, has-left, has-right}
use Rattle.model_laws.specs.TargetLaws.{same_number}
use Rattle.daos_model.specs.Accesses.{attempt_targets}
use Rattle.daos_model.specs.Attempts.{has_own_epoch, is_lost, is_of_client, is_unknown, is_unsure, snapshot_of, snapshot_of_command, snapshot_or_none, tries, tries_of, up_to_last_of}
use Rattle.daos_model.specs.CausesShown.{ShowsUnresolved, ShowsWhy, StopsAfter}
use Rattle.daos_model.specs.Durables.{same_attempt}
use Rattle.daos_model.specs.Headline.{Headline}
use Rattle.daos_model.specs.Laws.{tries-append}
use Rattle.daos_model.specs.Opening.{Given, Outside}
use Rattle.daos_model.specs.Order.{AreInTurn, EpochIsBelow, IsAfter, IsAfterAll, client_commands, commands_or_none, told_by}
use Rattle.daos_model.specs.Transactions.{command_of}
use Rattle.model_reports.specs.Lines.{StandsAt, line-of}
use Rattle.model_reports.specs.Rooms.{OnlyTransactions, is_transaction}
use Rattle.model_reports.specs.Lone.{HasOneClient, IsLone}
use Rattle.model_reports.specs.Stopless as stopless
use Rattle.model_reports.specs.Stopless.{NoStops}
use Rattle.std.proofs.lemmas.Option.{slice_get_past}

-- ---- lists

-- an attempt stands before another one, is it, or stands behind it
pub stands-beside : (before after : List Line) (a b : Attempt) → Has b (tries (before ++ line.Try a ∷ after)) → Has b (tries before) ⊎ (b ≡ a) ⊎ Has b (tries after)
unfolding tries
stands-beside before after a b i = by (has-cases (tries before) (a ∷ tries after) b (subst (Has b) (tries-append before (line.Try a ∷ after)) i))
  where
    by : Has b (tries before) ⊎ ((b ≡ a) ⊎ Has b (tries after)) → Has b (tries before) ⊎ (b ≡ a) ⊎ Has b (tries after)
    by j = j

pub stands-there : (before after : List Line) (a : Attempt) → Has a (tries (before ++ line.Try a ∷ after))
unfolding tries
stands-there before after a = subst (Has a) (sym (tries-append before (line.Try a ∷ after))) (has-right (tries before) (a ∷ tries after) a (inl refl))

pub stands-before : (before after : List Line) (a b : Attempt) → Has b (tries before) → Has b (tries (before ++ line.Try a ∷ after))
stands-before before after a b i = subst (Has b) (sym (tries-append before (line.Try a ∷ after))) (has-left (tries before) (tries (line.Try a ∷ after)) b i)

-- ---- snapshots

-- a transaction that reads at no snapshot has no name of one
reads-at_none : (c : Command) → is_transaction c ≡ true → snapshot_of_command c ≡ None
reads-at_none (Run ops skips snapshot) e = by snapshot e
  where
    by : (o : Option (List ℕ)) → is_none o ≡ true → o ≡ None
    by None h = refl
    by (Some name) h = let no : ⊥ = cc in absurd no
reads-at_none (Snap name cont) e = refl
reads-at_none (Aggregate cont) e = refl
reads-at_none (Tell client) e = refl
reads-at_none (Skip turns) e = refl

pub no-snapshot : (s : Script) → OnlyTransactions s → (x : AttemptId) → snapshot_of s x ≡ None
no-snapshot s plain x = by (command_of s x) refl
  where
    by : (o : Option Command) → command_of s x ≡ o → snapshot_or_none o ≡ None
    by None e = refl
    by (Some c) e = reads-at_none c (plain x c e)

-- ---- where no line tells of a stop

module _ (g : Given) (o : Outside) (resolved : AttemptId → Bool) (q : Report) (never : NoStops q.lines) (h : Headline g o resolved q) where
  pub never-opens : (n t incarnation : ℕ) (floor : Epoch) → Has (line.Restart n t incarnation floor) q.lines → ⊥
  never-opens n t incarnation floor i = stopless.never-opens g.script o q.lines never h.outcomes.stops.targets n t incarnation floor i

  never-goes : (t : ℕ) → Has (line.Down t) q.lines → ⊥
  never-goes t i = stopless.never-goes g.script o q.lines never h.outcomes.stops.targets t i

  -- no target stops among the lines
  pub none-stops : (ts : List ℕ) (first lines after : List Line) → q.lines ≡ lines ++ after → StopsAfter ts first lines → ⊥
  none-stops ts first lines after among = stopless.none-stops ts first lines (λ n t i. never n t (subst (Has (line.Stop n t)) (sym among) (has-left lines after (line.Stop n t) i)))

  -- no attempt is lost, or unknown
  pub is-sure : (a : Attempt) → Has a (tries q.lines) → is_unsure a ≡ false
  is-sure a i = let z = line-of q.lines a i in by z a.outcome (h.causes z.before a z.after z.among)
    where
      lost : (z : StandsAt q.lines a) (by : AttemptId) (b : Bool) → same_attempt by a.id ≡ b → ShowsUnresolved g.script q.lines z.before a by b → same_attempt by a.id ≡ false
      lost z by true e k = absurd (none-stops (attempt_targets g.script a.id) (up_to_last_of a.id.client z.before) z.before (line.Try a ∷ z.after) z.among k)
      lost z by false e k = e

      by : (z : StandsAt q.lines a) (how : Outcome) → ShowsWhy g q.lines z.before a how → (is_unknown how || is_lost a.id how) ≡ false
      by z outcome.Committed k = refl
      by z (outcome.CondFailed op) k = refl
      by z (outcome.Restart (cause.ReadLater x epoch path)) k = refl
      by z (outcome.Restart (cause.WriteLater x epoch path)) k = refl
      by z (outcome.Restart (cause.Unresolved x)) k = lost z x (same_attempt x a.id) refl k
      by z (outcome.Restart (cause.Floor target epoch why)) k = refl
      by z (outcome.NoSpace target need free) k = refl
      by z outcome.EpochsSpent k = refl
      by z outcome.NoSnapshot k = refl
      by z (outcome.Unknown target) k =
          absurd (never-goes target (subst (Has (line.Down target)) (sym z.among) (has-left z.before (line.Try a ∷ z.after) (line.Down target) (has-from_contains z.before (line.Down target) k.down))))

-- ---- of the only client

module _ (g : Given) (o : Outside) (resolved : AttemptId → Bool) (q : Report) (one : HasOneClient g.script) (h : Headline g o resolved q) where
  no-commands : (n : ℕ) → 0 < n → client_commands g.script n ≡ []
  no-commands n more = ap commands_or_none (slice_get_past g.script.clients n (omega (arith, more, one)))

  pub only-client : (a : Attempt) → Has a (tries q.lines) → a.id.client ≡ 0
  only-client a i = elim (cases_lt 0 a.id.client) [
    | inl more ↦ absurd (nobody more)
    | inr least ↦ omega (arith, least)
  ]
    where
      nobody : 0 < a.id.client → ⊥
      nobody more =
          let none : tries_of a.id.client q.lines ≡ [] = subst (λ cs. AreInTurn g.job.attempts a.id.client 0 cs (tries_of a.id.client q.lines)) (no-commands a.id.client more) (h.outcomes.in_turn a.id.client) in
          subst (Has a) none (has-filter (is_of_client a.id.client) (tries q.lines) a i (same_number a.id.client))

  pub same-client : (a b : Attempt) → Has a (tries q.lines) → Has b (tries q.lines) → is_of_client a.id.client b ≡ true
  same-client a b i j = subst (λ c. (c == a.id.client) ≡ true) (only-client a i ∙ sym (only-client b j)) (same_number a.id.client)

  -- an attempt with an epoch of its own stands above those of the lines before its own
  pub is-after : (before after : List Line) (a b : Attempt) (f : Epoch) → q.lines ≡ before ++ line.Try a ∷ after → has_own_epoch g.script a ≡ true → Has b (tries before) → a.epoch ≡ Some f → IsAfter g.script f.0 a b
  is-after before after a b f among own i at =
      has-all (IsAfter g.script f.0 a) (tries_of a.id.client before) b
      (subst (λ e. IsAfterAll g.script a e (tries_of a.id.client before)) at (h.outcomes.rising before a after among own))
      (has-filter (is_of_client a.id.client) (tries before) b i (same-client a b here there))
    where
      there : Has b (tries q.lines)
      there = subst (λ ls. Has b (tries ls)) (sym among) (stands-before before after a b i)

      here : Has a (tries q.lines)
      here = subst (λ ls. Has a (tries ls)) (sym among) (stands-there before after a)

-- ---- of a client that is alone

module _ (g : Given) (o : Outside) (resolved : AttemptId → Bool) (q : Report) (L : IsLone g.script o) (h : Headline g o resolved q) where
  pub no-stops : NoStops q.lines
  no-stops = stopless.never-stops g.script o q.lines L.no_stops L.undisturbed h.outcomes.stops.targets

  pub has-own : (a : Attempt) → has_own_epoch g.script a ≡ true
  has-own a = by (snapshot_of g.script a.id) (no-snapshot g.script L.plain a.id)
    where
      by : (o : Option (List ℕ)) → o ≡ None → is_none o ≡ true
      by None e = refl
      by (Some name) e = let no : ⊥ = cc in absurd no

  -- an attempt's epoch is above those of the lines before its own, and above all that they tell in causes
  pub record IsAbove (a b : Attempt) (f : ℕ) : Type 0 where
    pub own : (e : Epoch) → b.epoch ≡ Some e → e.0 < f
    pub told : (e : ℕ) → Has e (told_by b.outcome) → e < f

  pub above-earlier : (before after : List Line) (a b : Attempt) (f : Epoch) → q.lines ≡ before ++ line.Try a ∷ after → Has b (tries before) → a.epoch ≡ Some f → IsAbove a b f.0
  above-earlier before after a b f among i at = record {
    own = λ e its. subst (EpochIsBelow f.0) its (k.sure (has-own b) (is-sure g o resolved q no-stops h b there));
    told = λ e j. has-all (λ x. x < f.0) (told_by b.outcome) e k.told j;
  }
    where
      there : Has b (tries q.lines)
      there = subst (λ ls. Has b (tries ls)) (sym among) (stands-before before after a b i)

      k : IsAfter g.script f.0 a b
      k = is-after g o resolved q L.one h before after a b f among (has-own a) i at

  -- the same where the later one stands behind
  pub above-later : (before after : List Line) (a b : Attempt) (f : Epoch) → q.lines ≡ before ++ line.Try a ∷ after → Has b (tries after) → b.epoch ≡ Some f → IsAbove b a f.0
  above-later before after a b f among i at =
      let z = line-of after b i in
      above-earlier (before ++ line.Try a ∷ z.before) z.after b a f (among ∙ ap (λ ls. before ++ line.Try a ∷ ls) z.among ∙ sym (append_assoc before (line.Try a ∷ z.before) (line.Try b ∷ z.after))) (stands-there before z.before a) at
