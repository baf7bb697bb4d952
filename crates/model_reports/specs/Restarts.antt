-- A client that is alone is never told to restart.
use Rattle.std.specs.Prelude.{ℕ, ◌≡◌, ◌⊎◌, ◌<◌, Bool, true, false, Any, [], ◌∷◌, Some, refl}
use Rattle.std.proofs.Common.{sym, ◌∙◌, ap, subst, arith, inl, inr}
use Rattle.base_types.specs.declared.epoch.Epoch.{Epoch}
use Rattle.base_types.specs.declared.id.AttemptId.{AttemptId}
use Rattle.base_types.specs.declared.id.ContId.{ContId}
use Rattle.base_types.specs.declared.outcome.Cause.{Cause}
use Rattle.base_types.specs.declared.outcome.Cause.TheVariants as cause
use Rattle.base_types.specs.declared.outcome.FloorWhy.{FloorWhy}
use Rattle.base_types.specs.declared.outcome.FloorWhy.TheVariants as why
use Rattle.base_types.specs.declared.outcome.Outcome.{Outcome}
use Rattle.base_types.specs.declared.outcome.Outcome.TheVariants as outcome
use Rattle.base_types.specs.declared.report.Attempt.{Attempt}
use Rattle.base_types.specs.declared.report.Line.{Line}
use Rattle.base_types.specs.declared.report.Line.TheVariants as line
use Rattle.base_types.specs.declared.report.Report.{Report}
use Rattle.base_types.specs.declared.script.Command.{Command}
use Rattle.base_types.specs.declared.script.Command.TheVariants.{Snap, Aggregate}
use Rattle.model_laws.specs.DecidedLaws.{all-from_has, has-all}
use Rattle.model_laws.specs.Lists.{any-of}
use Rattle.model_laws.specs.Members.{Has}
use Rattle.daos_model.specs.Accesses.{attempt_targets}
use Rattle.daos_model.specs.Attempts.{has_own_epoch, is_lost, is_of_client, is_restart, is_unknown, tries, up_to_last_of}
use Rattle.daos_model.specs.BoolLaws.{clash, or_left}
use Rattle.daos_model.specs.CausesShown.{IsOpen, IsUnknown, IsUnresolved, LeaderStopped, NotAnswered, ShowsCause, ShowsFloor, ShowsUnresolved, ShowsWhy, leader_of_attempt}
use Rattle.daos_model.specs.Durables.{same_attempt}
use Rattle.daos_model.specs.Headline.{Headline}
use Rattle.daos_model.specs.Opening.{Given, Outside}
use Rattle.daos_model.specs.Order.{told_by}
use Rattle.daos_model.specs.Snapshots.{Aggregates, ComesFrom, MakesSnapshotAt}
use Rattle.daos_model.specs.Transactions.{command_of}
use Rattle.model_reports.specs.Lines.{StandsAt, line-of, one-of-any, up-to-has}
use Rattle.model_reports.specs.Rooms.{is_transaction}
use Rattle.model_reports.specs.Alone.{above-earlier, above-later, is-sure, never-opens, no-stops, none-stops, same-client, stands-before, stands-beside}
use Rattle.model_reports.specs.Lone.{IsLone, LoneClientsNeverRestart}
use Rattle.model_reports.specs.Stopless.{NoStops}

module _ (g : Given) (o : Outside) (resolved : AttemptId → Bool) (q : Report) (L : IsLone g.script o) (h : Headline g o resolved q) where
  abbrev unstopped : NoStops q.lines
  unstopped = no-stops g o resolved q L h

  -- no command makes a snapshot or aggregates
  no-command : (x : AttemptId) (c : Command) → is_transaction c ≡ false → command_of g.script x ≡ Some c → ⊥
  no-command x c not_one at = clash (is_transaction c) (L.plain x c at) not_one

  module _ (a : Attempt) (i : Has a (tries q.lines)) (z : StandsAt q.lines a) where
    -- where another attempt stands
    place-of : (b : Attempt) → Has b (tries q.lines) → Has b (tries z.before) ⊎ (b ≡ a) ⊎ Has b (tries z.after)
    place-of b j = stands-beside z.before z.after a b (subst (λ ls. Has b (tries ls)) z.among j)

    -- an attempt isn't told of a later epoch that another one has
    not-later : (own e : Epoch) (b : Attempt) → a.epoch ≡ Some own → own.0 < e.0 → Has e.0 (told_by a.outcome) → Has b (tries q.lines) → b.epoch ≡ Some e → ⊥
    not-later own e b its later told j at = by (place-of b j)
      where
        by : Has b (tries z.before) ⊎ (b ≡ a) ⊎ Has b (tries z.after) → ⊥
        by (inl k) = let low : e.0 < own.0 = (above-earlier g o resolved q L h z.before z.after a b own z.among k its).own e at in omega (arith, later, low)
        by (inr (inl same)) = let one : Some e ≡ Some own = sym at ∙ ap (λ c. c.epoch) same ∙ its in let equal : e.0 ≡ own.0 = number one in omega (arith, later, equal)
          where
            number : Some e ≡ Some own → e.0 ≡ own.0
            number s = let same : e ≡ own = cc in ap (λ x. x.0) same
        by (inr (inr k)) = let low : e.0 < e.0 = (above-later g o resolved q L h z.before z.after a b e z.among k at).told e.0 told in omega (arith, low)

    -- each attempt below it was answered before it
    not-open : (b : Attempt) → Has b (tries q.lines) → IsUnresolved g.script q.lines z.before a b → ⊥
    not-open b j k = by (place-of b j)
      where
        number : {e f : Epoch} → Some e ≡ Some f → e.0 ≡ f.0
        number {e = e} {f = f} s = let same : e ≡ f = cc in ap (λ x. x.0) same

        below : k.its.0 < k.own.0
        below = k.below

        client : (x : Attempt) → Has x (tries z.before) → is_of_client a.id.client x ≡ true
        client x l = same-client g o resolved q L.one h a x i (subst (λ ls. Has x (tries ls)) (sym z.among) (stands-before z.before z.after a x l))

        answered : Has b (tries z.before) → IsOpen g.script q.lines z.before a b → ⊥
        answered l (NotAnswered never) = never (any-of (λ c. c.id ≡ b.id) (tries (up_to_last_of a.id.client z.before)) b (up-to-has a.id.client z.before b l (client b l)) refl)
        answered l (IsUnknown is) = clash (is_unknown b.outcome) is (or_left (is_unknown b.outcome) (is_lost b.id b.outcome) (is-sure g o resolved q unstopped h b j))
        answered l (LeaderStopped before_b after_b among stops) = none-stops g o resolved q unstopped h (leader_of_attempt g.script b.id ∷ []) (up_to_last_of b.id.client before_b) z.before (line.Try a ∷ z.after) z.among stops

        by : Has b (tries z.before) ⊎ (b ≡ a) ⊎ Has b (tries z.after) → ⊥
        by (inl l) = answered l k.unresolved
        by (inr (inl same)) = let equal : k.its.0 ≡ k.own.0 = number (sym k.its_issued ∙ ap (λ c. c.epoch) same ∙ k.issued) in omega (arith, below, equal)
        by (inr (inr l)) = let low : k.own.0 < k.its.0 = (above-later g o resolved q L h z.before z.after a b k.its z.among l k.its_issued).own k.own k.issued in omega (arith, below, low)

    unresolved : (x : AttemptId) (t : Bool) → ShowsUnresolved g.script q.lines z.before a x t → ⊥
    unresolved x true k = none-stops g o resolved q unstopped h (attempt_targets g.script a.id) (up_to_last_of a.id.client z.before) z.before (line.Try a ∷ z.after) z.among k
    unresolved x false k = let b = one-of-any (λ b. (b.id ≡ x) × IsUnresolved g.script q.lines z.before a b) (tries q.lines) k in not-open b.0 b.1 b.2.1

    -- no line sets a floor
    no-floor : (t : ℕ) (floor : Epoch) (cont : ContId) (reason : FloorWhy) (l : Line) → Has l q.lines → ShowsFloor t floor cont reason l → ⊥
    no-floor t floor cont why.Opening l j k = k
    no-floor t floor cont (why.Restart n) l j k = never-opens g o resolved q unstopped h n t k.0 floor (subst (λ m. Has m q.lines) k.1 j)
    no-floor t floor cont (why.Snapshot e) l j k =
        let from : Any (MakesSnapshotAt g.script cont e) (tries q.lines) = subst (ComesFrom g.script (tries q.lines)) k.0 (has-all (ComesFrom g.script (tries q.lines)) q.lines l h.outcomes.snapshots.lines_from j) in
        let b = one-of-any (MakesSnapshotAt g.script cont e) (tries q.lines) from in
        no-command b.0.id (Snap b.2.0 cont) refl b.2.1.command
    no-floor t floor cont (why.Aggregate n) l j k =
        let from : Any (Aggregates g.script cont floor) (tries q.lines) = subst (ComesFrom g.script (tries q.lines)) k (has-all (ComesFrom g.script (tries q.lines)) q.lines l h.outcomes.snapshots.lines_from j) in
        let b = one-of-any (Aggregates g.script cont floor) (tries q.lines) from in
        no-command b.0.id (Aggregate cont) refl b.2.command

    no-cause : (c : Cause) → a.outcome ≡ outcome.Restart c → ShowsCause g q.lines z.before a c → ⊥
    no-cause (cause.ReadLater x epoch path) how k =
        let b = one-of-any (λ b. (b.id ≡ x) × (b.epoch ≡ Some epoch) × (has_own_epoch g.script b ≡ true)) (tries q.lines) k.reader in
        not-later k.own epoch b.0 k.issued k.later (subst (λ y. Has epoch.0 (told_by y)) (sym how) (inl refl)) b.1 b.2.1
    no-cause (cause.WriteLater x epoch path) how k =
        let b = one-of-any (λ b. (b.id ≡ x) × (b.epoch ≡ Some epoch)) (tries q.lines) k.writer in
        not-later k.own epoch b.0 k.issued k.later (subst (λ y. Has epoch.0 (told_by y)) (sym how) (inl refl)) b.1 b.2.1
    no-cause (cause.Unresolved x) how k = unresolved x (same_attempt x a.id) k
    no-cause (cause.Floor target epoch reason) how k = let l = one-of-any (ShowsFloor target epoch k.cont reason) q.lines k.shown in no-floor target epoch k.cont reason l.0 l.1 l.2

  pub not-restarted : (a : Attempt) → Has a (tries q.lines) → is_restart a.outcome ≡ false
  not-restarted a i = let z = line-of q.lines a i in by z a.outcome refl (h.causes z.before a z.after z.among)
    where
      by : (z : StandsAt q.lines a) (how : Outcome) → a.outcome ≡ how → ShowsWhy g q.lines z.before a how → is_restart how ≡ false
      by z outcome.Committed e k = refl
      by z (outcome.CondFailed op) e k = refl
      by z (outcome.Restart c) e k = absurd (no-cause a i z c e k)
      by z (outcome.NoSpace target need free) e k = refl
      by z outcome.EpochsSpent e k = refl
      by z outcome.NoSnapshot e k = refl
      by z (outcome.Unknown target) e k = refl

pub never-restart : LoneClientsNeverRestart
never-restart g o resolved q L h = all-from_has (λ a. is_restart a.outcome ≡ false) (tries q.lines) (not-restarted g o resolved q L h)
