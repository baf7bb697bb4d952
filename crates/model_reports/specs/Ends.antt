-- How the attempts of a client that is alone end.
use Rattle.std.specs.Prelude.{ℕ, ◌+◌, ◌*◌, ◌^◌, ◌≡◌, ◌≤◌, ◌<◌, Bool, true, false, max, List, [], ◌∷◌, length, slice_get, Option, Some, None, refl, count_by, filter}
use Rattle.std.specs.List.{range_with_len}
use Rattle.std.proofs.Common.{sym, ◌∙◌, ap, subst, arith}
use Rattle.base_types.specs.declared.id.AttemptId.{AttemptId}
use Rattle.base_types.specs.declared.operation.Cond.{Cond}
use Rattle.base_types.specs.declared.operation.Cond.TheVariants.{Free}
use Rattle.base_types.specs.declared.operation.Op.{Op}
use Rattle.base_types.specs.declared.outcome.Outcome.{Outcome}
use Rattle.base_types.specs.declared.outcome.Outcome.TheVariants as outcome
use Rattle.base_types.specs.declared.report.Attempt.{Attempt}
use Rattle.base_types.specs.declared.report.Report.{Report}
use Rattle.base_types.specs.declared.script.Command.{Command}
use Rattle.base_types.specs.Epochs.{last_ticks}
use Rattle.base_types.specs.Scripts.{count_numbered, is_numbered}
use Rattle.std.proofs.lemmas.List.Sums.{length-filter}
use Rattle.model_laws.specs.DecidedLaws.{all-from_has, has-all}
use Rattle.model_laws.specs.Lists.{has-at}
use Rattle.model_laws.specs.Members.{Has, contains-from_has}
use Rattle.daos_model.specs.Attempts.{is_lost, is_restart, is_unknown, tries, tries_of}
use Rattle.daos_model.specs.BoolLaws.{clash, or_left}
use Rattle.daos_model.specs.CausesShown.{AreSpent, ShowsWhy}
use Rattle.daos_model.specs.Conditions.{ConditionsLegal, EndsRight, holds_where, op_holds_where}
use Rattle.daos_model.specs.FormLaws.{length-map}
use Rattle.daos_model.specs.Headline.{Headline}
use Rattle.daos_model.specs.Opening.{Given, Outside}
use Rattle.daos_model.specs.Order.{client_commands, commands_or_none}
use Rattle.daos_model.specs.Snapshots.{NoneLegal}
use Rattle.daos_model.specs.Stops.{restart_numbers}
use Rattle.daos_model.specs.Transactions.{attempt_ops}
use Rattle.model_reports.specs.Lines.{StandsAt, line-of}
use Rattle.model_reports.specs.RoomLaws.{transactions-find-room}
use Rattle.model_reports.specs.Rooms.{HasRoom, lacks_space}
use Rattle.model_reports.specs.Alone.{is-sure, no-snapshot, no-stops}
use Rattle.model_reports.specs.Lone.{HasNoConditions, HasTicks, IsLone, FreshRunsHaveTicks, LoneClientsCommit, LoneClientsEndPlainly, ends_plainly, first_attempt}
use Rattle.model_reports.specs.Once.{try-once}
use Rattle.model_reports.specs.Restarts.{not-restarted}
use Rattle.model_reports.specs.Stopless.{no-restarts}
use Rattle.std.proofs.lemmas.List.FromFn.{length-range_with_len}

module _ (g : Given) (o : Outside) (resolved : AttemptId → Bool) (q : Report) (L : IsLone g.script o) (h : Headline g o resolved q) where
  -- no name stands for a missing snapshot
  no-missing : (a : Attempt) (z : StandsAt q.lines a) → a.outcome ≡ outcome.NoSnapshot → ⊥
  no-missing a z how = subst (NoneLegal g.script g.opening.stand (tries_of a.id.client z.before) a) (no-snapshot g.script L.plain a.id) (h.outcomes.snapshots.none z.before a z.after z.among) how

  plainly : (a : Attempt) → Has a (tries q.lines) → ends_plainly a.outcome ≡ true
  plainly a i = by (line-of q.lines a i) a.outcome refl
    where
      by : (z : StandsAt q.lines a) (how : Outcome) → a.outcome ≡ how → ends_plainly how ≡ true
      by z outcome.Committed e = refl
      by z (outcome.CondFailed op) e = refl
      by z (outcome.Restart c) e = clash (is_restart a.outcome) (ap is_restart e) (not-restarted g o resolved q L h a i)
      by z (outcome.NoSpace target need free) e = refl
      by z outcome.EpochsSpent e = refl
      by z outcome.NoSnapshot e = absurd (no-missing a z e)
      by z (outcome.Unknown target) e = clash (is_unknown a.outcome) (ap is_unknown e) (or_left (is_unknown a.outcome) (is_lost a.id a.outcome) (is-sure g o resolved q (no-stops g o resolved q L h) h a i))

  -- no condition fails where there is none
  no-failure : HasNoConditions g.script → (a : Attempt) (op : ℕ) → Has a (tries q.lines) → a.outcome ≡ outcome.CondFailed op → ⊥
  no-failure free a op i how =
      let ends = subst (EndsRight (attempt_ops g.script a.id) a) how (has-all (ConditionsLegal g.script) (tries q.lines) a h.outcomes.conditions i) in
      let no : true ≡ false = sym (holds ends.there (slice_get (attempt_ops g.script a.id) op) refl) ∙ ends.fails in
      let bad : ⊥ = cc in bad
    where
      unasked : (there : Bool) (c : Cond) → c ≡ Free → holds_where there c ≡ true
      unasked there c e = ap (holds_where there) e

      holds : (there : Bool) (p : Option Op) → slice_get (attempt_ops g.script a.id) op ≡ p → op_holds_where there p ≡ true
      holds there None e = refl
      holds there (Some p) e = unasked there p.cond (free a.id p (contains-from_has (attempt_ops g.script a.id) p (has-at (attempt_ops g.script a.id) op p e)))

  -- ticks aren't spent where there are enough
  not-spent : HasTicks g.script g.opening → AreSpent g q.lines → ⊥
  not-spent enough spent = by (max (2 ^ 55) g.opening.lease) (length (restart_numbers q.lines)) (length (tries q.lines)) last_ticks none many enough spent
    where
      none : length (restart_numbers q.lines) ≡ 0
      none = ap length (no-restarts g.script o q.lines (no-stops g o resolved q L h) h.outcomes.stops.targets)

      many : length (tries q.lines) ≡ length (client_commands g.script 0)
      many =
          sym (length-map (λ (a : Attempt). a.id) (tries q.lines)) ∙ ap length (try-once g o resolved q L h)
          ∙ length-map first_attempt (range_with_len 0 (length (client_commands g.script 0))) ∙ length-range_with_len 0 (length (client_commands g.script 0))

      by : (lease restarts attempts last : ℕ) → restarts ≡ 0 → attempts ≡ length (client_commands g.script 0) → lease + length (client_commands g.script 0) ≤ last → last < lease + 65536 * restarts + attempts → ⊥
      by lease restarts attempts last a b c d = omega (arith, a, b, c, d)

  commits : 0 < g.script.targets → 0 < g.job.attempts → HasRoom g.script g.job.attempts g.opening.free → HasNoConditions g.script → HasTicks g.script g.opening → (a : Attempt) → Has a (tries q.lines) → a.outcome ≡ outcome.Committed
  commits some least room free enough a i = let z = line-of q.lines a i in by z a.outcome refl (h.causes z.before a z.after z.among)
    where
      by : (z : StandsAt q.lines a) (how : Outcome) → a.outcome ≡ how → ShowsWhy g q.lines z.before a how → how ≡ outcome.Committed
      by z outcome.Committed e k = refl
      by z (outcome.CondFailed op) e k = absurd (no-failure free a op i e)
      by z (outcome.Restart c) e k = clash (is_restart a.outcome) (ap is_restart e) (not-restarted g o resolved q L h a i)
      by z (outcome.NoSpace target need left) e k =
          clash (lacks_space a.outcome) (ap lacks_space e) (has-all (λ b. lacks_space b.outcome ≡ false) (tries q.lines) a (transactions-find-room g o resolved q some least room L.plain h) i)
      by z outcome.EpochsSpent e k = absurd (not-spent enough k)
      by z outcome.NoSnapshot e k = absurd (no-missing a z e)
      by z (outcome.Unknown target) e k = clash (ends_plainly a.outcome) (plainly a i) (ap ends_plainly e)

pub end-plainly : LoneClientsEndPlainly
end-plainly g o resolved q L h = all-from_has (λ a. ends_plainly a.outcome ≡ true) (tries q.lines) (plainly g o resolved q L h)

pub commit : LoneClientsCommit
commit g o resolved q L h some least room free enough = all-from_has (λ a. a.outcome ≡ outcome.Committed) (tries q.lines) (commits g o resolved q L h some least room free enough)

-- ---- ticks over regions of zeros

few-commands : (lists : List (List Command)) → length lists ≡ 1 → count_numbered lists ≤ 100000 → length (commands_or_none (slice_get lists 0)) ≤ 100000
few-commands [] one few = absurd (omega (arith, one))
few-commands (list ∷ []) one few =
    let k : count_by is_numbered list + 0 ≤ 100000 = few in
    let same : length (filter is_numbered list) ≡ count_by is_numbered list = length-filter is_numbered list in
    omega (arith, k, same)
few-commands (list ∷ other ∷ lists) one few = absurd (omega (arith, one))

pub fresh-ticks : FreshRunsHaveTicks
fresh-ticks targets s j form one = by (length (client_commands s 0)) (few-commands s.clients one form.few)
  where
    by : (n : ℕ) → n ≤ 100000 → max (2 ^ 55) 0 + n ≤ last_ticks
    by n few = omega (arith, few)
