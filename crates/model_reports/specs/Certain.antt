-- Where clocks leave nothing uncertain, no later write refuses an attempt.
use Rattle.std.specs.Prelude.{ℕ, ◌≡◌, ◌⊎◌, ◌≤◌, ◌<◌, ◌+◌, ◌*◌, ◌++◌, ◌&&◌, ◌==◌, Bool, true, false, not, Contains, List, [], ◌∷◌, Option, Some, None, filter, find, refl, if◌then◌else◌}
use Rattle.std.proofs.Common.{sym, ◌∙◌, ap, subst, arith, inl, inr}
use Rattle.std.proofs.lemmas.Bool.Decides.{nat_tests}
use Rattle.base_types.specs.declared.epoch.Epoch.{Epoch}
use Rattle.base_types.specs.declared.id.AttemptId.{AttemptId}
use Rattle.base_types.specs.declared.outcome.Cause.TheVariants as cause
use Rattle.base_types.specs.declared.outcome.Outcome.TheVariants as outcome
use Rattle.base_types.specs.declared.path.Path.{Path}
use Rattle.base_types.specs.declared.report.Attempt.{Attempt}
use Rattle.base_types.specs.declared.report.Line.{Line}
use Rattle.base_types.specs.declared.report.Line.TheVariants as line
use Rattle.base_types.specs.declared.report.Report.{Report}
use Rattle.model_laws.specs.DecidedLaws.{has-all}
use Rattle.model_laws.specs.Members.{Has, has-filter, has-from_contains}
use Rattle.daos_model.specs.Attempts.{has_own_epoch, is_lost, is_of_client, tries}
use Rattle.daos_model.specs.BoolLaws.{and_left, and_right, both}
use Rattle.daos_model.specs.CausesShown.{IsLaterWrite, ShowsWhy, epoch_of_attempt, starts_command}
use Rattle.daos_model.specs.Headline.{Headline}
use Rattle.daos_model.specs.Laws.{tries-append}
use Rattle.daos_model.specs.Opening.{Given, Outside}
use Rattle.daos_model.specs.Order.{EpochIsBelow, IsAfter, IsAfterAll}
use Rattle.model_reports.specs.Lines.{StandsAt, line-of}

-- A legal report of a job without uncertainty: no attempt that reads at no snapshot is told to restart for a later write.
abbrev pub NoWriteIsUncertain : Type 0
NoWriteIsUncertain = (g : Given) (o : Outside) (resolved : AttemptId → Bool) (q : Report) → g.job.epsilon ≡ 0 → Headline g o resolved q
    → (a : Attempt) (by : AttemptId) (epoch : Epoch) (path : Path) → Contains (tries q.lines) a → has_own_epoch g.script a ≡ true → a.outcome ≡ outcome.Restart (cause.WriteLater by epoch path) → ⊥

-- what is found in a list that has this one is this one or stands before it
found-before : (t : Attempt → Bool) (xs ys : List Attempt) (a y : Attempt) → t a ≡ true → find t (xs ++ a ∷ ys) ≡ Some y → (y ≡ a) ⊎ (Has y xs × (t y ≡ true))
found-before t [] ys a y fits is = by (t a) fits is
  where
    by : (b : Bool) → b ≡ true → (if b then Some a else find t ys) ≡ Some y → (y ≡ a) ⊎ (Has y [] × (t y ≡ true))
    by true e same = let one : y ≡ a = cc in inl one
    by false e same = let no : ⊥ = cc in absurd no
found-before t (x ∷ xs) ys a y fits is = by (found-before t xs ys a y fits) (t x) refl is
  where
    by : (find t (xs ++ a ∷ ys) ≡ Some y → (y ≡ a) ⊎ (Has y xs × (t y ≡ true))) → (b : Bool) → t x ≡ b → (if b then Some x else find t (xs ++ a ∷ ys)) ≡ Some y → (y ≡ a) ⊎ (Has y (x ∷ xs) × (t y ≡ true))
    by more true e same = let one : y ≡ x = cc in inr (inl one, ap t one ∙ e)
    by more false e same = deeper (more same)
      where
        deeper : (y ≡ a) ⊎ (Has y xs × (t y ≡ true)) → (y ≡ a) ⊎ (Has y (x ∷ xs) × (t y ≡ true))
        deeper (inl one) = inl one
        deeper (inr h) = inr (inr h.0, h.1)

-- an attempt that a later write refused starts its command, or another one does that isn't later
own-starts : (a : Attempt) (by : AttemptId) (epoch : Epoch) (path : Path) → a.outcome ≡ outcome.Restart (cause.WriteLater by epoch path) → starts_command a.id a ≡ true
own-starts a by epoch path how =
    both ((a.id.client == a.id.client) && (a.id.command == a.id.command)) (not (is_lost a.id a.outcome))
    (both (a.id.client == a.id.client) (a.id.command == a.id.command) (same a.id.client) (same a.id.command))
    (ap (λ h. not (is_lost a.id h)) how)
  where
    same : (n : ℕ) → (n == n) ≡ true
    same n = grind (arith, nat_tests)

tries-first : (a : Attempt) (ls : List Line) → tries (line.Try a ∷ ls) ≡ a ∷ tries ls
unfolding tries
tries-first a ls = refl

same-number : (m n : ℕ) → (m == n) ≡ true → m ≡ n
same-number m n e = grind (arith, nat_tests)

module _ (g : Given) (o : Outside) (resolved : AttemptId → Bool) (q : Report) (certain : g.job.epsilon ≡ 0) (h : Headline g o resolved q) where
  module _ (a : Attempt) (by : AttemptId) (epoch : Epoch) (path : Path) (plain : has_own_epoch g.script a ≡ true) (how : a.outcome ≡ outcome.Restart (cause.WriteLater by epoch path)) (z : StandsAt q.lines a) (k : IsLaterWrite g.script g.job.epsilon (tries q.lines) a by epoch path) where
    -- the first epoch of its command isn't above its own
    first-low : (y : Attempt) → y.epoch ≡ Some k.first → (y ≡ a) ⊎ (Has y (tries z.before) × (starts_command a.id y ≡ true)) → k.first.0 ≤ k.own.0
    first-low y is (inl one) =
        let same : Some k.first ≡ Some k.own = sym is ∙ ap (λ b. b.epoch) one ∙ k.issued in
        let e : k.first ≡ k.own = cc in
        let n : k.first.0 ≡ k.own.0 = ap (λ x. x.0) e in
        omega (arith, n)
    first-low y is (inr j) =
        let named = and_left ((y.id.client == a.id.client) && (y.id.command == a.id.command)) (not (is_lost y.id y.outcome)) j.1 in
        let client : is_of_client a.id.client y ≡ true = and_left (y.id.client == a.id.client) (y.id.command == a.id.command) named in
        let command : y.id.command ≡ a.id.command = same-number y.id.command a.id.command (and_right (y.id.client == a.id.client) (y.id.command == a.id.command) named) in
        let rises = subst (λ e. IsAfterAll g.script a e (filter (is_of_client a.id.client) (tries z.before))) k.issued (h.outcomes.rising z.before a z.after z.among plain) in
        let after = has-all (IsAfter g.script k.own.0 a) (filter (is_of_client a.id.client) (tries z.before)) y rises (has-filter (is_of_client a.id.client) (tries z.before) y j.0 client) in
        let low : k.first.0 < k.own.0 = subst (EpochIsBelow k.own.0) is (after.command command) in
        omega (arith, low)

    refused : ⊥
    refused = by-first (find (starts_command a.id) (tries q.lines)) refl
      where
        by-first : (f : Option Attempt) → find (starts_command a.id) (tries q.lines) ≡ f → ⊥
        by-first None is = let no : None ≡ Some k.first = sym (ap epoch_of_attempt is) ∙ k.begun in let bad : ⊥ = cc in bad
        by-first (Some y) is =
            let at : find (starts_command a.id) (tries z.before ++ a ∷ tries z.after) ≡ Some y = subst (λ xs. find (starts_command a.id) xs ≡ Some y) (ap tries z.among ∙ tries-append z.before (line.Try a ∷ z.after) ∙ ap (λ xs. tries z.before ++ xs) (tries-first a z.after)) is in
            let its : y.epoch ≡ Some k.first = sym (ap epoch_of_attempt is) ∙ k.begun in
            let low = first-low y its (found-before (starts_command a.id) (tries z.before) (tries z.after) a y (own-starts a by epoch path how) at) in
            let later = k.later in
            let near : epoch.0 ≤ k.first.0 + 256 * 0 = subst (λ e. epoch.0 ≤ k.first.0 + 256 * e) certain k.uncertain in
            omega (arith, low, later, near)

pub none-uncertain : NoWriteIsUncertain
none-uncertain g o resolved q certain h a by epoch path i plain how =
    let z = line-of q.lines a (has-from_contains (tries q.lines) a i) in
    refused g o resolved q certain h a by epoch path plain how z (subst (ShowsWhy g q.lines z.before a) how (h.causes z.before a z.after z.among))
