-- At each moment of any run the report of its lines so far is in the form in which its text determines it.
use Rattle.std.specs.Prelude.{ℕ, ◌≡◌, ◌≤◌, ◌<◌, ◌^◌, false, List, ◌∷◌, All, length, slice_get, Option, Some, None, refl}
use Rattle.std.proofs.Common.{sym, subst, arith}
use Rattle.base_types.specs.declared.report.Attempt.{Attempt}
use Rattle.base_types.specs.declared.report.Line.{Line}
use Rattle.base_types.specs.declared.report.Line.TheVariants as line
use Rattle.daos_model.specs.declared.durable.Version.{Version}
use Rattle.daos_model.specs.Attempts.{is_of_client, tries, tries_of}
use Rattle.daos_model.specs.Opening.{Given, top}
use Rattle.daos_model.specs.ReadsLegal.{map_read}
use Rattle.daos_model.specs.Stops.{HasTarget, IsBelowSome, target_of}
use Rattle.daos_model.specs.Transactions.{attempt_ops}
use Rattle.model_laws.specs.Decided.{taken_in}
use Rattle.model_laws.specs.DecidedLaws.{all-from_has, has-all}
use Rattle.model_laws.specs.Lists.{has-cut}
use Rattle.model_laws.specs.Members.{Has, has-filter, has-left}
use Rattle.model_laws.specs.TargetLaws.{same_number}
use Rattle.report_writer.specs.Forms.{IsAttemptOf, IsCond, IsGot, IsLineOf, IsReportOf}
use Rattle.world_base.specs.declared.client.ClientState.{ClientState}
use Rattle.world_base.specs.declared.world.World.{World}
use Rattle.world_base.specs.Events.{Rules, client_plan}
use Rattle.world_answers.specs.world_causes.causes.Causes.{Stored, is_try}
use Rattle.world_commit.specs.attempts.History.{History}
use Rattle.world_answers.specs.world_contents.gots.FormLaws.{ops-form}
use Rattle.world_answers.specs.world_contents.gots.Gots.{IsLineServed}
use Rattle.world_answers.specs.world_contents.gots.ToldLaws.{lines-right}
use Rattle.world_answers.specs.world_contents.reads.Transactions.{transactions}
use Rattle.world_upheld.specs.below.Legal.{AreShort, issued-id, report_over, stored_over, told-id}
use Rattle.world_letters.specs.clients.Answered.{EndsAsAnswered, ops_numbered}
use Rattle.world_letters.specs.lines.LastLines.{lines-answered}
use Rattle.world_letters.specs.snapshots.Makings.{ComesOf}
use Rattle.world_answers.specs.world_contents.posts.ScriptForm.{ops-few}
use Rattle.world_closing.specs.forming.ReportForms.{down-is, try-among}
use Rattle.world_answers.specs.KeyLaws.{as_of-keys}
use Rattle.world_answers.specs.AnswerForms.{told-form}
use Rattle.world_closing.specs.Rules.{rules_of}
use Rattle.world_upheld.specs.causing.Dates.{issued-own}
use Rattle.world_upheld.specs.causing.OverDates.{CausesOverDates, later-reads_issued}
use Rattle.world_upheld.specs.explained.Explanations.{Explained, Explanations}
use Rattle.world_upheld.specs.explained.Runs.{runs-are_explained}
use Rattle.world_upheld.specs.hearing.Leases.{AllKeepCovered, all-runs-are_covered}
use Rattle.world_upheld.specs.upheld.BeginVersions.{begins-well}
use Rattle.world_upheld.specs.upheld.Begins.{AreRulesInForm, held_at}
use Rattle.world_upheld.specs.upheld.Upheld.{Grounds}
use Rattle.world_closing.specs.forming.Epochs.{HasShortEpochs, all-lines-are-short, issued-short}
use Rattle.world_closing.specs.forming.Fit.{AreLinesFit, its-line}
use Rattle.world_closing.specs.forming.Forming.{AllRunsReportInForm, IsKeyedRun, IsSmallRun}
use Rattle.world_closing.specs.forming.Keys.{decided-keys, read-keys}
use Rattle.world_closing.specs.forming.Making.{aggregate-form, freeze-form, snapshot-form}
use Rattle.world_closing.specs.forming.Outcomes.{stands-form}
use Rattle.world_closing.specs.legal.Reads.{seen-dkeys}
use Rattle.world_closing.specs.stands.Stands.{HoldsOpenings}
use Rattle.world_closing.specs.Whole.{opens-with_dkeys}

-- what lines tell that attempts were answered is such as a text determines
abbrev pub AnswersHaveForm : World → Type 0
AnswersHaveForm v = (a : Attempt) → Has a (tries v.lines) → All IsGot a.gots × All IsCond a.conds

module _ (g : Given) (stored : Stored) (h : History) (v : World) (A : AreRulesInForm (rules_of g)) (k : Explanations (rules_of g) g.opening h stored v) (covered : AllKeepCovered v) (keyed : IsSmallRun g v) (told : AnswersHaveForm v) where
  abbrev r : Rules
  r = rules_of g

  u : Grounds r g.opening h v
  u = k.reasons.accounted.grounds

  few : g.script.targets < 2 ^ 8
  few = let low : g.script.targets ≤ 64 = A.few_targets in omega (arith, low)

  epochs-short : (l : Line) → Has l v.lines → HasShortEpochs l
  epochs-short l i = all-lines-are-short r g.opening h stored v A.some_target k.reasons.accounted covered l i

  -- ---- lines that tell of targets

  there : (l : Line) (t : ℕ) → Has l v.lines → target_of l ≡ Some t → t < 2 ^ 8
  there l t i is =
      let low : t < length v.targets = subst (IsBelowSome (length v.targets)) is (has-all (HasTarget (length v.targets)) v.lines l u.lives.bounded i) in
      let many : length v.targets ≡ g.script.targets = u.heard.many in
      let fit = few in
      omega (arith, low, many, fit)

  comes : (l : Line) → Has l v.lines → ComesOf r v.issued l
  comes l i = u.heard.makings.lines l i

  other-form : (l : Line) → Has l v.lines → is_try l ≡ false → IsLineOf g.script l
  other-form (line.Try a) i apart = let no : ⊥ = cc in absurd no
  other-form (line.Stop n t) i apart = (keyed.counts (line.Stop n t) i, there (line.Stop n t) t i refl)
  other-form (line.Restart n t incarnation floor) i apart =
      let counts = keyed.counts (line.Restart n t incarnation floor) i in
      record { which = counts.0; of_target = there (line.Restart n t incarnation floor) t i refl; opening = counts.1; issued = epochs-short (line.Restart n t incarnation floor) i }
  other-form (line.Freeze t cont epoch) i apart =
      let from = comes (line.Freeze t cont epoch) i in
      freeze-form g.script A.form keyed.script from.0 from.2.0 t cont epoch from.2.1 (there (line.Freeze t cont epoch) t i refl) (epochs-short (line.Freeze t cont epoch) i)
  other-form (line.Snapshot name cont epoch) i apart =
      let from = comes (line.Snapshot name cont epoch) i in
      snapshot-form g.script A.form keyed.script from.0 name cont epoch from.2 (epochs-short (line.Snapshot name cont epoch) i)
  other-form (line.Aggregate n t cont upto) i apart =
      let from = comes (line.Aggregate n t cont upto) i in
      aggregate-form g.script A.form keyed.script from.0 n t cont upto from.3 (there (line.Aggregate n t cont upto) t i refl) (keyed.counts (line.Aggregate n t cont upto) i) (epochs-short (line.Aggregate n t cont upto) i)
  other-form (line.Down t) i apart = there (line.Down t) t i refl

  -- ---- lines of attempts

  fit : AreLinesFit g v.lines
  fit = record {
    form = A.form;
    some = A.some_target;
    few = few;
    keys = keyed.script;
    ids = told-id r A.form A.some_attempt keyed.byte v u.lines;
    epochs = λ a i. epochs-short (line.Try a) (its-line v.lines a i);
    others = other-form;
  }

  short : AreShort v.issued
  short = record {
    id = issued-id r A.form A.some_attempt keyed.byte v u.lines (top g.opening) u.heard.epochs;
    epoch = issued-short r g.opening h stored v A.some_target k.reasons.accounted covered;
  }

  -- it ended as it was answered
  ended : (a : Attempt) → Has a (tries v.lines) → EndsAsAnswered (client_plan r a.id.client) a
  ended a i = by (slice_get v.clients a.id.client) refl
    where
      among : Has a (tries_of a.id.client v.lines)
      among = has-filter (is_of_client a.id.client) (tries v.lines) a i (same_number a.id.client)

      by : (o : Option ClientState) → slice_get v.clients a.id.client ≡ o → EndsAsAnswered (client_plan r a.id.client) a
      by None e = absurd (subst (Has a) (u.lines.nobody a.id.client e) among)
      by (Some c) e = has-all (EndsAsAnswered (client_plan r a.id.client)) (tries_of a.id.client v.lines) a (lines-answered r v a.id.client c u.lines e) among

  -- causes show over epochs that were issued, and over those of snapshots
  shown : CausesOverDates r g.opening 0 stored v
  shown = k.causes 0 (omega arith)

  attempt-form : (a : Attempt) → Has (line.Try a) v.lines → IsAttemptOf g.script a
  attempt-form a i =
      let among = try-among v.lines a i in
      let cut = has-cut v.lines (line.Try a) i in
      let t = told a among in
      record {
        id = fit.ids a among;
        epoch = fit.epochs a among;
        conds = t.1;
        gots = t.0;
        outcome =
            stands-form g stored shown.dated v.issued v.lines fit short (λ x e off j. issued-own r 0 shown.dated v shown.dates x e off j) cut.0 a a.outcome (ops_numbered (client_plan r a.id.client) a.id.command)
            (λ l j. subst (Has l) (sym cut.2) (has-left cut.0 (line.Try a ∷ cut.1) l j)) (fit.ids a among) t.1 (ended a among)
            (λ by epoch path is. later-reads_issued r g.opening stored v u.heard.epochs shown (k.causes 1 (omega arith)) cut.0 a cut.1 by epoch path cut.2 is)
            (shown.causes.lines cut.0 a cut.1 cut.2);
      }

  line-form : (l : Line) → Has l v.lines → IsLineOf g.script l
  line-form (line.Try a) i = attempt-form a i
  line-form (line.Stop n t) i = other-form (line.Stop n t) i refl
  line-form (line.Restart n t incarnation floor) i = other-form (line.Restart n t incarnation floor) i refl
  line-form (line.Freeze t cont epoch) i = other-form (line.Freeze t cont epoch) i refl
  line-form (line.Snapshot name cont epoch) i = other-form (line.Snapshot name cont epoch) i refl
  line-form (line.Aggregate n t cont upto) i = other-form (line.Aggregate n t cont upto) i refl
  line-form (line.Down t) i = other-form (line.Down t) i refl

  pub report-form : IsReportOf g.script (report_over r v)
  report-form = record { targets = few; lines = all-from_has (IsLineOf g.script) v.lines line-form; down = sym (down-is v.lines) }

-- ---- where targets stand for the opening

told-right : (g : Given) (held : ℕ → List Version) (stored : Stored) (h : History) (w v : World) → AreRulesInForm (rules_of g) → HoldsOpenings g.opening w → Explained (rules_of g) g.opening held h stored v → IsKeyedRun g v
    → AnswersHaveForm v
told-right g held stored h w v A holds k keyed a i =
    told-form g.script.objs (attempt_ops g.script a.id) (map_read g.script g.opening.stand (taken_in (transactions g.script h)) a a.epoch) a (ops-few g.script.targets g.script a.id A.form) (ops-form g.script.targets g.script a.id A.form)
    (λ m is. read-keys g.script g.opening.stand (taken_in (transactions g.script h)) a a.epoch m keyed.opening (λ e. as_of-keys g.opening.stand (taken_in (transactions g.script h)) e keyed.opening.now (decided-keys g.script h.decided keyed.small.script)) is)
    (lines-right (rules_of g) g.opening h g.script.targets a A.form k.contents.reads.answers (seen-dkeys (rules_of g) g.opening h A.form (opens-with_dkeys g.opening w holds)) (has-all (IsLineServed (rules_of g) h) (tries v.lines) a k.contents.gots.lines i))

pub all-runs-report_in_form : AllRunsReportInForm
all-runs-report_in_form g w v A B some holds run keyed =
    let k = runs-are_explained (rules_of g) g.opening w v A B some run in
    report-form g (stored_over (rules_of g) run) k.0 v A k.1.explanations (all-runs-are_covered (rules_of g) g.opening w v A (begins-well (rules_of g) g.opening w B) run) keyed.small
    (told-right g (held_at w) (stored_over (rules_of g) run) k.0 w v A holds k.1 keyed)
