-- From its beginning to where it has ended: the report of any run is legal, and the targets stand for it.
use Rattle.std.specs.Prelude.{ℕ, ◌≡◌, true, false, is_some, length, List}
use Rattle.std.proofs.Common.{subst, arith}
use Rattle.base_types.specs.declared.outcome.Outcome.TheVariants as outcome
use Rattle.base_types.specs.declared.report.Attempt.{Attempt}
use Rattle.model_laws.specs.Members.{Has}
use Rattle.model_reports.specs.Lines.{line-of}
use Rattle.daos_model.specs.declared.durable.Version.{Version}
use Rattle.daos_model.specs.Attempts.{snapshot_of, tries}
use Rattle.daos_model.specs.Family.{resolved}
use Rattle.daos_model.specs.Headline.{Headline}
use Rattle.daos_model.specs.Opening.{Given, Outside}
use Rattle.world_base.specs.declared.world.World.{World}
use Rattle.world_base.specs.Events.{Rules}
use Rattle.world_answers.specs.world_causes.causes.Causes.{Stored}
use Rattle.world_closing.specs.Issued.{IssuedOnce}
use Rattle.world_answers.specs.world_causes.causes.Shown.{Causes, OutcomeStands}
use Rattle.world_upheld.specs.upheld.Events.{given-before}
use Rattle.world_commit.specs.attempts.History.{History}
use Rattle.world_upheld.specs.below.Legal.{Concluded, report_over, durables_of}
use Rattle.world_letters.specs.lines.LastLines.{AreDone, HasClients}
use Rattle.world_letters.specs.lives.Counting.{AreCountedSo}
use Rattle.world_letters.specs.lives.Legal.{AreCaused, NoneIsStopped}
use Rattle.world_closing.specs.legal.LinesApart.{lines-apart}
use Rattle.world_closing.specs.Rules.{rules_of}
use Rattle.world_upheld.specs.causing.Dates.{with_dates}
use Rattle.world_upheld.specs.causing.OverDates.{CausesOverDates, later-reads_issued}
use Rattle.world_upheld.specs.explained.Explanations.{Explained, upheld_of}
use Rattle.world_upheld.specs.upheld.Begins.{AreRulesInForm}
use Rattle.world_closing.specs.Causes.{last-causes_show}
use Rattle.world_closing.specs.legal.Naming.{ReadsNameSnapshots}
use Rattle.world_closing.specs.legal.Outcomes.{OutcomesHold, in-turn, outcomes-are_legal}
use Rattle.world_closing.specs.legal.Reads.{AreLines, OpensWithDkeys, reads-are_legal}
use Rattle.world_closing.specs.legal.Told.{EndsTold, ends-are_told}

-- ---- the end

-- What is known where a run is over: all that is explained, of what was decided and stored; readers of snapshots read as named, and each attempt
-- was issued one epoch once; there is a target for each number, and a client for each list; all clients are done, and no target is stopped; and
-- what became of attempts is known.
pub record IsOverSo (g : Given) (held : ℕ → List Version) (h : History) (stored : Stored) (v : World) : Type 0 where
  pub explained : Explained (rules_of g) g.opening held h stored v
  pub names : ReadsNameSnapshots (rules_of g) g.opening v
  pub once : IssuedOnce v
  pub targets : length v.targets ≡ g.script.targets
  pub clients : HasClients (rules_of g) v
  pub done : AreDone (rules_of g) v
  pub none_stopped : NoneIsStopped v
  pub concluded : Concluded (rules_of g) g.opening held h v

module _ (g : Given) (outside : Outside) (held : ℕ → List Version) (h : History) (stored : Stored) (v : World) (A : AreRulesInForm (rules_of g)) (opens : OpensWithDkeys g.opening) (k : IsOverSo g held h stored v) where
  abbrev r : Rules
  r = rules_of g

  over-dates : CausesOverDates r g.opening 0 stored v
  over-dates = k.explained.explanations.causes 0 (omega arith)

  causes : Causes r g.opening stored (with_dates over-dates.dated v)
  causes = over-dates.causes

  -- only who reads at a snapshot ends for want of one
  wants : (a : Attempt) → Has a (tries v.lines) → a.outcome ≡ outcome.NoSnapshot → is_some (snapshot_of g.script a.id) ≡ true
  wants a i how = let z = line-of v.lines a i in subst (OutcomeStands r g.opening stored over-dates.dated z.before a.id) how (causes.lines z.before a z.after z.among)

  outcomes : OutcomesHold g held h v
  outcomes = record { upheld = upheld_of k.explained; names = k.names; wants = wants; targets = k.targets; clients = k.clients; done = k.done; none_stopped = k.none_stopped }

  -- of each attempt there is one line
  are-lines : AreLines v
  are-lines = record {
    differ = (given-before r g.opening h v k.explained.explanations.reasons.accounted.grounds.heard).apart;
    apart = lines-apart g.job.attempts g.script v.lines (in-turn g outside held h v outcomes);
  }

  told : EndsTold g stored over-dates.dated v
  told = record {
    form = A.form;
    epochs = k.explained.explanations.reasons.accounted.grounds.heard.epochs;
    dates = over-dates.dates;
    once = k.once;
    stored_once = k.explained.explanations.reasons.accounted.once.so;
    later = later-reads_issued r g.opening stored v k.explained.explanations.reasons.accounted.grounds.heard.epochs (k.explained.explanations.causes 0 (omega arith)) (k.explained.explanations.causes 1 (omega arith));
    done = k.done;
    in_turn = in-turn g outside held h v outcomes;
    names = k.names;
  }

  module _ (caused : AreCaused g.script outside v) (counted : g.job.threads ≡ false → AreCountedSo v) where
    pub report-legal : Headline g outside (resolved (durables_of v)) (report_over r v)
    report-legal = record {
      reads = reads-are_legal r g.opening held h v A.form opens k.explained.contents.gots k.concluded are-lines;
      outcomes = outcomes-are_legal g outside held h v outcomes caused counted;
      causes = last-causes_show g stored over-dates.dated v (ends-are_told g stored over-dates.dated v told) causes;
    }

-- Then the report of its lines is legal.
abbrev pub AllReportsAreLegal : Type 0
AllReportsAreLegal =
    (g : Given) (outside : Outside) (held : ℕ → List Version) (h : History) (stored : Stored) (v : World) → AreRulesInForm (rules_of g) → OpensWithDkeys g.opening → IsOverSo g held h stored v → AreCaused g.script outside v
    → (g.job.threads ≡ false → AreCountedSo v) → Headline g outside (resolved (durables_of v)) (report_over (rules_of g) v)

pub reports-are_legal : AllReportsAreLegal
reports-are_legal g outside held h stored v A opens k caused counted = report-legal g outside held h stored v A opens k caused counted
