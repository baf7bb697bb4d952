-- Of a run from its beginning to where it is over, and where it is known what became of attempts and what the targets stand for: its report is
-- legal, and the targets stand for it.
use Rattle.std.specs.Prelude.{◌≡◌, false}
use Rattle.std.proofs.Common.{◌∙◌}
use Rattle.daos_model.specs.Finals.{HeadlineOver, StandInTheEnd}
use Rattle.daos_model.specs.Opening.{Given, Outside}
use Rattle.daos_model.specs.Order.{AllInTurn}
use Rattle.world_base.specs.declared.world.World.{World}
use Rattle.world_base.specs.Ended.{HasEnded}
use Rattle.world_base.specs.Events.{Rules}
use Rattle.world_base.specs.Stops.{WorldRun}
use Rattle.world_upheld.specs.upheld.Events.{given-before}
use Rattle.world_upheld.specs.upheld.Upheld.{Grounds}
use Rattle.world_commit.specs.attempts.History.{History}
use Rattle.world_upheld.specs.below.Legal.{Concluded, IsOver, report_over, runs-as_many, stored_over, durables_of}
use Rattle.world_letters.specs.lines.LastLines.{lines-in-turn}
use Rattle.world_letters.specs.lives.Counting.{AreCountedSo}
use Rattle.world_letters.specs.lives.Legal.{AreCaused}
use Rattle.world_closing.specs.legal.LinesApart.{lines-apart}
use Rattle.world_closing.specs.Rules.{rules_of}
use Rattle.world_upheld.specs.explained.Explanations.{HoldNoMoreSnapshots}
use Rattle.world_upheld.specs.explained.Runs.{runs-are_explained}
use Rattle.world_upheld.specs.upheld.Begins.{AreRulesInForm, RunBeginsWell, RunBeginsWith, held_at}
use Rattle.world_upheld.specs.upheld.Runs.{runs-have_grounds}
use Rattle.world_closing.specs.legal.Following.{HoldsKept}
use Rattle.world_closing.specs.legal.Headline.{reports-are_legal}
use Rattle.world_closing.specs.legal.Moments.{runs-issue_once, runs-name}
use Rattle.world_closing.specs.legal.Reads.{AreLines, OpensWithDkeys}

-- ---- lines

-- where a run is over the lines of clients stand in turn, whatever its targets' versions stood for when it began
abbrev pub AllEndsAreInTurn : Type 0
AllEndsAreInTurn = (g : Given) (w v : World) → AreRulesInForm (rules_of g) → RunBeginsWell (rules_of g) g.opening w → WorldRun (rules_of g) w v → IsOver (rules_of g) v → AllInTurn g.job.attempts g.script v.lines

pub ends-in_turn : AllEndsAreInTurn
ends-in_turn g w v A B run over = lines-in-turn (rules_of g) v (runs-have_grounds (rules_of g) g.opening w v A B run).1.lines over.done over.clients

-- and of each attempt there is one line
abbrev pub AllEndsHaveLines : Type 0
AllEndsHaveLines = (g : Given) (w v : World) → AreRulesInForm (rules_of g) → RunBeginsWell (rules_of g) g.opening w → WorldRun (rules_of g) w v → IsOver (rules_of g) v → AreLines v

pub ends-have_lines : AllEndsHaveLines
ends-have_lines g w v A B run over = record {
  differ = (given-before (rules_of g) g.opening grounds.0 v grounds.1.heard).apart;
  apart = lines-apart g.job.attempts g.script v.lines (ends-in_turn g w v A B run over);
}
  where
    grounds : (h : History) × Grounds (rules_of g) g.opening h v
    grounds = runs-have_grounds (rules_of g) g.opening w v A B run

-- ---- the headline

-- What else is known of the end: the run is over; what became of attempts, of what was decided by then; and what the targets stand for.
pub record EndIsKnown (g : Given) (w v : World) (h : History) : Type 0 where
  pub over : IsOver (rules_of g) v
  pub concluded : Concluded (rules_of g) g.opening (held_at w) h v
  pub stands : StandInTheEnd g (durables_of v) (report_over (rules_of g) v)

-- what a run begins with: all that any run begins with, no more snapshots than the opening keeps maps of, those it keeps, and no map with a cell
-- without a dkey
pub record BeginsWhole (g : Given) (w : World) : Type 0 where
  pub form : AreRulesInForm (rules_of g)
  pub begins : RunBeginsWith (rules_of g) g.opening w
  pub few : HoldNoMoreSnapshots g.opening w
  pub held : HoldsKept g.opening w
  pub dkeys : OpensWithDkeys g.opening

-- what was decided, aborted and served at the end of a run
abbrev pub history_of : (g : Given) (w v : World) → BeginsWhole g w → WorldRun (rules_of g) w v → History
history_of g w v b run = (runs-are_explained (rules_of g) g.opening w v b.form b.begins b.few run).0

-- Where stops and given up targets were caused from outside, and the numbers of restarts and aggregations are counted by the lines if turns are
-- taken in a stated order, the report of the lines is legal in each part; and the targets stand for what it tells.
abbrev pub KnownEndsAreLegal : Type 0
KnownEndsAreLegal =
    (g : Given) (outside : Outside) (w v : World) (b : BeginsWhole g w) (run : WorldRun (rules_of g) w v) → EndIsKnown g w v (history_of g w v b run)
    → AreCaused g.script outside v → (g.job.threads ≡ false → AreCountedSo v) → HeadlineOver g outside (durables_of v) (report_over (rules_of g) v)

pub known-ends_legal : KnownEndsAreLegal
known-ends_legal g outside w v b run k caused counted = record {
  told = reports-are_legal g outside (held_at w) (history_of g w v b run) (stored_over r run) v b.form b.dkeys (record {
    explained = (runs-are_explained r g.opening w v b.form b.begins b.few run).1;
    names = runs-name r g.opening w v b.form b.begins b.held run;
    once = runs-issue_once r g.opening w v b.form b.begins run;
    targets = (runs-as_many r w v run).targets ∙ b.begins.targets;
    clients = k.over.clients;
    done = k.over.done;
    none_stopped = k.over.targets;
    concluded = k.concluded;
  }) caused counted;
  stands = k.stands;
}
  where
    r : Rules
    r = rules_of g

-- So it is of each run that has ended, where it is known of each that it is over so.
abbrev pub EndsAreKnown : Type 0
EndsAreKnown = (g : Given) (w v : World) (b : BeginsWhole g w) (run : WorldRun (rules_of g) w v) → HasEnded (rules_of g) v → EndIsKnown g w v (history_of g w v b run)

abbrev pub AllEndedRunsAreLegal : Type 0
AllEndedRunsAreLegal =
    (g : Given) (outside : Outside) (w v : World) → BeginsWhole g w → WorldRun (rules_of g) w v → HasEnded (rules_of g) v
    → AreCaused g.script outside v → (g.job.threads ≡ false → AreCountedSo v) → HeadlineOver g outside (durables_of v) (report_over (rules_of g) v)

abbrev pub EndedRunsFollow : Type 0
EndedRunsFollow = EndsAreKnown → AllEndedRunsAreLegal

pub ended-runs_follow : EndedRunsFollow
ended-runs_follow known g outside w v b run ended caused counted = known-ends_legal g outside w v b run (known g w v b run ended) caused counted
