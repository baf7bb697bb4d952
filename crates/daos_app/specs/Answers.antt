-- What the program writes, and what its answers stand for.
use Rattle.std.specs.Prelude.{ℕ, ◌≡◌, List, [], Option, Ok}
use Rattle.base_types.specs.declared.fault.ScriptFault.{ScriptFault}
use Rattle.base_types.specs.declared.job.Job.{Job}
use Rattle.base_types.specs.declared.job.Task.{Task}
use Rattle.base_types.specs.declared.job.Task.TheVariants.{Run, Load, Rebuild, Dfs, Audit}
use Rattle.base_types.specs.declared.report.Report.{Report}
use Rattle.base_types.specs.declared.script.Script.{Script}
use Rattle.daos_gen.specs.Scripts.{script_of}
use Rattle.daos_app.specs.Inputs.{IsRead, IsRefused}
use Rattle.daos_app.specs.Words.{run_job_of}
use Rattle.model_lone.specs.Only.{TellsOfOnlyClient}
use Rattle.model_reports.specs.Lone.{HasOneClient}
use Rattle.daos_model.specs.Opening.{Given, fresh}
use Rattle.report_writer.specs.Forms.{IsReportOf}
use Rattle.script_traits.specs.Plain.{IsPlain}
use Rattle.report_writer.specs.Reports.{report_text}
use Rattle.model_reports.specs.Rooms.{FindsRoom, HasPlaces, HasRoom, SnapshotsFindPlaces}
use Rattle.daos_run.specs.Alone.{IsOfLoneClient}
use Rattle.daos_run.specs.Back.{IsReadBack}
use Rattle.daos_run.specs.Comes.{FindsPlaces, FollowsFromZeros, AreIssuedThere}
use Rattle.daos_run.specs.Legal.{IsInRealTime, IsLegal}
use Rattle.daos_status.specs.declared.status.Status.{Status}
use Rattle.daos_status.specs.declared.status.Status.TheVariants as status
use Rattle.daos_summary.specs.Summaries.{summary_text}

-- ---- what is written

-- What the report of a run is: legal for the script by the headline, over regions of zeros that nothing disturbs, whichever attempts are taken
-- as resolved; and in the form in which a text determines its report, which is read back of its text.
-- It tells of turns in the order asked, where each target issues epochs at the readings that the clock handed out for it gives, and no more of its turns are
-- cut, and no more of its openings fail, than the script has stop lines for it; the targets of the run issued all epochs; and where there is room for all
-- that the script writes, and places for its snapshots, no attempt is refused for want of these, nor one to make a snapshot where there are places, whatever
-- room there is. The order of epochs is that of real time where the clocks keep the bound. A client that is alone is never told to restart where the script asks for no stop, and of a script
-- without snapshots more is said of it.
pub record IsRunReport {C : Type 0} (gives : ℕ → C → Type 0) (is_read : C → C → Type 0) (next_reading : C → Option ℕ) (g : Given) (q : Report) : Type 0 where
  pub form : IsReportOf g.script q
  pub back : IsReadBack g.script q
  pub legal : IsLegal g q
  pub ordered : FollowsFromZeros gives is_read next_reading g q
  pub issued : AreIssuedThere q
  pub in_real_time : IsInRealTime g q
  pub room : FindsPlaces g.script g.job.attempts 0 → HasRoom g.script g.job.attempts g.opening.free → FindsRoom q
  pub places : HasPlaces g.script g.job.attempts 0 → SnapshotsFindPlaces g.script q
  pub alone : HasOneClient g.script → g.script.stops ≡ [] → TellsOfOnlyClient g.script q
  pub lone : IsPlain g.script → HasOneClient g.script → g.script.stops ≡ [] → IsOfLoneClient g q

-- the text of such a report
pub record IsReported {C : Type 0} (gives : ℕ → C → Type 0) (is_read : C → C → Type 0) (next_reading : C → Option ℕ) (job : Job) (script : Script) (text : List ℕ) : Type 0 where
  pub report : Report
  pub of_run : IsRunReport gives is_read next_reading (fresh script job) report
  pub told : text ≡ report_text script report

-- the summary of such a report, of the generated script of so many commands; that makes no snapshot and asks for no stop, so what is said of a report
-- without these is said of this one
pub record IsSummed {C : Type 0} (gives : ℕ → C → Type 0) (is_read : C → C → Type 0) (next_reading : C → Option ℕ) (job : Job) (count : ℕ) (text : List ℕ) : Type 0 where
  pub report : Report
  pub of_run : IsRunReport gives is_read next_reading (fresh (script_of job.targets count) job) report
  pub told : text ≡ summary_text report count

-- what a run tells: the source was read to its end, and the text is that of one report for the script that was read, for the targets asked
pub record IsRun {C : Type 0} (gives : ℕ → C → Type 0) (is_read : C → C → Type 0) (next_reading : C → Option ℕ) (job : Job) (left left_now : Option (List ℕ)) (text : List ℕ) : Type 0 where
  pub script : Script
  pub read : IsRead job.targets left left_now script
  pub reported : IsReported gives is_read next_reading job script text

-- what a job tells: a run its report, a load the summary of its report; no other is run so far
abbrev pub IsTextOf : {C : Type 0} → (ℕ → C → Type 0) → (C → C → Type 0) → (C → Option ℕ) → Job → Task → Option (List ℕ) → Option (List ℕ) → List ℕ → Type 0
IsTextOf gives is_read next_reading job Run left left_now text = IsRun gives is_read next_reading job left left_now text
IsTextOf gives is_read next_reading job (Load count) left left_now text = IsSummed gives is_read next_reading job count text
IsTextOf gives is_read next_reading job (Rebuild target) left left_now text = ⊥
IsTextOf gives is_read next_reading job Dfs left left_now text = ⊥
IsTextOf gives is_read next_reading job Audit left left_now text = ⊥

-- what the program writes for words and the bytes that were read: what the job tells that the words ask for
pub record IsTold {C : Type 0} (gives : ℕ → C → Type 0) (is_read : C → C → Type 0) (next_reading : C → Option ℕ) (words : List (List ℕ)) (left left_now : Option (List ℕ)) (text : List ℕ) : Type 0 where
  pub job : Job
  pub asked : run_job_of words ≡ Ok job
  pub told : IsTextOf gives is_read next_reading job job.task left left_now text

-- words ask for a load that is run so far
pub record AsksLoad (words : List (List ℕ)) : Type 0 where
  pub job : Job
  pub asked : run_job_of words ≡ Ok job
  pub count : ℕ
  pub load : job.task ≡ Load count

-- ---- answers

-- the answers that the program gives so far
abbrev pub IsAnswerSoFar : Status → Type 0
IsAnswerSoFar status.Done = Unit {0}
IsAnswerSoFar (status.Words fault) = Unit {0}
IsAnswerSoFar (status.Script fault) = Unit {0}
IsAnswerSoFar status.ReadFault = Unit {0}
IsAnswerSoFar status.WriteFault = Unit {0}
IsAnswerSoFar (status.RackFault target) = ⊥
IsAnswerSoFar (status.Foreign target at byte) = ⊥
IsAnswerSoFar status.Memory = Unit {0}
IsAnswerSoFar (status.Down target) = ⊥
IsAnswerSoFar (status.Shape target what found asked) = ⊥
IsAnswerSoFar (status.NotEmpty target at byte) = ⊥
IsAnswerSoFar (status.Room target need free) = ⊥
IsAnswerSoFar (status.BadReport line) = ⊥

-- the answers before a run: no region was asked for
abbrev pub IsBeforeRun : Status → Type 0
IsBeforeRun status.Done = ⊥
IsBeforeRun (status.Words fault) = Unit {0}
IsBeforeRun (status.Script fault) = Unit {0}
IsBeforeRun status.ReadFault = Unit {0}
IsBeforeRun status.WriteFault = ⊥
IsBeforeRun (status.RackFault target) = ⊥
IsBeforeRun (status.Foreign target at byte) = ⊥
IsBeforeRun status.Memory = ⊥
IsBeforeRun (status.Down target) = ⊥
IsBeforeRun (status.Shape target what found asked) = ⊥
IsBeforeRun (status.NotEmpty target at byte) = ⊥
IsBeforeRun (status.Room target need free) = ⊥
IsBeforeRun (status.BadReport line) = ⊥

-- the answers to a load: nothing is read, so no script is refused and no source fails
abbrev pub IsAnswerOfLoad : Status → Type 0
IsAnswerOfLoad status.Done = Unit {0}
IsAnswerOfLoad (status.Words fault) = ⊥
IsAnswerOfLoad (status.Script fault) = ⊥
IsAnswerOfLoad status.ReadFault = ⊥
IsAnswerOfLoad status.WriteFault = Unit {0}
IsAnswerOfLoad (status.RackFault target) = ⊥
IsAnswerOfLoad (status.Foreign target at byte) = ⊥
IsAnswerOfLoad status.Memory = Unit {0}
IsAnswerOfLoad (status.Down target) = ⊥
IsAnswerOfLoad (status.Shape target what found asked) = ⊥
IsAnswerOfLoad (status.NotEmpty target at byte) = ⊥
IsAnswerOfLoad (status.Room target need free) = ⊥
IsAnswerOfLoad (status.BadReport line) = ⊥

-- words ask for a job, and the bytes read are refused as a script for its targets
pub record RefusesScript (words : List (List ℕ)) (left left_now : Option (List ℕ)) (fault : ScriptFault) : Type 0 where
  pub job : Job
  pub asked : run_job_of words ≡ Ok job
  pub why : IsRefused job.targets left left_now fault

-- why nothing is written, before the sink is asked; a script is refused for such a fault
abbrev pub IsRefusal : (ScriptFault → Type 0) → Status → Type 0
IsRefusal refuses status.Done = ⊥
IsRefusal refuses (status.Words fault) = Unit {0}
IsRefusal refuses (status.Script fault) = refuses fault
IsRefusal refuses status.ReadFault = Unit {0}
IsRefusal refuses status.WriteFault = ⊥
IsRefusal refuses (status.RackFault target) = ⊥
IsRefusal refuses (status.Foreign target at byte) = ⊥
IsRefusal refuses status.Memory = Unit {0}
IsRefusal refuses (status.Down target) = ⊥
IsRefusal refuses (status.Shape target what found asked) = ⊥
IsRefusal refuses (status.NotEmpty target at byte) = ⊥
IsRefusal refuses (status.Room target need free) = ⊥
IsRefusal refuses (status.BadReport line) = ⊥
