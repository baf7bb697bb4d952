-- The summary of a load.
use Rattle.std.proofs.Common.{◌≡◌, ℕ, List, Option, subst}
use Rattle.base_types.specs.declared.job.Job.{Job}
use Rattle.base_types.specs.declared.report.Report.{Report}
use Rattle.base_types.specs.declared.script.Script.{Script}
use Rattle.daos_gen.specs.Scripts.{script_of}
use Rattle.daos_model.specs.Opening.{fresh}
use Rattle.daos_summary.specs.Summaries.{summary_text}
use Rattle.daos_app.specs.Answers.{IsRunReport, IsSummed}

pub summed : {C : Type 0} (gives : ℕ → C → Type 0) (is_read : C → C → Type 0) (next_reading : C → Option ℕ) (job : Job) (count : ℕ) (s : Script) (q : Report) (text : List ℕ) → s ≡ script_of job.targets count → IsRunReport gives is_read next_reading (fresh s job) q → text ≡ summary_text q count → IsSummed gives is_read next_reading job count text
summed gives is_read next_reading job count s q text is of told = record { report = q; of_run = subst (λ t. IsRunReport gives is_read next_reading (fresh t job) q) is of; told = told }
