-- What refusals tell.
use Rattle.std.specs.Prelude.{List, ℕ, Option, IfErr, Result}
use Rattle.std.proofs.Common.{◌≡◌, Ok, Err}
use Rattle.daos_app.specs.Answers.{IsRefusal, RefusesScript}
use Rattle.base_types.specs.declared.job.Job.{Job}
use Rattle.daos_app.specs.Inputs.{IsRefused}
use Rattle.daos_app.specs.Words.{run_job_of}
use Rattle.daos_status.specs.declared.status.Status.{Status}
use Rattle.daos_status.specs.declared.status.Status.TheVariants as status

abbrev refusal : {T E : Type 0} → E → Result T E
refusal e = Err e

-- two refusals that are equal tell the same
pub same_error : {T E : Type 0} {a b : E} → refusal {T = T} a ≡ refusal b → a ≡ b
same_error e = cc

-- what is refused as a script for the targets of a job is refused for the words that ask for the job
pub refused_for : (words : List (List ℕ)) (job : Job) (left left_now : Option (List ℕ)) (s : Status) → run_job_of words ≡ Ok job → IsRefusal (IsRefused job.targets left left_now) s → IsRefusal (RefusesScript words left left_now) s
refused_for words job left left_now status.Done asked k = k
refused_for words job left left_now (status.Words fault) asked k = k
refused_for words job left left_now (status.Script fault) asked k = record { job = job; asked = asked; why = k }
refused_for words job left left_now status.ReadFault asked k = k
refused_for words job left left_now status.WriteFault asked k = k
refused_for words job left left_now (status.RackFault target) asked k = k
refused_for words job left left_now (status.Foreign target at byte) asked k = k
refused_for words job left left_now status.Memory asked k = k
refused_for words job left left_now (status.Down target) asked k = k
refused_for words job left left_now (status.Shape target what found asked') asked k = k
refused_for words job left left_now (status.NotEmpty target at byte) asked k = k
refused_for words job left left_now (status.Room target need free) asked k = k
refused_for words job left left_now (status.BadReport line) asked k = k

pub all_refused_for : {T : Type 0} (words : List (List ℕ)) (job : Job) (left left_now : Option (List ℕ)) (r : Result T Status) → run_job_of words ≡ Ok job → IfErr r (IsRefusal (IsRefused job.targets left left_now)) → IfErr r (IsRefusal (RefusesScript words left left_now))
all_refused_for words job left left_now (Ok x) asked k = tt
all_refused_for words job left left_now (Err s) asked k = refused_for words job left left_now s asked k
