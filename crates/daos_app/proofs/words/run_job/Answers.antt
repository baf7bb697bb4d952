use Rattle.std.proofs.Common.{sym, ◌∙◌, map, string_bytes}
use Rattle.std.proofs.lemmas.Result.{err_from_is_err_and}
use Rattle.daos_app.proofs.Asked.{fault_stays, job_is_read, more_is_asked, run_is_asked}
use Rattle.daos_app.proofs.words.run_job.Goals as goal

pub returns-in_err-job-clause-refused : goal.returns-in_err-job-clause-refused
returns-in_err-job-clause-refused c =
    let p = err_from_is_err_and c.from_residual.result c.from_residual.ensures.1 in
    rw (p.1, p.2) (fault_stays (map string_bytes c.args.words.now) c.in_err-job.field-0.0 (sym c.read_words.ensures ∙ c.in_err-job.was))

pub returns-then-is_run-clause-job : goal.returns-then-is_run-clause-job
returns-then-is_run-clause-job c = run_is_asked (map string_bytes c.args.words.now) c.in_ok-job.job (sym c.read_words.ensures ∙ c.in_ok-job.was) (sym c.if-is_run.ensures)

pub returns-clause-refused : goal.returns-clause-refused
returns-clause-refused c =
    rw c.place_of_more.ensures.exact (more_is_asked (map string_bytes c.args.words.now) c.in_ok-job.job (sym c.read_words.ensures ∙ c.in_ok-job.was) (sym c.if-is_run.ensures))

pub returns-then-is_run-clause-form : goal.returns-then-is_run-clause-form
returns-then-is_run-clause-form c = c.words_are_jobs.ensures.form (map string_bytes c.args.words.now) c.in_ok-job.job (job_is_read (map string_bytes c.args.words.now) c.in_ok-job.job (sym c.read_words.ensures ∙ c.in_ok-job.was))
