use Rattle.daos_app.proofs.Loads.{summed}
use Rattle.daos_app.proofs.runs.load_text.Goals as goal

pub returns-clause-summed : goal.returns-clause-summed
returns-clause-summed g c =
    let ran = c.in_ok-report.ensures in
    summed _ _ _ c.args.job.now c.args.count c.in_ok-script.script c.in_ok-report.report _ c.in_ok-script.ensures.exact
    (record { form = ran.form c.in_ok-script.ensures.keys; back = ran.back c.in_ok-script.ensures.keys; legal = ran.legal; ordered = ran.ordered; issued = ran.issued; in_real_time = ran.in_real_time; room = ran.room; places = ran.places; alone = ran.alone; lone = ran.lone }) c.in_ok-summary_text.ensures
