use Rattle.daos_app.proofs.runs.run_text.Goals as goal

pub returns-clause-reported : goal.returns-clause-reported
returns-clause-reported g c =
    let ran = c.in_ok-report.ensures in
    record {
      report = c.in_ok-report.report;
      of_run = record { form = ran.form c.requires.keys; back = ran.back c.requires.keys; legal = ran.legal; ordered = ran.ordered; issued = ran.issued; in_real_time = ran.in_real_time; room = ran.room; places = ran.places; alone = ran.alone; lone = ran.lone };
      told = c.in_ok-report_text.ensures;
    }
