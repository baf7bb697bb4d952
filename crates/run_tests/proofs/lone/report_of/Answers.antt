use Rattle.run_tests.proofs.Runs.{all-kept, can-open-all, free-of-nothing, is-left, may-run-all}
use Rattle.run_tests.proofs.lone.report_of.Goals as goal

pub run_on-requires-clause-stores : goal.run_on-requires-clause-stores
run_on-requires-clause-stores g c κs within = may-run-all c.args.parts.now c.requires.ready

pub run_on-requires-clause-sound : goal.run_on-requires-clause-sound
run_on-requires-clause-sound g c κs within = can-open-all c.args.parts.now c.requires.ready

pub returns-in-Ok : goal.returns-in-Ok
returns-in-Ok g c =
    let ready = c.requires.ready in
    record { left = is-left c.args.parts.now ready c.run_on.new.parts c.run_on.ensures.set _ c.in-Ok.report (c.in-Ok.ensures.comes _ (all-kept c.args.parts.now ready) (λ t. 0) (free-of-nothing c.args.parts.now ready)) }
