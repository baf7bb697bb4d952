use Rattle.run_tests.proofs.Runs.{opened-again}
use Rattle.run_tests.proofs.lone.reopen.Goals as goal

pub returns-in-Ok : goal.returns-in-Ok
returns-in-Ok g c = record {
  ready = opened-again c.args.parts.now c.take.new.self c.set.new.self c.requires.left (c.in-Some.store, c.in-Some.clock) c.reopen-opened.new.self c.incarnation-incarnation.result c.in-Some.ensures.taken c.in-Some.ensures.left c.set.ensures c.in-Ok.ensures.call.stops c.in-Ok.ensures.kept.found c.incarnation-incarnation.ensures c.if-incarnation-le1000.true;
}
