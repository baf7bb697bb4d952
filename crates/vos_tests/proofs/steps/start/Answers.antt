use Rattle.vos_tests.proofs.Allowed.{no_lease_yet, started_is}
use Rattle.vos_tests.proofs.steps.start.Goals as goal

pub extend_lease-requires-clause-on : goal.extend_lease-requires-clause-on
extend_lease-requires-clause-on g c = λ run. no_lease_yet (g.S.Store.durable c.args.store.now) (g.S.Store.durable c.enlist.new.self) c.requires.empty c.in_ok-enlist.ensures.kept.done

pub returns-clause-kept : goal.returns-clause-kept
returns-clause-kept g c =
    started_is (g.S.Store.durable c.args.store.now) (g.S.Store.durable c.enlist.new.self) (g.S.Store.durable c.extend_lease.new.self) c.requires.empty c.in_ok-enlist.ensures.kept.done
    c.in_ok-extend_lease.ensures.kept.done
