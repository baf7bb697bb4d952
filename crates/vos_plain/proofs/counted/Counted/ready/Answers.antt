use Rattle.vos_plain.proofs.Taken.{blocks-ready}
use Rattle.vos_plain.proofs.counted.Counted.ready.Goals as goal

pub returns-clause-blocks : goal.returns-clause-blocks
returns-clause-blocks c = blocks-ready c.ready.result c.args.entry.now c.args.writes.now c.ready.new.self.rows.coming c.ready.ensures.versions
