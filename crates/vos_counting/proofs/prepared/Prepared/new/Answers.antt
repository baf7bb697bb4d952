use Rattle.vos_counting.specs.Counting.{entries_of}
use Rattle.vos_counting.specs.Prepared.{counts_in}
use Rattle.vos_counting.proofs.Names.{counts_so}
use Rattle.vos_counting.proofs.prepared.Prepared.new.Goals as goal

pub returns : goal.returns
unfolding counts_in
returns c = counts_so c.in_ok-names.names (entries_of c.args.rows.now) c.in_ok-names.ensures
