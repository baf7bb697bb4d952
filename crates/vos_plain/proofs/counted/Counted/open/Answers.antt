use Rattle.std.proofs.Common.{◌∙◌, ap}
use Rattle.vos_contents.specs.Contents.{contents_of}
use Rattle.vos_plain.specs.Costs.{taken_by}
use Rattle.vos_plain.proofs.Taken.{still-counted, taken-reopened}
use Rattle.vos_plain.proofs.counted.Counted.open.Goals as goal

pub invariant_of-self : goal.invariant_of-self
invariant_of-self c =
    let d = contents_of c.args.self.now.kept in
    let s = still-counted d (contents_of c.open.new.self) c.args.self.now.taken c.args.self.now.capacity (ap taken_by c.open.ensures.kept ∙ taken-reopened d) c.args.self.now.counted c.args.self.now.room in
    record { counted = s.0; room = s.1 }
