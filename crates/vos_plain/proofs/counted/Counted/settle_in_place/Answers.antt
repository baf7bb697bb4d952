use Rattle.std.proofs.Common.{◌∙◌, ap}
use Rattle.vos_contents.specs.Contents.{contents_of}
use Rattle.vos_plain.specs.Costs.{taken_by}
use Rattle.vos_plain.proofs.Taken.{still-counted, taken-in_place}
use Rattle.vos_plain.proofs.counted.Counted.settle_in_place.Goals as goal

pub invariant_of-self : goal.invariant_of-self
invariant_of-self c =
    let d = contents_of c.args.self.now.kept in
    let s = still-counted d (contents_of c.settle.new.self) c.args.self.now.taken c.args.self.now.capacity (ap taken_by c.settle.ensures.kept ∙ taken-in_place c.args.attempt c.args.step d c.requires.stays) c.args.self.now.counted c.args.self.now.room in
    record { counted = s.0; room = s.1 }
