use Rattle.vos_contents.specs.Contents.{contents_of}
use Rattle.vos_plain.proofs.Taken.{enlisted-or-not, still-counted}
use Rattle.vos_plain.proofs.counted.Counted.enlist.Goals as goal

pub invariant_of-self : goal.invariant_of-self
invariant_of-self c =
    let d = contents_of c.args.self.now.kept in
    let s = still-counted d (contents_of c.enlist.new.self) c.args.self.now.taken c.args.self.now.capacity (enlisted-or-not c.enlist.result c.args.conts.now d (contents_of c.enlist.new.self) c.enlist.ensures.kept c.enlist.ensures.refused) c.args.self.now.counted c.args.self.now.room in
    record { counted = s.0; room = s.1 }
