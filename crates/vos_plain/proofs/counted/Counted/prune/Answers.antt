use Rattle.std.proofs.Common.{ap, arith}
use Rattle.vos_contents.specs.Contents.{contents_of}
use Rattle.vos_plain.specs.Costs.{taken_by}
use Rattle.vos_plain.proofs.Taken.{taken-pruned}
use Rattle.vos_plain.proofs.counted.Counted.prune.Goals as goal

pub taken_by-self-requires : goal.taken_by-self-requires
taken_by-self-requires c =
    let d = contents_of c.args.self.now.kept in
    let same = ap taken_by c.prune.ensures.kept in
    let fewer = taken-pruned c.args.cont c.args.upto c.args.number d in
    record { few = omega (arith, same, fewer, c.args.self.now.room) }

pub invariant_of-self : goal.invariant_of-self
invariant_of-self c =
    let d = contents_of c.args.self.now.kept in
    let same = ap taken_by c.prune.ensures.kept in
    let fewer = taken-pruned c.args.cont c.args.upto c.args.number d in
    record { counted = c.taken_by-self.ensures; room = omega (arith, same, fewer, c.args.self.now.room) }

pub returns-clause-free : goal.returns-clause-free
returns-clause-free c =
    let d = contents_of c.args.self.now.kept in
    let same = ap taken_by c.prune.ensures.kept in
    let fewer = taken-pruned c.args.cont c.args.upto c.args.number d in
    omega (arith, same, fewer, c.args.self.now.room)
