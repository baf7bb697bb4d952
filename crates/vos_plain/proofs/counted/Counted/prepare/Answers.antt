use Rattle.std.proofs.Common.{◌≡◌, ◌+◌, ◌∙◌, ap, arith}
use Rattle.vos_contents.specs.Contents.{contents_of}
use Rattle.vos_plain.specs.Costs.{taken_by, versions_blocks}
use Rattle.vos_plain.proofs.Taken.{taken-prepared}
use Rattle.vos_plain.proofs.counted.Counted.prepare.Goals as goal

pub invariant_of-self : goal.invariant_of-self
invariant_of-self c =
    let d = contents_of c.args.self.now.kept in
    let vs = c.args.self.now.kept.rows.coming in
    let more : taken_by (contents_of c.prepare.new.self) ≡ taken_by d + versions_blocks vs + 2 = ap taken_by c.prepare.ensures.kept ∙ taken-prepared vs c.args.entry d in
    let read : versions_blocks c.coming.result.now ≡ versions_blocks vs = ap versions_blocks c.coming.ensures in
    record {
      counted = omega (arith, c.args.self.now.counted, c.blocks_more-more.ensures, more, read);
      room = omega (arith, c.args.self.now.room, c.requires.free, more);
    }

pub returns-clause-free : goal.returns-clause-free
returns-clause-free c =
    let d = contents_of c.args.self.now.kept in
    let vs = c.args.self.now.kept.rows.coming in
    let more : taken_by (contents_of c.prepare.new.self) ≡ taken_by d + versions_blocks vs + 2 = ap taken_by c.prepare.ensures.kept ∙ taken-prepared vs c.args.entry d in
    omega (arith, c.args.self.now.room, c.requires.free, more)
