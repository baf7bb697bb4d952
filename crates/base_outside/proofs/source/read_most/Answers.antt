-- What was consumed before memory ran out.
use Rattle.std.proofs.Common.{◌++◌, take, arith}
use Rattle.std.proofs.KnownBytes.{Consumes-trans}
use Rattle.std.proofs.lemmas.Grind.{common_steps}
use Rattle.base_outside.proofs.source.read_most.Goals as goal

pub returns-in_err-extend_from_slice-in-Ok-clause-consumed : goal.returns-in_err-extend_from_slice-in-Ok-clause-consumed
returns-in_err-extend_from_slice-in-Ok-clause-consumed g c =
    let before = c.loop-piece.bytes.items in
    let more = take c.in-Ok.count c.read.new.buf in
    (before ++ more, grind (arith, common_steps), Consumes-trans _ _ _ before more c.loop-piece.invariant.bytes c.in-Ok.ensures.bytes.0)
