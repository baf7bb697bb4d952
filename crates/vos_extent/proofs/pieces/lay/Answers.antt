use Rattle.std.proofs.Common.{◌∙◌, sym}
use Rattle.vos_extent.specs.Extents.{chain_of}
use Rattle.vos_extent.proofs.Walking.{lays_none, lays_seen}
use Rattle.vos_extent.proofs.pieces.lay.Goals as goal

pub returns-then-not-is_about-clause-laid : goal.returns-then-not-is_about-clause-laid
returns-then-not-is_about-clause-laid g c told s is stands = lays_none c.args.look.now s c.args.placed c.args.cells.now is (sym c.is_about.ensures ∙ c.if-not-is_about.true)

pub returns-clause-laid : goal.returns-clause-laid
returns-clause-laid g c told s is stands =
    lays_seen c.args.look.now s c.args.placed c.as_slice.result.now c.args.cells.now c.paint.new.cells is (c.as_slice.ensures ∙ c.in_ok-bytes.ensures.bytes told (chain_of s) stands) (sym c.is_about.ensures ∙ c.if-not-is_about.false) c.paint.ensures.painted
