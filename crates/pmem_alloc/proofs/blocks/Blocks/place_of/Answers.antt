use Rattle.std.proofs.Common.{◌*◌, refl, subst, arith}
use Rattle.pmem_undo.specs.Layout.{IsContent}
use Rattle.pmem_alloc.specs.Blocks.{BlocksState}
use Rattle.pmem_alloc.proofs.Paging.{block_is_content}
use Rattle.pmem_alloc.proofs.blocks.Blocks.place_of.Goals as goal

pub returns-then-is_taken-clause-content : goal.returns-then-is_taken-clause-content
returns-then-is_taken-clause-content g c =
    let taken = c.is_taken.ensures.taken.0 c.if-is_taken.true in
    subst (λ (b : BlocksState _). IsContent (g.R.Region.extent b.undo.region) (256 * c.args.block) 256) c.self.view_is
    (block_is_content (g.R.Region.extent c.self.inside.undo.region) c.args.block (256 * c.args.block) refl taken.0 (omega (arith, taken.1.0, c.self.invariant.end)))
