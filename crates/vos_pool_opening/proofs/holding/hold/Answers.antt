use Rattle.std.proofs.Common.{ap, ◌∙◌}
use Rattle.pmem_alloc.specs.Blocks.{free_count}
use Rattle.vos_pool_held.specs.vos_contents.Contents.{contents_of}
use Rattle.vos_pool_held.specs.vos_pool_base.Pool.{OpenedState}
use Rattle.vos_pool_opening.proofs.HeldNow.{held-now}
use Rattle.vos_pool_opening.proofs.holding.hold.Goals as goal

pub invariant_of-result : goal.invariant_of-result
invariant_of-result g c = record {
  held =
      ∣ held-now g.R.Region.tells g.R.Region.extent g.R.Region.image g.R.Region.may_leave c.args.opened (contents_of c.args.contents) c.free-free.result c.restart_floor-floor.result.0 c.args.asked.now.target c.args.asked.now.targets
      c.requires.running c.requires.kept c.requires.tidy c.rests.ensures.rest c.rests.ensures.left (c.free-free.ensures ∙ ap (λ (p : OpenedState _). free_count p.blocks) c.opened.view_is) c.restart_floor-floor.ensures
      c.requires.target c.requires.targets c.rests.ensures.sized c.requires.named ∣₁;
}
