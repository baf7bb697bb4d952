use Rattle.vos_contents.specs.Contents.{contents_of}
use Rattle.vos_pool_rows.proofs.Fused.{fused_holds}
use Rattle.vos_pool_rows.proofs.fusing.set_fuse.Goals as goal

pub invariant_of-held : goal.invariant_of-held
invariant_of-held g c = record {
  held = fused_holds g.R.Region.extent g.R.Region.count g.R.Region.burns g.R.Region.tells g.R.Region.image g.R.Region.may_leave g.R.Region.moment g.R.Region.left_since g.R.Region.broken g.R.Region.did c.args.held.now.opened
      c.set_fuse_below.new.opened.blocks.undo.region (contents_of c.args.held.now.contents) c.args.held.now.free c.args.held.now.floor.0 c.args.held.now.target c.args.held.now.targets c.set_fuse_below.new.opened
      c.set_fuse_below.ensures.rest c.set_fuse_below.ensures.fuse c.args.held.now.held;
}
