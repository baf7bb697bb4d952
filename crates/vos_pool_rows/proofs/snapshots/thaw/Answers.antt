use Rattle.std.proofs.Common.{◌≡◌, false, refl}
use Rattle.daos_model.specs.Changes.{thawed}
use Rattle.vos_contents.specs.Contents.{contents_of}
use Rattle.vos_pool_rows.proofs.Keeping.{changed_holds, thawed_keeps, stopped_holds, was_running}
use Rattle.vos_pool_rows.proofs.snapshots.thaw.Goals as goal

pub invariant_of-held : goal.invariant_of-held
invariant_of-held g c =
    let k = c.in_err-thaw.ensures in
    record {
      held = stopped_holds g.R.Region.tells g.R.Region.extent g.R.Region.image g.R.Region.may_leave c.args.held.now.opened c.thaw.new.self (contents_of c.args.held.now.contents) (contents_of c.args.held.now.contents) c.args.held.now.free c.args.held.now.floor.0 c.args.held.now.target c.args.held.now.targets c.args.held.now.held k.stops.stopped k.size k.left k.free refl refl;
    }

pub invariant_of-held-2 : goal.invariant_of-held-2
invariant_of-held-2 g c =
    let k = c.in_ok-thaw.ensures in
    let run : c.args.held.now.opened.blocks.undo.stopped ≡ false = was_running _ _ _ _ _ _ _ k.stops in
    record {
      held = changed_holds g.R.Region.tells g.R.Region.extent g.R.Region.image g.R.Region.may_leave c.args.held.now.opened c.thaw.new.self (contents_of c.args.held.now.contents) (contents_of c.thaw-2.new.self) c.args.held.now.free c.args.held.now.floor.0 c.args.held.now.target c.args.held.now.targets (thawed c.args.cont c.args.s) (thawed_keeps c.args.cont c.args.s) c.args.held.now.held run k.size k.left k.free k.kept.done k.tidy c.free_blocks-free.ensures.rests
          c.thaw-2.ensures.kept;
    }
