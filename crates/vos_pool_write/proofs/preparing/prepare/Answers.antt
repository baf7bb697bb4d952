use Rattle.std.specs.Prelude.{◌≡◌, false}
use Rattle.std.proofs.Common.{arith, subst, sym}
use Rattle.daos_model.specs.Blocks.{blocks}
use Rattle.pmem_undo.specs.Layout.{gate}
use Rattle.std.proofs.Common.{◌+◌}
use Rattle.vos_pool_base.specs.Pool.{OpenedState}
use Rattle.vos_pool_stage.proofs.Lifting.{leaves_more}
use Rattle.vos_pool_write.specs.Several.{sum_at_most}
use Rattle.vos_pool_write.proofs.Asking.{fewer_than_blocks, kept_has_none}
use Rattle.vos_pool_write.proofs.preparing.prepare.Goals as goal

pub write_all-requires-clause-here : goal.write_all-requires-clause-here
write_all-requires-clause-here g c tell going =
    let inside : c.opened.inside.blocks.undo.stopped ≡ false = subst (λ (p : OpenedState _). p.blocks.undo.stopped ≡ false) (sym c.opened.view_is) going in
    let closed = subst (λ (p : OpenedState _). g.R.Region.image p.blocks.undo.region gate ≡ 0) c.opened.view_is (c.size-size.ensures.undo_holds.rest tell inside).closed in
    kept_has_none g.R.Region.extent g.R.Region.tells g.R.Region.image c.args.opened c.args.entry.now c.args.writes.now tell (c.requires.tidy tell going) closed c.requires.rising (c.requires.here going)

pub write_all-requires-clause-room : goal.write_all-requires-clause-room
write_all-requires-clause-room g c going = let room = c.requires.room going in let fewer = fewer_than_blocks c.args.writes.now in omega (arith, room, fewer)

pub returns-clause-free : goal.returns-clause-free
returns-clause-free g c = let free = c.write_all.ensures.free in let fewer = fewer_than_blocks c.args.writes.now in omega (arith, free, fewer)

pub returns-clause-left : goal.returns-clause-left
returns-clause-left g c =
    leaves_more g.R.Region.tells g.R.Region.extent g.R.Region.may_leave (sum_at_most c.args.writes.now + 1) (blocks c.args.writes.now) c.args.opened c.write_all.result.0 (fewer_than_blocks c.args.writes.now) c.write_all.ensures.left
