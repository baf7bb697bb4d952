use Rattle.std.specs.Prelude.{◌≡◌, ℕ, IfSome, IsSome, IsTrue, OnOk, false, refl}
use Rattle.std.proofs.Common.{◌∙◌, ap, arith, subst, sym}
use Rattle.pmem_alloc.specs.Pages.{shown}
use Rattle.vos_image.specs.Kept.{Stored}
use Rattle.vos_levels.specs.Calls.{OfThing}
use Rattle.vos_levels.specs.Levels.{hung_root}
use Rattle.vos_path.specs.Objects.{objects_owner}
use Rattle.vos_path.specs.Writes.{IsNewIn, fresh}
use Rattle.vos_places.specs.Laws.{counted}
use Rattle.vos_places.specs.Tables.{Table}
use Rattle.vos_pool_base.specs.Pool.{OpenedState, kept_of, may_of}
use Rattle.vos_pool_base.specs.Tidy.{LeavesBut}
use Rattle.vos_pool_stage.specs.Staged.{IsQuietCall, pool_of}
use Rattle.vos_pool_stage.proofs.Lifting.{leaves_from, none_leaves, quiet_from, still_then}
use Rattle.vos_pool_write.specs.Coming.{HasCome, MayCome}
use Rattle.vos_pool_write.specs.Written.{WriteComes, blocks_at_most}
use Rattle.vos_pool_write.proofs.Coming.{objects_here}
use Rattle.vos_pool_write.proofs.Stepping.{Came, came_is_same, came_stands, came_to_stand, free_as, lease_same, on_each}
use Rattle.vos_pool_write.proofs.adding.add_version.Goals as goal

pub stage_write-blocks-requires-clause-here : goal.stage_write-blocks-requires-clause-here
stage_write-blocks-requires-clause-here g c tell =
    let going : c.opened.inside.blocks.undo.stopped ≡ false = subst (λ (p : OpenedState _). p.blocks.undo.stopped ≡ false) (sym c.opened.view_is) c.requires.running in
    let here = subst (λ (p : OpenedState _). IsTrue g.R.Region.tells → (x : Stored) × MayCome g.R.Region.extent g.R.Region.image p c.args.stamp c.args.write.now x) (sym c.opened.view_is) c.requires.here in
    let x = here tell in
    (x.0.0, (objects_here g.R.Region.extent g.R.Region.tells g.R.Region.image g.R.Region.may_leave (pool_of c.opened.inside.blocks c.opened.inside.tables) c.opened.invariant.unstaged x.0 x.1.stands c.size-size.ensures.holds tell going, (c.objects.ensures ∙ x.1.stands.objects, x.1.new)))

pub returns-in_default-clause-left : goal.returns-in_default-clause-left
returns-in_default-clause-left g c =
    let still = still_then g.R.Region.extent g.R.Region.tells g.R.Region.image g.R.Region.may_leave c.opened.inside.blocks c.stage_write-blocks.result.0 c.leave_out.result.0.blocks c.stage_write-blocks.ensures.still c.leave_out.ensures.still in
    subst (λ (p : OpenedState _). LeavesBut g.R.Region.tells g.R.Region.extent g.R.Region.may_leave (blocks_at_most c.args.write.now) p c.leave_out.result.0) c.opened.view_is
    (subst (λ (t : Table). LeavesBut g.R.Region.tells g.R.Region.extent g.R.Region.may_leave (blocks_at_most c.args.write.now) (pool_of c.opened.inside.blocks c.opened.inside.tables) (pool_of c.leave_out.result.0.blocks t)) (sym c.leave_out.ensures.table)
    (none_leaves g.R.Region.extent g.R.Region.tells g.R.Region.image g.R.Region.may_leave (pool_of c.opened.inside.blocks c.opened.inside.tables) c.leave_out.result.0.blocks still (blocks_at_most c.args.write.now)))

pub commit_staged-requires-clause-ready : goal.commit_staged-requires-clause-ready
commit_staged-requires-clause-ready g c tell after =
    let going : c.opened.inside.blocks.undo.stopped ≡ false = subst (λ (p : OpenedState _). p.blocks.undo.stopped ≡ false) (sym c.opened.view_is) c.requires.running in
    let here = subst (λ (p : OpenedState _). IsTrue g.R.Region.tells → (x : Stored) × MayCome g.R.Region.extent g.R.Region.image p c.args.stamp c.args.write.now x) (sym c.opened.view_is) c.requires.here in
    let k : Came g.R.Region.extent g.R.Region.tells g.R.Region.image g.R.Region.may_leave (pool_of c.opened.inside.blocks c.opened.inside.tables) c.args.stamp c.args.write.now c.stage_write-blocks.result.0 c.plan_roots-counters.result c.in-Some.root = (record {
      rest = record { unstaged = c.opened.invariant.unstaged; unchanged = c.opened.invariant.unchanged; running = going; holds = c.size-size.ensures.holds; closed = λ tell. (c.size-size.ensures.undo_holds.rest tell going).closed };
      write = c.requires.write;
      still = c.stage_write-blocks.ensures.still;
      after = c.size-size-2.ensures.holds;
      comes = subst (λ (n : ℕ). OfThing g.R.Region.tells objects_owner hung_root (shown g.R.Region.image c.opened.inside.blocks) n (λ o. IsNewIn (fresh c.args.stamp c.args.write.now) o → WriteComes c.args.stamp c.args.write.now (shown g.R.Region.image c.opened.inside.blocks) o (shown g.R.Region.image c.stage_write-blocks.result.0) c.in-Some.root)) c.objects.ensures
          (subst (λ r. IfSome r (λ at. OfThing g.R.Region.tells objects_owner hung_root (shown g.R.Region.image c.opened.inside.blocks) c.objects.result (λ o. IsNewIn (fresh c.args.stamp c.args.write.now) o → WriteComes c.args.stamp c.args.write.now (shown g.R.Region.image c.opened.inside.blocks) o (shown g.R.Region.image c.stage_write-blocks.result.0) at))) c.in-Some.is c.stage_write-blocks.ensures.written);
      objects = c.plan_roots-counters.ensures.objects;
      entries = c.plan_roots-counters.ensures.entries ∙ c.entries.ensures;
      same = c.plan_roots-counters.ensures.kept;
    }) in
    let x = here tell in
    let y = came_to_stand g.R.Region.extent g.R.Region.tells g.R.Region.image g.R.Region.may_leave (pool_of c.opened.inside.blocks c.opened.inside.tables) c.args.stamp c.args.write.now c.stage_write-blocks.result.0 c.plan_roots-counters.result c.in-Some.root k tell after x.0 x.1 in
    (y.0, y.1.0)

pub returns-clause-come : goal.returns-clause-come
returns-clause-come g c =
    let going : c.opened.inside.blocks.undo.stopped ≡ false = subst (λ (p : OpenedState _). p.blocks.undo.stopped ≡ false) (sym c.opened.view_is) c.requires.running in
    let k : Came g.R.Region.extent g.R.Region.tells g.R.Region.image g.R.Region.may_leave (pool_of c.opened.inside.blocks c.opened.inside.tables) c.args.stamp c.args.write.now c.stage_write-blocks.result.0 c.plan_roots-counters.result c.in-Some.root = (record {
      rest = record { unstaged = c.opened.invariant.unstaged; unchanged = c.opened.invariant.unchanged; running = going; holds = c.size-size.ensures.holds; closed = λ tell. (c.size-size.ensures.undo_holds.rest tell going).closed };
      write = c.requires.write;
      still = c.stage_write-blocks.ensures.still;
      after = c.size-size-2.ensures.holds;
      comes = subst (λ (n : ℕ). OfThing g.R.Region.tells objects_owner hung_root (shown g.R.Region.image c.opened.inside.blocks) n (λ o. IsNewIn (fresh c.args.stamp c.args.write.now) o → WriteComes c.args.stamp c.args.write.now (shown g.R.Region.image c.opened.inside.blocks) o (shown g.R.Region.image c.stage_write-blocks.result.0) c.in-Some.root)) c.objects.ensures
          (subst (λ r. IfSome r (λ at. OfThing g.R.Region.tells objects_owner hung_root (shown g.R.Region.image c.opened.inside.blocks) c.objects.result (λ o. IsNewIn (fresh c.args.stamp c.args.write.now) o → WriteComes c.args.stamp c.args.write.now (shown g.R.Region.image c.opened.inside.blocks) o (shown g.R.Region.image c.stage_write-blocks.result.0) at))) c.in-Some.is c.stage_write-blocks.ensures.written);
      objects = c.plan_roots-counters.ensures.objects;
      entries = c.plan_roots-counters.ensures.entries ∙ c.entries.ensures;
      same = c.plan_roots-counters.ensures.kept;
    }) in
    subst (λ (p : OpenedState _). OnOk c.commit_staged.result.1 (IsTrue g.R.Region.tells → (x : Stored) → MayCome g.R.Region.extent g.R.Region.image p c.args.stamp c.args.write.now x → HasCome g.R.Region.extent g.R.Region.image c.commit_staged.result.0 c.args.stamp c.args.write.now x)) c.opened.view_is
    (came_stands g.R.Region.extent g.R.Region.tells g.R.Region.image g.R.Region.may_leave (pool_of c.opened.inside.blocks c.opened.inside.tables) c.args.stamp c.args.write.now c.stage_write-blocks.result.0 c.plan_roots-counters.result c.in-Some.root k c.commit_staged.result.1 c.commit_staged.result.0 c.commit_staged.ensures.running c.commit_staged.ensures.table c.commit_staged.ensures.stands)

pub returns-clause-quiet : goal.returns-clause-quiet
returns-clause-quiet g c =
    let going : c.opened.inside.blocks.undo.stopped ≡ false = subst (λ (p : OpenedState _). p.blocks.undo.stopped ≡ false) (sym c.opened.view_is) c.requires.running in
    let here = subst (λ (p : OpenedState _). IsTrue g.R.Region.tells → (x : Stored) × MayCome g.R.Region.extent g.R.Region.image p c.args.stamp c.args.write.now x) (sym c.opened.view_is) c.requires.here in
    let k : Came g.R.Region.extent g.R.Region.tells g.R.Region.image g.R.Region.may_leave (pool_of c.opened.inside.blocks c.opened.inside.tables) c.args.stamp c.args.write.now c.stage_write-blocks.result.0 c.plan_roots-counters.result c.in-Some.root = (record {
      rest = record { unstaged = c.opened.invariant.unstaged; unchanged = c.opened.invariant.unchanged; running = going; holds = c.size-size.ensures.holds; closed = λ tell. (c.size-size.ensures.undo_holds.rest tell going).closed };
      write = c.requires.write;
      still = c.stage_write-blocks.ensures.still;
      after = c.size-size-2.ensures.holds;
      comes = subst (λ (n : ℕ). OfThing g.R.Region.tells objects_owner hung_root (shown g.R.Region.image c.opened.inside.blocks) n (λ o. IsNewIn (fresh c.args.stamp c.args.write.now) o → WriteComes c.args.stamp c.args.write.now (shown g.R.Region.image c.opened.inside.blocks) o (shown g.R.Region.image c.stage_write-blocks.result.0) c.in-Some.root)) c.objects.ensures
          (subst (λ r. IfSome r (λ at. OfThing g.R.Region.tells objects_owner hung_root (shown g.R.Region.image c.opened.inside.blocks) c.objects.result (λ o. IsNewIn (fresh c.args.stamp c.args.write.now) o → WriteComes c.args.stamp c.args.write.now (shown g.R.Region.image c.opened.inside.blocks) o (shown g.R.Region.image c.stage_write-blocks.result.0) at))) c.in-Some.is c.stage_write-blocks.ensures.written);
      objects = c.plan_roots-counters.ensures.objects;
      entries = c.plan_roots-counters.ensures.entries ∙ c.entries.ensures;
      same = c.plan_roots-counters.ensures.kept;
    }) in
    let n = c.commit_staged.result.0 in
    subst (λ (p : OpenedState _). IsQuietCall c.commit_staged.result.1 (kept_of g.R.Region.tells g.R.Region.extent g.R.Region.image p) (kept_of g.R.Region.tells g.R.Region.extent g.R.Region.image n) (may_of g.R.Region.tells g.R.Region.extent g.R.Region.may_leave p) (may_of g.R.Region.tells g.R.Region.extent g.R.Region.may_leave n)) c.opened.view_is
    (quiet_from g.R.Region.extent g.R.Region.tells g.R.Region.image g.R.Region.may_leave (pool_of c.opened.inside.blocks c.opened.inside.tables) c.stage_write-blocks.result.0 c.stage_write-blocks.ensures.still c.commit_staged.result.1 (kept_of g.R.Region.tells g.R.Region.extent g.R.Region.image n) (may_of g.R.Region.tells g.R.Region.extent g.R.Region.may_leave n)
    (c.commit_staged.ensures.quiet (λ tell after. let x = here tell in came_is_same g.R.Region.extent g.R.Region.tells g.R.Region.image g.R.Region.may_leave (pool_of c.opened.inside.blocks c.opened.inside.tables) c.args.stamp c.args.write.now c.stage_write-blocks.result.0 c.plan_roots-counters.result c.in-Some.root k tell after x.0 x.1)))

pub returns-clause-left : goal.returns-clause-left
returns-clause-left g c =
    let free = c.stage_write-blocks.ensures.free (subst (λ r. IsSome r) (sym c.in-Some.is) refl) in
    subst (λ (p : OpenedState _). LeavesBut g.R.Region.tells g.R.Region.extent g.R.Region.may_leave (blocks_at_most c.args.write.now) p c.commit_staged.result.0) c.opened.view_is
    (leaves_from g.R.Region.extent g.R.Region.tells g.R.Region.image g.R.Region.may_leave (pool_of c.opened.inside.blocks c.opened.inside.tables) c.stage_write-blocks.result.0 c.stage_write-blocks.ensures.still (blocks_at_most c.args.write.now) c.commit_staged.result.0
    (c.commit_staged.ensures.left (blocks_at_most c.args.write.now) (λ tell. let e = free_as c.opened.inside.blocks c.stage_write-blocks.result.0 c.opened.invariant.unchanged c.stage_write-blocks.ensures.still.lasting in omega (arith, e, free))))

pub returns-clause-lease : goal.returns-clause-lease
returns-clause-lease g c =
    subst (λ (p : OpenedState _). c.commit_staged.result.0.table.header.lease ≡ p.table.header.lease) c.opened.view_is
    (on_each _ _ (c.commit_staged.result.0.table.header.lease ≡ c.opened.inside.tables.header.lease) c.commit_staged.result.1 c.commit_staged.ensures.table c.commit_staged.ensures.kept
    (λ is. ap (λ (t : Table). t.header.lease) is ∙ lease_same c.opened.inside.tables (counted c.plan_roots-counters.result c.opened.inside.tables) c.plan_roots-counters.ensures.kept)
    (λ is. ap (λ (t : Table). t.header.lease) is))
