use Rattle.std.specs.Prelude.{◌≡◌, ℕ, IfSome, IsSome, IsTrue, OnOk, false, refl}
use Rattle.std.proofs.Common.{◌∙◌, arith, subst, sym}
use Rattle.pmem_alloc.specs.Pages.{shown}
use Rattle.vos_image.specs.Kept.{Stored}
use Rattle.vos_levels.specs.Calls.{OfThing}
use Rattle.vos_levels.specs.Levels.{hung_root, things}
use Rattle.vos_entries.specs.Entries.{entries_owner, has_entry_at}
use Rattle.vos_places.specs.Tables.{Table}
use Rattle.vos_pool_base.specs.Pool.{OpenedState, kept_of, may_of}
use Rattle.vos_pool_base.specs.Tidy.{LeavesBut}
use Rattle.vos_pool_stage.specs.Staged.{pool_of}
use Rattle.vos_pool_stage.proofs.Lifting.{leaves_from, makes_from, none_leaves, none_made, still_then}
use Rattle.vos_store.specs.Calls.{Makes}
use Rattle.vos_store.specs.Refusals.{always_stop}
use Rattle.vos_pool_write.specs.Coming.{EntryMakes, HasEntered, MayEnter}
use Rattle.vos_pool_write.specs.Written.{EntryComes}
use Rattle.vos_pool_write.proofs.Coming.{entries_here}
use Rattle.vos_pool_write.proofs.Stepping.{Entered, entered_makes, entered_stands, entered_to_stand, free_as, untold_of}
use Rattle.vos_pool_write.proofs.adding.add_entry.Goals as goal

pub stage_entry-blocks-requires-clause-here : goal.stage_entry-blocks-requires-clause-here
stage_entry-blocks-requires-clause-here g c tell =
    let going : c.opened.inside.blocks.undo.stopped ≡ false = subst (λ (p : OpenedState _). p.blocks.undo.stopped ≡ false) (sym c.opened.view_is) c.requires.running in
    let here = subst (λ (p : OpenedState _). IsTrue g.R.Region.tells → (x : Stored) × MayEnter g.R.Region.extent g.R.Region.image p c.args.entry x) (sym c.opened.view_is) c.requires.here in
    let x = here tell in
    (x.0.1, (entries_here g.R.Region.extent g.R.Region.tells g.R.Region.image g.R.Region.may_leave (pool_of c.opened.inside.blocks c.opened.inside.tables) c.opened.invariant.unstaged x.0 x.1.stands c.size-size.ensures.holds tell going, (c.entries.ensures ∙ x.1.stands.entries, x.1.absent)))

pub returns-in_default-clause-left : goal.returns-in_default-clause-left
returns-in_default-clause-left g c =
    let still = still_then g.R.Region.extent g.R.Region.tells g.R.Region.image g.R.Region.may_leave c.opened.inside.blocks c.stage_entry-blocks.result.0 c.leave_out.result.0.blocks c.stage_entry-blocks.ensures.still c.leave_out.ensures.still in
    subst (λ (p : OpenedState _). LeavesBut g.R.Region.tells g.R.Region.extent g.R.Region.may_leave 1 p c.leave_out.result.0) c.opened.view_is
    (subst (λ (t : Table). LeavesBut g.R.Region.tells g.R.Region.extent g.R.Region.may_leave 1 (pool_of c.opened.inside.blocks c.opened.inside.tables) (pool_of c.leave_out.result.0.blocks t)) (sym c.leave_out.ensures.table)
    (none_leaves g.R.Region.extent g.R.Region.tells g.R.Region.image g.R.Region.may_leave (pool_of c.opened.inside.blocks c.opened.inside.tables) c.leave_out.result.0.blocks still 1))

pub commit_staged-requires-clause-ready : goal.commit_staged-requires-clause-ready
commit_staged-requires-clause-ready g c tell after =
    let going : c.opened.inside.blocks.undo.stopped ≡ false = subst (λ (p : OpenedState _). p.blocks.undo.stopped ≡ false) (sym c.opened.view_is) c.requires.running in
    let here = subst (λ (p : OpenedState _). IsTrue g.R.Region.tells → (x : Stored) × MayEnter g.R.Region.extent g.R.Region.image p c.args.entry x) (sym c.opened.view_is) c.requires.here in
    let k : Entered g.R.Region.extent g.R.Region.tells g.R.Region.image g.R.Region.may_leave (pool_of c.opened.inside.blocks c.opened.inside.tables) c.args.entry c.stage_entry-blocks.result.0 c.plan_roots-counters.result c.in-Some.root = (record {
      rest = record { unstaged = c.opened.invariant.unstaged; unchanged = c.opened.invariant.unchanged; running = going; holds = c.size-size.ensures.holds; closed = λ tell. (c.size-size.ensures.undo_holds.rest tell going).closed };
      still = c.stage_entry-blocks.ensures.still;
      after = c.size-size-2.ensures.holds;
      comes = subst (λ (n : ℕ). OfThing g.R.Region.tells entries_owner hung_root (shown g.R.Region.image c.opened.inside.blocks) n (λ o. has_entry_at c.args.entry.attempt (things o) ≡ false → EntryComes c.args.entry (shown g.R.Region.image c.opened.inside.blocks) o (shown g.R.Region.image c.stage_entry-blocks.result.0) c.in-Some.root)) c.entries.ensures
          (subst (λ r. IfSome r (λ at. OfThing g.R.Region.tells entries_owner hung_root (shown g.R.Region.image c.opened.inside.blocks) c.entries.result (λ o. has_entry_at c.args.entry.attempt (things o) ≡ false → EntryComes c.args.entry (shown g.R.Region.image c.opened.inside.blocks) o (shown g.R.Region.image c.stage_entry-blocks.result.0) at))) c.in-Some.is c.stage_entry-blocks.ensures.entered);
      objects = c.plan_roots-counters.ensures.objects ∙ c.objects.ensures;
      entries = c.plan_roots-counters.ensures.entries;
      same = c.plan_roots-counters.ensures.kept;
    }) in
    let x = here tell in
    let y = entered_to_stand g.R.Region.extent g.R.Region.tells g.R.Region.image g.R.Region.may_leave (pool_of c.opened.inside.blocks c.opened.inside.tables) c.args.entry c.stage_entry-blocks.result.0 c.plan_roots-counters.result c.in-Some.root k tell after x.0 x.1 in
    (y.0, y.1.0)

pub returns-clause-entered : goal.returns-clause-entered
returns-clause-entered g c =
    let going : c.opened.inside.blocks.undo.stopped ≡ false = subst (λ (p : OpenedState _). p.blocks.undo.stopped ≡ false) (sym c.opened.view_is) c.requires.running in
    let k : Entered g.R.Region.extent g.R.Region.tells g.R.Region.image g.R.Region.may_leave (pool_of c.opened.inside.blocks c.opened.inside.tables) c.args.entry c.stage_entry-blocks.result.0 c.plan_roots-counters.result c.in-Some.root = (record {
      rest = record { unstaged = c.opened.invariant.unstaged; unchanged = c.opened.invariant.unchanged; running = going; holds = c.size-size.ensures.holds; closed = λ tell. (c.size-size.ensures.undo_holds.rest tell going).closed };
      still = c.stage_entry-blocks.ensures.still;
      after = c.size-size-2.ensures.holds;
      comes = subst (λ (n : ℕ). OfThing g.R.Region.tells entries_owner hung_root (shown g.R.Region.image c.opened.inside.blocks) n (λ o. has_entry_at c.args.entry.attempt (things o) ≡ false → EntryComes c.args.entry (shown g.R.Region.image c.opened.inside.blocks) o (shown g.R.Region.image c.stage_entry-blocks.result.0) c.in-Some.root)) c.entries.ensures
          (subst (λ r. IfSome r (λ at. OfThing g.R.Region.tells entries_owner hung_root (shown g.R.Region.image c.opened.inside.blocks) c.entries.result (λ o. has_entry_at c.args.entry.attempt (things o) ≡ false → EntryComes c.args.entry (shown g.R.Region.image c.opened.inside.blocks) o (shown g.R.Region.image c.stage_entry-blocks.result.0) at))) c.in-Some.is c.stage_entry-blocks.ensures.entered);
      objects = c.plan_roots-counters.ensures.objects ∙ c.objects.ensures;
      entries = c.plan_roots-counters.ensures.entries;
      same = c.plan_roots-counters.ensures.kept;
    }) in
    subst (λ (p : OpenedState _). OnOk c.commit_staged.result.1 (IsTrue g.R.Region.tells → (x : Stored) → MayEnter g.R.Region.extent g.R.Region.image p c.args.entry x → HasEntered g.R.Region.extent g.R.Region.image c.commit_staged.result.0 c.args.entry x)) c.opened.view_is
    (entered_stands g.R.Region.extent g.R.Region.tells g.R.Region.image g.R.Region.may_leave (pool_of c.opened.inside.blocks c.opened.inside.tables) c.args.entry c.stage_entry-blocks.result.0 c.plan_roots-counters.result c.in-Some.root k c.commit_staged.result.1 c.commit_staged.result.0 c.commit_staged.ensures.running c.commit_staged.ensures.table c.commit_staged.ensures.stands)

pub returns-clause-makes : goal.returns-clause-makes
returns-clause-makes g c change h =
    let going : c.opened.inside.blocks.undo.stopped ≡ false = subst (λ (p : OpenedState _). p.blocks.undo.stopped ≡ false) (sym c.opened.view_is) c.requires.running in
    let made = subst (λ (p : OpenedState _). IsTrue g.R.Region.tells → (x : Stored) × (MayEnter g.R.Region.extent g.R.Region.image p c.args.entry x × EntryMakes p.table c.args.entry x change)) (sym c.opened.view_is) h in
    let k : Entered g.R.Region.extent g.R.Region.tells g.R.Region.image g.R.Region.may_leave (pool_of c.opened.inside.blocks c.opened.inside.tables) c.args.entry c.stage_entry-blocks.result.0 c.plan_roots-counters.result c.in-Some.root = (record {
      rest = record { unstaged = c.opened.invariant.unstaged; unchanged = c.opened.invariant.unchanged; running = going; holds = c.size-size.ensures.holds; closed = λ tell. (c.size-size.ensures.undo_holds.rest tell going).closed };
      still = c.stage_entry-blocks.ensures.still;
      after = c.size-size-2.ensures.holds;
      comes = subst (λ (n : ℕ). OfThing g.R.Region.tells entries_owner hung_root (shown g.R.Region.image c.opened.inside.blocks) n (λ o. has_entry_at c.args.entry.attempt (things o) ≡ false → EntryComes c.args.entry (shown g.R.Region.image c.opened.inside.blocks) o (shown g.R.Region.image c.stage_entry-blocks.result.0) c.in-Some.root)) c.entries.ensures
          (subst (λ r. IfSome r (λ at. OfThing g.R.Region.tells entries_owner hung_root (shown g.R.Region.image c.opened.inside.blocks) c.entries.result (λ o. has_entry_at c.args.entry.attempt (things o) ≡ false → EntryComes c.args.entry (shown g.R.Region.image c.opened.inside.blocks) o (shown g.R.Region.image c.stage_entry-blocks.result.0) at))) c.in-Some.is c.stage_entry-blocks.ensures.entered);
      objects = c.plan_roots-counters.ensures.objects ∙ c.objects.ensures;
      entries = c.plan_roots-counters.ensures.entries;
      same = c.plan_roots-counters.ensures.kept;
    }) in
    let n = c.commit_staged.result.0 in
    subst (λ (p : OpenedState _). Makes p.blocks.undo.stopped always_stop change c.commit_staged.result.1 (kept_of g.R.Region.tells g.R.Region.extent g.R.Region.image p) (kept_of g.R.Region.tells g.R.Region.extent g.R.Region.image n) (may_of g.R.Region.tells g.R.Region.extent g.R.Region.may_leave p) (may_of g.R.Region.tells g.R.Region.extent g.R.Region.may_leave n)) c.opened.view_is
    (subst (λ s. Makes s always_stop change c.commit_staged.result.1 (kept_of g.R.Region.tells g.R.Region.extent g.R.Region.image (pool_of c.opened.inside.blocks c.opened.inside.tables)) (kept_of g.R.Region.tells g.R.Region.extent g.R.Region.image n) (may_of g.R.Region.tells g.R.Region.extent g.R.Region.may_leave (pool_of c.opened.inside.blocks c.opened.inside.tables)) (may_of g.R.Region.tells g.R.Region.extent g.R.Region.may_leave n)) (c.stage_entry-blocks.ensures.went_on (subst (λ r. IsSome r) (sym c.in-Some.is) refl) ∙ sym going)
    (makes_from g.R.Region.extent g.R.Region.tells g.R.Region.image g.R.Region.may_leave (pool_of c.opened.inside.blocks c.opened.inside.tables) c.stage_entry-blocks.result.0 c.stage_entry-blocks.ensures.still c.stage_entry-blocks.result.0.undo.stopped change c.commit_staged.result.1 (kept_of g.R.Region.tells g.R.Region.extent g.R.Region.image n) (may_of g.R.Region.tells g.R.Region.extent g.R.Region.may_leave n)
    (c.commit_staged.ensures.makes change (λ tell after. let x = made tell in entered_makes g.R.Region.extent g.R.Region.tells g.R.Region.image g.R.Region.may_leave (pool_of c.opened.inside.blocks c.opened.inside.tables) c.args.entry c.stage_entry-blocks.result.0 c.plan_roots-counters.result c.in-Some.root k change tell after x.0 x.1.0 x.1.1))))

pub returns-in_default-clause-makes : goal.returns-in_default-clause-makes
returns-in_default-clause-makes g c change h =
    let still = still_then g.R.Region.extent g.R.Region.tells g.R.Region.image g.R.Region.may_leave c.opened.inside.blocks c.stage_entry-blocks.result.0 c.leave_out.result.0.blocks c.stage_entry-blocks.ensures.still c.leave_out.ensures.still in
    let n = c.leave_out.result.0 in
    subst (λ (p : OpenedState _). Makes p.blocks.undo.stopped always_stop change c.leave_out.result.1 (kept_of g.R.Region.tells g.R.Region.extent g.R.Region.image p) (kept_of g.R.Region.tells g.R.Region.extent g.R.Region.image n) (may_of g.R.Region.tells g.R.Region.extent g.R.Region.may_leave p) (may_of g.R.Region.tells g.R.Region.extent g.R.Region.may_leave n)) c.opened.view_is
    (subst (λ (t : Table). Makes c.opened.inside.blocks.undo.stopped always_stop change c.leave_out.result.1 (kept_of g.R.Region.tells g.R.Region.extent g.R.Region.image (pool_of c.opened.inside.blocks c.opened.inside.tables)) (kept_of g.R.Region.tells g.R.Region.extent g.R.Region.image (pool_of n.blocks t)) (may_of g.R.Region.tells g.R.Region.extent g.R.Region.may_leave (pool_of c.opened.inside.blocks c.opened.inside.tables)) (may_of g.R.Region.tells g.R.Region.extent g.R.Region.may_leave (pool_of n.blocks t))) (sym c.leave_out.ensures.table)
    (none_made g.R.Region.extent g.R.Region.tells g.R.Region.image g.R.Region.may_leave (pool_of c.opened.inside.blocks c.opened.inside.tables) n.blocks still change c.leave_out.result.1 (untold_of g.R.Region.tells c.stage_entry-blocks.result.0.undo.stopped c.leave_out.result.1 c.leave_out.ensures.went_on (c.stage_entry-blocks.ensures.none c.in_default.is))))

pub returns-clause-left : goal.returns-clause-left
returns-clause-left g c =
    let free = c.stage_entry-blocks.ensures.free (subst (λ r. IsSome r) (sym c.in-Some.is) refl) in
    subst (λ (p : OpenedState _). LeavesBut g.R.Region.tells g.R.Region.extent g.R.Region.may_leave 1 p c.commit_staged.result.0) c.opened.view_is
    (leaves_from g.R.Region.extent g.R.Region.tells g.R.Region.image g.R.Region.may_leave (pool_of c.opened.inside.blocks c.opened.inside.tables) c.stage_entry-blocks.result.0 c.stage_entry-blocks.ensures.still 1 c.commit_staged.result.0
    (c.commit_staged.ensures.left 1 (λ tell. let e = free_as c.opened.inside.blocks c.stage_entry-blocks.result.0 c.opened.invariant.unchanged c.stage_entry-blocks.ensures.still.lasting in omega (arith, e, free))))
