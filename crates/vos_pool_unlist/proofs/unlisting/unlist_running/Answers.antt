use Rattle.std.proofs.Common.{◌∙◌, arith, refl}
use Rattle.vos_keeping.specs.Keeping.{SameRows}
use Rattle.vos_keeping.specs.vos_places.Laws.{counted}
use Rattle.vos_keeping.specs.vos_places.Tables.{Table, places_of}
use Rattle.vos_pool_stage.proofs.vos_pool_base.Commits.{when_ok}
use Rattle.vos_pool_stage.specs.vos_pool_base.Pool.{kept_of, may_of}
use Rattle.vos_pool_stage.proofs.Lifting.{leaves_from, quiet_from}
use Rattle.vos_pool_stage.specs.Staged.{pool_of}
use Rattle.vos_pool_turns.proofs.Making.{by_answer, free_as, free_in_map, same_rows, stops_then}
use Rattle.vos_pool_unlist.proofs.Making.{IsGiven, dropped, entries_here, has_unlisted, kept_then, quiet_step, ready, stood_still, when_answered}
use Rattle.vos_pool_unlist.proofs.unlisting.unlist_running.Goals as goal

pub stage_unlisting-blocks-requires-clause-here : goal.stage_unlisting-blocks-requires-clause-here
stage_unlisting-blocks-requires-clause-here g c told =
    entries_here g.R.Region.extent g.R.Region.tells g.R.Region.image c.args.blocks c.args.tables c.requires.unstaged c.size-size.ensures.holds c.requires.running told (c.requires.here told) c.plan_reopening-roots.result.entries c.plan_reopening-roots.ensures.entries

pub commit_staged-opened-requires-clause-ready : goal.commit_staged-opened-requires-clause-ready
commit_staged-opened-requires-clause-ready g c told running =
    let h = c.requires.here told in
    let staged = c.stage_unlisting-blocks in
    let well = c.can_commit.ensures.made c.if-can_commit.true in
    let k : IsGiven g.R.Region.extent g.R.Region.tells g.R.Region.image g.R.Region.may_leave c.args.attempt c.args.blocks c.args.tables staged.result.0 c.plan_roots-counters.result = record {
      at = c.plan_reopening-roots.result.entries;
      none = c.requires.unstaged;
      unchanged = c.requires.unchanged;
      holds = c.size-size.ensures.holds;
      going = c.requires.running;
      held = c.size-size-2.ensures.holds;
      still = staged.ensures.still;
      on = when_ok _ staged.result.1 staged.ensures.went_on well;
      objects_are = c.plan_roots-counters.ensures.objects ∙ c.plan_reopening-roots.ensures.objects;
      entries_are = c.plan_roots-counters.ensures.entries;
      at_is = c.plan_reopening-roots.ensures.entries;
      unlisted = when_ok _ staged.result.1 staged.ensures.unlisted well;
    } in
    (_, ready g.R.Region.extent g.R.Region.tells g.R.Region.image g.R.Region.may_leave c.args.attempt c.args.blocks c.args.tables staged.result.0 c.plan_roots-counters.result k told h.stored h.stands)

pub returns-then-can_commit-clause-quiet : goal.returns-then-can_commit-clause-quiet
returns-then-can_commit-clause-quiet g c =
    let staged = c.stage_unlisting-blocks in
    let well = c.can_commit.ensures.made c.if-can_commit.true in
    let k : IsGiven g.R.Region.extent g.R.Region.tells g.R.Region.image g.R.Region.may_leave c.args.attempt c.args.blocks c.args.tables staged.result.0 c.plan_roots-counters.result = record {
      at = c.plan_reopening-roots.result.entries;
      none = c.requires.unstaged;
      unchanged = c.requires.unchanged;
      holds = c.size-size.ensures.holds;
      going = c.requires.running;
      held = c.size-size-2.ensures.holds;
      still = staged.ensures.still;
      on = when_ok _ staged.result.1 staged.ensures.went_on well;
      objects_are = c.plan_roots-counters.ensures.objects ∙ c.plan_reopening-roots.ensures.objects;
      entries_are = c.plan_roots-counters.ensures.entries;
      at_is = c.plan_reopening-roots.ensures.entries;
      unlisted = when_ok _ staged.result.1 staged.ensures.unlisted well;
    } in
    let made = c.commit_staged-opened.ensures in
    let r = c.commit_staged-opened.result.1 in
    let q = c.commit_staged-opened.result.0 in
    let e = staged.result.0 in
    let p = pool_of c.args.blocks c.args.tables in
    let d = c.plan_roots-counters.result in
    let goes = staged.ensures.goes in
    let rows = same_rows c.args.tables d c.plan_roots-counters.ensures.kept in
    let free_was = free_as c.args.blocks e k.still.lasting k.unchanged in
    let before = c.free-before.ensures in
    let free_is = c.can_commit.ensures.free c.if-can_commit.true in
    quiet_step g.R.Region.extent g.R.Region.tells g.R.Region.image g.R.Region.may_leave g.R.Region.count g.R.Region.burns p q r
    (quiet_from g.R.Region.extent g.R.Region.tells g.R.Region.image g.R.Region.may_leave p e k.still r (kept_of g.R.Region.tells g.R.Region.extent g.R.Region.image q) (may_of g.R.Region.tells g.R.Region.extent g.R.Region.may_leave q)
    (made.quiet (kept_then g.R.Region.extent g.R.Region.tells g.R.Region.image g.R.Region.may_leave c.args.attempt c.args.blocks c.args.tables e d k c.size-size.ensures.undo_holds rows c.requires.here)))
    (by_answer (λ (u : Table). SameRows (places_of c.args.tables) (places_of u)) r q.table (counted d c.args.tables) c.args.tables made.table made.kept rows (record { conts = refl; snaps = refl; lease = refl; incarnation = refl }))
    (leaves_from g.R.Region.extent g.R.Region.tells g.R.Region.image g.R.Region.may_leave p e k.still 0 q (made.left 0 (λ told. omega (arith, free_was, before, free_is))))
    (free_in_map c.args.blocks r q.blocks.map e.map e.lasting _ made.map made.dropped (omega (arith, before, free_is)) (omega (arith, free_was)))
    (made.size ∙ k.still.size)
    (stops_then c.args.blocks.undo.stopped e.undo.stopped q.blocks.undo.stopped (g.R.Region.count c.args.blocks.undo.region) (g.R.Region.count e.undo.region) (g.R.Region.count q.blocks.undo.region) (g.R.Region.burns c.args.blocks.undo.region) (g.R.Region.burns e.undo.region) (g.R.Region.burns q.blocks.undo.region) r k.on goes.later_faults goes.later_burns made.stops)

pub returns-then-can_commit-clause-unlisted : goal.returns-then-can_commit-clause-unlisted
returns-then-can_commit-clause-unlisted g c =
    let staged = c.stage_unlisting-blocks in
    let well = c.can_commit.ensures.made c.if-can_commit.true in
    let k : IsGiven g.R.Region.extent g.R.Region.tells g.R.Region.image g.R.Region.may_leave c.args.attempt c.args.blocks c.args.tables staged.result.0 c.plan_roots-counters.result = record {
      at = c.plan_reopening-roots.result.entries;
      none = c.requires.unstaged;
      unchanged = c.requires.unchanged;
      holds = c.size-size.ensures.holds;
      going = c.requires.running;
      held = c.size-size-2.ensures.holds;
      still = staged.ensures.still;
      on = when_ok _ staged.result.1 staged.ensures.went_on well;
      objects_are = c.plan_roots-counters.ensures.objects ∙ c.plan_reopening-roots.ensures.objects;
      entries_are = c.plan_roots-counters.ensures.entries;
      at_is = c.plan_reopening-roots.ensures.entries;
      unlisted = when_ok _ staged.result.1 staged.ensures.unlisted well;
    } in
    let made = c.commit_staged-opened.ensures in
    when_answered c.commit_staged-opened.result.1 _ c.answered.ensures
    (λ table stands told x here. has_unlisted g.R.Region.extent g.R.Region.tells g.R.Region.image g.R.Region.may_leave c.args.attempt c.args.blocks c.args.tables staged.result.0 c.plan_roots-counters.result k c.commit_staged-opened.result.0 table stands told x here)
    made.table made.stands

pub returns-clause-quiet : goal.returns-clause-quiet
returns-clause-quiet g c =
    let staged = c.stage_unlisting-blocks in
    let u = c.drop_staged-opened.ensures in
    dropped g.R.Region.extent g.R.Region.tells g.R.Region.image g.R.Region.may_leave g.R.Region.count g.R.Region.burns c.args.blocks c.args.tables staged.result.0 c.drop_staged-opened.result staged.ensures.still u.still c.requires.unchanged u.table u.map u.stopped u.count u.burns staged.ensures.goes

pub drop_staged-opened-requires : goal.drop_staged-opened-requires
drop_staged-opened-requires g c told running =
    stood_still g.R.Region.extent g.R.Region.tells g.R.Region.image g.R.Region.may_leave c.args.blocks c.stage_unlisting-blocks.result.0 c.args.tables c.stage_unlisting-blocks.ensures.still told (c.requires.here told)
