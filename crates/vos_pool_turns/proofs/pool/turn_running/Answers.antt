use Rattle.std.proofs.Common.{◌≡◌, ◌∙◌, ap, arith, refl, subst, sym}
use Rattle.pmem_alloc.specs.Blocks.{free_count}
use Rattle.pmem_alloc.specs.Map.{MapState, free_of}
use Rattle.pmem_alloc.specs.Sets.{count_below}
use Rattle.pmem_alloc.specs.Pages.{shown}
use Rattle.vos_keeping.specs.Keeping.{SameRows}
use Rattle.vos_keeping.specs.vos_places.Laws.{counted}
use Rattle.vos_keeping.specs.vos_places.Tables.{Table, places_of}
use Rattle.vos_pool_stage.proofs.vos_pool_base.Commits.{when_ok}
use Rattle.vos_pool_stage.specs.vos_pool_base.Pool.{kept_of, may_of}
use Rattle.vos_pool_stage.proofs.Lifting.{leaves_from, makes_from, quiet_from}
use Rattle.vos_pool_stage.specs.Staged.{WhereTold, pool_of}
use Rattle.vos_pool_turns.proofs.Making.{both_ok, by_answer, free_as, free_in_map, given_up_stopped, given_up_untold, has_turned, kept_then, no_excuse, ready, same_rows, stands_below, stops_then}
use Rattle.vos_store.specs.Calls.{Makes}
use Rattle.vos_store.specs.Refusals.{always_stop}
use Rattle.vos_turns.specs.Turns.{StandsBelow}
use Rattle.vos_pool_turns.proofs.pool.turn_running.Goals.{then-stopped, else-stopped}
use Rattle.vos_pool_turns.proofs.pool.turn_running.Goals as goal

pub stage_turn-blocks-requires-clause-here : goal.stage_turn-blocks-requires-clause-here
stage_turn-blocks-requires-clause-here g c told =
    let h = c.requires.here told in
    let m = shown g.R.Region.image c.args.blocks in (
      h.0,
      subst (λ o. StandsBelow m o c.plan_reopening-roots.result.entries h.0) (sym c.plan_reopening-roots.ensures.objects) (subst (λ n. StandsBelow m c.args.tables.header.objects n h.0) (sym c.plan_reopening-roots.ensures.entries)
          (stands_below g.R.Region.extent g.R.Region.tells g.R.Region.image c.args.blocks c.args.tables c.args.step c.requires.unstaged c.size-size.ensures.holds c.requires.running told h.0 h.1)),
    )

pub commit_staged-requires-clause-ready : goal.commit_staged-requires-clause-ready
commit_staged-requires-clause-ready g c told running =
    let h = c.requires.here told in
    (_, ready g.R.Region.extent g.R.Region.tells g.R.Region.image g.R.Region.may_leave c.args.change c.args.versions.now c.args.attempt c.args.step c.args.blocks c.args.tables c.stage_turn-blocks.result.0 c.plan_roots-counters.result c.plan_reopening-roots.result.objects c.stage_turn-blocks.result.1.tree.root c.requires.unstaged c.requires.unchanged c.size-size.ensures.holds c.requires.running c.size-size-2.ensures.holds c.stage_turn-blocks.ensures.still (when_ok _ c.stage_turn-blocks.result.2 c.stage_turn-blocks.ensures.went_on (c.can_commit.ensures.made c.if-can_commit.true) ∙ c.requires.running) c.plan_roots-counters.ensures.objects c.plan_roots-counters.ensures.entries (λ told x b. when_ok _ c.stage_turn-blocks.result.2 c.stage_turn-blocks.ensures.turned (c.can_commit.ensures.made c.if-can_commit.true) told x (subst (λ o. StandsBelow (shown g.R.Region.image c.args.blocks) o c.plan_reopening-roots.result.entries x) (sym c.plan_reopening-roots.ensures.objects) (subst (λ n. StandsBelow (shown g.R.Region.image c.args.blocks) c.args.tables.header.objects n x) (sym c.plan_reopening-roots.ensures.entries) b))) told h.0 h.1)

pub returns-then-can_commit : goal.returns-then-can_commit
returns-then-can_commit g c =
    let r = c.commit_staged.result.1 in
    let q = c.commit_staged.result.0 in
    let e = c.stage_turn-blocks.result.0 in
    let p = pool_of c.args.blocks c.args.tables in
    let k = c.commit_staged.ensures in
    let still = c.stage_turn-blocks.ensures.still in
    let goes = c.stage_turn-blocks.ensures.goes in
    let on = (when_ok _ c.stage_turn-blocks.result.2 c.stage_turn-blocks.ensures.went_on (c.can_commit.ensures.made c.if-can_commit.true) ∙ c.requires.running) in
    let same = on ∙ sym c.requires.running in
    let rows = same_rows c.args.tables c.plan_roots-counters.result c.plan_roots-counters.ensures.kept in
    let free_was = free_as c.args.blocks e still.lasting c.requires.unchanged in
    let before = c.free-before.ensures in
    let free_is = c.can_commit.ensures.free c.if-can_commit.true in
    record {
      turned = both_ok r (λ stands table told x can. has_turned g.R.Region.extent g.R.Region.tells g.R.Region.image g.R.Region.may_leave c.args.change c.args.versions.now c.args.attempt c.args.step c.args.blocks c.args.tables c.stage_turn-blocks.result.0 c.plan_roots-counters.result c.plan_reopening-roots.result.objects c.stage_turn-blocks.result.1.tree.root c.requires.unstaged c.requires.unchanged c.size-size.ensures.holds c.requires.running c.size-size-2.ensures.holds c.stage_turn-blocks.ensures.still (when_ok _ c.stage_turn-blocks.result.2 c.stage_turn-blocks.ensures.went_on (c.can_commit.ensures.made c.if-can_commit.true) ∙ c.requires.running) c.plan_roots-counters.ensures.objects c.plan_roots-counters.ensures.entries (λ told x b. when_ok _ c.stage_turn-blocks.result.2 c.stage_turn-blocks.ensures.turned (c.can_commit.ensures.made c.if-can_commit.true) told x (subst (λ o. StandsBelow (shown g.R.Region.image c.args.blocks) o c.plan_reopening-roots.result.entries x) (sym c.plan_reopening-roots.ensures.objects) (subst (λ n. StandsBelow (shown g.R.Region.image c.args.blocks) c.args.tables.header.objects n x) (sym c.plan_reopening-roots.ensures.entries) b))) q table (λ y y_is. stands told y y_is) told x can) k.stands k.table;
      rows = by_answer (λ (u : Table). SameRows (places_of c.args.tables) (places_of u)) r q.table (counted c.plan_roots-counters.result c.args.tables) c.args.tables k.table k.kept rows (record { conts = refl; snaps = refl; lease = refl; incarnation = refl });
      kept = λ change turns.
          makes_from g.R.Region.extent g.R.Region.tells g.R.Region.image g.R.Region.may_leave p e still c.args.blocks.undo.stopped change r (kept_of g.R.Region.tells g.R.Region.extent g.R.Region.image q) (may_of g.R.Region.tells g.R.Region.extent g.R.Region.may_leave q)
          (subst (λ z. Makes z always_stop change r (kept_of g.R.Region.tells g.R.Region.extent g.R.Region.image (pool_of e c.args.tables)) (kept_of g.R.Region.tells g.R.Region.extent g.R.Region.image q) (may_of g.R.Region.tells g.R.Region.extent g.R.Region.may_leave (pool_of e c.args.tables)) (may_of g.R.Region.tells g.R.Region.extent g.R.Region.may_leave q)) same
          (k.makes change (kept_then g.R.Region.extent g.R.Region.tells g.R.Region.image g.R.Region.may_leave c.args.change c.args.versions.now c.args.attempt c.args.step c.args.blocks c.args.tables c.stage_turn-blocks.result.0 c.plan_roots-counters.result c.plan_reopening-roots.result.objects c.stage_turn-blocks.result.1.tree.root c.requires.unstaged c.requires.unchanged c.size-size.ensures.holds c.requires.running c.size-size-2.ensures.holds c.stage_turn-blocks.ensures.still (when_ok _ c.stage_turn-blocks.result.2 c.stage_turn-blocks.ensures.went_on (c.can_commit.ensures.made c.if-can_commit.true) ∙ c.requires.running) c.plan_roots-counters.ensures.objects c.plan_roots-counters.ensures.entries (λ told x b. when_ok _ c.stage_turn-blocks.result.2 c.stage_turn-blocks.ensures.turned (c.can_commit.ensures.made c.if-can_commit.true) told x (subst (λ o. StandsBelow (shown g.R.Region.image c.args.blocks) o c.plan_reopening-roots.result.entries x) (sym c.plan_reopening-roots.ensures.objects) (subst (λ n. StandsBelow (shown g.R.Region.image c.args.blocks) c.args.tables.header.objects n x) (sym c.plan_reopening-roots.ensures.entries) b))) change (λ told. c.size-size.ensures.undo_holds) rows turns c.requires.here)));
      quiet = λ turns.
          quiet_from g.R.Region.extent g.R.Region.tells g.R.Region.image g.R.Region.may_leave p e still r (kept_of g.R.Region.tells g.R.Region.extent g.R.Region.image q) (may_of g.R.Region.tells g.R.Region.extent g.R.Region.may_leave q)
          (k.quiet (kept_then g.R.Region.extent g.R.Region.tells g.R.Region.image g.R.Region.may_leave c.args.change c.args.versions.now c.args.attempt c.args.step c.args.blocks c.args.tables c.stage_turn-blocks.result.0 c.plan_roots-counters.result c.plan_reopening-roots.result.objects c.stage_turn-blocks.result.1.tree.root c.requires.unstaged c.requires.unchanged c.size-size.ensures.holds c.requires.running c.size-size-2.ensures.holds c.stage_turn-blocks.ensures.still (when_ok _ c.stage_turn-blocks.result.2 c.stage_turn-blocks.ensures.went_on (c.can_commit.ensures.made c.if-can_commit.true) ∙ c.requires.running) c.plan_roots-counters.ensures.objects c.plan_roots-counters.ensures.entries (λ told x b. when_ok _ c.stage_turn-blocks.result.2 c.stage_turn-blocks.ensures.turned (c.can_commit.ensures.made c.if-can_commit.true) told x (subst (λ o. StandsBelow (shown g.R.Region.image c.args.blocks) o c.plan_reopening-roots.result.entries x) (sym c.plan_reopening-roots.ensures.objects) (subst (λ n. StandsBelow (shown g.R.Region.image c.args.blocks) c.args.tables.header.objects n x) (sym c.plan_reopening-roots.ensures.entries) b))) (λ d. d) (λ told. c.size-size.ensures.undo_holds) rows turns c.requires.here));
      left = leaves_from g.R.Region.extent g.R.Region.tells g.R.Region.image g.R.Region.may_leave p e still 0 q (k.left 0 (λ told. omega (arith, free_was, before, free_is)));
      free = free_in_map c.args.blocks r q.blocks.map e.map e.lasting (free_count c.args.blocks) k.map k.dropped (omega (arith, before, free_is)) (omega (arith, free_was));
      gives = both_ok r (λ same went told x can.
          let gone = when_ok _ c.stage_turn-blocks.result.2 c.stage_turn-blocks.ensures.gives (c.can_commit.ensures.made c.if-can_commit.true) told x (subst (λ o. StandsBelow (shown g.R.Region.image c.args.blocks) o c.plan_reopening-roots.result.entries x) (sym c.plan_reopening-roots.ensures.objects) (subst (λ n. StandsBelow (shown g.R.Region.image c.args.blocks) c.args.tables.header.objects n x) (sym c.plan_reopening-roots.ensures.entries)
          (stands_below g.R.Region.extent g.R.Region.tells g.R.Region.image c.args.blocks c.args.tables c.args.step c.requires.unstaged c.size-size.ensures.holds c.requires.running told x can))) in
          let are : free_count q.blocks ≡ free_count e = ap (λ (m : MapState). count_below (free_of m) m.end) same in
          omega (arith, gone, are)) k.map k.map;
      size = k.size ∙ still.size;
      stops = stops_then c.args.blocks.undo.stopped e.undo.stopped q.blocks.undo.stopped (g.R.Region.count c.args.blocks.undo.region) (g.R.Region.count e.undo.region) (g.R.Region.count q.blocks.undo.region) (g.R.Region.burns c.args.blocks.undo.region) (g.R.Region.burns e.undo.region) (g.R.Region.burns q.blocks.undo.region) r same goes.later_faults goes.later_burns k.stops;
    }

pub returns : goal.returns
returns g c =
    let e = c.stage_turn-blocks.result.0 in
    let q = c.give_up-opened.result in
    let s = c.stage_turn-blocks.ensures in
    let before = c.free-before.ensures in
    let u = c.give_up-opened.ensures in
    let none : WhereTold g.R.Region.tells e ⊥ = λ told running. no_excuse c.stage_turn-blocks.result.2
    (λ ok. c.can_commit.ensures.refused c.if-can_commit.false ok (when_ok _ c.stage_turn-blocks.result.2 s.left ok told) (let more = when_ok _ c.stage_turn-blocks.result.2 s.free ok told in omega (arith, before, more)))
    (λ no. s.no_block no told) (λ no. s.too_much no told) (λ no. let is = s.stopped no in cc) in
    elim c.if-stopped.branch [
      | then-stopped w ↦ given_up_stopped g.R.Region.extent g.R.Region.tells g.R.Region.image g.R.Region.may_leave g.R.Region.count g.R.Region.burns c.args.change c.args.versions.now c.args.attempt c.args.step c.args.blocks c.args.tables e q s.still u.still c.requires.unchanged u.table u.map u.stopped u.count u.burns c.requires.running s.goes c.if-stopped.result _ (sym c.is_stopped-stopped.ensures ∙ w.if-stopped.true) w.result-is
      | else-stopped w ↦ given_up_untold g.R.Region.extent g.R.Region.tells g.R.Region.image g.R.Region.may_leave g.R.Region.count g.R.Region.burns c.args.change c.args.versions.now c.args.attempt c.args.step c.args.blocks c.args.tables e q s.still u.still c.requires.unchanged u.table u.map u.stopped u.count u.burns c.requires.running s.goes c.if-stopped.result (sym c.is_stopped-stopped.ensures ∙ w.if-stopped.false) w.result-is none
    ]
