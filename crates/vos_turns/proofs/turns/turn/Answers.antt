use Rattle.std.proofs.Common.{ap, arith, length}
use Rattle.vos_levels.proofs.Calls.{on_ok_then}
use Rattle.vos_turns.proofs.Turning.{both_turned, entries_after, objects_below, room_after, unlisted_below}
use Rattle.vos_turns.proofs.turns.turn.Goals as goal

pub change_versions-requires-clause-here : goal.change_versions-requires-clause-here
change_versions-requires-clause-here g c told =
    let s = c.requires.here told in
    (s.0.0, (objects_below (g.P.Pages.blocks c.args.pages.now) c.args.objects.root c.args.entries.now.tree.root s.0 s.1, (s.1.objects_root, s.1.small.objects)))

pub step_entry-requires-clause-here : goal.step_entry-requires-clause-here
step_entry-requires-clause-here g c told =
    let s = c.requires.here told in
    let m = g.P.Pages.blocks c.args.pages.now in
    let f = c.in_ok-change_versions.ensures.changed told s.0.0 (objects_below m c.args.objects.root c.args.entries.now.tree.root s.0 s.1) s.1.objects_root s.1.small.objects in (
      s.0.1,
      (
        entries_after c.args.change c.args.versions.now m c.args.objects.root c.args.entries.now.tree.root s.0 (g.P.Pages.budget c.args.pages.now) (g.P.Pages.blocks c.change_versions.new.pages) (g.P.Pages.budget c.change_versions.new.pages) s.1 f,
        (s.1.entries_root, unlisted_below m c.args.objects.root c.args.entries.now.tree.root s.0 s.1),
      ),
    )

pub step_entry-requires-clause-room : goal.step_entry-requires-clause-room
step_entry-requires-clause-room g c told =
    let s = c.requires.here told in
    let m = g.P.Pages.blocks c.args.pages.now in
    let f = c.in_ok-change_versions.ensures.changed told s.0.0 (objects_below m c.args.objects.root c.args.entries.now.tree.root s.0 s.1) s.1.objects_root s.1.small.objects in
    room_after c.args.change c.args.versions.now m s.0.0 (g.P.Pages.budget c.args.pages.now) (g.P.Pages.blocks c.change_versions.new.pages) c.args.objects.root (g.P.Pages.budget c.change_versions.new.pages) (c.requires.few told) c.requires.room f

pub returns-clause-turned : goal.returns-clause-turned
returns-clause-turned g c = on_ok_then c.step_entry.result (λ h told x s.
    let m = g.P.Pages.blocks c.args.pages.now in
    let n = g.P.Pages.blocks c.change_versions.new.pages in
    let o = c.args.objects.root in
    let e = c.args.entries.now.tree.root in
    let f = c.in_ok-change_versions.ensures.changed told x.0 (objects_below m o e x s) s.objects_root s.small.objects in
    let held = entries_after c.args.change c.args.versions.now m o e x (g.P.Pages.budget c.args.pages.now) n (g.P.Pages.budget c.change_versions.new.pages) s f in
    both_turned c.args.change c.args.versions.now c.args.attempt c.args.step m o e x (g.P.Pages.budget c.args.pages.now) n (g.P.Pages.budget c.change_versions.new.pages) (g.P.Pages.blocks c.step_entry.new.pages) c.step_entry.new.entries.tree.root s f
    (h told x.1 held s.entries_root (unlisted_below m o e x s))) c.step_entry.ensures.stepped

pub returns-clause-free : goal.returns-clause-free
returns-clause-free g c = on_ok_then c.step_entry.result (λ h told.
    let s = c.requires.here told in
    let m = g.P.Pages.blocks c.args.pages.now in
    let f = c.in_ok-change_versions.ensures.changed told s.0.0 (objects_below m c.args.objects.root c.args.entries.now.tree.root s.0 s.1) s.1.objects_root s.1.small.objects in
    omega (arith, f.free, h told)) c.step_entry.ensures.free

pub returns-clause-gives : goal.returns-clause-gives
returns-clause-gives g c = on_ok_then c.step_entry.result (λ h told x s.
    let m = g.P.Pages.blocks c.args.pages.now in
    let f = c.in_ok-change_versions.ensures.changed told x.0 (objects_below m c.args.objects.root c.args.entries.now.tree.root x s) s.objects_root s.small.objects in
    let gives = f.gives in
    let are = ap length f.versions in
    omega (arith, gives, are, h told)) c.step_entry.ensures.free
