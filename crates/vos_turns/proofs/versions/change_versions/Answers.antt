use Rattle.std.proofs.Common.{Err, ◌≡◌, ◌∙◌, true, false, refl, rules, subst, sym}
use Rattle.std.specs.Prelude.{take}
use Rattle.vos_levels.proofs.Calls.{goes_same, goes_then}
use Rattle.vos_turns.specs.Steps.{VersionsTurn}
use Rattle.vos_turns.specs.Turns.{CanBeNamed, takes_version}
use Rattle.vos_turns.proofs.Turning.{none_lacks, take_next, turn_first, turn_more, turn_past}
use Rattle.vos_turns.proofs.versions.change_versions.Goals as goal

pub loop-version-init : goal.loop-version-init
loop-version-init g c = record {
  so_far = λ told x held at small. turn_first c.args.change (g.P.Pages.blocks c.args.pages.now) x (g.P.Pages.budget c.args.pages.now) c.args.objects.root held at small;
  goes = goes_same g.P.Pages.stopped g.P.Pages.count g.P.Pages.burns c.args.pages.now;
  went_on = refl;
}

pub change_version-requires-clause-here : goal.change_version-requires-clause-here
change_version-requires-clause-here g c told =
    let s = c.requires.here told in
    let f = c.loop-version.invariant.so_far told s.0 s.1.0 s.1.1.0 s.1.1.1 in
    (f.now, (f.changed.holds, (f.root_is, tt)))

pub returns-in_err-change_version-clause-too_much : goal.returns-in_err-change_version-clause-too_much
returns-in_err-change_version-clause-too_much g c few told =
    let s = c.requires.here told in
    let us = c.args.versions.now in
    let k = c.loop-version.version-index in
    let f = c.loop-version.invariant.so_far told s.0 s.1.0 s.1.1.0 s.1.1.1 in
    let is : c.from_residual.result ≡ Err c.in_err-change_version.field-0.0 = search rules in
    let refused = c.in_err-change_version.was ∙ (sym is ∙ few) in
    let takes : takes_version c.args.change c.version-item.result ≡ true = search rules in
    none_lacks c.args.change us k c.version-item.result takes c.loop-version-test.true c.version-item.is (c.requires.few told) (g.P.Pages.blocks c.args.pages.now) s.0 (g.P.Pages.budget c.args.pages.now) (g.P.Pages.blocks c.loop-version.pages) c.args.objects.root (g.P.Pages.budget c.loop-version.pages) (g.P.Pages.budget c.change_version.new.pages) c.requires.room f
    c.change_version.ensures.committed
    (c.change_version.ensures.few_left refused told f.now f.changed.holds f.root_is f.small)
    (λ room. c.change_version.ensures.too_much refused room told f.now f.changed.holds f.root_is f.small)

pub loop-version-preserved : goal.loop-version-preserved
loop-version-preserved g c =
    let i = c.loop-version.invariant in
    let us = c.args.versions.now in
    let u = c.version-item.result in
    let k = c.loop-version.version-index in
    let next = sym (take_next us k u c.loop-version-test.true c.version-item.is) in
    let p = c.in_ok-change_version.ensures in
    let takes : takes_version c.args.change c.version-item.result ≡ true = search rules in
    record {
      so_far = λ told x held at small.
          let f = i.so_far told x held at small in
          subst (λ z. VersionsTurn c.args.change z (g.P.Pages.blocks c.args.pages.now) x (g.P.Pages.budget c.args.pages.now) (g.P.Pages.blocks c.change_version.new.pages) c.args.objects.root (g.P.Pages.budget c.change_version.new.pages)) next
          (turn_more c.args.change (take k us) u takes (subst CanBeNamed (sym c.version-item.is) (c.requires.named k u c.loop-version-test.true)) (g.P.Pages.blocks c.args.pages.now) x (g.P.Pages.budget c.args.pages.now) (g.P.Pages.blocks c.loop-version.pages) c.args.objects.root (g.P.Pages.budget c.loop-version.pages) (g.P.Pages.blocks c.change_version.new.pages) (g.P.Pages.budget c.change_version.new.pages) f
          (p.changed told f.now f.changed.holds f.root_is) p.committed (p.staged told f.now f.changed.holds f.root_is f.small) (p.free told f.now f.changed.holds f.root_is) (p.gives told f.now f.changed.holds f.root_is));
      goes = goes_then g.P.Pages.stopped g.P.Pages.count g.P.Pages.burns c.args.pages.now c.loop-version.pages c.change_version.new.pages i.goes c.change_version.ensures.goes;
      went_on = p.went_on ∙ i.went_on;
    }

pub loop-version-preserved-then-not-takes : goal.loop-version-preserved-then-not-takes
loop-version-preserved-then-not-takes g c =
    let i = c.loop-version.invariant in
    let us = c.args.versions.now in
    let u = c.version-item.result in
    let k = c.loop-version.version-index in
    let next = sym (take_next us k u c.loop-version-test.true c.version-item.is) in
    let past : takes_version c.args.change c.version-item.result ≡ false = search rules in
    record {
      so_far = λ told x held at small.
          subst (λ z. VersionsTurn c.args.change z (g.P.Pages.blocks c.args.pages.now) x (g.P.Pages.budget c.args.pages.now) (g.P.Pages.blocks c.loop-version.pages) c.args.objects.root (g.P.Pages.budget c.loop-version.pages)) next
          (turn_past c.args.change (take k us) u past (g.P.Pages.blocks c.args.pages.now) x (g.P.Pages.budget c.args.pages.now) (g.P.Pages.blocks c.loop-version.pages) c.args.objects.root (g.P.Pages.budget c.loop-version.pages) (i.so_far told x held at small));
      goes = i.goes;
      went_on = i.went_on;
    }
