use Rattle.std.specs.Prelude.{◌≡◌, filter}
use Rattle.std.proofs.Common.{◌∙◌, ap, subst, sym}
use Rattle.run_opening.specs.Steps.{AreFrozen, is_dropped}
use Rattle.run_opening.proofs.Thawing.{some-frozen}
use Rattle.run_opening.specs.Left.{first_thawed}
use Rattle.run_opening.proofs.snaps.drop_snaps.Goals as goal

pub thaw-requires-clause-frozen : goal.thaw-requires-clause-frozen
thaw-requires-clause-frozen g c x at =
    let own : c.deref.result.now ≡ filter (is_dropped c.args.script.now) x.snaps = c.deref.ensures.value ∙ c.in_ok-gone.ensures ∙ ap (filter (is_dropped c.args.script.now)) (c.as_slice.ensures ∙ c.in_ok-snaps.ensures c.requires.running x at) in
    subst (λ ys. AreFrozen ys x) (sym own) (some-frozen (is_dropped c.args.script.now) x (g.met.S.Store.formed c.args.store.now c.requires.running x at).snaps)

pub returns-clause-left : goal.returns-clause-left
returns-clause-left g c d x told found =
    let own : c.deref.result.now ≡ filter (is_dropped c.args.script.now) d.snaps = c.deref.ensures.value ∙ c.in_ok-gone.ensures ∙ ap (filter (is_dropped c.args.script.now)) (c.as_slice.ensures ∙ c.in_ok-snaps.ensures c.requires.running d told) in
    let n = c.thaw.ensures.left d x told found in
    (n.0, n.1 ∙ ap (λ xs. first_thawed xs n.0 d) own)
