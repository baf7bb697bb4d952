use Rattle.std.proofs.Common.{ap, ◌∙◌}
use Rattle.base_outside.specs.Images.{Image}
use Rattle.vos_check_base.specs.vos_image.Trees.{stored_height}
use Rattle.std.proofs.lemmas.Result.{err_from_is_err_and}
use Rattle.vos_check_base.specs.Answers.{content}
use Rattle.vos_check_trees.proofs.NodeHeights.{heights_are}
use Rattle.vos_check_base.proofs.Looking.{read_none, read_then}
use Rattle.vos_check_trees.proofs.heights.has_height.Goals as goal

pub returns-clause-read : goal.returns-clause-read
returns-clause-read g c told d =
    let f = g.S.Source.bytes c.args.source.now in
    heights_are c.args.most c.args.links.now.height c.in_ok-left.left c.in_ok-right.right
    (stored_height (content d f) c.args.links.now.left) (stored_height (content d f) c.args.links.now.right) _ c.if-most-eq0.false
    (c.in_ok-left.ensures.read told d)
    (c.in_ok-right.ensures.read told d ∙ ap (λ (i : Image). stored_height (content d i) c.args.links.now.right) (c.stored_height.ensures.kept told))
    c.is_height.ensures

pub returns-then-most-eq0-clause-stops : goal.returns-then-most-eq0-clause-stops
returns-then-most-eq0-clause-stops g c = read_none _ _ g.S.Source.looked_none _

pub returns-in_err-left-clause-stops : goal.returns-in_err-left-clause-stops
returns-in_err-left-clause-stops g c =
    let p = err_from_is_err_and c.from_residual.result c.from_residual.ensures.1 in
    rw p.1 (c.in_err-left.ensures.stops)

pub returns-in_err-right-clause-stops : goal.returns-in_err-right-clause-stops
returns-in_err-right-clause-stops g c =
    let p = err_from_is_err_and c.from_residual-in_err-right.result c.from_residual-in_err-right.ensures.1 in
    rw p.1 ((read_then _ _ g.S.Source.looked_on _ _ _ _ c.in_ok-left.ensures.stops c.in_err-right.ensures.stops))

pub returns-clause-stops : goal.returns-clause-stops
returns-clause-stops g c = (read_then _ _ g.S.Source.looked_on _ _ _ _ c.in_ok-left.ensures.stops c.in_ok-right.ensures.stops)
