use Rattle.std.proofs.Common.{◌+◌, ◌*◌, ap, ◌∙◌}
use Rattle.std.proofs.lemmas.Result.{err_from_is_err_and}
use Rattle.vos_check_base.specs.Answers.{content}
use Rattle.vos_check_trees.proofs.NodeHeights.{height_none, height_there}
use Rattle.vos_check_base.proofs.Looking.{read_none}
use Rattle.vos_check_trees.proofs.heights.stored_height.Goals as goal

pub returns-then-block-eq0-clause-read : goal.returns-then-block-eq0-clause-read
returns-then-block-eq0-clause-read g c told d = height_none (content d (g.S.Source.bytes c.args.source.now)) c.args.block c.if-block-eq0.true

pub returns-clause-read : goal.returns-clause-read
returns-clause-read g c told d =
    height_there (content d (g.S.Source.bytes c.args.source.now)) c.args.block c.in_ok-height.height c.if-block-eq0.false
    (c.in_ok-height.ensures.read told ∙ ap (λ n. g.S.Source.bytes c.args.source.now (256 * n + 1)) c.from.ensures)

pub returns-then-block-eq0-clause-stops : goal.returns-then-block-eq0-clause-stops
returns-then-block-eq0-clause-stops g c = read_none _ _ g.S.Source.looked_none _

pub returns-in_err-height-clause-stops : goal.returns-in_err-height-clause-stops
returns-in_err-height-clause-stops g c =
    let p = err_from_is_err_and c.from_residual.result c.from_residual.ensures.1 in
    rw p.1 (c.in_err-height.ensures.stops)

pub returns-clause-stops : goal.returns-clause-stops
returns-clause-stops g c = c.in_ok-height.ensures.stops
