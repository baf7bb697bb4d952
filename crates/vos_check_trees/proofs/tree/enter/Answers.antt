use Rattle.std.proofs.Common.{◌+◌, ◌*◌, ◌∙◌, Err, sym, ap}
use Rattle.std.proofs.lemmas.Result.{err_from_is_err_and}
use Rattle.vos_check_base.specs.Answers.{content}
use Rattle.vos_check_base.proofs.Faults.{blamed}
use Rattle.vos_check_trees.proofs.NodeHeights.{height_of_node}
use Rattle.vos_check_trees.proofs.Below.{enter_low, enter_off, enter_on}
use Rattle.vos_check_base.proofs.Looking.{read_then}
use Rattle.vos_check_trees.proofs.tree.enter.Goals as goal

pub returns-in_err-found-clause-read : goal.returns-in_err-found-clause-read
returns-in_err-found-clause-read g c told =
    let p = err_from_is_err_and c.from_residual.result c.from_residual.ensures.1 in
    rw (p.1, p.2) (λ led marks. enter_off (g.K.Level.reads c.args.level.now) (content (g.K.Level.basis c.args.level.now) (g.S.Source.bytes c.args.source.now)) c.args.most c.args.block c.args.keys.now.low c.args.keys.now.high led c.in_err-found.field-0.0 (c.in_err-found.ensures.read told led marks))

pub returns-then-branch-clause-read : goal.returns-then-branch-clause-read
returns-then-branch-clause-read g c told led marks =
    let b = g.K.Level.basis c.args.level.now in
    let f = g.S.Source.bytes c.args.source.now in
    let x = c.in_ok-found.ensures.read told led marks in
    let fits = height_of_node b f (g.S.Source.bytes c.fields_at.new.source) c.args.most c.in_ok-found.found.links x.value.node c.in_ok-has_height.field-0 (c.fields_at.ensures.kept told) x.shows.links (c.in_ok-has_height.ensures.read told b) in
    record {
      value = x.value;
      gives = record { led = x.gives.led; is = enter_on (g.K.Level.reads c.args.level.now) (content b f) c.args.most c.args.block c.args.keys.now.low c.args.keys.now.high led x.gives.led x.value x.gives.is (fits ∙ c.if-branch.true); marks = x.gives.marks };
      shows = x.shows;
    }

pub returns-else-branch-clause-read : goal.returns-else-branch-clause-read
returns-else-branch-clause-read g c told led marks =
    let b = g.K.Level.basis c.args.level.now in
    let f = g.S.Source.bytes c.args.source.now in
    let x = c.in_ok-found.ensures.read told led marks in
    let kept = c.fields_at.ensures.kept told in
    let fits = height_of_node b f (g.S.Source.bytes c.fields_at.new.source) c.args.most c.in_ok-found.found.links x.value.node c.in_ok-has_height.field-0 kept x.shows.links (c.in_ok-has_height.ensures.read told b) in
    let low = enter_low (g.K.Level.reads c.args.level.now) (content b f) c.args.most c.args.block c.args.keys.now.low c.args.keys.now.high led x.gives.led x.value x.gives.is (fits ∙ c.if-branch.false) in
    blamed (content b f) _ (256 * c.from.result + 1) (g.S.Source.bytes c.has_height.new.source) c.blame.result (c.has_height.ensures.kept told ∙ kept)
    (low ∙ ap (λ n. Err (256 * n + 1)) (sym c.from.ensures)) (c.blame.ensures.blamed told)

pub returns-in_err-found-clause-stops : goal.returns-in_err-found-clause-stops
returns-in_err-found-clause-stops g c =
    let p = err_from_is_err_and c.from_residual.result c.from_residual.ensures.1 in
    rw (p.1, p.2) (c.in_err-found.ensures.stops)

pub returns-in_err-has_height-clause-stops : goal.returns-in_err-has_height-clause-stops
returns-in_err-has_height-clause-stops g c =
    let p = err_from_is_err_and c.from_residual-in_err-has_height.result c.from_residual-in_err-has_height.ensures.1 in
    rw (p.1, p.2) ((read_then _ _ g.S.Source.looked_on _ _ _ _ c.in_ok-found.ensures.stops c.in_err-has_height.ensures.stops))

pub returns-then-branch-clause-stops : goal.returns-then-branch-clause-stops
returns-then-branch-clause-stops g c = (read_then _ _ g.S.Source.looked_on _ _ _ _ c.in_ok-found.ensures.stops c.in_ok-has_height.ensures.stops)

pub returns-else-branch-clause-stops : goal.returns-else-branch-clause-stops
returns-else-branch-clause-stops g c = (read_then _ _ g.S.Source.looked_on _ _ _ _ c.in_ok-found.ensures.stops (read_then _ _ g.S.Source.looked_on _ _ _ _ c.in_ok-has_height.ensures.stops c.blame.ensures.stops))
