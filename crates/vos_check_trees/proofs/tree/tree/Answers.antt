use Rattle.std.proofs.Common.{ℕ, None, subst}
use Rattle.vos_check_base.specs.vos_image.Trees.{read_below, read_tree}
use Rattle.vos_check_base.specs.Answers.{Answers, content}
use Rattle.vos_check_base.specs.Sets.{open_of}
use Rattle.vos_check_base.proofs.Faults.{moved}
use Rattle.vos_check_trees.specs.Found.{Gathers}
use Rattle.std.proofs.lemmas.Result.{err_from_is_err_and}
use Rattle.vos_check_base.proofs.Looking.{read_then}
use Rattle.vos_check_trees.proofs.tree.tree.Goals as goal

pub returns-clause-read : goal.returns-clause-read
unfolding read_tree
returns-clause-read g c told led marks =
    let K = g.K.Level.reads c.args.level.now in
    let b = g.K.Level.basis c.args.level.now in
    let f = g.S.Source.bytes c.args.source.now in
    let d = content b f in
    let most = c.in_ok-most.ensures.read told b in
    let all = moved {V = Unit {0}} b f (g.S.Source.bytes c.stored_height.new.source) (λ e. read_below K e c.in_ok-most.most c.args.root None None) (open_of c.args.fresh.now) (open_of c.below.new.fresh)
    (λ _ y. Gathers g.K.Level.rows c.args.out.now.items c.below.new.out.items y) c.below.result (c.stored_height.ensures.kept told) (c.below.ensures.read told) in
    subst (λ (n : ℕ). Answers d (read_below K d n c.args.root None None led) (open_of c.below.new.fresh) (λ _ y. Gathers g.K.Level.rows c.args.out.now.items c.below.new.out.items y) c.below.result) most (all led marks)

pub returns-in_err-most-clause-stops : goal.returns-in_err-most-clause-stops
returns-in_err-most-clause-stops g c =
    let p = err_from_is_err_and c.from_residual.result c.from_residual.ensures.1 in
    rw (p.1, p.2) (c.in_err-most.ensures.stops)

pub returns-clause-stops : goal.returns-clause-stops
returns-clause-stops g c = (read_then _ _ g.S.Source.looked_on _ _ _ _ c.in_ok-most.ensures.stops c.below.ensures.stops)
