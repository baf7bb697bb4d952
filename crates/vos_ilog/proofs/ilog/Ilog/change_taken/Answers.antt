use Rattle.std.proofs.Common.{◌≡◌, ◌+◌, ◌*◌, ◌∙◌, sym, subst, arith}
use Rattle.pmem_pages.specs.Blocks.{Budget, IsSpent}
use Rattle.pmem_pages.specs.Owners.{Holds}
use Rattle.vos_moments.specs.vos_levels.Calls.{Becomes}
use Rattle.vos_moments.specs.vos_levels.Levels.{hung_root, things}
use Rattle.vos_moments.proofs.Forms.{took_nothing, took_one}
use Rattle.vos_moments.proofs.Taking.{on_ok_three, spent_at_most}
use Rattle.vos_ilog.specs.Logs.{IsChangedAt, freed_at, is_taken, log_owner}
use Rattle.vos_ilog.proofs.Settling.{log_form}
use Rattle.vos_ilog.proofs.ilog.Ilog.change_taken.Goals as goal

pub returns-then-not-branch-clause-took : goal.returns-then-not-branch-clause-took
returns-then-not-branch-clause-took g c told x held at =
    let p = c.takes_at.ensures in
    took_nothing log_form (is_taken c.args.change c.args.at) c.args.change (g.P.Pages.blocks c.args.pages.now) x (g.P.Pages.budget c.args.pages.now) (g.P.Pages.blocks c.takes_at.new.pages) c.args.self.now.tree.root (g.P.Pages.budget c.takes_at.new.pages) held at (p.kept told) p.budget
    (sym (c.in_ok-takes_at.ensures.found told x held at) ∙ c.if-not-branch.true)

pub returns-clause-took : goal.returns-clause-took
returns-clause-took g c =
    let p = c.takes_at.ensures in
    let q = c.change_at.ensures in
    let r = c.change_at.result in
    on_ok_three r (λ became staged gave told x held at.
    let e = p.kept told in
    let m = g.P.Pages.blocks c.args.pages.now in
    let o = g.P.Pages.blocks c.change_at.new.pages in
    let root = c.change_at.new.self.tree.root in
    let here : Holds log_owner (g.P.Pages.blocks c.takes_at.new.pages) x = subst (λ z. Holds log_owner z x) (sym e) held in
    let some = sym (c.in_ok-takes_at.ensures.found told x held at) ∙ c.if-not-branch.false in
    let old = g.P.Pages.budget c.args.pages.now in
    let now = g.P.Pages.budget c.change_at.new.pages in
    took_one log_form (is_taken c.args.change c.args.at) c.args.change m x old o root now some
    (subst (λ z. Becomes log_owner hung_root things z x o root (IsChangedAt c.args.change c.args.at)) e (became told x here at))
    (λ d few. subst (λ z. IsSpent (8 * d + 16 + 0) (256 * (8 * d + 16) + 0) z now) p.budget (spent_at_most (8 * d + 16) (256 * (8 * d + 16)) (8 * d + 16 + 0) (256 * (8 * d + 16) + 0) (g.P.Pages.budget c.takes_at.new.pages) now (omega arith) (omega arith) (staged told x here at d few)))
    (λ k. q.root k ∙ at)
    (λ k. subst (λ z. IsSpent 1 256 z now) p.budget (q.committed k))
    (subst (λ (z : Budget). now.free ≡ z.free + freed_at c.args.change c.args.at (things x)) p.budget (gave told x here at)))
    q.changed q.staged q.free
