use Rattle.std.proofs.Common.{rules, ◌≡◌, ◌+◌, Err, IsErrOf, ap, arith, subst}
use Rattle.pmem_tree_base.specs.declared.refusal.TreeNo.TheVariants.{TooMuch}
use Rattle.vos_path.proofs.vos_versions.Marks.{err_other}
use Rattle.vos_path.proofs.Written.{holds_extent, log_after_extent}
use Rattle.vos_settle.specs.Costs.{for_one, values_cost}
use Rattle.vos_settle.proofs.Sums.{lacks_now, lacks_then, log_spends, spends_most, spends_then, version_spends}
use Rattle.vos_settle.proofs.ValuesTurns.{extent_freed, extent_turned}
use Rattle.vos_settle.proofs.values.change_extent.Goals as goal

pub change_at-requires-clause-here : goal.change_at-requires-clause-here
change_at-requires-clause-here g c told =
    let s = c.requires.here told in
    (s.0.1.1, (holds_extent (g.P.Pages.blocks c.args.pages.now) s.0 s.1.0, (ap (λ r. r.extents) s.1.1.0, tt)))

pub returns-in_err-change_at-clause-too_much : goal.returns-in_err-change_at-clause-too_much
returns-in_err-change_at-clause-too_much g c refused told x held at d small =
    let is : c.from_residual.result ≡ Err c.in_err-change_at.field-0.0 = search rules in
    lacks_now x.1.1 (values_cost c.args.task.kind (for_one d)) d (g.P.Pages.budget c.args.pages.now) small.1.1 (c.in_err-change_at.ensures.too_much (err_other c.in_err-change_at.field-0.0 TooMuch (subst (λ z. IsErrOf z TooMuch) is refused)) told x.1.1 (holds_extent (g.P.Pages.blocks c.args.pages.now) x held) (ap (λ r. r.extents) at))

pub returns-in_err-change_at-clause-few_left : goal.returns-in_err-change_at-clause-few_left
returns-in_err-change_at-clause-few_left g c refused told x held at d small =
    let is : c.from_residual.result ≡ Err c.in_err-change_at.field-0.0 = search rules in
    c.in_err-change_at.ensures.few_left (err_other c.in_err-change_at.field-0.0 TooMuch (subst (λ z. IsErrOf z TooMuch) is refused)) told x.1.1 (holds_extent (g.P.Pages.blocks c.args.pages.now) x held) (ap (λ r. r.extents) at) d small.1.1

pub change_entry-requires-clause-log : goal.change_entry-requires-clause-log
change_entry-requires-clause-log g c told =
    let s = c.requires.here told in
    let m = g.P.Pages.blocks c.args.pages.now in
    let b = c.in_ok-change_at.ensures.changed told s.0.1.1 (holds_extent m s.0 s.1.0) (ap (λ r. r.extents) s.1.1.0) in
    (s.0.0, (log_after_extent m (g.P.Pages.blocks c.change_at.new.pages) s.0 b.now s.1.0 b.changed, (ap (λ r. r.log) s.1.1.0, tt)))

pub returns-in_err-log-clause-too_much : goal.returns-in_err-log-clause-too_much
returns-in_err-log-clause-too_much g c refused told x held at d small =
    let is : c.from_residual-in_err-log.result ≡ Err c.in_err-log.field-0.0 = search rules in
    let m = g.P.Pages.blocks c.args.pages.now in
    let b = c.in_ok-change_at.ensures.changed told x.1.1 (holds_extent m x held) (ap (λ r. r.extents) at) in
    let spent = version_spends x.1.1 d (g.P.Pages.budget c.args.pages.now) (g.P.Pages.budget c.change_at.new.pages) small.1.1 (c.in_ok-change_at.ensures.staged told x.1.1 (holds_extent m x held) (ap (λ r. r.extents) at)) in
    lacks_then x.0 (for_one d) (values_cost c.args.task.kind (for_one d)) d (g.P.Pages.budget c.args.pages.now) (g.P.Pages.budget c.change_at.new.pages) (omega (arith, ap (λ z. values_cost z (for_one d)) c.requires.kind)) small.0 spent
    (c.in_err-log.ensures.too_much (err_other c.in_err-log.field-0.0 TooMuch (subst (λ z. IsErrOf z TooMuch) is refused)) told x.0 (log_after_extent m (g.P.Pages.blocks c.change_at.new.pages) x b.now held b.changed) (ap (λ r. r.log) at))

pub returns-in_err-log-clause-few_left : goal.returns-in_err-log-clause-few_left
returns-in_err-log-clause-few_left g c refused told x held at d small =
    let is : c.from_residual-in_err-log.result ≡ Err c.in_err-log.field-0.0 = search rules in
    let m = g.P.Pages.blocks c.args.pages.now in
    let b = c.in_ok-change_at.ensures.changed told x.1.1 (holds_extent m x held) (ap (λ r. r.extents) at) in
    c.in_err-log.ensures.few_left (err_other c.in_err-log.field-0.0 TooMuch (subst (λ z. IsErrOf z TooMuch) is refused)) told x.0 (log_after_extent m (g.P.Pages.blocks c.change_at.new.pages) x b.now held b.changed) (ap (λ r. r.log) at) d small.0

pub returns-clause-changed : goal.returns-clause-changed
returns-clause-changed g c told x held at =
    let m = g.P.Pages.blocks c.args.pages.now in
    let n = g.P.Pages.blocks c.change_at.new.pages in
    let b = c.in_ok-change_at.ensures.changed told x.1.1 (holds_extent m x held) (ap (λ r. r.extents) at) in
    let l = c.in_ok-log.ensures.changed told x.0 (log_after_extent m n x b.now held b.changed) (ap (λ r. r.log) at) in
    extent_turned m n (g.P.Pages.blocks c.change_entry.new.pages) x c.args.roots c.args.task c.args.low c.change_at.new.self.tree.root c.in_ok-log.log c.requires.kind held at b l

pub returns-clause-staged : goal.returns-clause-staged
returns-clause-staged g c told x held at d small =
    let m = g.P.Pages.blocks c.args.pages.now in
    let b0 = g.P.Pages.budget c.args.pages.now in
    let b1 = g.P.Pages.budget c.change_at.new.pages in
    let b2 = g.P.Pages.budget c.change_entry.new.pages in
    let b = c.in_ok-change_at.ensures.changed told x.1.1 (holds_extent m x held) (ap (λ r. r.extents) at) in
    let spent = version_spends x.1.1 d b0 b1 small.1.1 (c.in_ok-change_at.ensures.staged told x.1.1 (holds_extent m x held) (ap (λ r. r.extents) at)) in
    let more = log_spends x.0 d b1 b2 small.0 (c.in_ok-log.ensures.staged told x.0 (log_after_extent m (g.P.Pages.blocks c.change_at.new.pages) x b.now held b.changed) (ap (λ r. r.log) at)) in
    spends_most (for_one d + for_one d) (values_cost c.args.task.kind (for_one d)) b0 b2 (omega (arith, ap (λ z. values_cost z (for_one d)) c.requires.kind)) (spends_then (for_one d) (for_one d) b0 b1 b2 spent more)

pub returns-clause-free : goal.returns-clause-free
returns-clause-free g c told x held at =
    let m = g.P.Pages.blocks c.args.pages.now in
    let b = c.in_ok-change_at.ensures.changed told x.1.1 (holds_extent m x held) (ap (λ r. r.extents) at) in
    let one = c.in_ok-change_at.ensures.free told x.1.1 (holds_extent m x held) (ap (λ r. r.extents) at) in
    let two = c.in_ok-log.ensures.free told x.0 (log_after_extent m (g.P.Pages.blocks c.change_at.new.pages) x b.now held b.changed) (ap (λ r. r.log) at) in
    let all = extent_freed c.args.task c.args.low x c.requires.kind in
    omega (arith, one, two, all)
