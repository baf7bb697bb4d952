use Rattle.std.proofs.Common.{rules, ◌≡◌, Err, IsErrOf, ap, arith, subst}
use Rattle.pmem_tree_base.specs.declared.refusal.TreeNo.TheVariants.{TooMuch}
use Rattle.vos_path.proofs.vos_versions.Marks.{err_other}
use Rattle.vos_path.proofs.Written.{holds_log}
use Rattle.vos_settle.specs.Costs.{for_one, values_cost}
use Rattle.vos_settle.proofs.Sums.{lacks_now, log_spends, spends_most}
use Rattle.vos_settle.proofs.ValuesTurns.{punch_freed, punch_turned}
use Rattle.vos_settle.proofs.values.change_punch.Goals as goal

pub change_entry-requires-clause-log : goal.change_entry-requires-clause-log
change_entry-requires-clause-log g c told =
    let s = c.requires.here told in
    (s.0.0, (holds_log (g.P.Pages.blocks c.args.pages.now) s.0 s.1.0, (ap (λ r. r.log) s.1.1.0, tt)))

pub returns-in_err-log-clause-too_much : goal.returns-in_err-log-clause-too_much
returns-in_err-log-clause-too_much g c refused told x held at d small =
    let is : c.from_residual.result ≡ Err c.in_err-log.field-0.0 = search rules in
    lacks_now x.0 (values_cost c.args.task.kind (for_one d)) d (g.P.Pages.budget c.args.pages.now) small.0 (c.in_err-log.ensures.too_much (err_other c.in_err-log.field-0.0 TooMuch (subst (λ z. IsErrOf z TooMuch) is refused)) told x.0 (holds_log (g.P.Pages.blocks c.args.pages.now) x held) (ap (λ r. r.log) at))

pub returns-in_err-log-clause-few_left : goal.returns-in_err-log-clause-few_left
returns-in_err-log-clause-few_left g c refused told x held at d small =
    let is : c.from_residual.result ≡ Err c.in_err-log.field-0.0 = search rules in
    c.in_err-log.ensures.few_left (err_other c.in_err-log.field-0.0 TooMuch (subst (λ z. IsErrOf z TooMuch) is refused)) told x.0 (holds_log (g.P.Pages.blocks c.args.pages.now) x held) (ap (λ r. r.log) at) d small.0

pub returns-clause-changed : goal.returns-clause-changed
returns-clause-changed g c told x held at =
    punch_turned (g.P.Pages.blocks c.args.pages.now) (g.P.Pages.blocks c.change_entry.new.pages) x c.args.roots c.args.task c.in_ok-log.log c.requires.kind held at (c.in_ok-log.ensures.changed told x.0 (holds_log (g.P.Pages.blocks c.args.pages.now) x held) (ap (λ r. r.log) at))

pub returns-clause-staged : goal.returns-clause-staged
returns-clause-staged g c told x held at d small =
    let b0 = g.P.Pages.budget c.args.pages.now in
    let b1 = g.P.Pages.budget c.change_entry.new.pages in
    let spent = log_spends x.0 d b0 b1 small.0 (c.in_ok-log.ensures.staged told x.0 (holds_log (g.P.Pages.blocks c.args.pages.now) x held) (ap (λ r. r.log) at)) in
    spends_most (for_one d) (values_cost c.args.task.kind (for_one d)) b0 b1 (omega (arith, ap (λ z. values_cost z (for_one d)) c.requires.kind)) spent

pub returns-clause-free : goal.returns-clause-free
returns-clause-free g c told x held at =
    let one = c.in_ok-log.ensures.free told x.0 (holds_log (g.P.Pages.blocks c.args.pages.now) x held) (ap (λ r. r.log) at) in
    let all = punch_freed c.args.task x c.requires.kind in
    omega (arith, one, all)
