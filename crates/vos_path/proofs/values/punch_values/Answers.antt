use Rattle.std.proofs.Common.{rules, ◌≡◌, Err, IsErrOf, ap, subst}
use Rattle.pmem_tree_base.specs.declared.refusal.TreeNo.TheVariants.{TooMuch}
use Rattle.vos_extent.proofs.vos_versions.Marks.{err_other}
use Rattle.vos_path.proofs.Written.{fewer_left, holds_log, spent_for, values_punched}
use Rattle.vos_path.proofs.values.punch_values.Goals as goal

pub note-requires-clause-log : goal.note-requires-clause-log
note-requires-clause-log g c told =
    let s = c.requires.here told in
    (s.0.0, (holds_log (g.P.Pages.blocks c.args.pages.now) s.0 s.1.0, (ap (λ r. r.log) s.1.1.0, s.1.1.1.punch)))

pub returns-in_err-log-clause-too_much : goal.returns-in_err-log-clause-too_much
returns-in_err-log-clause-too_much g c refused told x held at d small =
    let is : c.from_residual.result ≡ Err c.in_err-log.field-0.0 = search rules in
    fewer_left x.0 d (g.P.Pages.budget c.args.pages.now) small.0 (c.in_err-log.ensures.too_much (err_other c.in_err-log.field-0.0 TooMuch (subst (λ z. IsErrOf z TooMuch) is refused)) told x.0 (holds_log (g.P.Pages.blocks c.args.pages.now) x held) (ap (λ r. r.log) at))

pub returns-in_err-log-clause-few_left : goal.returns-in_err-log-clause-few_left
returns-in_err-log-clause-few_left g c refused told x held at d small =
    let is : c.from_residual.result ≡ Err c.in_err-log.field-0.0 = search rules in
    c.in_err-log.ensures.few_left (err_other c.in_err-log.field-0.0 TooMuch (subst (λ z. IsErrOf z TooMuch) is refused)) told x.0 (holds_log (g.P.Pages.blocks c.args.pages.now) x held) (ap (λ r. r.log) at) d small.0

pub returns-clause-written : goal.returns-clause-written
returns-clause-written g c told x held at fresh p =
    let m = g.P.Pages.blocks c.args.pages.now in
    values_punched m (g.P.Pages.blocks c.note.new.pages) x c.args.roots c.args.stamp p c.in_ok-log.log held at (c.in_ok-log.ensures.noted told x.0 (holds_log m x held) (ap (λ r. r.log) at) fresh.punch)

pub returns-clause-staged : goal.returns-clause-staged
returns-clause-staged g c told x held at d small =
    spent_for x.0 d (g.P.Pages.budget c.args.pages.now) (g.P.Pages.budget c.note.new.pages) small.0 (c.in_ok-log.ensures.staged told x.0 (holds_log (g.P.Pages.blocks c.args.pages.now) x held) (ap (λ r. r.log) at))
