use Rattle.std.proofs.Common.{rules, ◌≡◌, Err, IsErrOf, ap, refl, subst}
use Rattle.pmem_tree_base.specs.declared.refusal.TreeNo.TheVariants.{TooMuch}
use Rattle.vos_extent.proofs.vos_versions.Marks.{err_other}
use Rattle.vos_ilog.specs.Logs.{log_owner}
use Rattle.vos_extent.specs.vos_levels.Levels.{hung}
use Rattle.vos_path.specs.Objects.{dkey_level, dkeys_versions, object_path}
use Rattle.base_types.specs.declared.operation.Write.TheVariants.{PunchObject}
use Rattle.vos_path.proofs.BranchWrites.{below_punched}
use Rattle.vos_path.proofs.Written.{fewer_left, holds_first, spent_for}
use Rattle.vos_path.proofs.objects.punch_log.Goals as goal

pub note-requires-clause-log : goal.note-requires-clause-log
note-requires-clause-log g c told =
    let s = c.requires.here told in
    (s.0.0, (holds_first log_owner (hung dkey_level) (g.P.Pages.blocks c.args.pages.now) s.0 s.1.0, (ap (λ r. r.log) s.1.1.0, s.1.1.1.punch)))

pub returns-in_err-log-clause-too_much : goal.returns-in_err-log-clause-too_much
returns-in_err-log-clause-too_much g c refused told x held at new d small =
    let is : c.from_residual.result ≡ Err c.in_err-log.field-0.0 = search rules in
    fewer_left x.0 d (g.P.Pages.budget c.args.pages.now) small (c.in_err-log.ensures.too_much (err_other c.in_err-log.field-0.0 TooMuch (subst (λ z. IsErrOf z TooMuch) is refused)) told x.0 (holds_first log_owner (hung dkey_level) (g.P.Pages.blocks c.args.pages.now) x held) (ap (λ r. r.log) at))

pub returns-in_err-log-clause-few_left : goal.returns-in_err-log-clause-few_left
returns-in_err-log-clause-few_left g c refused told x held at new d small =
    let is : c.from_residual.result ≡ Err c.in_err-log.field-0.0 = search rules in
    c.in_err-log.ensures.few_left (err_other c.in_err-log.field-0.0 TooMuch (subst (λ z. IsErrOf z TooMuch) is refused)) told x.0 (holds_first log_owner (hung dkey_level) (g.P.Pages.blocks c.args.pages.now) x held) (ap (λ r. r.log) at) d small

pub returns-clause-written : goal.returns-clause-written
returns-clause-written g c told x held at new ob =
    below_punched dkey_level (dkeys_versions ob) (PunchObject (object_path ob)) (g.P.Pages.blocks c.args.pages.now) (g.P.Pages.blocks c.note.new.pages) x c.args.roots c.args.stamp c.in_ok-log.log held at refl (c.in_ok-log.ensures.noted told x.0 (holds_first log_owner (hung dkey_level) (g.P.Pages.blocks c.args.pages.now) x held) (ap (λ r. r.log) at) new.punch)

pub returns-clause-staged : goal.returns-clause-staged
returns-clause-staged g c told x held at new d small =
    spent_for x.0 d (g.P.Pages.budget c.args.pages.now) (g.P.Pages.budget c.note.new.pages) small (c.in_ok-log.ensures.staged told x.0 (holds_first log_owner (hung dkey_level) (g.P.Pages.blocks c.args.pages.now) x held) (ap (λ r. r.log) at))
