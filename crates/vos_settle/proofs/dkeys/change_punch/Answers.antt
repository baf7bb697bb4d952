use Rattle.std.proofs.Common.{rules, ◌≡◌, Err, IsErrOf, ap, subst}
use Rattle.pmem_tree_base.specs.declared.refusal.TreeNo.TheVariants.{TooMuch}
use Rattle.vos_levels.specs.Levels.{hung}
use Rattle.vos_path.proofs.vos_versions.Marks.{err_other}
use Rattle.vos_ilog.specs.Logs.{log_owner}
use Rattle.vos_path.specs.Objects.{akey_level}
use Rattle.vos_path.proofs.Written.{holds_first}
use Rattle.vos_settle.specs.Costs.{for_one}
use Rattle.vos_settle.specs.Tasks.{punched_after}
use Rattle.vos_settle.proofs.NodeTurns.{log_turned}
use Rattle.vos_settle.proofs.Sums.{lacks_now, log_spends}
use Rattle.vos_settle.proofs.dkeys.change_punch.Goals as goal

pub change_entry-requires-clause-log : goal.change_entry-requires-clause-log
change_entry-requires-clause-log g c told =
    let s = c.requires.here told in
    (s.0.0, (holds_first log_owner (hung akey_level) (g.P.Pages.blocks c.args.pages.now) s.0 s.1.0, (ap (λ r. r.log) s.1.1.0, tt)))

pub returns-in_err-log-clause-too_much : goal.returns-in_err-log-clause-too_much
returns-in_err-log-clause-too_much g c refused told x held at d small =
    let is : c.from_residual.result ≡ Err c.in_err-log.field-0.0 = search rules in
    lacks_now x.0 (for_one d) d (g.P.Pages.budget c.args.pages.now) small.0 (c.in_err-log.ensures.too_much (err_other c.in_err-log.field-0.0 TooMuch (subst (λ z. IsErrOf z TooMuch) is refused)) told x.0 (holds_first log_owner (hung akey_level) (g.P.Pages.blocks c.args.pages.now) x held) (ap (λ r. r.log) at))

pub returns-in_err-log-clause-few_left : goal.returns-in_err-log-clause-few_left
returns-in_err-log-clause-few_left g c refused told x held at d small =
    let is : c.from_residual.result ≡ Err c.in_err-log.field-0.0 = search rules in
    c.in_err-log.ensures.few_left (err_other c.in_err-log.field-0.0 TooMuch (subst (λ z. IsErrOf z TooMuch) is refused)) told x.0 (holds_first log_owner (hung akey_level) (g.P.Pages.blocks c.args.pages.now) x held) (ap (λ r. r.log) at) d small.0

pub returns-clause-changed : goal.returns-clause-changed
returns-clause-changed g c told x held at =
    log_turned akey_level (g.P.Pages.blocks c.args.pages.now) (g.P.Pages.blocks c.change_entry.new.pages) x c.args.roots held at (punched_after c.args.task) c.in_ok-log.log (c.in_ok-log.ensures.changed told x.0 (holds_first log_owner (hung akey_level) (g.P.Pages.blocks c.args.pages.now) x held) (ap (λ r. r.log) at))

pub returns-clause-staged : goal.returns-clause-staged
returns-clause-staged g c told x held at d small =
    log_spends x.0 d (g.P.Pages.budget c.args.pages.now) (g.P.Pages.budget c.change_entry.new.pages) small.0 (c.in_ok-log.ensures.staged told x.0 (holds_first log_owner (hung akey_level) (g.P.Pages.blocks c.args.pages.now) x held) (ap (λ r. r.log) at))

pub returns-clause-free : goal.returns-clause-free
returns-clause-free g c told x held at =
    c.in_ok-log.ensures.free told x.0 (holds_first log_owner (hung akey_level) (g.P.Pages.blocks c.args.pages.now) x held) (ap (λ r. r.log) at)
