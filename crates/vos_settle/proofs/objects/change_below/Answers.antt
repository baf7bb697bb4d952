use Rattle.std.proofs.Common.{rules, ◌≡◌, ◌+◌, Err, IsErrOf, ap, arith, subst}
use Rattle.pmem_tree_base.specs.declared.refusal.TreeNo.TheVariants.{TooMuch}
use Rattle.vos_levels.specs.Levels.{hung}
use Rattle.vos_path.proofs.vos_versions.Marks.{err_other}
use Rattle.vos_ilog.specs.Logs.{log_owner}
use Rattle.vos_path.specs.Objects.{dkey_level}
use Rattle.vos_path.proofs.BranchWrites.{log_after}
use Rattle.vos_path.proofs.Written.{holds_second}
use Rattle.vos_settle.specs.Costs.{dkeys_cost, for_one, noted_cost}
use Rattle.vos_settle.specs.Nodes.{DkeysTurn}
use Rattle.vos_settle.specs.Tasks.{noted_after}
use Rattle.vos_settle.proofs.NodeTurns.{both_turned}
use Rattle.vos_settle.proofs.Sums.{lacks_more, lacks_then, spends_then}
use Rattle.vos_settle.proofs.objects.change_below.Goals as goal

pub change_dkeys-requires-clause-here : goal.change_dkeys-requires-clause-here
change_dkeys-requires-clause-here g c told =
    let s = c.requires.here told in
    (s.0.1, (holds_second log_owner (hung dkey_level) (g.P.Pages.blocks c.args.pages.now) s.0 s.1.0, (ap (λ r. r.below) s.1.1.0, tt)))

pub returns-in_err-change_dkeys-clause-too_much : goal.returns-in_err-change_dkeys-clause-too_much
returns-in_err-change_dkeys-clause-too_much g c refused told x held at d small =
    let is : c.from_residual.result ≡ Err c.in_err-change_dkeys.field-0.0 = search rules in
    let lacks = c.in_err-change_dkeys.ensures.too_much (err_other c.in_err-change_dkeys.field-0.0 TooMuch (subst (λ z. IsErrOf z TooMuch) is refused)) told x.1 (holds_second log_owner (hung dkey_level) (g.P.Pages.blocks c.args.pages.now) x held) (ap (λ r. r.below) at) d small.1 in
    lacks_more (dkeys_cost c.args.task.kind c.args.akey.now (for_one d) 1) (dkeys_cost c.args.task.kind c.args.akey.now (for_one d) 1 + noted_cost c.args.task.kind (for_one d)) d (g.P.Pages.budget c.args.pages.now) (omega arith) lacks

pub returns-in_err-change_dkeys-clause-few_left : goal.returns-in_err-change_dkeys-clause-few_left
returns-in_err-change_dkeys-clause-few_left g c refused told x held at d small =
    let is : c.from_residual.result ≡ Err c.in_err-change_dkeys.field-0.0 = search rules in
    c.in_err-change_dkeys.ensures.few_left (err_other c.in_err-change_dkeys.field-0.0 TooMuch (subst (λ z. IsErrOf z TooMuch) is refused)) told x.1 (holds_second log_owner (hung dkey_level) (g.P.Pages.blocks c.args.pages.now) x held) (ap (λ r. r.below) at) d small.1

pub change_noted-requires-clause-log : goal.change_noted-requires-clause-log
change_noted-requires-clause-log g c told =
    let s = c.requires.here told in
    let m = g.P.Pages.blocks c.args.pages.now in
    let b = c.in_ok-change_dkeys.ensures.changed told s.0.1 (holds_second log_owner (hung dkey_level) m s.0 s.1.0) (ap (λ r. r.below) s.1.1.0) in
    (s.0.0, (log_after dkey_level m (g.P.Pages.blocks c.change_dkeys.new.pages) s.0 b.now s.1.0 b.changed, (ap (λ r. r.log) s.1.1.0, tt)))

pub returns-in_err-log-clause-too_much : goal.returns-in_err-log-clause-too_much
returns-in_err-log-clause-too_much g c refused told x held at d small =
    let is : c.from_residual-in_err-log.result ≡ Err c.in_err-log.field-0.0 = search rules in
    let m = g.P.Pages.blocks c.args.pages.now in
    let b = c.in_ok-change_dkeys.ensures.changed told x.1 (holds_second log_owner (hung dkey_level) m x held) (ap (λ r. r.below) at) in
    let spent = c.in_ok-change_dkeys.ensures.staged told x.1 (holds_second log_owner (hung dkey_level) m x held) (ap (λ r. r.below) at) d small.1 in
    lacks_then x.0 (dkeys_cost c.args.task.kind c.args.akey.now (for_one d) 1) (dkeys_cost c.args.task.kind c.args.akey.now (for_one d) 1 + noted_cost c.args.task.kind (for_one d)) d (g.P.Pages.budget c.args.pages.now) (g.P.Pages.budget c.change_dkeys.new.pages) (omega arith) small.0 spent
    (c.in_err-log.ensures.too_much (err_other c.in_err-log.field-0.0 TooMuch (subst (λ z. IsErrOf z TooMuch) is refused)) told x.0 (log_after dkey_level m (g.P.Pages.blocks c.change_dkeys.new.pages) x b.now held b.changed) (ap (λ r. r.log) at))

pub returns-in_err-log-clause-few_left : goal.returns-in_err-log-clause-few_left
returns-in_err-log-clause-few_left g c refused told x held at d small =
    let is : c.from_residual-in_err-log.result ≡ Err c.in_err-log.field-0.0 = search rules in
    let m = g.P.Pages.blocks c.args.pages.now in
    let b = c.in_ok-change_dkeys.ensures.changed told x.1 (holds_second log_owner (hung dkey_level) m x held) (ap (λ r. r.below) at) in
    c.in_err-log.ensures.few_left (err_other c.in_err-log.field-0.0 TooMuch (subst (λ z. IsErrOf z TooMuch) is refused)) told x.0 (log_after dkey_level m (g.P.Pages.blocks c.change_dkeys.new.pages) x b.now held b.changed) (ap (λ r. r.log) at) d small.0

pub returns-clause-changed : goal.returns-clause-changed
returns-clause-changed g c told x held at =
    let m = g.P.Pages.blocks c.args.pages.now in
    let n = g.P.Pages.blocks c.change_dkeys.new.pages in
    let b = c.in_ok-change_dkeys.ensures.changed told x.1 (holds_second log_owner (hung dkey_level) m x held) (ap (λ r. r.below) at) in
    let l = c.in_ok-log.ensures.changed told x.0 (log_after dkey_level m n x b.now held b.changed) (ap (λ r. r.log) at) in
    both_turned dkey_level m n x c.args.roots held at (DkeysTurn c.args.task c.args.dkey.now c.args.akey.now) (noted_after c.args.task) (g.P.Pages.blocks c.change_noted.new.pages) c.change_dkeys.new.dkeys.root c.in_ok-log.log b l

pub returns-clause-staged : goal.returns-clause-staged
returns-clause-staged g c told x held at d small =
    let m = g.P.Pages.blocks c.args.pages.now in
    let b = c.in_ok-change_dkeys.ensures.changed told x.1 (holds_second log_owner (hung dkey_level) m x held) (ap (λ r. r.below) at) in
    let spent = c.in_ok-change_dkeys.ensures.staged told x.1 (holds_second log_owner (hung dkey_level) m x held) (ap (λ r. r.below) at) d small.1 in
    let more = c.in_ok-log.ensures.staged told x.0 (log_after dkey_level m (g.P.Pages.blocks c.change_dkeys.new.pages) x b.now held b.changed) (ap (λ r. r.log) at) d small.0 in
    spends_then (dkeys_cost c.args.task.kind c.args.akey.now (for_one d) 1) (noted_cost c.args.task.kind (for_one d)) (g.P.Pages.budget c.args.pages.now) (g.P.Pages.budget c.change_dkeys.new.pages) (g.P.Pages.budget c.change_noted.new.pages) spent more

pub returns-clause-free : goal.returns-clause-free
returns-clause-free g c told x held at =
    let m = g.P.Pages.blocks c.args.pages.now in
    let b = c.in_ok-change_dkeys.ensures.changed told x.1 (holds_second log_owner (hung dkey_level) m x held) (ap (λ r. r.below) at) in
    let one = c.in_ok-change_dkeys.ensures.free told x.1 (holds_second log_owner (hung dkey_level) m x held) (ap (λ r. r.below) at) in
    let two = c.in_ok-log.ensures.free told x.0 (log_after dkey_level m (g.P.Pages.blocks c.change_dkeys.new.pages) x b.now held b.changed) (ap (λ r. r.log) at) in
    omega (arith, one, two)
