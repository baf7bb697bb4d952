use Rattle.std.proofs.Common.{rules, ◌≡◌, Err, IsErrOf, ap, subst}
use Rattle.pmem_tree_base.specs.declared.refusal.TreeNo.TheVariants.{TooMuch}
use Rattle.vos_extent.proofs.vos_versions.Marks.{err_other}
use Rattle.vos_ilog.specs.Logs.{log_owner}
use Rattle.vos_extent.specs.vos_levels.Levels.{hung}
use Rattle.vos_path.specs.Calls.{for_pair}
use Rattle.vos_path.specs.Nodes.{AkeysNoted}
use Rattle.vos_path.specs.Objects.{akey_level, akeys_versions, dkey_path}
use Rattle.vos_path.specs.Writes.{data_blocks, fresh, values_pairs, akey_pairs, log_pairs}
use Rattle.base_types.specs.declared.operation.Write.TheVariants.{PunchDkey}
use Rattle.vos_path.proofs.BranchWrites.{below_written, lacks_more, log_after, log_lacks, spends_then}
use Rattle.vos_path.proofs.Forming.{akey_path_some}
use Rattle.vos_path.proofs.Written.{holds_second}
use Rattle.vos_path.proofs.dkeys.write_below.Goals as goal

pub write_akeys-requires-clause-here : goal.write_akeys-requires-clause-here
write_akeys-requires-clause-here g c told =
    let s = c.requires.here told in
    (s.0.1, (holds_second log_owner (hung akey_level) (g.P.Pages.blocks c.args.pages.now) s.0 s.1.0, (ap (λ r. r.below) s.1.1.0, s.1.1.1.akeys)))

pub returns-in_err-write_akeys-clause-too_much : goal.returns-in_err-write_akeys-clause-too_much
returns-in_err-write_akeys-clause-too_much g c refused told x held at new d small =
    let is : c.from_residual.result ≡ Err c.in_err-write_akeys.field-0.0 = search rules in
    lacks_more (data_blocks c.args.write.now) (akey_pairs c.args.write.now (for_pair d)) (log_pairs c.args.write.now (for_pair d)) d (g.P.Pages.budget c.args.pages.now) (lacks_more (data_blocks c.args.write.now) (values_pairs c.args.write.now (for_pair d)) (for_pair d) d (g.P.Pages.budget c.args.pages.now) (c.in_err-write_akeys.ensures.too_much (err_other c.in_err-write_akeys.field-0.0 TooMuch (subst (λ z. IsErrOf z TooMuch) is refused)) told x.1 (holds_second log_owner (hung akey_level) (g.P.Pages.blocks c.args.pages.now) x held) (ap (λ r. r.below) at) new.akeys d small.1))

pub returns-in_err-write_akeys-clause-few_left : goal.returns-in_err-write_akeys-clause-few_left
returns-in_err-write_akeys-clause-few_left g c refused told x held at new d small =
    let is : c.from_residual.result ≡ Err c.in_err-write_akeys.field-0.0 = search rules in
    c.in_err-write_akeys.ensures.few_left (err_other c.in_err-write_akeys.field-0.0 TooMuch (subst (λ z. IsErrOf z TooMuch) is refused)) told x.1 (holds_second log_owner (hung akey_level) (g.P.Pages.blocks c.args.pages.now) x held) (ap (λ r. r.below) at) new.akeys d small.1

pub note_update-requires-clause-log : goal.note_update-requires-clause-log
note_update-requires-clause-log g c told =
    let s = c.requires.here told in
    let p = akey_path_some c.args.write.now c.requires.form c.requires.below in
    let b = c.in_ok-write_akeys.ensures.written told s.0.1 (holds_second log_owner (hung akey_level) (g.P.Pages.blocks c.args.pages.now) s.0 s.1.0) (ap (λ r. r.below) s.1.1.0) s.1.1.1.akeys p.0 p.1.0 p.1.1.0 p.1.1.1 in
    (s.0.0, (log_after akey_level (g.P.Pages.blocks c.args.pages.now) (g.P.Pages.blocks c.write_akeys.new.pages) s.0 b.now s.1.0 b.changed, (ap (λ r. r.log) s.1.1.0, s.1.1.1.punch)))

pub returns-in_err-log-clause-too_much : goal.returns-in_err-log-clause-too_much
returns-in_err-log-clause-too_much g c refused told x held at new d small =
    let is : c.from_residual-in_err-log.result ≡ Err c.in_err-log.field-0.0 = search rules in
    let p = akey_path_some c.args.write.now c.requires.form c.requires.below in
    let b = c.in_ok-write_akeys.ensures.written told x.1 (holds_second log_owner (hung akey_level) (g.P.Pages.blocks c.args.pages.now) x held) (ap (λ r. r.below) at) new.akeys p.0 p.1.0 p.1.1.0 p.1.1.1 in
    let spent = c.in_ok-write_akeys.ensures.staged told x.1 (holds_second log_owner (hung akey_level) (g.P.Pages.blocks c.args.pages.now) x held) (ap (λ r. r.below) at) new.akeys d small.1 in
    log_lacks (data_blocks c.args.write.now) (akey_pairs c.args.write.now (for_pair d)) (log_pairs c.args.write.now (for_pair d)) d x.0 (g.P.Pages.budget c.args.pages.now) (g.P.Pages.budget c.write_akeys.new.pages) small.0 spent (c.in_err-log.ensures.too_much (err_other c.in_err-log.field-0.0 TooMuch (subst (λ z. IsErrOf z TooMuch) is refused)) told x.0 (log_after akey_level (g.P.Pages.blocks c.args.pages.now) (g.P.Pages.blocks c.write_akeys.new.pages) x b.now held b.changed) (ap (λ r. r.log) at))

pub returns-in_err-log-clause-few_left : goal.returns-in_err-log-clause-few_left
returns-in_err-log-clause-few_left g c refused told x held at new d small =
    let is : c.from_residual-in_err-log.result ≡ Err c.in_err-log.field-0.0 = search rules in
    let p = akey_path_some c.args.write.now c.requires.form c.requires.below in
    let b = c.in_ok-write_akeys.ensures.written told x.1 (holds_second log_owner (hung akey_level) (g.P.Pages.blocks c.args.pages.now) x held) (ap (λ r. r.below) at) new.akeys p.0 p.1.0 p.1.1.0 p.1.1.1 in
    c.in_err-log.ensures.few_left (err_other c.in_err-log.field-0.0 TooMuch (subst (λ z. IsErrOf z TooMuch) is refused)) told x.0 (log_after akey_level (g.P.Pages.blocks c.args.pages.now) (g.P.Pages.blocks c.write_akeys.new.pages) x b.now held b.changed) (ap (λ r. r.log) at) d small.0

pub returns-clause-written : goal.returns-clause-written
returns-clause-written g c told x held at new ob e a path =
    let b = c.in_ok-write_akeys.ensures.written told x.1 (holds_second log_owner (hung akey_level) (g.P.Pages.blocks c.args.pages.now) x held) (ap (λ r. r.below) at) new.akeys ob e a path in
    let l = c.in_ok-log.ensures.noted told x.0 (log_after akey_level (g.P.Pages.blocks c.args.pages.now) (g.P.Pages.blocks c.write_akeys.new.pages) x b.now held b.changed) (ap (λ r. r.log) at) new.punch in
    below_written akey_level (akeys_versions ob e) (PunchDkey (dkey_path ob e)) (g.P.Pages.blocks c.args.pages.now) (g.P.Pages.blocks c.write_akeys.new.pages) (g.P.Pages.blocks c.note_update.new.pages) x c.args.stamp c.args.write.now (fresh c.args.stamp c.args.write.now) (AkeysNoted c.args.stamp c.args.write.now a) c.write_akeys.new.akeys.root c.in_ok-log.log held b l

pub returns-clause-staged : goal.returns-clause-staged
returns-clause-staged g c told x held at new d small =
    let p = akey_path_some c.args.write.now c.requires.form c.requires.below in
    let b = c.in_ok-write_akeys.ensures.written told x.1 (holds_second log_owner (hung akey_level) (g.P.Pages.blocks c.args.pages.now) x held) (ap (λ r. r.below) at) new.akeys p.0 p.1.0 p.1.1.0 p.1.1.1 in
    let spent = c.in_ok-write_akeys.ensures.staged told x.1 (holds_second log_owner (hung akey_level) (g.P.Pages.blocks c.args.pages.now) x held) (ap (λ r. r.below) at) new.akeys d small.1 in
    spends_then (data_blocks c.args.write.now) (akey_pairs c.args.write.now (for_pair d)) (log_pairs c.args.write.now (for_pair d)) (g.P.Pages.budget c.args.pages.now) (g.P.Pages.budget c.write_akeys.new.pages) (g.P.Pages.budget c.note_update.new.pages) spent (c.in_ok-log.ensures.staged told x.0 (log_after akey_level (g.P.Pages.blocks c.args.pages.now) (g.P.Pages.blocks c.write_akeys.new.pages) x b.now held b.changed) (ap (λ r. r.log) at) d small.0)
