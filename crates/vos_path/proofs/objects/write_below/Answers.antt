use Rattle.std.proofs.Common.{rules, ◌≡◌, Err, IsErrOf, ap, subst, sym}
use Rattle.pmem_tree_base.specs.declared.refusal.TreeNo.TheVariants.{TooMuch}
use Rattle.vos_extent.proofs.vos_versions.Marks.{err_other}
use Rattle.vos_ilog.specs.Logs.{log_owner}
use Rattle.vos_extent.specs.vos_levels.Levels.{HasMore, hung}
use Rattle.base_types.specs.Operations.{write_path}
use Rattle.vos_path.specs.Calls.{Turns, for_pair}
use Rattle.vos_path.specs.Nodes.{DkeysNoted, ObjectNoted}
use Rattle.vos_path.specs.Objects.{below_object_versions, below_owner, below_roots, dkey_level, dkeys_versions, object_path}
use Rattle.vos_path.specs.Writes.{IsAtDkey, data_blocks, fresh, below_dkey_pairs, dkey_pairs, log_pairs}
use Rattle.base_types.specs.declared.operation.Write.TheVariants.{PunchObject}
use Rattle.vos_path.proofs.BranchWrites.{below_written, lacks_more, log_after, log_lacks, spends_then}
use Rattle.vos_path.proofs.Forming.{dkey_there, object_some}
use Rattle.vos_path.proofs.Written.{holds_second}
use Rattle.vos_path.proofs.objects.write_below.Goals as goal

pub write_dkeys-requires-clause-here : goal.write_dkeys-requires-clause-here
write_dkeys-requires-clause-here g c told =
    let s = c.requires.here told in
    (s.0.1, (holds_second log_owner (hung dkey_level) (g.P.Pages.blocks c.args.pages.now) s.0 s.1.0, (ap (λ r. r.below) s.1.1.0, s.1.1.1.dkeys)))

pub returns-in_err-write_dkeys-clause-too_much : goal.returns-in_err-write_dkeys-clause-too_much
returns-in_err-write_dkeys-clause-too_much g c refused told x held at new d small =
    let is : c.from_residual.result ≡ Err c.in_err-write_dkeys.field-0.0 = search rules in
    lacks_more (data_blocks c.args.write.now) (dkey_pairs c.args.write.now (for_pair d)) (log_pairs c.args.write.now (for_pair d)) d (g.P.Pages.budget c.args.pages.now) (lacks_more (data_blocks c.args.write.now) (below_dkey_pairs c.args.write.now (for_pair d)) (for_pair d) d (g.P.Pages.budget c.args.pages.now) (c.in_err-write_dkeys.ensures.too_much (err_other c.in_err-write_dkeys.field-0.0 TooMuch (subst (λ z. IsErrOf z TooMuch) is refused)) told x.1 (holds_second log_owner (hung dkey_level) (g.P.Pages.blocks c.args.pages.now) x held) (ap (λ r. r.below) at) new.dkeys d small.1))

pub returns-in_err-write_dkeys-clause-few_left : goal.returns-in_err-write_dkeys-clause-few_left
returns-in_err-write_dkeys-clause-few_left g c refused told x held at new d small =
    let is : c.from_residual.result ≡ Err c.in_err-write_dkeys.field-0.0 = search rules in
    c.in_err-write_dkeys.ensures.few_left (err_other c.in_err-write_dkeys.field-0.0 TooMuch (subst (λ z. IsErrOf z TooMuch) is refused)) told x.1 (holds_second log_owner (hung dkey_level) (g.P.Pages.blocks c.args.pages.now) x held) (ap (λ r. r.below) at) new.dkeys d small.1

pub note_update-requires-clause-log : goal.note_update-requires-clause-log
note_update-requires-clause-log g c told =
    let s = c.requires.here told in
    let p = object_some c.args.write.now c.requires.form in
    let k = dkey_there c.args.write.now c.requires.form c.requires.below in
    let is_at : IsAtDkey p.0 k.0 (write_path c.args.write.now) = record { object = p.1; dkey = k.1 } in
    let b = c.in_ok-write_dkeys.ensures.written told s.0.1 (holds_second log_owner (hung dkey_level) (g.P.Pages.blocks c.args.pages.now) s.0 s.1.0) (ap (λ r. r.below) s.1.1.0) s.1.1.1.dkeys p.0 k.0 is_at in
    (s.0.0, (log_after dkey_level (g.P.Pages.blocks c.args.pages.now) (g.P.Pages.blocks c.write_dkeys.new.pages) s.0 b.now s.1.0 b.changed, (ap (λ r. r.log) s.1.1.0, s.1.1.1.punch)))

pub returns-in_err-log-clause-too_much : goal.returns-in_err-log-clause-too_much
returns-in_err-log-clause-too_much g c refused told x held at new d small =
    let is : c.from_residual-in_err-log.result ≡ Err c.in_err-log.field-0.0 = search rules in
    let p = object_some c.args.write.now c.requires.form in
    let k = dkey_there c.args.write.now c.requires.form c.requires.below in
    let is_at : IsAtDkey p.0 k.0 (write_path c.args.write.now) = record { object = p.1; dkey = k.1 } in
    let b = c.in_ok-write_dkeys.ensures.written told x.1 (holds_second log_owner (hung dkey_level) (g.P.Pages.blocks c.args.pages.now) x held) (ap (λ r. r.below) at) new.dkeys p.0 k.0 is_at in
    let spent = c.in_ok-write_dkeys.ensures.staged told x.1 (holds_second log_owner (hung dkey_level) (g.P.Pages.blocks c.args.pages.now) x held) (ap (λ r. r.below) at) new.dkeys d small.1 in
    log_lacks (data_blocks c.args.write.now) (dkey_pairs c.args.write.now (for_pair d)) (log_pairs c.args.write.now (for_pair d)) d x.0 (g.P.Pages.budget c.args.pages.now) (g.P.Pages.budget c.write_dkeys.new.pages) small.0 spent (c.in_err-log.ensures.too_much (err_other c.in_err-log.field-0.0 TooMuch (subst (λ z. IsErrOf z TooMuch) is refused)) told x.0 (log_after dkey_level (g.P.Pages.blocks c.args.pages.now) (g.P.Pages.blocks c.write_dkeys.new.pages) x b.now held b.changed) (ap (λ r. r.log) at))

pub returns-in_err-log-clause-few_left : goal.returns-in_err-log-clause-few_left
returns-in_err-log-clause-few_left g c refused told x held at new d small =
    let is : c.from_residual-in_err-log.result ≡ Err c.in_err-log.field-0.0 = search rules in
    let p = object_some c.args.write.now c.requires.form in
    let k = dkey_there c.args.write.now c.requires.form c.requires.below in
    let is_at : IsAtDkey p.0 k.0 (write_path c.args.write.now) = record { object = p.1; dkey = k.1 } in
    let b = c.in_ok-write_dkeys.ensures.written told x.1 (holds_second log_owner (hung dkey_level) (g.P.Pages.blocks c.args.pages.now) x held) (ap (λ r. r.below) at) new.dkeys p.0 k.0 is_at in
    c.in_err-log.ensures.few_left (err_other c.in_err-log.field-0.0 TooMuch (subst (λ z. IsErrOf z TooMuch) is refused)) told x.0 (log_after dkey_level (g.P.Pages.blocks c.args.pages.now) (g.P.Pages.blocks c.write_dkeys.new.pages) x b.now held b.changed) (ap (λ r. r.log) at) d small.0

pub returns-clause-written : goal.returns-clause-written
returns-clause-written g c told x held at new ob is_at =
    let k = dkey_there c.args.write.now c.requires.form c.requires.below in
    let at_dkey : IsAtDkey ob k.0 (write_path c.args.write.now) = record { object = is_at; dkey = k.1 } in
    let m = g.P.Pages.blocks c.args.pages.now in
    let n = g.P.Pages.blocks c.write_dkeys.new.pages in
    let o = g.P.Pages.blocks c.note_update.new.pages in
    let akey = (write_path c.args.write.now).akey in
    let b = c.in_ok-write_dkeys.ensures.written told x.1 (holds_second log_owner (hung dkey_level) m x held) (ap (λ r. r.below) at) new.dkeys ob k.0 at_dkey in
    let l = c.in_ok-log.ensures.noted told x.0 (log_after dkey_level m n x b.now held b.changed) (ap (λ r. r.log) at) new.punch in
    let v = fresh c.args.stamp c.args.write.now in
    let all = below_written dkey_level (dkeys_versions ob) (PunchObject (object_path ob)) m n o x c.args.stamp c.args.write.now v (DkeysNoted c.args.stamp c.args.write.now k.0 akey) c.write_dkeys.new.dkeys.root c.in_ok-log.log held b l in
    subst (λ z. Turns (below_owner dkey_level) below_roots (below_object_versions ob) m x o (record { log = c.in_ok-log.log; below = c.write_dkeys.new.dkeys.root }) (HasMore v) (ObjectNoted c.args.stamp c.args.write.now z akey)) (sym k.1) all

pub returns-clause-staged : goal.returns-clause-staged
returns-clause-staged g c told x held at new d small =
    let p = object_some c.args.write.now c.requires.form in
    let k = dkey_there c.args.write.now c.requires.form c.requires.below in
    let is_at : IsAtDkey p.0 k.0 (write_path c.args.write.now) = record { object = p.1; dkey = k.1 } in
    let b = c.in_ok-write_dkeys.ensures.written told x.1 (holds_second log_owner (hung dkey_level) (g.P.Pages.blocks c.args.pages.now) x held) (ap (λ r. r.below) at) new.dkeys p.0 k.0 is_at in
    let spent = c.in_ok-write_dkeys.ensures.staged told x.1 (holds_second log_owner (hung dkey_level) (g.P.Pages.blocks c.args.pages.now) x held) (ap (λ r. r.below) at) new.dkeys d small.1 in
    spends_then (data_blocks c.args.write.now) (dkey_pairs c.args.write.now (for_pair d)) (log_pairs c.args.write.now (for_pair d)) (g.P.Pages.budget c.args.pages.now) (g.P.Pages.budget c.write_dkeys.new.pages) (g.P.Pages.budget c.note_update.new.pages) spent (c.in_ok-log.ensures.staged told x.0 (log_after dkey_level (g.P.Pages.blocks c.args.pages.now) (g.P.Pages.blocks c.write_dkeys.new.pages) x b.now held b.changed) (ap (λ r. r.log) at) d small.0)
