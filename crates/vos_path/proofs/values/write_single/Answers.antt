use Rattle.std.proofs.Common.{rules, ◌≡◌, Err, IsErrOf, ap, length, subst}
use Rattle.pmem_tree_base.specs.declared.refusal.TreeNo.TheVariants.{TooMuch}
use Rattle.vos_extent.proofs.vos_versions.Marks.{err_other}
use Rattle.vos_extent.specs.vos_chain.Made.{chain_blocks}
use Rattle.vos_path.proofs.Written.{added_lacks, added_then, fewer_after, holds_single, log_after_single, single_written}
use Rattle.vos_path.proofs.values.write_single.Goals as goal

pub add-requires-clause-here : goal.add-requires-clause-here
add-requires-clause-here g c told =
    let s = c.requires.here told in
    (s.0.1.0, (holds_single (g.P.Pages.blocks c.args.pages.now) s.0 s.1.0, (ap (λ r. r.singles) s.1.1.0, s.1.1.1.single)))

pub returns-in_err-add-clause-too_much : goal.returns-in_err-add-clause-too_much
returns-in_err-add-clause-too_much g c refused told x held at fresh d small =
    let is : c.from_residual.result ≡ Err c.in_err-add.field-0.0 = search rules in
    added_lacks (chain_blocks (length c.args.bytes.now)) x.1.0 d (g.P.Pages.budget c.args.pages.now) small.1.0 (c.in_err-add.ensures.too_much (err_other c.in_err-add.field-0.0 TooMuch (subst (λ z. IsErrOf z TooMuch) is refused)) told x.1.0 (holds_single (g.P.Pages.blocks c.args.pages.now) x held) (ap (λ r. r.singles) at) fresh.single)

pub returns-in_err-add-clause-few_left : goal.returns-in_err-add-clause-few_left
returns-in_err-add-clause-few_left g c refused told x held at fresh d small =
    let is : c.from_residual.result ≡ Err c.in_err-add.field-0.0 = search rules in
    c.in_err-add.ensures.few_left (err_other c.in_err-add.field-0.0 TooMuch (subst (λ z. IsErrOf z TooMuch) is refused)) told x.1.0 (holds_single (g.P.Pages.blocks c.args.pages.now) x held) (ap (λ r. r.singles) at) fresh.single d small.1.0

pub note-requires-clause-log : goal.note-requires-clause-log
note-requires-clause-log g c told =
    let s = c.requires.here told in
    let m = g.P.Pages.blocks c.args.pages.now in
    let b = c.in_ok-add.ensures.added told s.0.1.0 (holds_single m s.0 s.1.0) (ap (λ r. r.singles) s.1.1.0) s.1.1.1.single in
    (s.0.0, (log_after_single m (g.P.Pages.blocks c.add.new.pages) s.0 b.now s.1.0 b.changed, (ap (λ r. r.log) s.1.1.0, s.1.1.1.punch)))

pub returns-in_err-log-clause-too_much : goal.returns-in_err-log-clause-too_much
returns-in_err-log-clause-too_much g c refused told x held at fresh d small =
    let is : c.from_residual-in_err-log.result ≡ Err c.in_err-log.field-0.0 = search rules in
    let m = g.P.Pages.blocks c.args.pages.now in
    let b = c.in_ok-add.ensures.added told x.1.0 (holds_single m x held) (ap (λ r. r.singles) at) fresh.single in
    let spent = c.in_ok-add.ensures.staged told x.1.0 (holds_single m x held) (ap (λ r. r.singles) at) fresh.single in
    fewer_after (chain_blocks (length c.args.bytes.now)) x.1.0 x.0 d (g.P.Pages.budget c.args.pages.now) (g.P.Pages.budget c.add.new.pages) small.1.0 small.0 spent (c.in_err-log.ensures.too_much (err_other c.in_err-log.field-0.0 TooMuch (subst (λ z. IsErrOf z TooMuch) is refused)) told x.0 (log_after_single m (g.P.Pages.blocks c.add.new.pages) x b.now held b.changed) (ap (λ r. r.log) at))

pub returns-in_err-log-clause-few_left : goal.returns-in_err-log-clause-few_left
returns-in_err-log-clause-few_left g c refused told x held at fresh d small =
    let is : c.from_residual-in_err-log.result ≡ Err c.in_err-log.field-0.0 = search rules in
    let m = g.P.Pages.blocks c.args.pages.now in
    let b = c.in_ok-add.ensures.added told x.1.0 (holds_single m x held) (ap (λ r. r.singles) at) fresh.single in
    c.in_err-log.ensures.few_left (err_other c.in_err-log.field-0.0 TooMuch (subst (λ z. IsErrOf z TooMuch) is refused)) told x.0 (log_after_single m (g.P.Pages.blocks c.add.new.pages) x b.now held b.changed) (ap (λ r. r.log) at) d small.0

pub returns-clause-written : goal.returns-clause-written
returns-clause-written g c told x held at fresh p =
    let m = g.P.Pages.blocks c.args.pages.now in
    let n = g.P.Pages.blocks c.add.new.pages in
    let b = c.in_ok-add.ensures.added told x.1.0 (holds_single m x held) (ap (λ r. r.singles) at) fresh.single in
    let l = c.in_ok-log.ensures.noted told x.0 (log_after_single m n x b.now held b.changed) (ap (λ r. r.log) at) fresh.punch in
    single_written m n (g.P.Pages.blocks c.note.new.pages) x c.args.roots c.args.stamp c.args.bytes.now p c.add.new.self.tree.root c.in_ok-log.log held at b l

pub returns-clause-staged : goal.returns-clause-staged
returns-clause-staged g c told x held at fresh d small =
    let m = g.P.Pages.blocks c.args.pages.now in
    let b = c.in_ok-add.ensures.added told x.1.0 (holds_single m x held) (ap (λ r. r.singles) at) fresh.single in
    let spent = c.in_ok-add.ensures.staged told x.1.0 (holds_single m x held) (ap (λ r. r.singles) at) fresh.single in
    added_then (chain_blocks (length c.args.bytes.now)) x.1.0 x.0 d (g.P.Pages.budget c.args.pages.now) (g.P.Pages.budget c.add.new.pages) (g.P.Pages.budget c.note.new.pages) small.1.0 small.0 spent (c.in_ok-log.ensures.staged told x.0 (log_after_single m (g.P.Pages.blocks c.add.new.pages) x b.now held b.changed) (ap (λ r. r.log) at))
