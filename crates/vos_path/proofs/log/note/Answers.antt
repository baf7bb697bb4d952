use Rattle.std.proofs.Common.{rules, ◌≡◌, Err, IsErrOf, refl, subst}
use Rattle.pmem_tree_base.specs.declared.refusal.TreeNo.TheVariants.{TooMuch}
use Rattle.vos_extent.proofs.vos_versions.Marks.{err_other}
use Rattle.vos_path.proofs.Noting.{log_noted, log_tree}
use Rattle.vos_path.proofs.log.note.Goals as goal

pub set-requires-clause-tree : goal.set-requires-clause-tree
set-requires-clause-tree g c told =
    let s = c.requires.log told in
    (s.0.0, (log_tree (g.P.Pages.blocks c.args.pages.now) 4 c.args.root s.0 refl s.1.0 s.1.1.0, tt))

pub returns-in_err-set-clause-too_much : goal.returns-in_err-set-clause-too_much
returns-in_err-set-clause-too_much g c refused told x held at =
    let is : c.from_residual.result ≡ Err c.in_err-set.field-0.0 = search rules in
    c.in_err-set.ensures.too_much (err_other c.in_err-set.field-0.0 TooMuch (subst (λ z. IsErrOf z TooMuch) is refused)) told x.0 (log_tree (g.P.Pages.blocks c.args.pages.now) 4 c.args.root x refl held at)

pub returns-in_err-set-clause-few_left : goal.returns-in_err-set-clause-few_left
returns-in_err-set-clause-few_left g c refused told x held at =
    let is : c.from_residual.result ≡ Err c.in_err-set.field-0.0 = search rules in
    c.in_err-set.ensures.few_left (err_other c.in_err-set.field-0.0 TooMuch (subst (λ z. IsErrOf z TooMuch) is refused)) told x.0 (log_tree (g.P.Pages.blocks c.args.pages.now) 4 c.args.root x refl held at)

pub returns-clause-noted : goal.returns-clause-noted
returns-clause-noted g c told x held at none =
    let m = g.P.Pages.blocks c.args.pages.now in
    log_noted m (g.P.Pages.blocks c.set.new.pages) x c.args.stamp c.args.punch 4 c.set.new.self.root c.key_at-key.result c.value_of-value.result refl c.key_at-key.ensures.key c.value_of-value.ensures.value c.key_at-key.ensures.moment c.value_of-value.ensures.by held none
    (c.in_ok-set.ensures.set told x.0 (log_tree m 4 c.args.root x refl held at))

pub returns-clause-staged : goal.returns-clause-staged
returns-clause-staged g c told x held at =
    c.in_ok-set.ensures.staged told x.0 (log_tree (g.P.Pages.blocks c.args.pages.now) 4 c.args.root x refl held at)
