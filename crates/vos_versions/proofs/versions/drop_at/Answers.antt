use Rattle.std.proofs.Common.{rules, ◌≡◌, arith, subst, Err, IsErrOf}
use Rattle.vos_chain.specs.pmem_tree_base.declared.refusal.TreeNo.TheVariants.{TooMuch}
use Rattle.vos_chain.proofs.vos_levels.Calls.{on_ok_then}
use Rattle.vos_versions.proofs.Marks.{bytes_left, err_other, few_then, kind_is, short_any, stages_then}
use Rattle.vos_versions.proofs.versions.drop_at.Goals as goal

pub remove-requires-clause-kind : goal.remove-requires-clause-kind
remove-requires-clause-kind g c = kind_is c.args.tree.now.kind c.requires.kind

pub remove-requires-clause-tree : goal.remove-requires-clause-tree
remove-requires-clause-tree g c told = let s = c.requires.tree told in (s.0, (s.1.0, s.1.1.0))

pub give_chain-requires : goal.give_chain-requires
give_chain-requires g c = record {
  chain = λ told.
      let s = c.requires.tree told in
      let gone = c.in_ok-remove.ensures.removed told s.0 s.1.0 s.1.1.0.0 s.1.1.0.1 in
      (s.1.1.1.chain, bytes_left (g.P.Pages.blocks c.args.pages.now) (g.P.Pages.blocks c.remove.new.pages) c.args.tree.now.kind s.0 c.args.key.now s.1.1.0.0 c.remove.new.self.root c.args.mark s.1.1.1 gone);
}

pub returns-clause-dropped : goal.returns-clause-dropped
returns-clause-dropped g c = on_ok_then c.give_chain.result (λ h told t tree e at. record {
  between = g.P.Pages.blocks c.remove.new.pages;
  removes = c.in_ok-remove.ensures.removed told t tree e at;
  given = λ x stands. h told x stands;
}) c.give_chain.ensures.given

pub returns-in_err-remove-clause-too_much : goal.returns-in_err-remove-clause-too_much
returns-in_err-remove-clause-too_much g c h told t tree e at =
    let is : c.from_residual.result ≡ Err c.in_err-remove.field-0.0 = search rules in
    c.in_err-remove.ensures.too_much (err_other c.in_err-remove.field-0.0 TooMuch (subst (λ z. IsErrOf z TooMuch) is h)) told t tree e at

pub returns-in_err-remove-clause-few_left : goal.returns-in_err-remove-clause-few_left
returns-in_err-remove-clause-few_left g c h told t tree e at =
    let is : c.from_residual.result ≡ Err c.in_err-remove.field-0.0 = search rules in
    c.in_err-remove.ensures.few_left (err_other c.in_err-remove.field-0.0 TooMuch (subst (λ z. IsErrOf z TooMuch) is h)) told t tree e at

pub returns-clause-too_much : goal.returns-clause-too_much
returns-clause-too_much g c h told t tree e at = few_then c.args.mark.length t _ _ c.requires.short (c.in_ok-remove.ensures.staged told t tree) (c.give_chain.ensures.too_much h)

pub returns-clause-few_left : goal.returns-clause-few_left
returns-clause-few_left g c h told t tree e at = λ d few. short_any 1 1 d (g.P.Pages.budget c.give_chain.new.pages) (omega arith) (omega arith) (c.give_chain.ensures.few_left h)

pub returns-in_err-remove-clause-steps : goal.returns-in_err-remove-clause-steps
returns-in_err-remove-clause-steps g c told t tree d few = omega (arith, c.remove.ensures.steps told t tree d few)

pub returns-clause-steps : goal.returns-clause-steps
returns-clause-steps g c told t tree d few = omega (arith, c.give_chain.ensures.steps, c.requires.short, c.remove.ensures.steps told t tree d few)

pub returns-clause-staged : goal.returns-clause-staged
returns-clause-staged g c = on_ok_then c.give_chain.result (λ h told t tree. stages_then c.args.mark.length t _ _ _ c.requires.short (c.in_ok-remove.ensures.staged told t tree) c.give_chain.ensures.staged) c.give_chain.ensures.went_on

pub returns-clause-free : goal.returns-clause-free
returns-clause-free g c = on_ok_then c.give_chain.result (λ h told. let a = h told in let b = c.in_ok-remove.ensures.free told in omega (arith, a, b)) c.give_chain.ensures.free
