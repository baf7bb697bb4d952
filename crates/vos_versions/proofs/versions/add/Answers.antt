use Rattle.std.proofs.Common.{rules, ◌≡◌, ◌∙◌, ap, subst, arith, length, false, Err, IsErrOf}
use Rattle.vos_chain.specs.pmem_tree.Changes.{Inserts}
use Rattle.vos_chain.specs.pmem_tree_base.declared.refusal.TreeNo.TheVariants.{TooMuch}
use Rattle.base_types.specs.declared.id.AttemptId.{AttemptId}
use Rattle.vos_chain.specs.vos_values.Values.{version_value}
use Rattle.vos_chain.proofs.vos_levels.Calls.{on_ok_then}
use Rattle.vos_chain.specs.Made.{chain_blocks}
use Rattle.vos_versions.specs.Marks.{new_mark}
use Rattle.vos_versions.proofs.Marks.{err_other, kind_is, short_any, stages_for, too_few_first, too_few_then, tree_stays, value_is}
use Rattle.vos_versions.proofs.versions.add.Goals as goal

pub insert-requires-clause-kind : goal.insert-requires-clause-kind
insert-requires-clause-kind g c = kind_is c.args.tree.now.kind c.requires.kind

pub insert-requires-clause-value : goal.insert-requires-clause-value
insert-requires-clause-value g c = value_is c.args.tree.now.kind c.version_value-value.result c.requires.kind c.version_value-value.ensures.single c.version_value-value.ensures.extent

pub insert-requires-clause-tree : goal.insert-requires-clause-tree
insert-requires-clause-tree g c told =
    let s = c.requires.tree told in
    (s.0, (tree_stays (g.P.Pages.blocks c.args.pages.now) (g.P.Pages.blocks c.write_chain.new.pages) c.args.tree.now.kind c.args.tree.now.root s.0 c.args.bytes.now c.in_ok-chain.chain (c.in_ok-chain.ensures.made told) s.1.0, s.1.1))

pub returns-in_err-chain-clause-too_much : goal.returns-in_err-chain-clause-too_much
returns-in_err-chain-clause-too_much g c h told t tree none =
    let is : c.from_residual.result ≡ Err c.in_err-chain.field-0.0 = search rules in
    too_few_first (chain_blocks (length c.args.bytes.now)) t (g.P.Pages.budget c.args.pages.now) (c.in_err-chain.ensures.too_much (err_other c.in_err-chain.field-0.0 TooMuch (subst (λ z. IsErrOf z TooMuch) is h)))

pub returns-in_err-chain-clause-few_left : goal.returns-in_err-chain-clause-few_left
returns-in_err-chain-clause-few_left g c h told t tree none =
    let is : c.from_residual.result ≡ Err c.in_err-chain.field-0.0 = search rules in
    λ d few. short_any 1 256 d (g.P.Pages.budget c.write_chain.new.pages) (omega arith) (omega arith) (c.in_err-chain.ensures.few_left (err_other c.in_err-chain.field-0.0 TooMuch (subst (λ z. IsErrOf z TooMuch) is h)))

pub returns-clause-added : goal.returns-clause-added
returns-clause-added g c = on_ok_then c.insert.result (λ h told t tree none.
    let m = g.P.Pages.blocks c.args.pages.now in
    let n = g.P.Pages.blocks c.write_chain.new.pages in
    let o = g.P.Pages.blocks c.insert.new.pages in
    let made = c.in_ok-chain.ensures.made told in
    let i = h told t (tree_stays m n c.args.tree.now.kind c.args.tree.now.root t c.args.bytes.now c.in_ok-chain.chain made tree) none in
    let is : c.version_value-value.result ≡ version_value (new_mark c.args.by (length c.args.bytes.now) c.in_ok-chain.chain) =
    c.version_value-value.ensures.value ∙ ap (λ (z : AttemptId). version_value (record { done = false; by = z; length = length c.args.bytes.now; chain = c.in_ok-chain.chain })) c.attempt_of.ensures.same in
    record {
      between = n;
      first = c.in_ok-chain.chain;
      made = made;
      inserts = subst (λ v. Inserts n c.args.tree.now.kind t c.args.key.now v o c.insert.new.self.root) is i;
    }) c.insert.ensures.inserted

pub returns-clause-too_much : goal.returns-clause-too_much
returns-clause-too_much g c h told t tree none =
    let still = tree_stays (g.P.Pages.blocks c.args.pages.now) (g.P.Pages.blocks c.write_chain.new.pages) c.args.tree.now.kind c.args.tree.now.root t c.args.bytes.now c.in_ok-chain.chain (c.in_ok-chain.ensures.made told) tree in
    too_few_then (chain_blocks (length c.args.bytes.now)) t _ _ c.write_chain.ensures.staged (c.insert.ensures.too_much h told t still none)

pub returns-clause-few_left : goal.returns-clause-few_left
returns-clause-few_left g c h told t tree none =
    let still = tree_stays (g.P.Pages.blocks c.args.pages.now) (g.P.Pages.blocks c.write_chain.new.pages) c.args.tree.now.kind c.args.tree.now.root t c.args.bytes.now c.in_ok-chain.chain (c.in_ok-chain.ensures.made told) tree in
    c.insert.ensures.few_left h told t still none

pub returns-clause-steps : goal.returns-clause-steps
returns-clause-steps g c told t tree =
    c.insert.ensures.steps told t (tree_stays (g.P.Pages.blocks c.args.pages.now) (g.P.Pages.blocks c.write_chain.new.pages) c.args.tree.now.kind c.args.tree.now.root t c.args.bytes.now c.in_ok-chain.chain (c.in_ok-chain.ensures.made told) tree)

pub returns-clause-staged : goal.returns-clause-staged
returns-clause-staged g c = on_ok_then c.insert.result (λ h told t tree none.
    let still = tree_stays (g.P.Pages.blocks c.args.pages.now) (g.P.Pages.blocks c.write_chain.new.pages) c.args.tree.now.kind c.args.tree.now.root t c.args.bytes.now c.in_ok-chain.chain (c.in_ok-chain.ensures.made told) tree in
    stages_for (chain_blocks (length c.args.bytes.now)) t _ _ _ c.write_chain.ensures.staged (h told t still none)) c.insert.ensures.staged
