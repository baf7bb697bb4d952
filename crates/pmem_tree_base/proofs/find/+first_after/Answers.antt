use Rattle.std.proofs.Common.{◌≡◌, ◌≤◌, ◌+◌, ◌∙◌, sym, ap, Some, arith}
use Rattle.std.proofs.lemmas.Result.{IfOk-weaker}
use Rattle.pmem_pages.specs.declared.node.Pair.{Pair}
use Rattle.pmem_pages.specs.Shape.{height, entries, first_above}
use Rattle.pmem_tree_base.proofs.Held.{some_node}
use Rattle.pmem_tree_base.specs.Find.{pair_of}
use Rattle.pmem_tree_base.proofs.Finding.{goes_left, goes_right, from_left, from_right, first_left, first_right}
use Rattle.pmem_tree_base.proofs.find.+first_after.Goals as goal

pub read_at-requires : goal.read_at-requires
read_at-requires g t c = λ told. let w = c.requires.tree told in some_node _ c.args.kind c.args.at w.0 w.1.stands w.1.root c.if-at-eq0.false

pub first_after-requires : goal.first_after-requires
first_after-requires g t c κs within =
    (omega arith, (within.0, (within.1, (λ told. goes_left _ c.args.kind c.args.at c.args.depth c.in_ok-node.node c.if-at-eq0.false (c.in_ok-node.ensures.node told) _ (c.read_at.ensures.kept told) (c.requires.tree told), c.requires.key))))

pub first_after-requires-in_default : goal.first_after-requires-in_default
first_after-requires-in_default g t c κs within =
    (omega arith, (within.0, (within.1, (λ told. goes_right _ c.args.kind c.args.at c.args.depth c.in_ok-node.node c.if-at-eq0.false (c.in_ok-node.ensures.node told) _ (c.read_at.ensures.kept told) (c.requires.tree told), c.requires.key))))

pub returns-in_err-found-in-Less-clause-steps : goal.returns-in_err-found-in-Less-clause-steps
returns-in_err-found-in-Less-clause-steps g t c told =
    from_left _ c.args.kind c.args.at c.args.depth c.in_ok-node.node c.if-at-eq0.false (c.in_ok-node.ensures.node told) _ (λ s. c.first_after.new.steps ≤ c.read_at.new.steps + height s) (λ s. c.first_after.new.steps ≤ c.args.steps.now + height s) (c.read_at.ensures.kept told) (c.first_after.ensures.steps told) (λ l e r rises is h. omega (arith, h, c.read_at.ensures.step))

pub returns-in_ok-found-in-Less-clause-steps : goal.returns-in_ok-found-in-Less-clause-steps
returns-in_ok-found-in-Less-clause-steps g t c told =
    from_left _ c.args.kind c.args.at c.args.depth c.in_ok-node.node c.if-at-eq0.false (c.in_ok-node.ensures.node told) _ (λ s. c.first_after.new.steps ≤ c.read_at.new.steps + height s) (λ s. c.first_after.new.steps ≤ c.args.steps.now + height s) (c.read_at.ensures.kept told) (c.first_after.ensures.steps told) (λ l e r rises is h. omega (arith, h, c.read_at.ensures.step))

pub returns-in_ok-found-in-Less-clause-found : goal.returns-in_ok-found-in-Less-clause-found
returns-in_ok-found-in-Less-clause-found g t c told =
    from_left _ c.args.kind c.args.at c.args.depth c.in_ok-node.node c.if-at-eq0.false (c.in_ok-node.ensures.node told) _ (λ s. c.in_ok-found-in-Less.found ≡ pair_of (first_above c.args.key.now (entries s))) (λ s. Some c.or_node.result ≡ pair_of (first_above c.args.key.now (entries s))) (c.read_at.ensures.kept told) (c.in_ok-found-in-Less.ensures.found told)
    (λ l e r rises is h. ap (λ (x : Pair). Some x) c.or_node.ensures ∙ first_left c.args.key.now c.in_ok-node.node c.in_ok-found-in-Less.found (sym c.compare.ensures ∙ c.in-Less.is) l e r rises is h)

pub returns-in_default-clause-found : goal.returns-in_default-clause-found
returns-in_default-clause-found g t c =
    IfOk-weaker c.first_after-in_default.result _ _
    (λ p h told. from_right _ c.args.kind c.args.at c.args.depth c.in_ok-node.node c.if-at-eq0.false (c.in_ok-node.ensures.node told) _ (λ s. p ≡ pair_of (first_above c.args.key.now (entries s))) (λ s. p ≡ pair_of (first_above c.args.key.now (entries s))) (c.read_at.ensures.kept told) (h told) (first_right c.args.key.now c.in_ok-node.node p (λ k. c.in_default.not-Less (c.compare.ensures ∙ k))))
    c.first_after-in_default.ensures.found

pub returns-in_default-clause-steps : goal.returns-in_default-clause-steps
returns-in_default-clause-steps g t c told =
    from_right _ c.args.kind c.args.at c.args.depth c.in_ok-node.node c.if-at-eq0.false (c.in_ok-node.ensures.node told) _ (λ s. c.first_after-in_default.new.steps ≤ c.read_at.new.steps + height s) (λ s. c.first_after-in_default.new.steps ≤ c.args.steps.now + height s) (c.read_at.ensures.kept told) (c.first_after-in_default.ensures.steps told) (λ l e r rises is h. omega (arith, h, c.read_at.ensures.step))
