use Rattle.std.proofs.Common.{rules, ◌≡◌, ◌∙◌, Some, sym, subst, arith}
use Rattle.std.proofs.lemmas.Bool.Decides.{not_from_Decides}
use Rattle.std.proofs.lemmas.Result.{IfOk-weaker}
use Rattle.pmem_pages.specs.Blocks.{Blocks}
use Rattle.pmem_pages.specs.Node.{node_bytes, node_of}
use Rattle.pmem_pages.specs.Shape.{Shape}
use Rattle.pmem_tree.specs.Set.{Sets}
use Rattle.pmem_tree.proofs.Setting.{can_alone, set_node, set_deep, set_empty, set_stands, sets_here, set_goes_left, set_goes_right, missing_left, missing_right, sets_level_left, sets_level_right, beside_left, beside_right, set_holds_left, set_holds_right, set_stays_left, set_stays_right, sets_from_left, sets_from_right}
use Rattle.pmem_tree.proofs.grow.+set_at.Goals as goal

pub read_in-requires : goal.read_in-requires
read_in-requires g t c told = set_node _ c.args.fresh.now.kind c.args.at c.args.depth c.args.fresh.now.block c.args.fresh.now.pair (c.requires.tree told) c.if-at-eq0.false

pub set_alone-requires : goal.set_alone-requires
set_alone-requires g t c = record { tree = λ told. can_alone _ c.args.fresh.now.kind c.args.at c.args.depth c.args.fresh.now.block c.args.fresh.now.pair c.if-at-eq0.true (c.requires.tree told) }

pub returns-then-at-eq0-clause-set : goal.returns-then-at-eq0-clause-set
returns-then-at-eq0-clause-set g t c = IfOk-weaker c.set_alone.result _ _ (λ s h told u w. subst (λ (v : Shape). Sets (g.P.Pages.blocks c.args.pages.now) c.args.fresh.now.kind c.args.fresh.now.block c.args.fresh.now.pair v (g.P.Pages.budget c.args.pages.now) (g.P.Pages.blocks c.set_alone.new.pages) s (g.P.Pages.budget c.set_alone.new.pages)) (sym (set_empty _ c.args.fresh.now.kind c.args.at c.args.depth c.args.fresh.now.block c.args.fresh.now.pair u c.if-at-eq0.true w)) (h told)) c.set_alone.ensures.set

pub returns-then-depth-eq0-clause-refused : goal.returns-then-depth-eq0-clause-refused
returns-then-depth-eq0-clause-refused g t c told _ = absurd (set_deep _ c.args.fresh.now.kind c.args.at c.args.depth c.args.fresh.now.block c.args.fresh.now.pair (c.requires.tree told) c.if-at-eq0.false c.if-depth-eq0.true)

pub set_at-requires : goal.set_at-requires
set_at-requires g t c κs within = (omega arith, (within.0, (within.1, (λ told. rw c.in_ok-node.ensures.links (set_goes_left _ c.args.fresh.now.kind c.args.at c.args.depth c.args.fresh.now.block c.args.fresh.now.pair (node_of c.args.fresh.now.kind c.read_in.new.to) c.if-at-eq0.false (c.in_ok-node.ensures.node told) (sym (c.compare_in.ensures c.args.fresh.now.kind) ∙ c.in-Less.is) _ (c.read_in.ensures.kept told) (c.requires.tree told)), c.requires.key))))

pub sub_at-requires : goal.sub_at-requires
sub_at-requires g t c told = rw c.in_ok-node.ensures.links (beside_left _ c.args.fresh.now.kind c.args.at c.args.depth c.args.fresh.now.block c.args.fresh.now.pair (node_of c.args.fresh.now.kind c.read_in.new.to) c.if-at-eq0.false (c.in_ok-node.ensures.node told) (sym (c.compare_in.ensures c.args.fresh.now.kind) ∙ c.in-Less.is) _ _ c.in_ok-left-in-Less.left _ _ _ (c.read_in.ensures.kept told) c.read_in.ensures.budget (rw c.in_ok-node.ensures.links at (c.in_ok-left-in-Less.ensures.set told)) (λ h. not_from_Decides c.is_as_before.result c.is_as_before.ensures c.if-is_as_before.false (rw c.in_ok-node.ensures.links h)) (c.requires.tree told))

pub rejoin_in-requires-clause-held : goal.rejoin_in-requires-clause-held
rejoin_in-requires-clause-held g t c told = set_holds_left _ c.args.fresh.now.kind c.args.at c.args.depth c.args.fresh.now.block c.args.fresh.now.pair (node_of c.args.fresh.now.kind c.read_in.new.to) c.if-at-eq0.false (c.in_ok-node.ensures.node told) (sym (c.compare_in.ensures c.args.fresh.now.kind) ∙ c.in-Less.is) _ _ c.in_ok-left-in-Less.left _ _ _ (c.read_in.ensures.kept told) c.read_in.ensures.budget (rw c.in_ok-node.ensures.links at (c.in_ok-left-in-Less.ensures.set told)) (λ h. not_from_Decides c.is_as_before.result c.is_as_before.ensures c.if-is_as_before.false (rw c.in_ok-node.ensures.links h)) _ c.in_ok-right-in-Less.right (c.sub_at.ensures.kept told) (rw c.in_ok-node.ensures.links at (c.in_ok-right-in-Less.ensures.sub told)) (c.requires.tree told)

pub rejoin_in-requires-clause-stands : goal.rejoin_in-requires-clause-stands
rejoin_in-requires-clause-stands g t c told = set_stays_left _ c.args.fresh.now.kind c.args.at c.args.depth c.args.fresh.now.block c.args.fresh.now.pair (node_of c.args.fresh.now.kind c.read_in.new.to) c.if-at-eq0.false (c.in_ok-node.ensures.node told) (sym (c.compare_in.ensures c.args.fresh.now.kind) ∙ c.in-Less.is) _ _ c.in_ok-left-in-Less.left _ _ _ (c.read_in.ensures.kept told) c.read_in.ensures.budget (rw c.in_ok-node.ensures.links at (c.in_ok-left-in-Less.ensures.set told)) (λ h. not_from_Decides c.is_as_before.result c.is_as_before.ensures c.if-is_as_before.false (rw c.in_ok-node.ensures.links h)) _ c.in_ok-right-in-Less.right (c.sub_at.ensures.kept told) (rw c.in_ok-node.ensures.links at (c.in_ok-right-in-Less.ensures.sub told)) (c.requires.tree told)

pub returns-in_ok-right-in-Less-clause-set : goal.returns-in_ok-right-in-Less-clause-set
returns-in_ok-right-in-Less-clause-set g t c = IfOk-weaker c.rejoin_in.result _ _ (λ s h told. sets_from_left _ c.args.fresh.now.kind c.args.at c.args.depth c.args.fresh.now.block c.args.fresh.now.pair (node_of c.args.fresh.now.kind c.read_in.new.to) c.if-at-eq0.false (c.in_ok-node.ensures.node told) (sym (c.compare_in.ensures c.args.fresh.now.kind) ∙ c.in-Less.is) _ _ c.in_ok-left-in-Less.left _ _ _ (c.read_in.ensures.kept told) c.read_in.ensures.budget (rw c.in_ok-node.ensures.links at (c.in_ok-left-in-Less.ensures.set told)) (λ h. not_from_Decides c.is_as_before.result c.is_as_before.ensures c.if-is_as_before.false (rw c.in_ok-node.ensures.links h)) _ c.in_ok-right-in-Less.right (c.sub_at.ensures.kept told) (rw c.in_ok-node.ensures.links at (c.in_ok-right-in-Less.ensures.sub told)) _ s (h told) _ _ c.sub_at.ensures.budget c.rejoin_in.ensures.spent c.rejoin_in.ensures.plain (λ f. (c.rejoin_in.ensures.idle f).1) c.rejoin_in.ensures.free) c.rejoin_in.ensures.joins

pub returns-then-is_as_before-clause-set : goal.returns-then-is_as_before-clause-set
returns-then-is_as_before-clause-set g t c told = let h = c.is_as_before.ensures.0 c.if-is_as_before.true in rw c.in_ok-node.ensures.links (sets_level_left _ c.args.fresh.now.kind c.args.at c.args.depth c.args.fresh.now.block c.args.fresh.now.pair (node_of c.args.fresh.now.kind c.read_in.new.to) c.if-at-eq0.false (c.in_ok-node.ensures.node told) (sym (c.compare_in.ensures c.args.fresh.now.kind) ∙ c.in-Less.is) _ _ c.in_ok-left-in-Less.left _ _ _ (c.read_in.ensures.kept told) c.read_in.ensures.budget (rw c.in_ok-node.ensures.links at (c.in_ok-left-in-Less.ensures.set told)) (rw c.in_ok-node.ensures.links at h.0) (rw c.in_ok-node.ensures.links at h.1))

pub set_at-requires-in-Greater : goal.set_at-requires-in-Greater
set_at-requires-in-Greater g t c κs within = (omega arith, (within.0, (within.1, (λ told. rw c.in_ok-node.ensures.links (set_goes_right _ c.args.fresh.now.kind c.args.at c.args.depth c.args.fresh.now.block c.args.fresh.now.pair (node_of c.args.fresh.now.kind c.read_in.new.to) c.if-at-eq0.false (c.in_ok-node.ensures.node told) (sym (c.compare_in.ensures c.args.fresh.now.kind) ∙ c.in-Greater.is) _ (c.read_in.ensures.kept told) (c.requires.tree told)), c.requires.key))))

pub sub_at-requires-in-Greater : goal.sub_at-requires-in-Greater
sub_at-requires-in-Greater g t c told = rw c.in_ok-node.ensures.links (beside_right _ c.args.fresh.now.kind c.args.at c.args.depth c.args.fresh.now.block c.args.fresh.now.pair (node_of c.args.fresh.now.kind c.read_in.new.to) c.if-at-eq0.false (c.in_ok-node.ensures.node told) (sym (c.compare_in.ensures c.args.fresh.now.kind) ∙ c.in-Greater.is) _ _ c.in_ok-right-in-Greater.right _ _ _ (c.read_in.ensures.kept told) c.read_in.ensures.budget (rw c.in_ok-node.ensures.links at (c.in_ok-right-in-Greater.ensures.set told)) (λ h. not_from_Decides c.is_as_before-in-Greater.result c.is_as_before-in-Greater.ensures c.if-is_as_before-2.false (rw c.in_ok-node.ensures.links h)) (c.requires.tree told))

pub rejoin_in-requires-in-Greater-clause-held : goal.rejoin_in-requires-in-Greater-clause-held
rejoin_in-requires-in-Greater-clause-held g t c told = set_holds_right _ c.args.fresh.now.kind c.args.at c.args.depth c.args.fresh.now.block c.args.fresh.now.pair (node_of c.args.fresh.now.kind c.read_in.new.to) c.if-at-eq0.false (c.in_ok-node.ensures.node told) (sym (c.compare_in.ensures c.args.fresh.now.kind) ∙ c.in-Greater.is) _ _ c.in_ok-right-in-Greater.right _ _ _ (c.read_in.ensures.kept told) c.read_in.ensures.budget (rw c.in_ok-node.ensures.links at (c.in_ok-right-in-Greater.ensures.set told)) (λ h. not_from_Decides c.is_as_before-in-Greater.result c.is_as_before-in-Greater.ensures c.if-is_as_before-2.false (rw c.in_ok-node.ensures.links h)) _ c.in_ok-left-in-Greater.left (c.sub_at-in-Greater.ensures.kept told) (rw c.in_ok-node.ensures.links at (c.in_ok-left-in-Greater.ensures.sub told)) (c.requires.tree told)

pub rejoin_in-requires-in-Greater-clause-stands : goal.rejoin_in-requires-in-Greater-clause-stands
rejoin_in-requires-in-Greater-clause-stands g t c told = set_stays_right _ c.args.fresh.now.kind c.args.at c.args.depth c.args.fresh.now.block c.args.fresh.now.pair (node_of c.args.fresh.now.kind c.read_in.new.to) c.if-at-eq0.false (c.in_ok-node.ensures.node told) (sym (c.compare_in.ensures c.args.fresh.now.kind) ∙ c.in-Greater.is) _ _ c.in_ok-right-in-Greater.right _ _ _ (c.read_in.ensures.kept told) c.read_in.ensures.budget (rw c.in_ok-node.ensures.links at (c.in_ok-right-in-Greater.ensures.set told)) (λ h. not_from_Decides c.is_as_before-in-Greater.result c.is_as_before-in-Greater.ensures c.if-is_as_before-2.false (rw c.in_ok-node.ensures.links h)) _ c.in_ok-left-in-Greater.left (c.sub_at-in-Greater.ensures.kept told) (rw c.in_ok-node.ensures.links at (c.in_ok-left-in-Greater.ensures.sub told)) (c.requires.tree told)

pub returns-in_ok-left-in-Greater-clause-set : goal.returns-in_ok-left-in-Greater-clause-set
returns-in_ok-left-in-Greater-clause-set g t c = IfOk-weaker c.rejoin_in-in-Greater.result _ _ (λ s h told. sets_from_right _ c.args.fresh.now.kind c.args.at c.args.depth c.args.fresh.now.block c.args.fresh.now.pair (node_of c.args.fresh.now.kind c.read_in.new.to) c.if-at-eq0.false (c.in_ok-node.ensures.node told) (sym (c.compare_in.ensures c.args.fresh.now.kind) ∙ c.in-Greater.is) _ _ c.in_ok-right-in-Greater.right _ _ _ (c.read_in.ensures.kept told) c.read_in.ensures.budget (rw c.in_ok-node.ensures.links at (c.in_ok-right-in-Greater.ensures.set told)) (λ h. not_from_Decides c.is_as_before-in-Greater.result c.is_as_before-in-Greater.ensures c.if-is_as_before-2.false (rw c.in_ok-node.ensures.links h)) _ c.in_ok-left-in-Greater.left (c.sub_at-in-Greater.ensures.kept told) (rw c.in_ok-node.ensures.links at (c.in_ok-left-in-Greater.ensures.sub told)) _ s (h told) _ _ c.sub_at-in-Greater.ensures.budget c.rejoin_in-in-Greater.ensures.spent c.rejoin_in-in-Greater.ensures.plain (λ f. (c.rejoin_in-in-Greater.ensures.idle f).1) c.rejoin_in-in-Greater.ensures.free) c.rejoin_in-in-Greater.ensures.joins

pub returns-then-is_as_before-2-clause-set : goal.returns-then-is_as_before-2-clause-set
returns-then-is_as_before-2-clause-set g t c told = let h = c.is_as_before-in-Greater.ensures.0 c.if-is_as_before-2.true in rw c.in_ok-node.ensures.links (sets_level_right _ c.args.fresh.now.kind c.args.at c.args.depth c.args.fresh.now.block c.args.fresh.now.pair (node_of c.args.fresh.now.kind c.read_in.new.to) c.if-at-eq0.false (c.in_ok-node.ensures.node told) (sym (c.compare_in.ensures c.args.fresh.now.kind) ∙ c.in-Greater.is) _ _ c.in_ok-right-in-Greater.right _ _ _ (c.read_in.ensures.kept told) c.read_in.ensures.budget (rw c.in_ok-node.ensures.links at (c.in_ok-right-in-Greater.ensures.set told)) (rw c.in_ok-node.ensures.links at h.0) (rw c.in_ok-node.ensures.links at h.1))

pub put_in-requires : goal.put_in-requires
put_in-requires g t c = record { stands = λ told. subst (λ (m : Blocks). m c.args.at ≡ Some (node_bytes c.args.fresh.now.kind (node_of c.args.fresh.now.kind c.read_in.new.to))) (sym (c.read_in.ensures.kept told)) (set_stands _ c.args.fresh.now.kind c.args.at c.args.depth c.args.fresh.now.block c.args.fresh.now.pair (node_of c.args.fresh.now.kind c.read_in.new.to) c.if-at-eq0.false (c.in_ok-node.ensures.node told) (sym (c.compare_in.ensures c.args.fresh.now.kind) ∙ c.in-Equal.is) (c.requires.tree told)) }

pub returns-in_ok-put_in-in-Equal-clause-set : goal.returns-in_ok-put_in-in-Equal-clause-set
returns-in_ok-put_in-in-Equal-clause-set g t c told = rw c.in_ok-node.ensures.links (sets_here _ c.args.fresh.now.kind c.args.at c.args.depth c.args.fresh.now.block c.args.fresh.now.pair (node_of c.args.fresh.now.kind c.read_in.new.to) c.if-at-eq0.false (c.in_ok-node.ensures.node told) (sym (c.compare_in.ensures c.args.fresh.now.kind) ∙ c.in-Equal.is) _ _ _ _ _ (c.read_in.ensures.kept told) c.read_in.ensures.budget (c.in_ok-put_in-in-Equal.ensures.staged told) c.put_in.ensures.idle c.put_in.ensures.spent c.put_in.ensures.free)

pub returns-in_err-left-in-Less-clause-missing : goal.returns-in_err-left-in-Less-clause-missing
returns-in_err-left-in-Less-clause-missing g t c none told = missing_left _ c.args.fresh.now.kind c.args.at c.args.depth c.args.fresh.now.block c.args.fresh.now.pair (node_of c.args.fresh.now.kind c.read_in.new.to) c.if-at-eq0.false (c.in_ok-node.ensures.node told) (sym (c.compare_in.ensures c.args.fresh.now.kind) ∙ c.in-Less.is) _ (c.read_in.ensures.kept told) (rw c.in_ok-node.ensures.links at (c.set_at.ensures.missing (search rules) told))

pub returns-in_err-right-in-Greater-clause-missing : goal.returns-in_err-right-in-Greater-clause-missing
returns-in_err-right-in-Greater-clause-missing g t c none told = missing_right _ c.args.fresh.now.kind c.args.at c.args.depth c.args.fresh.now.block c.args.fresh.now.pair (node_of c.args.fresh.now.kind c.read_in.new.to) c.if-at-eq0.false (c.in_ok-node.ensures.node told) (sym (c.compare_in.ensures c.args.fresh.now.kind) ∙ c.in-Greater.is) _ (c.read_in.ensures.kept told) (rw c.in_ok-node.ensures.links at (c.set_at-in-Greater.ensures.missing (search rules) told))
