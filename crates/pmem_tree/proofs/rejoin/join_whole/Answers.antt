use Rattle.std.proofs.Common.{◌≡◌, ◌∙◌, ap, subst}
use Rattle.std.proofs.lemmas.Result.{IfOk-weaker}
use Rattle.pmem_pages.specs.declared.node.Pair.{Pair}
use Rattle.pmem_tree_base.specs.Join.{JoinsHeld}
use Rattle.pmem_tree_base.specs.Nodes.{entry_of, pair_in}
use Rattle.pmem_tree.proofs.Setting.{the_pair}
use Rattle.pmem_tree.proofs.rejoin.join_whole.Goals as goal

pub returns-clause-joins : goal.returns-clause-joins
returns-clause-joins g c =
    let same : c.pair_in.result ≡ pair_in c.args.kind c.args.block.now = c.pair_in.ensures ∙ ap the_pair c.read_node.ensures.node in
    IfOk-weaker c.join.result _ _ (λ s h told. subst (λ (p : Pair). JoinsHeld (g.P.Pages.blocks c.args.pages.now) (g.P.Pages.blocks c.join.new.pages) c.args.kind (entry_of c.args.at p) c.args.left c.args.right s) same (h told)) c.join.ensures.joins
