use Rattle.std.proofs.Common.{◌≡◌, ◌+◌, IsTrue}
use Rattle.vos_levels.specs.pmem_tree_base.Calls.{Goes}
use Rattle.vos_chain.specs.Chains.{Chain}
use Rattle.vos_chain.specs.Made.{IsChainAt, chain_blocks}
use Rattle.vos_chain.proofs.Reading.{Rest}
use Rattle.vos_chain.proofs.chain.read_chain.Given as goal

-- what is left of each chain that stands there
abbrev pub invariant-loop-left : goal.invariant-loop-left
invariant-loop-left g l = record {
  rest : IsTrue g.P.Pages.tells → (c : Chain) → IsChainAt (g.P.Pages.blocks l.initial.pages) l.first l.count c → Rest (g.P.Pages.blocks l.initial.pages) c l.block l.left l.bytes.items;
  kept : IsTrue g.P.Pages.tells → g.P.Pages.blocks l.pages ≡ g.P.Pages.blocks l.initial.pages;
  budget : g.P.Pages.budget l.pages ≡ g.P.Pages.budget l.initial.pages;
  steps : l.steps + chain_blocks l.left ≡ l.initial.steps + chain_blocks l.count;
  goes : Goes g.P.Pages.stopped g.P.Pages.count g.P.Pages.burns l.initial.pages l.pages;
  went_on : g.P.Pages.stopped l.pages ≡ g.P.Pages.stopped l.initial.pages;
}

abbrev pub decreases-loop-left : goal.decreases-loop-left
decreases-loop-left g l = l.left
