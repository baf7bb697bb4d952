use Rattle.std.proofs.Common.{◌≡◌, ◌+◌, ◌≤◌, IsTrue}
use Rattle.vos_levels.specs.pmem_tree_base.Calls.{Goes}
use Rattle.vos_chain.specs.Chains.{Chain}
use Rattle.vos_chain.specs.Made.{IsChainAt, chain_blocks}
use Rattle.vos_chain.proofs.Reading.{Left}
use Rattle.vos_chain.proofs.chain.give_chain.Given as goal

-- what is left of each chain that stood there
abbrev pub invariant-loop-left : goal.invariant-loop-left
invariant-loop-left g l = record {
  rest : IsTrue g.P.Pages.tells → (c : Chain) → IsChainAt (g.P.Pages.blocks l.initial.pages) l.first l.count c → Left (g.P.Pages.blocks l.initial.pages) c (g.P.Pages.blocks l.pages) l.block l.left;
  free : IsTrue g.P.Pages.tells → (g.P.Pages.budget l.pages).free + chain_blocks l.left ≡ (g.P.Pages.budget l.initial.pages).free + chain_blocks l.count;
  ranges_most : (g.P.Pages.budget l.initial.pages).ranges + chain_blocks l.left ≤ (g.P.Pages.budget l.pages).ranges + chain_blocks l.count;
  ranges_least : (g.P.Pages.budget l.pages).ranges ≤ (g.P.Pages.budget l.initial.pages).ranges;
  bytes_most : (g.P.Pages.budget l.initial.pages).bytes + chain_blocks l.left ≤ (g.P.Pages.budget l.pages).bytes + chain_blocks l.count;
  bytes_least : (g.P.Pages.budget l.pages).bytes ≤ (g.P.Pages.budget l.initial.pages).bytes;
  steps : l.steps + chain_blocks l.left ≡ l.initial.steps + chain_blocks l.count;
  goes : Goes g.P.Pages.stopped g.P.Pages.count g.P.Pages.burns l.initial.pages l.pages;
  went_on : g.P.Pages.stopped l.pages ≡ g.P.Pages.stopped l.initial.pages;
}

abbrev pub decreases-loop-left : goal.decreases-loop-left
decreases-loop-left g l = l.left
