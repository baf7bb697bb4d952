use Rattle.std.proofs.Common.{◌≡◌, ◌+◌, ◌≤◌, IsTrue}
use Rattle.vos_versions.specs.pmem_tree_base.Calls.{Goes}
use Rattle.vos_versions.specs.vos_chain.Chains.{Chain}
use Rattle.vos_entries.specs.Lists.{IsListAt}
use Rattle.vos_entries.proofs.Lists.{SoFar}
use Rattle.vos_entries.proofs.list.give_list.Given as goal

-- what is left of each list that stood there
abbrev pub invariant-loop : goal.invariant-loop
invariant-loop g l = record {
  so_far : IsTrue g.P.Pages.tells → (c : Chain) → IsListAt (g.P.Pages.blocks l.initial.pages) l.first c → SoFar (g.P.Pages.blocks l.initial.pages) c (g.P.Pages.blocks l.pages) l.block l.counter;
  free : IsTrue g.P.Pages.tells → (g.P.Pages.budget l.pages).free ≡ (g.P.Pages.budget l.initial.pages).free + l.counter;
  ranges_most : (g.P.Pages.budget l.initial.pages).ranges ≤ (g.P.Pages.budget l.pages).ranges + l.counter;
  ranges_least : (g.P.Pages.budget l.pages).ranges ≤ (g.P.Pages.budget l.initial.pages).ranges;
  bytes_most : (g.P.Pages.budget l.initial.pages).bytes ≤ (g.P.Pages.budget l.pages).bytes + l.counter;
  bytes_least : (g.P.Pages.budget l.pages).bytes ≤ (g.P.Pages.budget l.initial.pages).bytes;
  steps : l.steps ≡ l.initial.steps + l.counter;
  goes : Goes g.P.Pages.stopped g.P.Pages.count g.P.Pages.burns l.initial.pages l.pages;
  went_on : g.P.Pages.stopped l.pages ≡ g.P.Pages.stopped l.initial.pages;
}
