use Rattle.std.proofs.Common.{◌≡◌, IsTrue}
use Rattle.pmem_pages.specs.Node.{IsKey}
use Rattle.pmem_pages.specs.Owners.{Holds}
use Rattle.pmem_tree_base.specs.Calls.{Goes}
use Rattle.vos_levels.specs.Levels.{hung_root}
use Rattle.vos_ilog.specs.Logs.{Log, log_level, log_owner}
use Rattle.vos_gather.proofs.Listing.{entry_punch}
use Rattle.vos_load.proofs.Walked.{SoFar}
use Rattle.vos_load.proofs.log.read_log.Given as goal

-- the versions of those up to the key were read
abbrev pub invariant-loop : goal.invariant-loop
invariant-loop g l = record {
  so_far : IsTrue g.P.Pages.tells → (x : Log) → Holds log_owner (g.P.Pages.blocks l.initial.pages) x → l.root ≡ hung_root x → SoFar log_level (entry_punch l.punch) x l.key l.counter l.initial.versions.items l.versions.items;
  key : IsKey l.key;
  kept : IsTrue g.P.Pages.tells → g.P.Pages.blocks l.pages ≡ g.P.Pages.blocks l.initial.pages;
  budget : g.P.Pages.budget l.pages ≡ g.P.Pages.budget l.initial.pages;
  goes : Goes g.P.Pages.stopped g.P.Pages.count g.P.Pages.burns l.initial.pages l.pages;
  went_on : g.P.Pages.stopped l.pages ≡ g.P.Pages.stopped l.initial.pages;
}
