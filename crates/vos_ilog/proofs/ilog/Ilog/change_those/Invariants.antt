use Rattle.std.proofs.Common.{◌≡◌, IsTrue}
use Rattle.std.specs.Prelude.{take}
use Rattle.pmem_pages.specs.Owners.{Holds}
use Rattle.vos_moments.specs.pmem_tree_base.Calls.{Goes}
use Rattle.vos_moments.specs.vos_levels.Levels.{hung_root}
use Rattle.vos_ilog.specs.Logs.{Log, log_owner}
use Rattle.vos_ilog.specs.Settling.{TookEntries, is_taken_at}
use Rattle.vos_ilog.proofs.ilog.Ilog.change_those.Given as goal

-- the entries of the moments before this one were settled or pruned
abbrev pub invariant-loop-at : goal.invariant-loop-at
invariant-loop-at g l = record {
  kind : l.self.tree.kind ≡ 4;
  took : IsTrue g.P.Pages.tells → (x : Log) → Holds log_owner (g.P.Pages.blocks l.initial.pages) x → l.initial.self.tree.root ≡ hung_root x → TookEntries l.change (is_taken_at l.change (take l.at-index l.which)) (g.P.Pages.blocks l.initial.pages) x (g.P.Pages.budget l.initial.pages) (g.P.Pages.blocks l.pages) l.self.tree.root (g.P.Pages.budget l.pages);
  goes : Goes g.P.Pages.stopped g.P.Pages.count g.P.Pages.burns l.initial.pages l.pages;
  went_on : g.P.Pages.stopped l.pages ≡ g.P.Pages.stopped l.initial.pages;
}
