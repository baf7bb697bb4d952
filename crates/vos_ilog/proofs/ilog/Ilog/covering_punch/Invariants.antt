use Rattle.std.proofs.Common.{◌≡◌, ◌<◌, ◌≤◌, ◌+◌, ◌*◌, ◌^◌, ℕ, length, IsTrue}
use Rattle.pmem_pages.specs.Owners.{Holds}
use Rattle.pmem_pages.specs.Shape.{entries}
use Rattle.vos_moments.specs.pmem_tree_base.Calls.{Goes}
use Rattle.vos_moments.specs.vos_levels.Levels.{hung_root}
use Rattle.vos_ilog.specs.Logs.{Log, log_owner, start_of}
use Rattle.vos_ilog.proofs.Reading.{Walks}
use Rattle.vos_ilog.proofs.ilog.Ilog.covering_punch.Given as goal

-- each log that stands there is walked down so far
abbrev pub invariant-loop : goal.invariant-loop
invariant-loop g l = record {
  walks : IsTrue g.P.Pages.tells → (x : Log) → Holds log_owner (g.P.Pages.blocks l.initial.pages) x → l.self.tree.root ≡ hung_root x → Walks (g.P.Pages.blocks l.initial.pages) (start_of l.fn.below) l.at l.counter x;
  minor : l.at.minor < 64;
  steps : IsTrue g.P.Pages.tells → (x : Log) → Holds log_owner (g.P.Pages.blocks l.initial.pages) x → l.self.tree.root ≡ hung_root x → (d : ℕ) → length (entries x.0) < 2 ^ d → l.steps ≤ l.initial.steps + l.counter * (2 * d);
  kept : IsTrue g.P.Pages.tells → g.P.Pages.blocks l.pages ≡ g.P.Pages.blocks l.initial.pages;
  budget : g.P.Pages.budget l.pages ≡ g.P.Pages.budget l.initial.pages;
  goes : Goes g.P.Pages.stopped g.P.Pages.count g.P.Pages.burns l.initial.pages l.pages;
  went_on : g.P.Pages.stopped l.pages ≡ g.P.Pages.stopped l.initial.pages;
}
