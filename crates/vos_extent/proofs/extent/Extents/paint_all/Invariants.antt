use Rattle.std.proofs.Common.{◌≡◌, ℕ, ◌+◌, ◌*◌, ◌<◌, ◌≤◌, ◌^◌, IsTrue, length}
use Rattle.pmem_pages.specs.Node.{IsKey}
use Rattle.pmem_pages.specs.Owners.{Holds}
use Rattle.pmem_pages.specs.Shape.{entries}
use Rattle.vos_moments.specs.pmem_tree_base.Calls.{Goes}
use Rattle.vos_moments.specs.vos_levels.Levels.{hung_root}
use Rattle.vos_extent.specs.Extents.{Extents, extent_owner}
use Rattle.vos_extent.proofs.Walking.{Ahead}
use Rattle.vos_extent.proofs.extent.Extents.paint_all.Given as goal

-- those up to the key were laid
abbrev pub invariant-loop : goal.invariant-loop
invariant-loop g l = record {
  ahead : IsTrue g.P.Pages.tells → (x : Extents) → Holds extent_owner (g.P.Pages.blocks l.initial.pages) x → l.self.tree.root ≡ hung_root x → Ahead l.look x l.key l.cells l.counter;
  key : IsKey l.key;
  long : length l.cells ≡ length l.initial.cells;
  steps : IsTrue g.P.Pages.tells → (x : Extents) → Holds extent_owner (g.P.Pages.blocks l.initial.pages) x → l.self.tree.root ≡ hung_root x → (d : ℕ) → length (entries x.0) < 2 ^ d → l.steps ≤ l.initial.steps + l.counter * (2 * d + 5);
  kept : IsTrue g.P.Pages.tells → g.P.Pages.blocks l.pages ≡ g.P.Pages.blocks l.initial.pages;
  budget : g.P.Pages.budget l.pages ≡ g.P.Pages.budget l.initial.pages;
  goes : Goes g.P.Pages.stopped g.P.Pages.count g.P.Pages.burns l.initial.pages l.pages;
  went_on : g.P.Pages.stopped l.pages ≡ g.P.Pages.stopped l.initial.pages;
}
