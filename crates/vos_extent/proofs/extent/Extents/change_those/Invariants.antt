use Rattle.std.proofs.Common.{◌≡◌, ◌≤◌, IsTrue}
use Rattle.pmem_pages.specs.Node.{IsKey}
use Rattle.pmem_pages.specs.Owners.{Holds}
use Rattle.vos_moments.specs.pmem_tree_base.Calls.{Goes}
use Rattle.vos_moments.specs.vos_levels.Levels.{hung_root}
use Rattle.vos_moments.specs.Taking.{number_of}
use Rattle.vos_extent.specs.Extents.{Extents, extent_owner, extents}
use Rattle.vos_extent.specs.Settling.{TookExtents, is_passed}
use Rattle.vos_extent.proofs.Settling.{taken_so_far}
use Rattle.vos_extent.proofs.extent.Extents.change_those.Given as goal

-- those that were passed are settled or pruned
abbrev pub invariant-loop : goal.invariant-loop
invariant-loop g l = record {
  key : IsKey l.key;
  kind : l.self.tree.kind ≡ 6;
  took : IsTrue g.P.Pages.tells → (x : Extents) → Holds extent_owner (g.P.Pages.blocks l.initial.pages) x → l.initial.self.tree.root ≡ hung_root x → TookExtents l.change (taken_so_far l.change l.which l.key) (g.P.Pages.blocks l.initial.pages) x (g.P.Pages.budget l.initial.pages) (g.P.Pages.blocks l.pages) l.self.tree.root (g.P.Pages.budget l.pages);
  passed : IsTrue g.P.Pages.tells → (x : Extents) → Holds extent_owner (g.P.Pages.blocks l.initial.pages) x → l.initial.self.tree.root ≡ hung_root x → l.counter ≤ number_of (is_passed l.key) (extents x);
  goes : Goes g.P.Pages.stopped g.P.Pages.count g.P.Pages.burns l.initial.pages l.pages;
  went_on : g.P.Pages.stopped l.pages ≡ g.P.Pages.stopped l.initial.pages;
}
