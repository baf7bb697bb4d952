use Rattle.std.proofs.Common.{◌≡◌, [], IsTrue}
use Rattle.pmem_pages.specs.Node.{IsKey}
use Rattle.pmem_pages.specs.Owners.{Holds}
use Rattle.pmem_tree_base.specs.Calls.{Goes}
use Rattle.vos_levels.specs.Levels.{hung_root}
use Rattle.vos_extent.specs.Extents.{Extents, Stored, extent_level, extent_owner}
use Rattle.vos_lists.specs.Stands.{has_record}
use Rattle.vos_lists.proofs.Walking.{Ahead}
use Rattle.vos_lists.proofs.values.has_extent.Given as goal

-- none of those up to the key is there
abbrev pub invariant-loop : goal.invariant-loop
invariant-loop g l = record {
  ahead : IsTrue g.P.Pages.tells → (x : Extents) → Holds extent_owner (g.P.Pages.blocks l.initial.pages) x → l.root ≡ hung_root x → Ahead {N = Stored} extent_level (has_record l.view l.punched) (λ s. s) x l.key [] l.counter;
  key : IsKey l.key;
  kept : IsTrue g.P.Pages.tells → g.P.Pages.blocks l.pages ≡ g.P.Pages.blocks l.initial.pages;
  budget : g.P.Pages.budget l.pages ≡ g.P.Pages.budget l.initial.pages;
  goes : Goes g.P.Pages.stopped g.P.Pages.count g.P.Pages.burns l.initial.pages l.pages;
  went_on : g.P.Pages.stopped l.pages ≡ g.P.Pages.stopped l.initial.pages;
}
