use Rattle.std.proofs.Common.{◌≡◌, IsTrue}
use Rattle.std.specs.Prelude.{take}
use Rattle.pmem_pages.specs.Owners.{Holds}
use Rattle.pmem_tree_base.specs.Calls.{Goes}
use Rattle.vos_levels.specs.Levels.{hung_root}
use Rattle.vos_path.specs.Objects.{Objects, objects_owner}
use Rattle.vos_object.proofs.Turns.{RemovedSoFar}
use Rattle.vos_object.proofs.object.Objects.remove_each.Given as goal

-- the writes of the names before this one were taken out
abbrev pub invariant-loop-name : goal.invariant-loop-name
invariant-loop-name g l = record {
  objects : l.self ≡ l.initial.self;
  so_far : IsTrue g.P.Pages.tells → (x : Objects) → Holds objects_owner (g.P.Pages.blocks l.initial.pages) x → l.initial.self.tree.root ≡ hung_root x → RemovedSoFar (take l.name-index l.names) (g.P.Pages.blocks l.initial.pages) x (g.P.Pages.budget l.initial.pages) (g.P.Pages.blocks l.pages) l.self.tree.root (g.P.Pages.budget l.pages);
  goes : Goes g.P.Pages.stopped g.P.Pages.count g.P.Pages.burns l.initial.pages l.pages;
  went_on : g.P.Pages.stopped l.pages ≡ g.P.Pages.stopped l.initial.pages;
}
