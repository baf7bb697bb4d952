use Rattle.std.proofs.Common.{◌≡◌, IsTrue}
use Rattle.std.specs.Prelude.{take}
use Rattle.pmem_pages.specs.Owners.{Holds}
use Rattle.pmem_tree_base.specs.Calls.{Goes}
use Rattle.vos_levels.specs.Levels.{hung_root}
use Rattle.vos_fitting.specs.vos_path.Objects.{Objects, objects_owner}
use Rattle.vos_fitting.specs.vos_path.Writes.{ObjectsAreSmall}
use Rattle.vos_turns.specs.Steps.{VersionsTurn}
use Rattle.vos_turns.proofs.versions.change_versions.Given as goal

-- those before this one were changed
abbrev pub invariant-loop-version : goal.invariant-loop-version
invariant-loop-version g l = record {
  so_far : IsTrue g.P.Pages.tells → (x : Objects) → Holds objects_owner (g.P.Pages.blocks l.initial.pages) x → l.objects.root ≡ hung_root x → ObjectsAreSmall 17 x → VersionsTurn l.change (take l.version-index l.versions) (g.P.Pages.blocks l.initial.pages) x (g.P.Pages.budget l.initial.pages) (g.P.Pages.blocks l.pages) l.objects.root (g.P.Pages.budget l.pages);
  goes : Goes g.P.Pages.stopped g.P.Pages.count g.P.Pages.burns l.initial.pages l.pages;
  went_on : g.P.Pages.stopped l.pages ≡ g.P.Pages.stopped l.initial.pages;
}
