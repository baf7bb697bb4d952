use Rattle.std.proofs.Common.{◌≡◌, IsTrue}
use Rattle.pmem_pages.specs.Node.{IsKey}
use Rattle.pmem_pages.specs.Owners.{Holds}
use Rattle.pmem_tree_base.specs.Calls.{Goes}
use Rattle.vos_levels.specs.Levels.{Hung, hung, hung_root}
use Rattle.vos_path.specs.Objects.{Dkey, dkey_level}
use Rattle.vos_gather.specs.Gathered.{dkey_in}
use Rattle.vos_load.proofs.Walked.{SoFar}
use Rattle.vos_load.proofs.dkeys.read_dkeys.Given as goal

-- the versions of those up to the key were read
abbrev pub invariant-loop : goal.invariant-loop
invariant-loop g l = record {
  so_far : IsTrue g.P.Pages.tells → (x : Hung Dkey) → Holds (hung dkey_level) (g.P.Pages.blocks l.initial.pages) x → l.root ≡ hung_root x → SoFar dkey_level (dkey_in l.above) x l.key l.counter l.initial.versions.items l.versions.items;
  key : IsKey l.key;
  kept : IsTrue g.P.Pages.tells → g.P.Pages.blocks l.pages ≡ g.P.Pages.blocks l.initial.pages;
  budget : g.P.Pages.budget l.pages ≡ g.P.Pages.budget l.initial.pages;
  goes : Goes g.P.Pages.stopped g.P.Pages.count g.P.Pages.burns l.initial.pages l.pages;
  went_on : g.P.Pages.stopped l.pages ≡ g.P.Pages.stopped l.initial.pages;
}
