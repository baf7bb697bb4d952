use Rattle.std.proofs.Common.{◌≡◌, ◌≤◌, [], false, IsTrue, Option, length}
use Rattle.pmem_pages.specs.Node.{IsKey}
use Rattle.pmem_pages.specs.Owners.{Holds}
use Rattle.pmem_tree_base.specs.Calls.{Goes}
use Rattle.vos_values.specs.declared.keys.Moment.{Moment}
use Rattle.vos_levels.specs.Levels.{Hung, hung, hung_root}
use Rattle.vos_path.specs.Objects.{Akey, akey_level}
use Rattle.vos_punches.specs.Rows.{moments_at}
use Rattle.vos_lists.specs.Covers.{CoverAkeys}
use Rattle.vos_lists.specs.Stands.{akey_name, akey_stands}
use Rattle.vos_lists.proofs.Walking.{Ahead}
use Rattle.vos_lists.proofs.akeys.akey_names.Given as goal

-- those up to the key were passed, and the names of those of them that have a cell were taken
abbrev pub invariant-loop : goal.invariant-loop
invariant-loop g l = record {
  passed : IsTrue g.P.Pages.tells → (x : Hung Akey) → Holds (hung akey_level) (g.P.Pages.blocks l.initial.pages) x → l.root ≡ hung_root x → Ahead akey_level (λ a. false) akey_name x l.key [] l.counter;
  ahead : IsTrue g.P.Pages.tells → (x : Hung Akey) → Holds (hung akey_level) (g.P.Pages.blocks l.initial.pages) x → l.root ≡ hung_root x → (q : Option Moment) → CoverAkeys l.view (moments_at l.punches) l.path q x → Ahead akey_level (akey_stands l.view q) akey_name x l.key l.names l.counter;
  few : length l.names ≤ l.most;
  key : IsKey l.key;
  kept : IsTrue g.P.Pages.tells → g.P.Pages.blocks l.pages ≡ g.P.Pages.blocks l.initial.pages;
  budget : g.P.Pages.budget l.pages ≡ g.P.Pages.budget l.initial.pages;
  goes : Goes g.P.Pages.stopped g.P.Pages.count g.P.Pages.burns l.initial.pages l.pages;
  went_on : g.P.Pages.stopped l.pages ≡ g.P.Pages.stopped l.initial.pages;
}
