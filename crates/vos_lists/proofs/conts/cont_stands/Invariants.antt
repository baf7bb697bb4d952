use Rattle.std.proofs.Common.{◌≡◌, ◌⊎◌, [], false, IsTrue}
use Rattle.std.specs.declared.cmp.Ordering.TheVariants.{Less}
use Rattle.pmem_pages.specs.Node.{IsKey, key_cmp}
use Rattle.pmem_pages.specs.Owners.{Holds}
use Rattle.pmem_tree_base.specs.Calls.{Goes}
use Rattle.vos_levels.specs.Levels.{hung_root}
use Rattle.vos_path.specs.Objects.{Object, Objects, object_level, objects_owner}
use Rattle.vos_punches.specs.Rows.{moments_at}
use Rattle.vos_lists.specs.Covers.{CoverObjects}
use Rattle.vos_lists.specs.Stands.{cont_key, stands_in}
use Rattle.vos_lists.proofs.Walking.{Ahead}
use Rattle.vos_lists.proofs.conts.cont_stands.Given as goal

-- those up to the key were passed, none of them is there, and the key is the container's own or lies above it
abbrev pub invariant-loop : goal.invariant-loop
invariant-loop g l = record {
  passed : IsTrue g.P.Pages.tells → (x : Objects) → Holds objects_owner (g.P.Pages.blocks l.initial.pages) x → l.objects.root ≡ hung_root x → Ahead {N = Object} object_level (λ s. false) (λ s. s) x l.key [] l.counter;
  ahead : IsTrue g.P.Pages.tells → (x : Objects) → Holds objects_owner (g.P.Pages.blocks l.initial.pages) x → l.objects.root ≡ hung_root x → CoverObjects (moments_at l.punches) l.cont l.below x → Ahead {N = Object} object_level (stands_in l.cont l.below) (λ s. s) x l.key [] l.counter;
  low : IsTrue g.P.Pages.tells → (x : Objects) → Holds objects_owner (g.P.Pages.blocks l.initial.pages) x → l.objects.root ≡ hung_root x → (l.key ≡ cont_key l.cont) ⊎ (key_cmp (cont_key l.cont) l.key ≡ Less);
  key : IsKey l.key;
  kept : IsTrue g.P.Pages.tells → g.P.Pages.blocks l.pages ≡ g.P.Pages.blocks l.initial.pages;
  budget : g.P.Pages.budget l.pages ≡ g.P.Pages.budget l.initial.pages;
  goes : Goes g.P.Pages.stopped g.P.Pages.count g.P.Pages.burns l.initial.pages l.pages;
  went_on : g.P.Pages.stopped l.pages ≡ g.P.Pages.stopped l.initial.pages;
}
