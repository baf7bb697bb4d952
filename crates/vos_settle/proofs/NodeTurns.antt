-- The akey, the dkey and the object on the way to a write.
use Rattle.std.proofs.Common.{◌≡◌, ℕ, List, Option, Some, None, refl, ap, ◌∙◌, subst}
use Rattle.std.specs.List.{find}
use Rattle.std.specs.Option.{option_and_then, option_map}
use Rattle.pmem_pages.specs.Blocks.{Blocks}
use Rattle.pmem_pages.specs.Owners.{Holds}
use Rattle.pmem_pages.specs.Shape.{Entry, IsTree, entries, entry_at}
use Rattle.pmem_pages.specs.declared.node.TreeKey.{TreeKey}
use Rattle.pmem_tree.specs.Changes.{Puts}
use Rattle.pmem_tree_base.specs.Find.{value_of}
use Rattle.vos_values.specs.declared.values.AkeyRoots.{AkeyRoots}
use Rattle.vos_values.specs.declared.values.Roots.{Roots}
use Rattle.vos_values.specs.Keys.{name_key}
use Rattle.vos_values.specs.Values.{akey_in, akey_value, roots_in, roots_value}
use Rattle.vos_levels.specs.Levels.{Hung, Level, hung, hung_root, is_level, things}
use Rattle.vos_ilog.specs.declared.ilog.LogEntry.{LogEntry}
use Rattle.vos_ilog.specs.Logs.{log_owner}
use Rattle.vos_path.specs.Objects.{Akey, Below, Branch, akey_level, below_owner, below_roots, branch_level, held_below, held_values, values_owner, values_roots}
use Rattle.vos_path.proofs.Finding.{akey_found, one_holds, roots_found}
use Rattle.vos_path.proofs.Written.{both_change, first_changes}
use Rattle.vos_settle.specs.declared.task.Task.{Task}
use Rattle.vos_settle.specs.Nodes.{AkeyTurn, AkeysTurn, BelowTurn, BranchTurn, ChangesOne, StaysSo, Turned, ValuesTurn, is_akey}
use Rattle.vos_settle.proofs.LevelTurns.{level_entry, level_good, level_stays, level_still, level_turned}
use Rattle.vos_settle.proofs.Lists.{MappedTo, mapped_none, mapped_to}

-- ---- the akey of a name

module _ (m : Blocks) (g : Hung Akey) (held : Holds (hung akey_level) m g) (name : List ℕ) where
  module _ (key : TreeKey) (key_is : key ≡ name_key name) (found : Option AkeyRoots) (says : found ≡ option_and_then akey_in (value_of (entry_at key (entries g.0)))) where
    said : found ≡ option_map (λ a. values_roots (held_values a)) (find (is_akey name) (things g))
    said = says ∙ (ap (λ k. option_and_then akey_in (value_of (entry_at k (entries g.0)))) key_is ∙ akey_found (name_key name) m g held)

    pub akey_is : (roots : AkeyRoots) → found ≡ Some roots → MappedTo (λ a. values_roots (held_values a)) (find (is_akey name) (things g)) roots
    akey_is roots e = mapped_to (λ a. values_roots (held_values a)) (find (is_akey name) (things g)) roots found said e

    pub akey_is_none : found ≡ None → find (is_akey name) (things g) ≡ None
    akey_is_none e = mapped_none (λ a. values_roots (held_values a)) (find (is_akey name) (things g)) found said e

  pub akeys_stay : (t : Task) (o : Blocks) (root : ℕ) → o ≡ m → root ≡ hung_root g → find (is_akey name) (things g) ≡ None → Turned (hung akey_level) hung_root m g o root (AkeysTurn t name)
  akeys_stay t o root e at none = level_stays 3 held_values values_owner akey_level.key akey_level.value akey_level.Good (name_key name) m g held (AkeyTurn t) o root e at none

  module _ (a : Akey) (found : find (is_akey name) (things g) ≡ Some a) where
    pub akey_holds : Holds values_owner m a.holds
    akey_holds = one_holds 3 held_values values_owner akey_level.key akey_level.value akey_level.Good (name_key name) m g held a found

    pub akey_entry : (key : TreeKey) → key ≡ name_key name → (e : Entry) × ((entry_at key (entries g.0) ≡ Some e) × (e.value ≡ akey_value (values_roots a.holds)))
    akey_entry key is = let s = level_entry 3 held_values values_owner akey_level.key akey_level.value akey_level.Good (name_key name) m g held a found in (s.0, (ap (λ k. entry_at k (entries g.0)) is ∙ s.1.0, s.1.1))

    module _ (t : Task) (n : Blocks) (now : AkeyRoots) (v : Turned values_owner values_roots m a.holds n now (ValuesTurn t)) where
      abbrev made : Akey
      made = record { name = a.name; holds = v.now }

      pub akeys_still : (at : ℕ) → at ≡ hung_root g → IsTree n 3 at g.0
      akeys_still at e = level_still 3 held_values values_owner akey_level.key akey_level.value akey_level.Good (name_key name) m g held a found n made v.changed at e

      pub akeys_turned : (o : Blocks) (root : ℕ) → Puts n 3 g.0 (name_key name) (akey_value now) o root → Turned (hung akey_level) hung_root m g o root (AkeysTurn t name)
      akeys_turned o root put =
          let put2 : Puts n 3 g.0 (name_key name) (akey_value (values_roots v.now)) o root = subst (λ z. Puts n 3 g.0 (name_key name) (akey_value z) o root) v.roots_are put in
          level_turned 3 held_values values_owner akey_level.key akey_level.value akey_level.Good (name_key name) m g held a found n made v.changed (AkeyTurn t) o root refl
          (level_good 3 held_values values_owner akey_level.key akey_level.value akey_level.Good (name_key name) m g held a found) put2 (record { name = refl; holds = v.so })

-- ---- the dkey of a name, or the object

module _ {N A : Type 0} (kind : ℕ) (key : N → TreeKey) (Good : N → Type 0) (L : Level A) (k : TreeKey) (m : Blocks) (g : Hung (Branch N A)) (held : Holds (hung (branch_level kind key Good L)) m g) where
  module _ (at_key : TreeKey) (key_is : at_key ≡ k) (found : Option Roots) (says : found ≡ option_and_then roots_in (value_of (entry_at at_key (entries g.0)))) where
    branch_said : found ≡ option_map (λ b. below_roots (held_below b)) (find (is_level (branch_level kind key Good L) k) (things g))
    branch_said = says ∙ (ap (λ z. option_and_then roots_in (value_of (entry_at z (entries g.0)))) key_is ∙ roots_found kind key Good L k m g held)

    pub branch_is : (roots : Roots) → found ≡ Some roots → MappedTo (λ b. below_roots (held_below b)) (find (is_level (branch_level kind key Good L) k) (things g)) roots
    branch_is roots e = mapped_to (λ b. below_roots (held_below b)) (find (is_level (branch_level kind key Good L) k) (things g)) roots found branch_said e

    pub branch_is_none : found ≡ None → find (is_level (branch_level kind key Good L) k) (things g) ≡ None
    branch_is_none e = mapped_none (λ b. below_roots (held_below b)) (find (is_level (branch_level kind key Good L) k) (things g)) found branch_said e

  pub branches_stay : (Q : Below A → Below A → Type 0) (o : Blocks) (root : ℕ) → o ≡ m → root ≡ hung_root g → find (is_level (branch_level kind key Good L) k) (things g) ≡ None
      → Turned (hung (branch_level kind key Good L)) hung_root m g o root (λ x y. ChangesOne (is_level (branch_level kind key Good L) k) (BranchTurn Q) (things x) (things y))
  branches_stay Q o root e at none = let M = branch_level kind key Good L in level_stays kind held_below (below_owner L) M.key M.value M.Good k m g held (BranchTurn Q) o root e at none

  module _ (b : Branch N A) (found : find (is_level (branch_level kind key Good L) k) (things g) ≡ Some b) where
    pub branch_holds : Holds (below_owner L) m b.holds
    branch_holds = let M = branch_level kind key Good L in one_holds kind held_below (below_owner L) M.key M.value M.Good k m g held b found

    pub branch_entry : (at_key : TreeKey) → at_key ≡ k → (e : Entry) × ((entry_at at_key (entries g.0) ≡ Some e) × (e.value ≡ roots_value (below_roots b.holds)))
    branch_entry at_key is = let M = branch_level kind key Good L in let s = level_entry kind held_below (below_owner L) M.key M.value M.Good k m g held b found in (s.0, (ap (λ z. entry_at z (entries g.0)) is ∙ s.1.0, s.1.1))

    module _ (Q : Below A → Below A → Type 0) (n : Blocks) (now : Roots) (v : Turned (below_owner L) below_roots m b.holds n now Q) where
      abbrev made_branch : Branch N A
      made_branch = record { name = b.name; holds = v.now }

      pub branches_still : (at : ℕ) → at ≡ hung_root g → IsTree n kind at g.0
      branches_still at e = let M = branch_level kind key Good L in level_still kind held_below (below_owner L) M.key M.value M.Good k m g held b found n made_branch v.changed at e

      pub branches_turned : (o : Blocks) (root : ℕ) → Puts n kind g.0 k (roots_value now) o root
          → Turned (hung (branch_level kind key Good L)) hung_root m g o root (λ x y. ChangesOne (is_level (branch_level kind key Good L) k) (BranchTurn Q) (things x) (things y))
      branches_turned o root put =
          let M = branch_level kind key Good L in
          let put2 : Puts n kind g.0 k (roots_value (below_roots v.now)) o root = subst (λ z. Puts n kind g.0 k (roots_value z) o root) v.roots_are put in
          level_turned kind held_below (below_owner L) M.key M.value M.Good k m g held b found n made_branch v.changed (BranchTurn Q) o root refl
          (level_good kind held_below (below_owner L) M.key M.value M.Good k m g held b found) put2 (record { name = refl; holds = v.so })

-- ---- what has a log and a tree below it

module _ {A : Type 0} (L : Level A) (m n : Blocks) (g : Below A) (roots : Roots) (h : Holds (below_owner L) m g) (at : roots ≡ below_roots g) where
  -- its punch
  pub log_turned : (after : List LogEntry → List LogEntry) (log : ℕ) → Turned log_owner hung_root m g.0 n log (λ a b. things b ≡ after (things a))
      → Turned (below_owner L) below_roots m g n (record { log = log; below = roots.below }) (BelowTurn StaysSo after)
  log_turned after log l = record {
    now = (l.now, g.1);
    changed = first_changes log_owner (hung L) m n g l.now h l.changed;
    roots_are = λ i. record { log = l.roots_are i; below = ap (λ r. r.below) at i };
    so = record { log = l.so; tree = refl };
  }

  -- what is below it, and then its creation
  pub both_turned : (Q : Hung A → Hung A → Type 0) (after : List LogEntry → List LogEntry) (o : Blocks) (sub log : ℕ) → Turned (hung L) hung_root m g.1 n sub Q → Turned log_owner hung_root n g.0 o log (λ a b. things b ≡ after (things a))
      → Turned (below_owner L) below_roots m g o (record { log = log; below = sub }) (BelowTurn Q after)
  both_turned Q after o sub log b l = record {
    now = (l.now, b.now);
    changed = both_change log_owner (hung L) m n o g l.now b.now h b.changed l.changed;
    roots_are = λ i. record { log = l.roots_are i; below = b.roots_are i };
    so = record { log = l.so; tree = b.so };
  }
