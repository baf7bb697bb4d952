-- One thing of a level becomes another, and then its value in the tree.
use Rattle.std.proofs.Common.{◌≡◌, ℕ, Option, Some, None, refl, sym, ap, ◌∙◌, subst, inl, inr}
use Rattle.std.specs.List.{find}
use Rattle.pmem_pages.specs.Blocks.{Blocks}
use Rattle.pmem_pages.specs.Owners.{Changed, Holds, Owner, maybe}
use Rattle.pmem_pages.specs.Shape.{Entry, IsTree, entries, entry_at}
use Rattle.pmem_pages.specs.declared.node.TreeKey.{TreeKey}
use Rattle.pmem_pages.specs.declared.node.Value.{Value}
use Rattle.pmem_tree.specs.Changes.{Puts}
use Rattle.vos_levels.specs.Levels.{Hung, hung, in_part, hung_root, is_level, map_those, things}
use Rattle.vos_levels.proofs.Changing.{hung_other, stays}
use Rattle.vos_levels.proofs.Settling.{spot_at}
use Rattle.vos_levels.proofs.Spots.{Spot, mapped_spot}
use Rattle.vos_levels.proofs.Testing.{all_good, found_good, found_missing}
use Rattle.vos_path.proofs.Putting.{part_level, still, tells_level}
use Rattle.vos_settle.specs.Nodes.{ChangesOne, Turned}

-- a change of what a thing stands in
part_changed : {A P : Type 0} (f : A → P) (O : Owner P) (m n : Blocks) (a b : A) → Changed O m (f a) n (f b) → Changed (in_part f O) m a n b
part_changed f O m n a b c = record { holds = record { here = c.holds.here; apart = c.holds.apart }; outside = c.outside; taken = c.taken; given = c.given }

part_made : {A P : Type 0} (f : A → P) (O : Owner P) (m n : Blocks) (x : Option A) (a b : A) → x ≡ Some a → Changed O m (f a) n (f b) → Changed (maybe (in_part f O)) m x n (Some b)
part_made f O m n x a b e c = subst (λ z. Changed (maybe (in_part f O)) m z n (Some b)) (sym e) (record { holds = record { here = c.holds.here; apart = c.holds.apart }; outside = c.outside; taken = c.taken; given = c.given })

module _ {A P : Type 0} (kind : ℕ) (f : A → P) (O : Owner P) (key : A → TreeKey) (value : A → Value) (Good : A → Type 0) (k : TreeKey) (m : Blocks) (g : Hung A) (h : Holds (hung (part_level kind f O key value Good)) m g) where
  -- none has the key
  pub level_stays : (Q : A → A → Type 0) (o : Blocks) (root : ℕ) → o ≡ m → root ≡ hung_root g → find (is_level (part_level kind f O key value Good) k) (things g) ≡ None
      → Turned (hung (part_level kind f O key value Good)) hung_root m g o root (λ x y. ChangesOne (is_level (part_level kind f O key value Good) k) Q (things x) (things y))
  level_stays Q o root e at none =
      let L = part_level kind f O key value Good in
      record {
        now = g;
        changed = subst (λ z. Changed (hung L) m g z g) (sym e) (stays (hung L) m g h);
        roots_are = at;
        so = inr (record { none = found_missing (is_level L k) (things g) none; same = refl });
      }

  module _ (a : A) (found : find (is_level (part_level kind f O key value Good) k) (things g) ≡ Some a) where
    spot : (e : Entry) × Spot (part_level kind f O key value Good) k (is_level (part_level kind f O key value Good) k) (entries g.0) g.1 e a
    spot = let L = part_level kind f O key value Good in spot_at L k (is_level L k) (tells_level L k) m g a h found

    pub level_entry : (e : Entry) × ((entry_at k (entries g.0) ≡ Some e) × (e.value ≡ value a))
    level_entry = (spot.0, (spot.1.at, spot.1.leads.value))

    pub level_good : Good a
    level_good = let L = part_level kind f O key value Good in found_good L (is_level L k) (things g) a (all_good L (entries g.0) g.1 h.here.1.leads) found

    module _ (n : Blocks) (b : A) (c : Changed O m (f a) n (f b)) where
      -- the tree stands where the thing changed
      pub level_still : (at : ℕ) → at ≡ hung_root g → IsTree n kind at g.0
      level_still at e = let L = part_level kind f O key value Good in still L k m n at g b h e (part_made f O m n (find (is_level L k) (things g)) a b found c)

      pub level_turned : (Q : A → A → Type 0) (o : Blocks) (root : ℕ) → key b ≡ key a → Good b → Puts n kind g.0 k (value b) o root → Q a b
          → Turned (hung (part_level kind f O key value Good)) hung_root m g o root (λ x y. ChangesOne (is_level (part_level kind f O key value Good) k) Q (things x) (things y))
      level_turned Q o root same good put q =
          let L = part_level kind f O key value Good in
          let t = spot.1 in
          let r = hung_other L k (is_level L k) (λ z. b) m n o g spot.0 a root h t (part_changed f O m n a b c) same good put in
          record {
            now = r.now;
            changed = r.changed;
            roots_are = r.root_is;
            so = inl (record {
              left = t.left;
              right = t.right;
              was = a;
              now = b;
              before_is = t.things_are;
              after_is = r.shown_is ∙ (ap (map_those (is_level L k) (λ z. b)) t.things_are ∙ mapped_spot (is_level L k) (λ z. b) t.left a t.right t.none_left t.passes t.none_right);
              passes = t.passes;
              none_left = t.none_left;
              none_right = t.none_right;
              so = q;
            });
          }
