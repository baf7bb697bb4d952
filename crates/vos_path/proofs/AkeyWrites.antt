-- A write comes to an akey, and then that into the tree of its dkey.
use Rattle.std.proofs.Common.{◌≡◌, ℕ, ◌+◌, ◌*◌, ◌<◌, ◌^◌, true, List, Option, Some, zero, suc, refl, sym, ap, ◌∙◌, subst, arith}
use Rattle.std.specs.List.{find}
use Rattle.std.specs.Option.{option_and_then, option_map}
use Rattle.base_types.specs.declared.operation.Write.{Write}
use Rattle.base_types.specs.Operations.{write_path}
use Rattle.pmem_pages.specs.Blocks.{Blocks, Budget}
use Rattle.pmem_pages.specs.Owners.{Holds}
use Rattle.pmem_pages.specs.Shape.{IsTree, entries, entry_at}
use Rattle.pmem_pages.specs.declared.node.TreeKey.{TreeKey}
use Rattle.pmem_tree.specs.Calls.{StagesAtMost, TooFew}
use Rattle.vos_values.specs.declared.keys.ObjectKey.{ObjectKey}
use Rattle.vos_values.specs.declared.values.AkeyRoots.{AkeyRoots}
use Rattle.vos_values.specs.Keys.{IsName, name_key}
use Rattle.pmem_tree_base.specs.Find.{value_of}
use Rattle.vos_values.specs.Values.{akey_in, akey_value}
use Rattle.vos_extent.specs.vos_levels.Levels.{HasMore, Hung, hung, hung_root, is_level, things}
use Rattle.vos_path.specs.declared.stamp.Stamp.{Stamp}
use Rattle.vos_path.specs.Calls.{LacksFor, SpendsAtMost, Turns, akey_or_zero, for_pair}
use Rattle.pmem_tree.specs.Changes.{PutAt}
use Rattle.vos_path.specs.Nodes.{AkeysNoted, ValuesNoted}
use Rattle.vos_path.specs.Objects.{Akey, akey_level, akey_path, akey_versions, akeys_versions, held_values, no_values, values_or_none, values_owner, values_roots, values_versions}
use Rattle.vos_path.specs.Small.{AkeysOnPathAreSmall}
use Rattle.vos_path.specs.Writes.{AkeysAreNew, IsSmall, ValuesAreNew, ValuesAreSmall, fresh}
use Rattle.vos_path.proofs.Finding.{akey_found, akey_zero, found_holds, listed_found, no_values_hold, no_values_own}
use Rattle.vos_path.proofs.Lists.{all_found, passes_found}
use Rattle.vos_path.proofs.Naming.{name_exact}
use Rattle.vos_path.proofs.Putting.{changed_part, level_equal, level_put, still}
use Rattle.vos_path.proofs.Written.{fewer_than, lacked_before, spent_at_most, spent_then}

-- ---- sums

pub some_power : (d : ℕ) → 0 < 2 ^ d
some_power zero = omega arith
some_power (suc d) = omega (arith, some_power d)

pub put_lacks : {A : Type 0} (n r d : ℕ) (g : Hung A) (x y : Budget) → IsSmall d g → SpendsAtMost n r x y → TooFew g.0 y → LacksFor n r d x
put_lacks n r d g x y small s few =
    fewer_than (2 * n + r + (16 * d + 32)) (257 * n + 256 * r + 256 * (16 * d + 32)) (2 * n + (r + (16 * d + 32))) (257 * n + 256 * (r + (16 * d + 32))) x (omega arith) (omega arith)
    (lacked_before (2 * n + r) (257 * n + 256 * r) (16 * d + 32) (256 * (16 * d + 32)) x y s (few d small))

pub put_spends : {A : Type 0} (n r d : ℕ) (g : Hung A) (x y z : Budget) → IsSmall d g → SpendsAtMost n r x y → StagesAtMost 4 8 g.0 y z → SpendsAtMost n (r + for_pair d) x z
put_spends n r d g x y z small s t =
    spent_at_most (2 * n + r + (4 * d + 8)) (257 * n + 256 * r + 256 * (4 * d + 8)) (2 * n + (r + for_pair d)) (257 * n + 256 * (r + for_pair d)) x z (omega arith) (omega arith)
    (spent_then (2 * n + r) (257 * n + 256 * r) (4 * d + 8) (256 * (4 * d + 8)) x y z s (t d small))

-- ---- the akey that is named

some_inside : (a b : List ℕ) → Some a ≡ Some b → a ≡ b
some_inside a b h = cc

abbrev pub akey_at : List ℕ → Hung Akey → Option Akey
akey_at name g = find (is_level akey_level (name_key name)) (things g)

pub akey_holds : (m : Blocks) (g : Hung Akey) (name : List ℕ) → Holds (hung akey_level) m g → Holds values_owner m (values_or_none (akey_at name g))
akey_holds m g name h = found_holds 3 held_values values_owner akey_level.key akey_level.value akey_level.Good (name_key name) m g h no_values (no_values_hold m)

pub akey_new : (s : Stamp) (g : Hung Akey) (name : List ℕ) → AkeysAreNew s g → ValuesAreNew s (values_or_none (akey_at name g))
akey_new s g name h = all_found held_values no_values (ValuesAreNew s) (is_level akey_level (name_key name)) (things g) (record { punch = refl; single = refl; extent = λ low. refl }) h

pub akey_small : (d : ℕ) (g : Hung Akey) (name : List ℕ) → AkeysOnPathAreSmall d (Some name) g → ValuesAreSmall d (values_or_none (akey_at name g))
akey_small d g name h = passes_found held_values no_values (ValuesAreSmall d) (is_level akey_level (name_key name)) (things g) (some_power d, (some_power d, some_power d)) h.1

module _ (m n : Blocks) (g : Hung Akey) (held : Holds (hung akey_level) m g) (s : Stamp) (w : Write) (name : List ℕ) (is_name : IsName name) (roots : AkeyRoots)
    (t : Turns values_owner values_roots (values_versions (write_path w)) m (values_or_none (akey_at name g)) n roots (HasMore (fresh s w)) (ValuesNoted s w)) where
  named_so : (a : Akey) → IsName a.name → is_level akey_level (name_key name) a ≡ true → a.name ≡ name
  named_so a good level = sym (name_exact name a.name is_name good (level_equal akey_level (name_key name) a level))

  abbrev made : Akey
  made = record { name = name; holds = t.now }

  pub akeys_still : (at : ℕ) → at ≡ hung_root g → IsTree n 3 at g.0
  akeys_still at e = still akey_level (name_key name) m n at g made held e (changed_part held_values values_owner no_values m n (akey_at name g) made no_values_own t.changed)

  pub akeys_written : (ob : ObjectKey) (d a : List ℕ) → write_path w ≡ akey_path ob d a → (write_path w).akey ≡ Some name → (o : Blocks) (root : ℕ) → PutAt n 3 g.0 (name_key name) (akey_value roots) o root
      → Turns (hung akey_level) hung_root (akeys_versions ob d) m g o root (HasMore (fresh s w)) (AkeysNoted s w a)
  akeys_written ob d a path akey o root put =
      let v = fresh s w in
      let x = akey_at name g in
      let is : a ≡ name = some_inside a name (sym (ap (λ p. p.akey) path) ∙ akey) in
      let p : write_path w ≡ akey_path ob d name = path ∙ ap (akey_path ob d) is in
      let more = subst (λ q. HasMore v (values_versions q (values_or_none x)) (values_versions q t.now)) p t.shown_is in
      let same = listed_found 3 held_values values_owner akey_level.key akey_level.value akey_level.Good (name_key name) m g held no_values (akey_versions ob d) (values_versions (akey_path ob d name)) refl (λ b good level. ap (λ z. values_versions (akey_path ob d z) b.holds) (named_so b good level)) in
      let put2 : PutAt n 3 g.0 (name_key name) (akey_value (values_roots t.now)) o root = subst (λ z. PutAt n 3 g.0 (name_key name) (akey_value z) o root) t.roots_are put in
      subst (λ z. Turns (hung akey_level) hung_root (akeys_versions ob d) m g o root (HasMore v) (AkeysNoted s w z)) (sym is) (level_put 3 held_values values_owner akey_level.key akey_level.value akey_level.Good (name_key name) no_values (akey_versions ob d) v no_values_own (λ b good level. ap name_key (named_so b good level)) m n o g made root held t.changed refl is_name put2
      (subst (λ z. HasMore v z (values_versions (akey_path ob d name) t.now)) (sym same) more) (λ b. b.name ≡ name) (ValuesNoted s w) refl t.nodes)

-- ---- what the look-up says

module _ (m : Blocks) (g : Hung Akey) (held : Holds (hung akey_level) m g) (name : List ℕ) (key : TreeKey) (key_is : key ≡ name_key name) (found : Option AkeyRoots) (says : found ≡ option_and_then akey_in (value_of (entry_at key (entries g.0)))) where
  akey_said : found ≡ option_map (λ a. values_roots (held_values a)) (akey_at name g)
  akey_said = says ∙ (ap (λ k. option_and_then akey_in (value_of (entry_at k (entries g.0)))) key_is ∙ akey_found (name_key name) m g held)

  pub akey_roots_are : (roots : AkeyRoots) → roots ≡ akey_or_zero found → roots ≡ values_roots (values_or_none (akey_at name g))
  akey_roots_are roots e = e ∙ (ap akey_or_zero akey_said ∙ akey_zero (akey_at name g))
