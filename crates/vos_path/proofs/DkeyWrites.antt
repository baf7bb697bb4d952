-- A dkey, and an object, that a write names.
use Rattle.std.proofs.Common.{◌≡◌, ℕ, true, List, Option, Some, None, refl, sym}
use Rattle.std.specs.Option.{option_and_then}
use Rattle.std.proofs.lemmas.List.Elements.{All-nil}
use Rattle.daos_model.specs.declared.durable.Version.{Version}
use Rattle.pmem_pages.specs.Blocks.{Blocks}
use Rattle.pmem_pages.specs.Owners.{Holds}
use Rattle.pmem_pages.specs.Shape.{IsTree, entries, entry_at}
use Rattle.pmem_pages.specs.declared.node.TreeKey.{TreeKey}
use Rattle.pmem_tree_base.specs.Find.{value_of}
use Rattle.vos_values.specs.declared.keys.Layout.TheVariants.{Two}
use Rattle.vos_values.specs.declared.keys.ObjectKey.{ObjectKey}
use Rattle.vos_values.specs.declared.values.Roots.{Roots}
use Rattle.vos_values.specs.Keys.{IsName, IsObjectKey, name_key, object_key}
use Rattle.vos_values.specs.Values.{roots_in, roots_value}
use Rattle.vos_extent.specs.vos_levels.Levels.{HasMore, Hung, hung, hung_root, is_level}
use Rattle.vos_path.specs.declared.stamp.Stamp.{Stamp}
use Rattle.vos_path.specs.Calls.{Turns, roots_or_zero}
use Rattle.pmem_tree.specs.Changes.{PutAt}
use Rattle.base_types.specs.declared.operation.Write.{Write}
use Rattle.vos_path.specs.Nodes.{DkeyNoted, DkeysNoted, ObjectNoted, ObjectsNoted}
use Rattle.vos_path.specs.Objects.{Akey, Below, Dkey, Object, Objects, akey_level, below_dkey_versions, below_object_versions, below_or_none, no_tree, below_owner, below_roots, dkey_level, dkeys_versions, object_level, objects_owner, objects_versions}
use Rattle.base_types.specs.declared.path.Path.{Path}
use Rattle.vos_path.specs.Small.{AkeysOnPathAreSmall, BelowDkeyOnPathIsSmall, BelowObjectOnPathIsSmall, DkeysOnPathAreSmall, PathIsSmall}
use Rattle.vos_path.specs.Writes.{BelowDkeyIsNew, DkeysAreNew, IsAtObject}
use Rattle.vos_path.proofs.AkeyWrites.{some_power}
use Rattle.vos_path.proofs.BranchWrites.{branch_all, branch_at, branch_passes, branch_holds, branch_roots_are, branch_still, branch_written}
use Rattle.vos_path.proofs.Naming.{name_exact, object_exact}
use Rattle.vos_path.proofs.Putting.{level_equal}

-- ---- dkeys

abbrev pub dkey_at : List ℕ → Hung Dkey → Option Dkey
dkey_at name g = branch_at 2 name_key IsName akey_level name g

pub dkey_holds : (m : Blocks) (g : Hung Dkey) (name : List ℕ) → Holds (hung dkey_level) m g → Holds (below_owner akey_level) m (below_or_none (dkey_at name g))
dkey_holds m g name h = branch_holds 2 name_key IsName akey_level name m g h

pub dkey_new : (s : Stamp) (g : Hung Dkey) (name : List ℕ) → DkeysAreNew s g → BelowDkeyIsNew s (below_or_none (dkey_at name g))
dkey_new s g name h = branch_all 2 name_key IsName akey_level name (BelowDkeyIsNew s) g (record { punch = refl; akeys = All-nil _ }) h

akeys_none : (d : ℕ) (akey : Option (List ℕ)) → AkeysOnPathAreSmall d akey no_tree
akeys_none d None = tt
akeys_none d (Some name) = (some_power d, All-nil _)

pub dkey_small : (d : ℕ) (g : Hung Dkey) (name : List ℕ) (akey : Option (List ℕ)) → DkeysOnPathAreSmall d (Some name) akey g → BelowDkeyOnPathIsSmall d akey (below_or_none (dkey_at name g))
dkey_small d g name akey h = branch_passes 2 name_key IsName akey_level name (BelowDkeyOnPathIsSmall d akey) g (some_power d, akeys_none d akey) h.1

pub dkey_roots_are : (m : Blocks) (g : Hung Dkey) → Holds (hung dkey_level) m g → (name : List ℕ) (k : TreeKey) → k ≡ name_key name → (found : Option Roots) → found ≡ option_and_then roots_in (value_of (entry_at k (entries g.0)))
    → (roots : Roots) → roots ≡ roots_or_zero found → roots ≡ below_roots (below_or_none (dkey_at name g))
dkey_roots_are m g held name k is found says roots e = branch_roots_are 2 name_key IsName akey_level name m g held k is found says roots e

dkey_exact : (name : List ℕ) → IsName name → (b : Dkey) → IsName b.name → is_level dkey_level (name_key name) b ≡ true → b.name ≡ name
dkey_exact name good b ok level = sym (name_exact name b.name good ok (level_equal dkey_level (name_key name) b level))

pub dkeys_still : (m n : Blocks) (g : Hung Dkey) → Holds (hung dkey_level) m g → (o : ObjectKey) (name : List ℕ) → IsName name → (v : Version) (Q : Below Akey → Below Akey → Type 0) (roots : Roots) → Turns (below_owner akey_level) below_roots (below_dkey_versions o name) m (below_or_none (dkey_at name g)) n roots (HasMore v) Q
    → (at : ℕ) → at ≡ hung_root g → IsTree n 2 at g.0
dkeys_still m n g held o name good v Q roots t at e = branch_still 2 name_key IsName akey_level name (dkey_exact name good) good m n g held (below_dkey_versions o) v Q roots t at e

pub dkeys_written : (m n : Blocks) (g : Hung Dkey) → Holds (hung dkey_level) m g → (o : ObjectKey) (name : List ℕ) → IsName name → (v : Version) (akey : Option (List ℕ)) (w : Write) (s : Stamp) (roots : Roots) → Turns (below_owner akey_level) below_roots (below_dkey_versions o name) m (below_or_none (dkey_at name g)) n roots (HasMore v) (DkeyNoted s w akey)
    → (p : Blocks) (root : ℕ) → PutAt n 2 g.0 (name_key name) (roots_value roots) p root → Turns (hung dkey_level) hung_root (dkeys_versions o) m g p root (HasMore v) (DkeysNoted s w name akey)
dkeys_written m n g held o name good v akey w s roots t p root put = branch_written 2 name_key IsName akey_level name (dkey_exact name good) good m n g held (below_dkey_versions o) v (DkeyNoted s w akey) roots t refl p root put

-- ---- objects

abbrev pub object_at : ObjectKey → Objects → Option Object
object_at name g = branch_at 1 object_key (IsObjectKey Two) dkey_level name g

pub object_holds : (m : Blocks) (g : Objects) (name : ObjectKey) → Holds objects_owner m g → Holds (below_owner dkey_level) m (below_or_none (object_at name g))
object_holds m g name h = branch_holds 1 object_key (IsObjectKey Two) dkey_level name m g h

dkeys_none : (d : ℕ) (dkey akey : Option (List ℕ)) → DkeysOnPathAreSmall d dkey akey no_tree
dkeys_none d None akey = tt
dkeys_none d (Some name) akey = (some_power d, All-nil _)

pub object_small : (d : ℕ) (g : Objects) (name : ObjectKey) (p : Path) → IsAtObject name p → PathIsSmall d p g → BelowObjectOnPathIsSmall d p.dkey p.akey (below_or_none (object_at name g))
object_small d g name p at h = branch_passes 1 object_key (IsObjectKey Two) dkey_level name (BelowObjectOnPathIsSmall d p.dkey p.akey) g (some_power d, dkeys_none d p.dkey p.akey) (h name at).1

pub object_roots_are : (m : Blocks) (g : Objects) → Holds objects_owner m g → (name : ObjectKey) (k : TreeKey) → k ≡ object_key name → (found : Option Roots) → found ≡ option_and_then roots_in (value_of (entry_at k (entries g.0)))
    → (roots : Roots) → roots ≡ roots_or_zero found → roots ≡ below_roots (below_or_none (object_at name g))
object_roots_are m g held name k is found says roots e = branch_roots_are 1 object_key (IsObjectKey Two) dkey_level name m g held k is found says roots e

pub objects_exact : (name : ObjectKey) → IsObjectKey Two name → (b : Object) → IsObjectKey Two b.name → is_level object_level (object_key name) b ≡ true → b.name ≡ name
objects_exact name good b ok level = sym (object_exact name b.name good ok (level_equal object_level (object_key name) b level))

pub objects_still : (m n : Blocks) (g : Objects) → Holds objects_owner m g → (name : ObjectKey) → IsObjectKey Two name → (v : Version) (Q : Below Dkey → Below Dkey → Type 0) (roots : Roots) → Turns (below_owner dkey_level) below_roots (below_object_versions name) m (below_or_none (object_at name g)) n roots (HasMore v) Q
    → (at : ℕ) → at ≡ hung_root g → IsTree n 1 at g.0
objects_still m n g held name good v Q roots t at e = branch_still 1 object_key (IsObjectKey Two) dkey_level name (objects_exact name good) good m n g held below_object_versions v Q roots t at e

pub objects_written : (m n : Blocks) (g : Objects) → Holds objects_owner m g → (name : ObjectKey) → IsObjectKey Two name → (v : Version) (dkey akey : Option (List ℕ)) (w : Write) (s : Stamp) (roots : Roots) → Turns (below_owner dkey_level) below_roots (below_object_versions name) m (below_or_none (object_at name g)) n roots (HasMore v) (ObjectNoted s w dkey akey)
    → (p : Blocks) (root : ℕ) → PutAt n 1 g.0 (object_key name) (roots_value roots) p root → Turns objects_owner hung_root objects_versions m g p root (HasMore v) (ObjectsNoted s w name dkey akey)
objects_written m n g held name good v dkey akey w s roots t p root put = branch_written 1 object_key (IsObjectKey Two) dkey_level name (objects_exact name good) good m n g held below_object_versions v (ObjectNoted s w dkey akey) roots t refl p root put
