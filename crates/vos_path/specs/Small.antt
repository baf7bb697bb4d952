-- The trees on a path, and how many pairs they have.
use Rattle.std.specs.Prelude.{◌≡◌, ℕ, true, List, Option, Some, None, All}
use Rattle.base_types.specs.declared.path.Path.{Path}
use Rattle.vos_values.specs.declared.keys.ObjectKey.{ObjectKey}
use Rattle.vos_values.specs.Keys.{name_key, object_key}
use Rattle.vos_extent.specs.vos_levels.Levels.{Hung, is_level, things}
use Rattle.vos_path.specs.Objects.{Akey, Below, Dkey, Object, Objects, akey_level, dkey_level, object_level}
use Rattle.vos_path.specs.Writes.{AkeyIsSmall, IsAtObject, IsSmall}

-- An akey that has this name is small: none of its trees has 2^d pairs.
abbrev pub NamedAkeyIsSmall : ℕ → List ℕ → Akey → Type 0
NamedAkeyIsSmall d name a = is_level akey_level (name_key name) a ≡ true → AkeyIsSmall d a

-- the tree of akeys that a path goes through, if it goes on to one, and the trees below it
abbrev pub AkeysOnPathAreSmall : ℕ → Option (List ℕ) → Hung Akey → Type 0
AkeysOnPathAreSmall d None g = Unit {0}
AkeysOnPathAreSmall d (Some name) g = IsSmall d g × All (NamedAkeyIsSmall d name) (things g)

-- a dkey's log, and what the path goes through below it
abbrev pub BelowDkeyOnPathIsSmall : ℕ → Option (List ℕ) → Below Akey → Type 0
BelowDkeyOnPathIsSmall d akey b = IsSmall d b.0 × AkeysOnPathAreSmall d akey b.1

abbrev pub NamedDkeyIsSmall : ℕ → List ℕ → Option (List ℕ) → Dkey → Type 0
NamedDkeyIsSmall d name akey k = is_level dkey_level (name_key name) k ≡ true → BelowDkeyOnPathIsSmall d akey k.holds

abbrev pub DkeysOnPathAreSmall : ℕ → Option (List ℕ) → Option (List ℕ) → Hung Dkey → Type 0
DkeysOnPathAreSmall d None akey g = Unit {0}
DkeysOnPathAreSmall d (Some name) akey g = IsSmall d g × All (NamedDkeyIsSmall d name akey) (things g)

-- an object's log, and what the path goes through below it
abbrev pub BelowObjectOnPathIsSmall : ℕ → Option (List ℕ) → Option (List ℕ) → Below Dkey → Type 0
BelowObjectOnPathIsSmall d dkey akey b = IsSmall d b.0 × DkeysOnPathAreSmall d dkey akey b.1

abbrev pub NamedObjectIsSmall : ℕ → ObjectKey → Option (List ℕ) → Option (List ℕ) → Object → Type 0
NamedObjectIsSmall d name dkey akey o = is_level object_level (object_key name) o ≡ true → BelowObjectOnPathIsSmall d dkey akey o.holds

abbrev pub ObjectsOnPathAreSmall : ℕ → ObjectKey → Option (List ℕ) → Option (List ℕ) → Objects → Type 0
ObjectsOnPathAreSmall d name dkey akey g = IsSmall d g × All (NamedObjectIsSmall d name dkey akey) (things g)

-- No tree on the path of an object has 2^d pairs: neither that of objects, nor the logs of the object, the dkey and the akey that
-- it names, the trees of dkeys and of akeys on its way, the versions of the akey's single value and its extents.
abbrev pub PathIsSmall : ℕ → Path → Objects → Type 0
PathIsSmall d p g = (name : ObjectKey) → IsAtObject name p → ObjectsOnPathAreSmall d name p.dkey p.akey g
