-- What a read reads of the trees on its way.
use Rattle.std.specs.Prelude.{◌≡◌, ◌≤◌, ◌<◌, ◌+◌, ◌*◌, ◌^◌, ℕ, List, length}
use Rattle.base_types.specs.declared.path.Path.{Path}
use Rattle.pmem_pages.specs.Shape.{Shape, entries}
use Rattle.vos_values.specs.declared.keys.ObjectKey.{ObjectKey}
use Rattle.vos_extent.specs.Extents.{extents}
use Rattle.vos_extent.specs.Shown.{near}
use Rattle.vos_path.specs.Objects.{Objects, akey_path}
use Rattle.vos_reads.specs.Ways.{akey_of, below_object, dkey_of}

-- the number of a tree's pairs has at most so many binary digits
abbrev pub HasDigits : ℕ → Shape → Type 0
HasDigits d t = length (entries t) < 2 ^ d

-- so have the numbers of all objects, of an object's dkeys, and of a dkey's akeys
pub record WayHasDigits (d : ℕ) (o : ObjectKey) (k : List ℕ) (g : Objects) : Type 0 where
  pub objects : HasDigits d g.0
  pub dkeys : HasDigits d (below_object o g).1.0
  pub akeys : HasDigits d (dkey_of o k g).1.0

-- three look-ups
abbrev pub StepsToAkey : ObjectKey → List ℕ → Objects → ℕ → ℕ → Type 0
StepsToAkey o k g before now = (d : ℕ) → WayHasDigits d o k g → now ≤ before + 6 * d

-- A single value: four look-ups and at most five blocks of bytes, whatever the number of its versions and of all others.
abbrev pub StepsToSingle : ObjectKey → List ℕ → List ℕ → Objects → ℕ → ℕ → Type 0
StepsToSingle o k a g before now = (d : ℕ) → WayHasDigits d o k g → HasDigits d (akey_of o k a g).1.0.0 → now ≤ before + (8 * d + 5)

-- A stretch of an array: three look-ups, and for each extent that may reach into it, and once more, a look-up and at
-- most five blocks of bytes.
abbrev pub StepsToExtents : ℕ → ℕ → ObjectKey → List ℕ → List ℕ → Objects → ℕ → ℕ → Type 0
StepsToExtents low high o k a g before now = (d : ℕ) → WayHasDigits d o k g → HasDigits d (akey_of o k a g).1.1.0 → now ≤ before + (6 * d + (near low high (extents (akey_of o k a g).1.1) + 1) * (2 * d + 5))

-- what this comes to for the path of an akey
abbrev pub OfNames : Path → (ObjectKey → List ℕ → List ℕ → Type 0) → Type 0
OfNames p P = (o : ObjectKey) (k a : List ℕ) → p ≡ akey_path o k a → P o k a
