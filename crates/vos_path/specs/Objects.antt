-- What a tree of objects holds. Every object, dkey and akey has a log; below an object hangs a tree of dkeys, below a dkey
-- one of akeys, and below an akey hang the versions of its single value and the extents of its array.
use Rattle.std.specs.Prelude.{ℕ, Bool, List, [], ◌∷◌, ◌++◌, filter, map, Option, Some, None}
use Rattle.base_types.specs.declared.operation.Write.{Write}
use Rattle.base_types.specs.declared.operation.Write.TheVariants.{Single, Extent, PunchObject, PunchDkey, PunchAkey}
use Rattle.base_types.specs.declared.path.Path.{Path}
use Rattle.daos_model.specs.declared.durable.Version.{Version}
use Rattle.pmem_pages.specs.Owners.{Owner, both}
use Rattle.pmem_pages.specs.Shape.{Leaf}
use Rattle.pmem_pages.specs.declared.node.TreeKey.{TreeKey}
use Rattle.vos_values.specs.declared.keys.Layout.TheVariants.{Two}
use Rattle.vos_values.specs.declared.keys.ObjectKey.{ObjectKey}
use Rattle.vos_values.specs.declared.values.AkeyRoots.{AkeyRoots}
use Rattle.vos_values.specs.declared.values.Roots.{Roots}
use Rattle.vos_values.specs.Keys.{IsName, IsObjectKey, name_key, object_key}
use Rattle.vos_values.specs.Values.{akey_value, roots_value}
use Rattle.vos_extent.specs.vos_levels.Levels.{Hung, Level, hung, hung_root, in_part, things}
use Rattle.vos_ilog.specs.declared.ilog.LogEntry.{LogEntry}
use Rattle.vos_ilog.specs.Logs.{Log, log_owner}
use Rattle.vos_single.specs.declared.single.SingleVersion.{SingleVersion}
use Rattle.vos_single.specs.Singles.{Singles, single_owner, versions}
use Rattle.vos_extent.specs.declared.extent.ExtentVersion.{ExtentVersion}
use Rattle.vos_extent.specs.Extents.{Extents, extent_owner, extents}

-- ---- akeys

-- a log, the versions of a single value, and the extents of an array
abbrev pub Values : Type 0
Values = Log × (Singles × Extents)

abbrev pub values_owner : Owner Values
values_owner = both log_owner (both single_owner extent_owner)

abbrev pub values_roots : Values → AkeyRoots
values_roots a = record { log = hung_root a.0; singles = hung_root a.1.0; extents = hung_root a.1.1 }

pub record Akey : Type 0 where
  pub name : List ℕ
  pub holds : Values

abbrev pub held_values : Akey → Values
held_values a = a.holds

abbrev pub akey_level : Level Akey
akey_level = record { kind = 3; owner = in_part held_values values_owner; key = λ a. name_key a.name; value = λ a. akey_value (values_roots a.holds); Good = λ a. IsName a.name }

-- ---- what has a log and a tree of further things

abbrev pub Below : Type 0 → Type 0
Below A = Log × Hung A

abbrev pub below_owner : {A : Type 0} → Level A → Owner (Below A)
below_owner L = both log_owner (hung L)

abbrev pub below_roots : {A : Type 0} → Below A → Roots
below_roots b = record { log = hung_root b.0; below = hung_root b.1 }

pub record Branch (N A : Type 0) : Type 0 where
  pub name : N
  pub holds : Below A

abbrev pub held_below : {N A : Type 0} → Branch N A → Below A
held_below b = b.holds

abbrev pub branch_level : {N A : Type 0} → ℕ → (N → TreeKey) → (N → Type 0) → Level A → Level (Branch N A)
branch_level kind key Good L = record { kind = kind; owner = in_part held_below (below_owner L); key = λ b. key b.name; value = λ b. roots_value (below_roots b.holds); Good = λ b. Good b.name }

-- ---- dkeys and objects

abbrev pub Dkey : Type 0
Dkey = Branch (List ℕ) Akey

abbrev pub dkey_level : Level Dkey
dkey_level = branch_level 2 name_key IsName akey_level

abbrev pub Object : Type 0
Object = Branch ObjectKey Dkey

abbrev pub object_level : Level Object
object_level = branch_level 1 object_key (IsObjectKey Two) dkey_level

abbrev pub Objects : Type 0
Objects = Hung Object

abbrev pub objects_owner : Owner Objects
objects_owner = hung object_level

-- ---- paths

abbrev pub object_path : ObjectKey → Path
object_path o = record { cont = o.cont; obj = Some o.obj; dkey = None; akey = None }

abbrev pub dkey_path : ObjectKey → List ℕ → Path
dkey_path o d = record { cont = o.cont; obj = Some o.obj; dkey = Some d; akey = None }

abbrev pub akey_path : ObjectKey → List ℕ → List ℕ → Path
akey_path o d a = record { cont = o.cont; obj = Some o.obj; dkey = Some d; akey = Some a }

-- ---- the versions that stand there

abbrev pub is_punch : LogEntry → Bool
is_punch e = e.punch

abbrev pub punch_version : Write → LogEntry → Version
punch_version w e = record { epoch = e.epoch; minor = e.minor; by = e.by; done = e.done; write = w }

-- the punches of a log; its creations are no versions
abbrev pub punches : Write → Log → List Version
punches w g = map (punch_version w) (filter is_punch (things g))

abbrev pub single_version : Path → SingleVersion → Version
single_version p v = record { epoch = v.epoch; minor = v.minor; by = v.by; done = v.done; write = Single p v.bytes }

abbrev pub extent_version : Path → ExtentVersion → Version
extent_version p v = record { epoch = v.epoch; minor = v.minor; by = v.by; done = v.done; write = Extent p v.low v.bytes }

-- what each of a list stands for, one after another
abbrev pub together : {A V : Type 0} → (A → List V) → List A → List V
together f [] = []
together f (a ∷ xs) = f a ++ together f xs

-- those of an akey: its punches, then its single values, then its extents
abbrev pub values_versions : Path → Values → List Version
values_versions p a = punches (PunchAkey p) a.0 ++ (map (single_version p) (versions a.1.0) ++ map (extent_version p) (extents a.1.1))

abbrev pub akey_versions : ObjectKey → List ℕ → Akey → List Version
akey_versions o d a = values_versions (akey_path o d a.name) a.holds

abbrev pub akeys_versions : ObjectKey → List ℕ → Hung Akey → List Version
akeys_versions o d g = together (akey_versions o d) (things g)

-- those of a dkey: its punches, then those of its akeys
abbrev pub below_dkey_versions : ObjectKey → List ℕ → Below Akey → List Version
below_dkey_versions o d b = punches (PunchDkey (dkey_path o d)) b.0 ++ akeys_versions o d b.1

abbrev pub dkey_versions : ObjectKey → Dkey → List Version
dkey_versions o d = below_dkey_versions o d.name d.holds

abbrev pub dkeys_versions : ObjectKey → Hung Dkey → List Version
dkeys_versions o g = together (dkey_versions o) (things g)

-- those of an object: its punches, then those of its dkeys
abbrev pub below_object_versions : ObjectKey → Below Dkey → List Version
below_object_versions o b = punches (PunchObject (object_path o)) b.0 ++ dkeys_versions o b.1

abbrev pub object_versions : Object → List Version
object_versions o = below_object_versions o.name o.holds

abbrev pub objects_versions : Objects → List Version
objects_versions g = together object_versions (things g)

-- ---- nothing yet

abbrev pub no_tree : {A : Type 0} → Hung A
no_tree = (Leaf, [])

abbrev pub no_values : Values
no_values = (no_tree, (no_tree, no_tree))

abbrev pub no_below : {A : Type 0} → Below A
no_below = (no_tree, no_tree)

-- what is found, or nothing yet
abbrev pub or_none : {A P : Type 0} → (A → P) → P → Option A → P
or_none f none None = none
or_none f none (Some a) = f a

abbrev pub values_or_none : Option Akey → Values
values_or_none x = or_none held_values no_values x

abbrev pub below_or_none : {N A : Type 0} → Option (Branch N A) → Below A
below_or_none x = or_none held_below no_below x

-- what one thing stands for, if there is one
abbrev pub listed : {A V : Type 0} → (A → List V) → Option A → List V
listed f None = []
listed f (Some a) = f a
