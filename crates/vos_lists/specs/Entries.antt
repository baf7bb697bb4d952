-- What the pairs of trees say of objects, of dkeys, of akeys and of versions.
use Rattle.std.specs.Prelude.{ℕ, nat_le, List, Option, Some, None, if◌then◌else◌}
use Rattle.pmem_pages.specs.declared.node.Pair.{Pair}
use Rattle.pmem_pages.specs.declared.node.TreeKey.{TreeKey}
use Rattle.vos_values.specs.declared.keys.Layout.TheVariants.{Two}
use Rattle.vos_values.specs.declared.keys.Moment.{Moment}
use Rattle.vos_values.specs.declared.keys.ObjectKey.{ObjectKey}
use Rattle.vos_values.specs.declared.values.AkeyRoots.{AkeyRoots}
use Rattle.vos_values.specs.declared.values.Roots.{Roots}
use Rattle.vos_values.specs.Keys.{moment_in, name_in, name_key, object_in, object_key}
use Rattle.vos_values.specs.Values.{akey_in, roots_in}
use Rattle.vos_lists.specs.declared.entry.AkeyEntry.{AkeyEntry}
use Rattle.vos_lists.specs.declared.entry.DkeyEntry.{DkeyEntry}
use Rattle.vos_lists.specs.declared.entry.ObjectEntry.{ObjectEntry}

-- the name that a key says, if it says one
abbrev pub name_of : TreeKey → Option (List ℕ)
name_of k = if nat_le k.len 64 then name_in k else None

-- an akey: its key where that says a name, and its roots
abbrev pub akey_entry : Option (List ℕ) → Option AkeyRoots → Option AkeyEntry
akey_entry None r = None
akey_entry (Some name) None = None
akey_entry (Some name) (Some r) = Some (record { key = name_key name; roots = r })

abbrev pub akey_in_pair : Pair → Option AkeyEntry
akey_in_pair p = akey_entry (name_of p.key) (akey_in p.value)

-- a dkey: its key where that says a name, and its roots
abbrev pub dkey_entry : Option (List ℕ) → Option Roots → Option DkeyEntry
dkey_entry None r = None
dkey_entry (Some name) None = None
dkey_entry (Some name) (Some r) = Some (record { key = name_key name; roots = r })

abbrev pub dkey_in_pair : Pair → Option DkeyEntry
dkey_in_pair p = dkey_entry (name_of p.key) (roots_in p.value)

-- an object: which it is where the key says one, that key, and its roots
abbrev pub object_entry : Option ObjectKey → Option Roots → Option ObjectEntry
object_entry None r = None
object_entry (Some name) None = None
object_entry (Some name) (Some r) = Some (record { name = name; key = object_key name; roots = r })

abbrev pub object_in_pair : Pair → Option ObjectEntry
object_in_pair p = object_entry (object_in Two p.key) (roots_in p.value)

-- when a version of a single value was written
abbrev pub moment_in_pair : Pair → Option Moment
moment_in_pair p = moment_in p.key
