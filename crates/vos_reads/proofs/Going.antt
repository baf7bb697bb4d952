-- What stands on the way to an akey.
use Rattle.pmem_pages.specs.Blocks.{Blocks}
use Rattle.pmem_pages.specs.Owners.{Holds}
use Rattle.std.proofs.Common.{ℕ, List}
use Rattle.vos_values.specs.declared.keys.ObjectKey.{ObjectKey}
use Rattle.vos_levels.specs.Levels.{hung}
use Rattle.vos_ilog.specs.Logs.{log_owner}
use Rattle.vos_path.specs.Objects.{Objects, akey_level, dkey_level, objects_owner, values_owner}
use Rattle.vos_path.proofs.AkeyWrites.{akey_holds}
use Rattle.vos_path.proofs.DkeyWrites.{dkey_holds, object_holds}
use Rattle.vos_path.proofs.Written.{holds_first, holds_second}
use Rattle.vos_reads.specs.Ways.{akey_of, below_object, dkey_of}

module _ (m : Blocks) (g : Objects) (o : ObjectKey) (held : Holds objects_owner m g) where
  pub dkeys_hold : Holds (hung dkey_level) m (below_object o g).1
  dkeys_hold = holds_second log_owner (hung dkey_level) m (below_object o g) (object_holds m g o held)

  pub object_log_holds : Holds log_owner m (below_object o g).0
  object_log_holds = holds_first log_owner (hung dkey_level) m (below_object o g) (object_holds m g o held)

  pub akeys_hold : (d : List ℕ) → Holds (hung akey_level) m (dkey_of o d g).1
  akeys_hold d = holds_second log_owner (hung akey_level) m (dkey_of o d g) (dkey_holds m (below_object o g).1 d dkeys_hold)

  pub dkey_log_holds : (d : List ℕ) → Holds log_owner m (dkey_of o d g).0
  dkey_log_holds d = holds_first log_owner (hung akey_level) m (dkey_of o d g) (dkey_holds m (below_object o g).1 d dkeys_hold)

  pub values_hold : (d a : List ℕ) → Holds values_owner m (akey_of o d a g)
  values_hold d a = akey_holds m (dkey_of o d g).1 a (akeys_hold d)
