-- Buckets of versions, by hashes of what they touch.
use Rattle.std.specs.Prelude.{ℕ, ◌≡◌, ◌<◌, ◌/◌, ◌%◌, ◌^◌, List, Option, Some, None}
use Rattle.base_types.specs.declared.id.ObjId.{ObjId}
use Rattle.base_types.specs.declared.operation.Write.{Write}
use Rattle.base_types.specs.declared.operation.Write.TheVariants.{Single, Extent, PunchObject, PunchDkey, PunchAkey}
use Rattle.base_types.specs.declared.path.Path.{Path}
use Rattle.base_types.specs.Hash.{hash_on, hash_start, hash_step}
use Rattle.base_types.specs.Paths.{class_number}
use Rattle.daos_model.specs.declared.durable.Version.{Version}
use Rattle.vos_aggregate.specs.declared.buckets.Buckets.{Buckets}

-- a hash with an object more, if there is one
abbrev pub object_on : ℕ → Option ObjId → ℕ
object_on h None = h
object_on h (Some o) = hash_step (hash_step (hash_step h (class_number o.class)) o.unit) o.number

-- with a dkey more
abbrev pub dkey_on : ℕ → Option (List ℕ) → ℕ
dkey_on h None = h
dkey_on h (Some k) = hash_on h k

-- with an akey more, which a word that is no byte sets off from the dkey
abbrev pub akey_on : ℕ → Option (List ℕ) → ℕ
akey_on h None = h
akey_on h (Some k) = hash_on (hash_step h 256) k

-- the hash of a path as far as its object
unfoldable pub object_hash : Path → ℕ
object_hash p = object_on (hash_step hash_start (p.cont.0 % 2 ^ 64)) p.obj

-- as far as its dkey
unfoldable pub dkey_hash : Path → ℕ
dkey_hash p = dkey_on (object_hash p) p.dkey

-- of the whole path
unfoldable pub akey_hash : Path → ℕ
akey_hash p = akey_on (dkey_hash p) p.akey

-- of so many buckets that of the extents of a path, by its hash, that begin in a block of its array
unfoldable pub block_bucket : ℕ → ℕ → ℕ → ℕ
block_bucket m h b = hash_step (hash_step h 257) b % m

-- of so many buckets those of a path
pub record AreOf (m : ℕ) (p : Path) (b : Buckets) : Type 0 where
  pub count : b.count ≡ m
  pub hash : b.hash ≡ akey_hash p
  pub object : b.object ≡ object_hash p % m
  pub dkey : b.dkey ≡ dkey_hash p % m
  pub akey : b.akey ≡ akey_hash p % m
  pub object_within : b.object < m
  pub dkey_within : b.dkey < m
  pub akey_within : b.akey < m

-- of so many buckets that of a write
unfoldable pub bucket_of : ℕ → Write → ℕ
bucket_of m (Single p bytes) = akey_hash p % m
bucket_of m (Extent p low bytes) = block_bucket m (akey_hash p) (low / 1024)
bucket_of m (PunchObject p) = object_hash p % m
bucket_of m (PunchDkey p) = dkey_hash p % m
bucket_of m (PunchAkey p) = akey_hash p % m

abbrev pub bucket_by : ℕ → Version → ℕ
bucket_by m v = bucket_of m v.write
