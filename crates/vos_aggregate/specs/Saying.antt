-- Versions that say what a cell holds, among those from a place on.
use Rattle.std.specs.Prelude.{ℕ, ◌≡◌, ◌-◌, ◌/◌, ◌<◌, ◌&&◌, ◌||◌, ◌==◌, nat_le, nat_lt, Bool, true, List, length, map}
use Rattle.std.specs.List.{list_all, list_any}
use Rattle.base_types.specs.declared.operation.Write.{Write}
use Rattle.base_types.specs.declared.operation.Write.TheVariants.{Single, Extent, PunchObject, PunchDkey, PunchAkey}
use Rattle.base_types.specs.Paths.{record_size}
use Rattle.daos_model.specs.declared.cell.Cell.{Cell}
use Rattle.daos_model.specs.declared.durable.Version.{Version}
use Rattle.daos_model.specs.Durables.{version_key}
use Rattle.daos_model.specs.Forms.{ends_at_akey, ends_at_dkey, ends_at_object}
use Rattle.daos_model.specs.Ordered.{is_rising}
use Rattle.daos_model.specs.Prunes.{touches}
use Rattle.daos_model.specs.Versions.{sees}
use Rattle.vos_aggregate.specs.declared.buckets.Buckets.{Buckets}
use Rattle.vos_aggregate.specs.Buckets.{block_bucket, bucket_by}
use Rattle.vos_aggregate.specs.Chains.{AreChained}

-- a punch's path ends at its level, and an extent has as many records as a block of an array at most
unfoldable pub is_plain : Write → Bool
is_plain (Single p bytes) = true
is_plain (Extent p low bytes) = nat_le (length bytes / record_size p) 1024
is_plain (PunchObject p) = ends_at_object p
is_plain (PunchDkey p) = ends_at_dkey p
is_plain (PunchAkey p) = ends_at_akey p

abbrev pub is_plain_version : Version → Bool
is_plain_version v = is_plain v.write

-- a version is seen below a sight, and says what a cell holds
unfoldable pub says : ℕ → Cell → Version → Bool
says s c w = sees s w && touches c w.write

-- and it is in a bucket, of so many
abbrev pub says_in : ℕ → ℕ → ℕ → Cell → Version → Bool
says_in m b s c w = (bucket_by m w == b) && says s c w

-- one does in a bucket of a path's punches and single values
abbrev pub any_above : ℕ → Buckets → ℕ → Cell → List Version → Bool
any_above m b s c vs = list_any (says_in m b.object s c) vs || list_any (says_in m b.dkey s c) vs || list_any (says_in m b.akey s c) vs

-- one does in a bucket of the extents that may have an index: they begin in its block, or in the one before
abbrev pub any_around : ℕ → ℕ → ℕ → ℕ → Cell → List Version → Bool
any_around m h i s c vs =
    list_any (says_in m (block_bucket m h (i / 1024)) s c) vs || (nat_lt 0 (i / 1024) && list_any (says_in m (block_bucket m h (i / 1024 - 1)) s c) vs)

-- plain versions, each after those before it, and the places of those from one on in chains
pub record AreLater (vs : List Version) (heads nexts : List ℕ) (start : ℕ) : Type 0 where
  pub chained : AreChained (map (bucket_by (length heads)) vs) heads nexts start
  pub rising : is_rising version_key vs ≡ true
  pub plain : list_all is_plain_version vs ≡ true
  pub some : 0 < length heads
  pub all : length nexts ≡ length vs
