-- The shapes of paths, writes and reads that every call asks for.
use Rattle.std.specs.Prelude.{ℕ, Bool, true, ◌≡◌, ◌≤◌, ◌<◌, ◌+◌, ◌*◌, ◌/◌, ◌%◌, ◌^◌, ◌&&◌, ◌||◌, ◌==◌, nat_le, nat_lt, is_some, is_none, List, length, map, All}
use Rattle.std.specs.List.Sorted.{IsStrictlyIncreasing}
use Rattle.base_types.specs.declared.operation.MinorWrite.{MinorWrite}
use Rattle.base_types.specs.declared.operation.Read.{Read}
use Rattle.base_types.specs.declared.operation.Read.TheVariants as read
use Rattle.base_types.specs.declared.operation.Write.{Write}
use Rattle.base_types.specs.declared.operation.Write.TheVariants as write
use Rattle.base_types.specs.declared.path.Path.{Path}
use Rattle.base_types.specs.Paths.{record_size}

-- where a path ends
abbrev pub ends_at_akey : Path → Bool
ends_at_akey p = is_some p.obj && is_some p.dkey && is_some p.akey

abbrev pub ends_at_dkey : Path → Bool
ends_at_dkey p = is_some p.obj && is_some p.dkey && is_none p.akey

abbrev pub ends_at_object : Path → Bool
ends_at_object p = is_some p.obj && is_none p.dkey && is_none p.akey

-- a path has a dkey only with an object, and an akey only with a dkey
abbrev pub is_path_in_form : Path → Bool
is_path_in_form p = (is_none p.dkey || is_some p.obj) && (is_none p.akey || is_some p.dkey)

-- a value, an extent and what is read of an array have 1 to 1,024 bytes
abbrev pub is_length : ℕ → Bool
is_length n = nat_le 1 n && nat_le n 1024

-- a record size, from 1 to 64 bytes
abbrev pub is_unit : ℕ → Bool
is_unit size = nat_le 1 size && nat_le size 64

-- so many records from an index on, which end at the index 2^32 - 1 at most
abbrev pub fits_array : ℕ → ℕ → ℕ → Bool
fits_array size low count = is_unit size && nat_lt (low + count) (2 ^ 32)

-- so many bytes from an index on are whole records, and end there at most
abbrev pub fits_records : ℕ → ℕ → ℕ → Bool
fits_records size low len = (len % size == 0) && fits_array size low (len / size)

-- a path ends at the level of its write, bytes have their length, and an extent has whole records and ends at 2^32 - 1 at most
unfoldable pub is_write_in_form : Write → Bool
is_write_in_form (write.Single p bytes) = ends_at_akey p && is_length (length bytes)
is_write_in_form (write.Extent p low bytes) = ends_at_akey p && is_length (length bytes) && fits_records (record_size p) low (length bytes)
is_write_in_form (write.PunchObject p) = ends_at_object p
is_write_in_form (write.PunchDkey p) = ends_at_dkey p
is_write_in_form (write.PunchAkey p) = ends_at_akey p

unfoldable pub is_read_in_form : Read → Bool
is_read_in_form (read.Single p) = ends_at_akey p
is_read_in_form (read.Extent p low len) = ends_at_akey p && is_length (len * record_size p) && fits_array (record_size p) low len
is_read_in_form (read.Dkeys p) = ends_at_object p
is_read_in_form (read.Akeys p) = ends_at_dkey p
is_read_in_form (read.Exists p) = is_path_in_form p

abbrev pub minor_of : MinorWrite → ℕ
minor_of w = w.minor

-- the writes of a transaction: at most 64, with rising numbers below 64
pub record AreWritesInForm (ws : List MinorWrite) : Type 0 where
  pub count : length ws ≤ 64
  pub each : All (λ w. is_write_in_form w.write ≡ true) ws
  pub rising : IsStrictlyIncreasing (map minor_of ws)
  pub minors : All (λ w. w.minor < 64) ws
