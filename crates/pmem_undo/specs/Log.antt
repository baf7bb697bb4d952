-- How the bytes of a log body tell ranges with their old bytes.
use Rattle.std.specs.Prelude.{ℕ, Bool, zero, suc, ◌+◌, ◌-◌, ◌*◌, ◌&&◌, nat_le, cond, List, [], ◌∷◌, ◌++◌, length, take, drop, map, Option, Some, None}
use Rattle.byteorder.specs.Endian.{big_bytes, big_number}
use Rattle.base_outside.specs.Images.{Image, Range, bytes_at}
use Rattle.pmem_undo.specs.Layout.{log_place, most_ranges, most_bytes, are_content}

-- a number as four bytes, and the number in four bytes, the highest first
unfoldable pub number_bytes : ℕ → List ℕ
number_bytes n = big_bytes 4 n

unfoldable pub number_in : List ℕ → ℕ
number_in bytes = big_number 4 bytes

-- the ranges of a log, each as its place, its length and its bytes
unfoldable pub range_bytes : Range → List ℕ
range_bytes r = number_bytes r.place ++ (number_bytes (length r.bytes) ++ r.bytes)

abbrev pub ranges_bytes : List Range → List ℕ
ranges_bytes [] = []
ranges_bytes (r ∷ rs) = range_bytes r ++ ranges_bytes rs

-- the log body: how many ranges, how many bytes they take, and the ranges
unfoldable pub log_bytes : List Range → List ℕ
log_bytes rs = number_bytes (length rs) ++ (number_bytes (length (ranges_bytes rs)) ++ ranges_bytes rs)

-- one range more in front
abbrev pub cons_range : Range → Option (List Range) → Option (List Range)
cons_range r None = None
cons_range r (Some rs) = Some (r ∷ rs)

-- so many ranges are read from these bytes, all of which they take; each has to be content
unfoldable pub ranges_in : ℕ → ℕ → List ℕ → Option (List Range)
ranges_in size zero [] = Some []
ranges_in size zero (b ∷ bytes) = None
ranges_in size (suc n) bytes =
    cond (nat_le 8 (length bytes) && (nat_le (number_in (drop 4 bytes)) (length bytes - 8) && are_content size (number_in bytes) (number_in (drop 4 bytes))))
    (cons_range (record { place = number_in bytes; bytes = take (number_in (drop 4 bytes)) (drop 8 bytes) }) (ranges_in size n (drop (number_in (drop 4 bytes)) (drop 8 bytes))))
    None

-- how many ranges a log body says that it has, and how many bytes after these two numbers
unfoldable pub logged_count : Image → ℕ
logged_count f = number_in (bytes_at f log_place 4)

unfoldable pub logged_length : Image → ℕ
logged_length f = number_in (bytes_at f (log_place + 4) 4)

-- a log may have so many ranges in so many bytes
abbrev pub is_log_size : ℕ → ℕ → Bool
is_log_size count long = nat_le count most_ranges && nat_le long (8 * count + most_bytes)

-- the ranges that the log body of an image tells, where it is well formed: at most 1,024 ranges of at
-- most 256,000 bytes, as long as it says, each of them content
unfoldable pub log_in : ℕ → Image → Option (List Range)
log_in size f =
    cond (is_log_size (logged_count f) (logged_length f))
    (ranges_in size (logged_count f) (bytes_at f (log_place + 8) (logged_length f)))
    None

-- a range with the bytes that an image has there
abbrev pub old_range : Image → Range → Range
old_range f r = record { place = r.place; bytes = bytes_at f r.place (length r.bytes) }

abbrev pub old_ranges : Image → List Range → List Range
old_ranges f rs = map (old_range f) rs

-- the ranges that were read, or none
abbrev pub logged : Option (List Range) → List Range
logged None = []
logged (Some rs) = rs

-- ranges in front of others
abbrev pub behind : List Range → Option (List Range) → Option (List Range)
behind [] more = more
behind (r ∷ rs) more = cons_range r (behind rs more)
