-- What the form of an extent that is written or read says of its path, its length, its record size and its end.
use Rattle.std.specs.Prelude.{ℕ, true, ◌≡◌, ◌<◌, ◌+◌, ◌*◌, ◌/◌, ◌%◌, ◌^◌, ◌&&◌, ◌==◌, nat_le, nat_lt, List, length}
use Rattle.std.proofs.Common.{arith}
use Rattle.std.proofs.lemmas.Bool.Decides.{nat_tests}
use Rattle.base_types.specs.declared.operation.Read.TheVariants as read
use Rattle.base_types.specs.declared.operation.Write.TheVariants as write
use Rattle.base_types.specs.declared.path.Path.{Path}
use Rattle.base_types.specs.Paths.{record_size}
use Rattle.daos_model.specs.BoolLaws.{and_left, and_right}
use Rattle.daos_model.specs.Forms.{ends_at_akey, fits_array, fits_records, is_length, is_read_in_form, is_unit, is_write_in_form}

-- ---- records of a size that fit an array

fits-size : (size low count : ℕ) → fits_array size low count ≡ true → 0 < size
fits-size size low count h =
    let one : nat_le 1 size ≡ true = and_left (nat_le 1 size) (nat_le size 64) (and_left (is_unit size) (nat_lt (low + count) (2 ^ 32)) h) in
    grind (arith, nat_tests)

fits-end : (size low count : ℕ) → fits_array size low count ≡ true → low + count < 2 ^ 32
fits-end size low count h =
    let below : nat_lt (low + count) (2 ^ 32) ≡ true = and_right (is_unit size) (nat_lt (low + count) (2 ^ 32)) h in
    grind (arith, nat_tests)

-- ---- an extent that is written

module _ (p : Path) (low : ℕ) (bytes : List ℕ) (h : is_write_in_form (write.Extent p low bytes) ≡ true) where
  form : (ends_at_akey p && is_length (length bytes) && fits_records (record_size p) low (length bytes)) ≡ true
  unfolding is_write_in_form
  form = h

  begins : (ends_at_akey p && is_length (length bytes)) ≡ true
  begins = and_left (ends_at_akey p && is_length (length bytes)) (fits_records (record_size p) low (length bytes)) form

  fits : ((length bytes % record_size p == 0) && fits_array (record_size p) low (length bytes / record_size p)) ≡ true
  fits = and_right (ends_at_akey p && is_length (length bytes)) (fits_records (record_size p) low (length bytes)) form

  array : fits_array (record_size p) low (length bytes / record_size p) ≡ true
  array = and_right (length bytes % record_size p == 0) (fits_array (record_size p) low (length bytes / record_size p)) fits

  pub written-at_akey : ends_at_akey p ≡ true
  written-at_akey = and_left (ends_at_akey p) (is_length (length bytes)) begins

  pub written-length : is_length (length bytes) ≡ true
  written-length = and_right (ends_at_akey p) (is_length (length bytes)) begins

  pub written-whole : (length bytes % record_size p == 0) ≡ true
  written-whole = and_left (length bytes % record_size p == 0) (fits_array (record_size p) low (length bytes / record_size p)) fits

  pub written-size : 0 < record_size p
  written-size = fits-size (record_size p) low (length bytes / record_size p) array

  pub written-end : low + length bytes / record_size p < 2 ^ 32
  written-end = fits-end (record_size p) low (length bytes / record_size p) array

-- ---- records that are read

module _ (p : Path) (low len : ℕ) (h : is_read_in_form (read.Extent p low len) ≡ true) where
  asked : (ends_at_akey p && is_length (len * record_size p) && fits_array (record_size p) low len) ≡ true
  unfolding is_read_in_form
  asked = h

  asked-begins : (ends_at_akey p && is_length (len * record_size p)) ≡ true
  asked-begins = and_left (ends_at_akey p && is_length (len * record_size p)) (fits_array (record_size p) low len) asked

  pub read-at_akey : ends_at_akey p ≡ true
  read-at_akey = and_left (ends_at_akey p) (is_length (len * record_size p)) asked-begins

  pub read-length : is_length (len * record_size p) ≡ true
  read-length = and_right (ends_at_akey p) (is_length (len * record_size p)) asked-begins

  pub read-size : 0 < record_size p
  read-size = fits-size (record_size p) low len (and_right (ends_at_akey p && is_length (len * record_size p)) (fits_array (record_size p) low len) asked)

  pub read-end : low + len < 2 ^ 32
  read-end = fits-end (record_size p) low len (and_right (ends_at_akey p && is_length (len * record_size p)) (fits_array (record_size p) low len) asked)
