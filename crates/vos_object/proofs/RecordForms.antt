-- Writes and reads of so many whole records are in form.
use Rattle.std.proofs.Common.{◌≡◌, ℕ, ◌+◌, ◌*◌, ◌/◌, ◌%◌, ◌≤◌, ◌^◌, ◌==◌, ◌&&◌, nat_lt, true, List, length, ap, ◌∙◌, arith}
use Rattle.std.proofs.Math.Nat.{div-le_self, mul-le-mul_right, mul-mod_right}
use Rattle.std.proofs.lemmas.Bool.Decides.{nat_tests}
use Rattle.base_types.specs.declared.operation.Read.TheVariants.{Extent as extent_read}
use Rattle.base_types.specs.declared.operation.Write.TheVariants.{Extent}
use Rattle.base_types.specs.declared.path.Path.{Path}
use Rattle.base_types.specs.Paths.{record_size}
use Rattle.daos_model.specs.BoolLaws.{both}
use Rattle.daos_model.specs.Forms.{ends_at_akey, fits_array, fits_records, is_length, is_read_in_form, is_unit, is_write_in_form}

length_fits : (unit count : ℕ) → 1 ≤ unit → unit ≤ 64 → 1 ≤ count → count ≤ 16 → is_length (unit * count) ≡ true
length_fits unit count a b c d =
    let low : 1 * count ≤ unit * count = mul-le-mul_right count a in
    let high : unit * count ≤ 64 * count = mul-le-mul_right count b in
    let some : 1 ≤ unit * count = omega (arith, low, c) in
    let most : unit * count ≤ 1024 = omega (arith, high, d) in
    grind (arith, nat_tests)

unit_fits : (unit : ℕ) → 1 ≤ unit → unit ≤ 64 → is_unit unit ≡ true
unit_fits unit a b = grind (arith, nat_tests)

array_fits : (unit low n : ℕ) → 1 ≤ unit → unit ≤ 64 → low ≤ 1000 → n ≤ 1024 → fits_array unit low n ≡ true
array_fits unit low n a b c d = both (is_unit unit) (nat_lt (low + n) (2 ^ 32)) (unit_fits unit a b) (grind (arith, nat_tests))

no_rest : (unit count : ℕ) → ((unit * count) % unit == 0) ≡ true
no_rest unit count = ap (λ z. z == 0) (mul-mod_right unit count)

records_fit : (unit low count : ℕ) → 1 ≤ unit → unit ≤ 64 → count ≤ 16 → low ≤ 1000 → fits_records unit low (unit * count) ≡ true
records_fit unit low count a b c d =
    let high : unit * count ≤ 64 * count = mul-le-mul_right count b in
    let few = div-le_self (unit * count) unit in
    both ((unit * count) % unit == 0) (fits_array unit low (unit * count / unit)) (no_rest unit count) (array_fits unit low (unit * count / unit) a b d (omega (arith, high, few, c)))

pub extent_form : (p : Path) (low : ℕ) (bytes : List ℕ) (unit count : ℕ) → ends_at_akey p ≡ true → record_size p ≡ unit → length bytes ≡ unit * count → 1 ≤ unit → unit ≤ 64 → 1 ≤ count → count ≤ 16 → low ≤ 1000 → is_write_in_form (Extent p low bytes) ≡ true
unfolding is_write_in_form
extent_form p low bytes unit count ends size len a b c d e =
    both (ends_at_akey p && is_length (length bytes)) (fits_records (record_size p) low (length bytes))
    (both (ends_at_akey p) (is_length (length bytes)) ends (ap is_length len ∙ length_fits unit count a b c d))
    ((λ i. fits_records (size i) low (len i)) ∙ records_fit unit low count a b d e)

times_back : (x y : ℕ) → x * y ≡ y * x
times_back x y = omega arith

pub read_form : (p : Path) (low unit count : ℕ) → ends_at_akey p ≡ true → record_size p ≡ unit → 1 ≤ unit → unit ≤ 64 → 1 ≤ count → count ≤ 16 → low ≤ 1000 → is_read_in_form (extent_read p low count) ≡ true
unfolding is_read_in_form
read_form p low unit count ends size a b c d e =
    both (ends_at_akey p && is_length (count * record_size p)) (fits_array (record_size p) low count)
    (both (ends_at_akey p) (is_length (count * record_size p)) ends (ap is_length (ap (λ z. count * z) size ∙ times_back count unit) ∙ length_fits unit count a b c d))
    (ap (λ z. fits_array z low count) size ∙ array_fits unit low count a b e (omega (arith, d)))
