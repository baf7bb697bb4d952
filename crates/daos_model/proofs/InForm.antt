-- What the form of a write says of its bytes.
use Rattle.std.proofs.Common.{◌≡◌, ℕ, ◌≤◌, true, List, length, arith}
use Rattle.std.specs.Prelude.{nat_le}
use Rattle.std.proofs.lemmas.Bool.Decides.{nat_tests}
use Rattle.base_types.specs.declared.operation.Write.{Write}
use Rattle.base_types.specs.declared.operation.Write.TheVariants.{Single, Extent, PunchObject, PunchDkey, PunchAkey}
use Rattle.base_types.specs.declared.path.Path.{Path}
use Rattle.daos_model.specs.Effect.{EndsInArray}
use Rattle.daos_model.specs.ExtentForms.{written-end, written-length}
use Rattle.daos_model.specs.Forms.{ends_at_akey, is_length, is_write_in_form}
use Rattle.daos_model.specs.BoolLaws.{and_right}

length_within : (n : ℕ) → is_length n ≡ true → n ≤ 1024
length_within n h = let e : nat_le n 1024 ≡ true = and_right (nat_le 1 n) (nat_le n 1024) h in grind (arith, nat_tests)

pub single_within : (p : Path) (bytes : List ℕ) → is_write_in_form (Single p bytes) ≡ true → length bytes ≤ 1024
unfolding is_write_in_form
single_within p bytes h = length_within (length bytes) (and_right (ends_at_akey p) (is_length (length bytes)) h)

pub extent_within : (p : Path) (low : ℕ) (bytes : List ℕ) → is_write_in_form (Extent p low bytes) ≡ true → length bytes ≤ 1024
extent_within p low bytes h = length_within (length bytes) (written-length p low bytes h)

-- an extent in form ends within an array
pub ends_in_array : (w : Write) → is_write_in_form w ≡ true → EndsInArray w
ends_in_array (Single p bytes) h = tt
ends_in_array (Extent p low bytes) h = written-end p low bytes h
ends_in_array (PunchObject p) h = tt
ends_in_array (PunchDkey p) h = tt
ends_in_array (PunchAkey p) h = tt
