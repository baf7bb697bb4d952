-- One write and one entry fit a stage.
use Rattle.std.proofs.Common.{◌≡◌, ℕ, ◌+◌, ◌*◌, ◌≤◌, Bool, true, false, ◌&&◌, List, length, Option, Some, None, arith, refl, inl, inr}
use Rattle.std.proofs.lemmas.Bool.Decides.{nat_tests}
use Rattle.std.proofs.lemmas.Grind.{div_ceil_times}
use Rattle.base_types.specs.declared.operation.Write.{Write}
use Rattle.base_types.specs.declared.operation.Write.TheVariants.{Extent, PunchAkey, PunchDkey, PunchObject, Single}
use Rattle.base_types.specs.Paths.{record_size}
use Rattle.daos_model.specs.Forms.{ends_at_akey, fits_records, is_length, is_write_in_form}
use Rattle.pmem_pages.specs.Blocks.{Budget}
use Rattle.vos_chain.specs.Made.{HasFewer, chain_blocks}
use Rattle.vos_image.specs.vos_path.Writes.{below_object_pairs, data_blocks}
use Rattle.vos_settle.specs.Costs.{objects_cost}
use Rattle.vos_settle.specs.declared.task.WriteKind.{WriteKind}
use Rattle.vos_settle.specs.declared.task.WriteKind.TheVariants as kind
use Rattle.vos_small.specs.Rooms.{ChangesFit, EntriesFitIn, EntriesFitOut, HasLeft, MarksFit, WritesFit}

-- with as much left as this many ranges and bytes want, none is lacking
enough : (r b n k : ℕ) (x : Budget) → n ≤ r → k ≤ b → HasLeft r b x → HasFewer n k x → ⊥
enough r b n k x less fewer has lack = elim lack [ inl ranges ↦ omega (arith, less, has.ranges, ranges) | inr bytes ↦ omega (arith, fewer, has.bytes, bytes) ]

few_blocks : (n : ℕ) → n ≤ 1024 → chain_blocks n ≤ 5
few_blocks n low = let up = div_ceil_times n 248 (omega arith) in omega (arith, low, up)

pub short : (n : ℕ) → is_length n ≡ true → n ≤ 1024
short n h = grind (arith, nat_tests)

second_of : (a b : Bool) → (a && b) ≡ true → b ≡ true
second_of true b h = h
second_of false b h = absurd (cc)

first_of : (a b : Bool) → (a && b) ≡ true → a ≡ true
first_of true b h = refl
first_of false b h = h

pub few_data : (w : Write) → is_write_in_form w ≡ true → data_blocks w ≤ 5
unfolding is_write_in_form
few_data (Single p bytes) form = few_blocks (length bytes) (short (length bytes) (second_of (ends_at_akey p) (is_length (length bytes)) form))
few_data (Extent p low bytes) form = few_blocks (length bytes) (short (length bytes) (second_of (ends_at_akey p) (is_length (length bytes)) (first_of (ends_at_akey p && is_length (length bytes)) (fits_records (record_size p) low (length bytes)) form)))
few_data (PunchObject p) form = omega arith
few_data (PunchDkey p) form = omega arith
few_data (PunchAkey p) form = omega arith

pub few_pairs : (w : Write) → below_object_pairs w 76 ≤ 456
few_pairs (Single p bytes) = omega arith
few_pairs (Extent p low bytes) = omega arith
few_pairs (PunchObject p) = omega arith
few_pairs (PunchDkey p) = omega arith
few_pairs (PunchAkey p) = omega arith

fits_in : (n p : ℕ) (b : Budget) → n ≤ 5 → p ≤ 456 → HasLeft 770 195845 b → HasFewer (2 * n + (p + 304)) (257 * n + 256 * (p + 304)) b → ⊥
fits_in n p b least pairs has lack = enough 770 195845 (2 * n + (p + 304)) (257 * n + 256 * (p + 304)) b (omega (arith, least, pairs)) (omega (arith, least, pairs)) has lack

pub writes_fit : WritesFit
writes_fit w b form has lack = fits_in (data_blocks w) (below_object_pairs w 76) b (few_data w form) (few_pairs w) has lack

pub few_changes : (k : WriteKind) (dkey akey : Option (List ℕ)) → objects_cost k dkey akey 157 1 ≤ 631
few_changes kind.Punch None akey = omega arith
few_changes kind.Punch (Some d) None = omega arith
few_changes kind.Punch (Some d) (Some a) = omega arith
few_changes kind.Single None akey = omega arith
few_changes kind.Single (Some d) None = omega arith
few_changes kind.Single (Some d) (Some a) = omega arith
few_changes (kind.Extent low) None akey = omega arith
few_changes (kind.Extent low) (Some d) None = omega arith
few_changes (kind.Extent low) (Some d) (Some a) = omega arith

fits_out : (p : ℕ) (b : Budget) → p ≤ 631 → HasLeft 935 239360 b → HasFewer (p + 304) (256 * (p + 304)) b → ⊥
fits_out p b most has lack = enough 935 239360 (p + 304) (256 * (p + 304)) b (omega (arith, most)) (omega (arith, most)) has lack

pub changes_fit : ChangesFit
changes_fit k dkey akey b has lack = fits_out (objects_cost k dkey akey 157 1) b (few_changes k dkey akey) has lack

pub entries_fit_in : EntriesFitIn
entries_fit_in g b small has lack = enough 304 77824 304 77824 b (omega arith) (omega arith) has (lack 17 small)

pub entries_fit_out : EntriesFitOut
entries_fit_out g b small has lack = enough 304 77824 304 77824 b (omega arith) (omega arith) has (lack 17 small)

pub marks_fit : MarksFit
marks_fit b has lack = enough 1 256 1 256 b (omega arith) (omega arith) has lack
