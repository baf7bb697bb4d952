-- What one write, or one entry, may want to stage where trees are those of a region. Ranges are counted, and bytes.
use Rattle.std.specs.Prelude.{◌≡◌, ◌≤◌, ℕ, true, List, Option}
use Rattle.base_types.specs.declared.operation.Write.{Write}
use Rattle.daos_model.specs.Forms.{is_write_in_form}
use Rattle.pmem_pages.specs.Blocks.{Budget}
use Rattle.vos_chain.specs.Made.{chain_blocks}
use Rattle.vos_entries.specs.Entries.{Entries}
use Rattle.vos_entries.specs.Lists.{FewerThan, FewerToRemove}
use Rattle.vos_image.specs.vos_path.Calls.{LacksFor, for_pair}
use Rattle.vos_image.specs.vos_path.Writes.{IsSmall, below_object_pairs, data_blocks}
use Rattle.vos_settle.specs.Costs.{Lacks, for_one, objects_cost}
use Rattle.vos_settle.specs.declared.task.WriteKind.{WriteKind}
use Rattle.vos_versions.specs.Marks.{TooFewFor}
use Rattle.vos_small.specs.Small.{most_digits}

-- at least so many ranges and bytes are left to stage
pub record HasLeft (of_ranges of_bytes : ℕ) (b : Budget) : Type 0 where
  pub ranges : of_ranges ≤ b.ranges
  pub bytes : of_bytes ≤ b.bytes

-- an update or a punch wants at most so much
abbrev pub write_ranges : ℕ
write_ranges = 770

abbrev pub write_bytes : ℕ
write_bytes = 195845

-- and the settling or the removal of one
abbrev pub change_ranges : ℕ
change_ranges = 935

abbrev pub change_bytes : ℕ
change_bytes = 239360

-- and an entry with no list that comes, or goes
abbrev pub entry_ranges : ℕ
entry_ranges = 304

abbrev pub entry_bytes : ℕ
entry_bytes = 77824

-- so no call lacks ranges or bytes where that much is left
abbrev pub WritesFit : Type 0
WritesFit = (w : Write) (b : Budget) → is_write_in_form w ≡ true → HasLeft write_ranges write_bytes b → LacksFor (data_blocks w) (below_object_pairs w (for_pair most_digits)) most_digits b → ⊥

abbrev pub ChangesFit : Type 0
ChangesFit = (k : WriteKind) (dkey akey : Option (List ℕ)) (b : Budget) → HasLeft change_ranges change_bytes b → Lacks (objects_cost k dkey akey (for_one most_digits) 1) most_digits b → ⊥

abbrev pub EntriesFitIn : Type 0
EntriesFitIn = (g : Entries) (b : Budget) → IsSmall most_digits g → HasLeft entry_ranges entry_bytes b → TooFewFor (chain_blocks 0) g.0 b → ⊥

abbrev pub EntriesFitOut : Type 0
EntriesFitOut = (g : Entries) (b : Budget) → IsSmall most_digits g → HasLeft entry_ranges entry_bytes b → FewerToRemove 0 g.0 b → ⊥

-- another value for an entry wants one range of 256 bytes
abbrev pub MarksFit : Type 0
MarksFit = (b : Budget) → HasLeft 1 256 b → FewerThan 0 b → ⊥
