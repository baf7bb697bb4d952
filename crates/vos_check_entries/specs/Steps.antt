-- Steps of the reading of a list that are checked one by one.
use Rattle.std.specs.Prelude.{◌≡◌, ℕ, Bool, ◌+◌, ◌*◌, ◌==◌, not, List, length, drop, take, slice_index, Result, Ok, Err}
use Rattle.base_outside.specs.Images.{Image}
use Rattle.byteorder.specs.Endian.{big_number}
use Rattle.vos_check.specs.vos_image.Steps.{Step, ◌>>=◌, give, rule, zeros}
use Rattle.vos_check.specs.vos_image.Content.{Content, block, link}
use Rattle.vos_check.specs.vos_image.Kinds.{Listed, read_part}
use Rattle.vos_check_base.specs.Answers.{Gives, MarksIn, content}
use Rattle.vos_check_base.specs.Sets.{Set}
use Rattle.vos_check_base.specs.declared.ground.Ground.{Ground}
use Rattle.vos_check_entries.specs.declared.numbers.ListNo.{ListNo}
use Rattle.vos_check_entries.specs.declared.numbers.ListNo.TheVariants.{At, Memory}

-- numbers end, in the last block alone, and zeros follow
unfoldable pub read_end : Bool → ℕ → List ℕ → Step (Unit {0})
read_end last at bytes = rule at last >>= λ _. zeros at bytes

-- the fields of a block in front of its numbers: the next block
unfoldable pub read_front : Content → ℕ → Step ℕ
read_front c b =
    let at = 256 * b in
    let next = big_number 4 (drop 4 (block c b)) in
    rule at (slice_index (block c b) 0 == 8)
    >>= λ _. zeros (at + 1) (take 3 (drop 1 (block c b)))
    >>= λ _. link c (at + 4) next
    >>= λ _. rule (at + 8) (not (big_number 4 (drop 8 (block c b)) == 0))
    >>= λ _. give next

-- a block of a list, after numbers of those before it: the next block, and the numbers up to there
unfoldable pub read_list_block : Content → (ℕ → Bool) → ℕ → List ℕ → Step (ℕ × List ℕ)
read_list_block c is_node b so_far =
    read_front c b
    >>= λ next. read_part is_node (next == 0) (256 * b + 8) (drop 8 (block c b)) so_far
    >>= λ more. give (next, more)

-- ---- what the check of a block answers; want of memory says nothing

-- without links: these are the numbers, or a byte is at fault
abbrev pub AddsNumbers : Step (List ℕ) → List ℕ → Result (Unit {0}) ListNo → Type 0
AddsNumbers step numbers (Ok u) = (led : List ℕ) → step led ≡ Ok (numbers, led)
AddsNumbers step numbers (Err (At at)) = (led : List ℕ) → step led ≡ Err at
AddsNumbers step numbers (Err Memory) = Unit {0}

-- with links
abbrev pub FindsPart : Content → Result ((ℕ × List ℕ) × List ℕ) ℕ → Set → List ℕ → Result ℕ ListNo → Type 0
FindsPart c step after numbers (Ok next) = Gives c step (next, numbers) after
FindsPart c step after numbers (Err (At at)) = step ≡ Err at
FindsPart c step after numbers (Err Memory) = Unit {0}

abbrev pub PartIn : ℕ → List ℕ → Ground → (Content → Step (ℕ × List ℕ)) → Set → Set → List ℕ → Result ℕ ListNo → Type 0
PartIn b bytes g step before after numbers result =
    (f : Image) (led : List ℕ) → block (content g f) b ≡ bytes → MarksIn (content g f) before led → FindsPart (content g f) (step (content g f) led) after numbers result

-- what is shown of a block, and of a list
abbrev pub gives_next : List ℕ → ℕ → ℕ × List ℕ → Type 0
gives_next numbers next x = x ≡ (next, numbers)

abbrev pub counts_nodes : ℕ → Listed → Type 0
counts_nodes n x = n ≡ length x.nodes
