-- What is gathered of entries.
use Rattle.std.proofs.Common.{◌≡◌, ℕ, List, [], ◌∷◌, ◌++◌, length, refl, ap, ◌∙◌, arith}
use Rattle.std.specs.Prelude.{map}
use Rattle.pmem_pages.specs.Shape.{Entry, entries}
use Rattle.vos_levels.specs.Levels.{Hung, things}
use Rattle.vos_entries.specs.Entries.{Stored}
use Rattle.vos_check.specs.vos_check_trees.Found.{Gathers, rows_of}
use Rattle.vos_check_entries.specs.declared.entry.EntryRow.{EntryRow}
use Rattle.vos_check_entries.specs.Rows.{entry_row}

abbrev pub one_row : ℕ → Stored → List EntryRow
one_row b a = entry_row a ∷ []

by_entry : (es : List Entry) (xs : List Stored) → length es ≡ length xs → rows_of one_row es xs ≡ map entry_row xs
by_entry [] [] h = refl
by_entry [] (a ∷ xs) h = absurd (omega arith)
by_entry (e ∷ es) [] h = absurd (omega arith)
by_entry (e ∷ es) (a ∷ xs) h = ap (λ z. entry_row a ∷ z) (by_entry es xs (omega arith))

pub gathered_entries : (before after : List EntryRow) (t : Hung Stored) → before ≡ [] → Gathers one_row before after t → after ≡ map entry_row (things t)
gathered_entries before after t none h = h.gathered ∙ (ap (λ z. z ++ rows_of one_row (entries t.0) t.1) none ∙ by_entry (entries t.0) t.1 h.paired)
