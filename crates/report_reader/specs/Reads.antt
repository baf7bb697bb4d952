-- What the reader of a text gives: a report, or the number of the first bad line.
use Rattle.std.specs.Prelude.{◌≡◌, ℕ, min, Result, Ok, Err}
use Rattle.report_reader.specs.declared.fault.ReportNo.{ReportNo}
use Rattle.report_reader.specs.declared.fault.ReportNo.TheVariants as no

-- a line's number as it is told: from 2^32 - 1 on it is held there
abbrev pub told_line : ℕ → ℕ
told_line at = min at 4294967295

abbrev pub FailsAt : {Y : Type 0} → ReportNo → Result Y ℕ → Type 0
FailsAt no.Memory read = Unit {0}
FailsAt (no.BadLine told) read = (at : ℕ) × (read ≡ Err at) × (told ≡ told_line at)

-- a result, seen by view, is what reading gives, unless memory is wanting
abbrev pub ReadsAt : {X Y : Type 0} → (X → Y) → Result X ReportNo → Result Y ℕ → Type 0
ReadsAt view (Ok x) read = read ≡ Ok (view x)
ReadsAt view (Err e) read = FailsAt e read
