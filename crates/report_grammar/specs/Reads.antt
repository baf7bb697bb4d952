-- What a reader of words gives: a value, or nothing where the words say none.
use Rattle.std.specs.Prelude.{◌≡◌, Result, Ok, Err, Option, Some, None}
use Rattle.base_text.specs.Rows.{Words}
use Rattle.report_grammar.specs.declared.fault.RowNo.{RowNo}
use Rattle.report_grammar.specs.declared.fault.RowNo.TheVariants as no

infixl 10 ◌>>=◌
abbrev pub ◌>>=◌ : {A B : Type 0} → Option A → (A → Option B) → Option B
(Some x) >>= f = f x
None >>= f = None

-- what was read, and the words behind it
abbrev pub Taken : Type 0 → Type 0
Taken A = Option (A × Words)

abbrev pub Fails : {Y : Type 0} → RowNo → Option Y → Type 0
Fails no.Memory read = Unit {0}
Fails no.Bad read = read ≡ None

-- a result, seen by view, is what reading gives, unless memory is wanting
abbrev pub Reads : {X Y : Type 0} → (X → Y) → Result X RowNo → Option Y → Type 0
Reads view (Ok x) read = read ≡ Some (view x)
Reads view (Err e) read = Fails e read
