-- What a reader of lines gives: a value, or the first fault with its line.
use Rattle.std.specs.Prelude.{◌≡◌, ℕ, Result, Ok, Err}
use Rattle.base_types.specs.declared.fault.ScriptFault.{ScriptFault}
use Rattle.script_words.specs.declared.fault.LineNo.{LineNo}
use Rattle.script_words.specs.declared.fault.LineNo.TheVariants as no
use Rattle.script_words.specs.Reads.{Read}
use Rattle.daos_script.specs.declared.fault.ScriptNo.{ScriptNo}
use Rattle.daos_script.specs.declared.fault.ScriptNo.TheVariants as whole

-- an error is the fault that reading gives, unless memory is wanting
abbrev pub FailsAt : {Y : Type 0} → ScriptNo → Result Y ScriptFault → Type 0
FailsAt whole.Memory read = Unit {0}
FailsAt (whole.Fault fault) read = read ≡ Err fault

abbrev pub GivesAt : {X Y : Type 0} → (X → Y) → Result X ScriptNo → Result Y ScriptFault → Type 0
GivesAt view (Ok x) read = read ≡ Ok (view x)
GivesAt view (Err e) read = FailsAt e read

-- what a line read, or its fault at this line
abbrev pub located : {A : Type 0} → ℕ → Read A → Result A ScriptFault
located at (Ok x) = Ok x
located at (Err why) = Err (record { line = at; why = why })

abbrev pub no_at : ℕ → LineNo → ScriptNo
no_at at no.Memory = whole.Memory
no_at at (no.Fault why) = whole.Fault (record { line = at; why = why })
