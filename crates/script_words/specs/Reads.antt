-- What a reader of words gives: a value, or the first fault.
use Rattle.std.specs.Prelude.{◌≡◌, List, ℕ, Result, Ok, Err, Option, Some, None}
use Rattle.base_types.specs.declared.fault.Why.{Why}
use Rattle.script_words.specs.declared.fault.LineNo.{LineNo}
use Rattle.script_words.specs.declared.fault.LineNo.TheVariants as no

-- a value, or what is wrong with a line
abbrev pub Read : Type 0 → Type 0
Read A = Result A Why

-- what a reader of words took, and the words after it
abbrev pub Taken : Type 0 → Type 0
Taken A = Read (A × List (List ℕ))

-- a value that is there, or else this fault
abbrev pub or_fault : {A : Type 0} → Why → Option A → Read A
or_fault why None = Err why
or_fault why (Some x) = Ok x

-- an error is the fault that reading gives, unless memory is wanting
abbrev pub Fails : {Y : Type 0} → LineNo → Read Y → Type 0
Fails no.Memory read = Unit {0}
Fails (no.Fault why) read = read ≡ Err why

-- a result, seen by view, is what reading gives, unless memory is wanting
abbrev pub Gives : {X Y : Type 0} → (X → Y) → Result X LineNo → Read Y → Type 0
Gives view (Ok x) read = read ≡ Ok (view x)
Gives view (Err e) read = Fails e read
