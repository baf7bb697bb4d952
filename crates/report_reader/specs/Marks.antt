-- The operations of a script's commands, as far as a report tells of them.
use Rattle.std.specs.Prelude.{ℕ, Bool, true, false, List, [], map, length, Option, Some, None, slice_get}
use Rattle.std.specs.List.{filter_map}
use Rattle.std.specs.Option.{option_and_then}
use Rattle.base_types.specs.declared.id.AttemptId.{AttemptId}
use Rattle.base_types.specs.declared.operation.Act.{Act}
use Rattle.base_types.specs.declared.operation.Act.TheVariants.{Fetch, Change}
use Rattle.base_types.specs.declared.operation.Cond.{Cond}
use Rattle.base_types.specs.declared.operation.Cond.TheVariants.{Free, Must, MustNot}
use Rattle.base_types.specs.declared.operation.Op.{Op}
use Rattle.base_types.specs.declared.script.Command.{Command}
use Rattle.base_types.specs.declared.script.Command.TheVariants.{Run, Snap, Aggregate, Tell, Skip}
use Rattle.base_types.specs.declared.script.Script.{Script}
use Rattle.base_types.specs.Operations.{act_path}
use Rattle.base_types.specs.Paths.{record_size}
use Rattle.report_reader.specs.declared.marks.Mark.{Mark}

-- for each operation whether it has a condition, whether it reads, and the record size of its object
abbrev pub Marks : Type 0
Marks = List Mark

abbrev pub has_cond : Cond → Bool
has_cond Free = false
has_cond Must = true
has_cond MustNot = true

abbrev pub is_read : Act → Bool
is_read (Fetch r) = true
is_read (Change w) = false

abbrev pub mark_of : Op → Mark
mark_of op = record { asked = has_cond op.cond; reads = is_read op.act; unit = record_size (act_path op.act) }

abbrev pub some_marks : Marks → Option Marks
some_marks marks = Some marks

-- the marks of a command that bears a number
abbrev pub marks_of : Command → Option Marks
marks_of (Run ops skips snapshot) = some_marks (map mark_of ops)
marks_of (Snap name cont) = some_marks []
marks_of (Aggregate cont) = some_marks []
marks_of (Tell client) = None
marks_of (Skip turns) = None

-- those of each numbered command of each client
abbrev pub table_of : Script → List (List Marks)
table_of s = map (filter_map marks_of) s.clients

-- the marks of an attempt's command
abbrev pub marks_at : List (List Marks) → AttemptId → Option Marks
marks_at table id = option_and_then (λ commands. slice_get commands id.command) (slice_get table id.client)

-- the mark of an operation, if there is such a one
abbrev pub mark_at : List (List Marks) → AttemptId → ℕ → Option Mark
mark_at table id op = option_and_then (λ marks. slice_get marks op) (marks_at table id)

-- how many operations there are
abbrev pub ops_of : List (List Marks) → AttemptId → Option ℕ
ops_of table id = option_and_then (λ marks. Some (length marks)) (marks_at table id)
