-- The summary of the report of a load.
use Rattle.std.specs.Prelude.{ℕ, List, [], ◌∷◌, ◌++◌, map, codes, count_by, Option, Some, None}
use Rattle.std.specs.Fmt.{decimal}
use Rattle.std.specs.List.{range_with_len}
use Rattle.base_types.specs.declared.report.Line.{Line}
use Rattle.base_types.specs.declared.report.Report.{Report}
use Rattle.base_text.specs.Rows.{Words, rows_text}
use Rattle.daos_summary.specs.declared.counts.Ending.{Ending}
use Rattle.daos_summary.specs.declared.counts.Ending.TheVariants as ending
use Rattle.daos_summary.specs.Counts.{commands_of, ends_so, is_issued_by, is_try}

-- the commands and targets that were asked for
abbrev pub head_row : ℕ → ℕ → Words
head_row count targets = codes "load" ∷ decimal count ∷ codes "targets" ∷ decimal targets ∷ []

abbrev pub count_row : List ℕ → ℕ → Words
count_row word count = word ∷ decimal count ∷ []

abbrev pub ending_word : Ending → List ℕ
ending_word ending.Committed = codes "committed"
ending_word ending.CondFailed = codes "condfailed"
ending_word ending.ReadLater = codes "readlater"
ending_word ending.WriteLater = codes "writelater"
ending_word ending.Unresolved = codes "unresolved"
ending_word ending.Floor = codes "floor"
ending_word ending.NoSpace = codes "nospace"
ending_word ending.Spent = codes "spent"
ending_word ending.NoSnap = codes "nosnap"
ending_word ending.Unknown = codes "unknown"

-- how many attempts ended so
abbrev pub ending_row : List Line → Ending → Words
ending_row lines e = count_row (ending_word e) (count_by (ends_so e) lines)

-- all ways to end
abbrev pub endings : List Ending
endings =
    ending.Committed ∷ ending.CondFailed ∷ ending.ReadLater ∷ ending.WriteLater ∷ ending.Unresolved ∷ ending.Floor ∷ ending.NoSpace ∷ ending.Spent ∷ ending.NoSnap ∷ ending.Unknown ∷ []

abbrev pub ending_rows : List Line → List Words
ending_rows lines = map (ending_row lines) endings

-- how many attempts have an epoch that a target issued
abbrev pub issued_row : List Line → ℕ → Words
issued_row lines target = codes "issued" ∷ decimal target ∷ decimal (count_by (is_issued_by target) lines) ∷ []

-- the same for each target
abbrev pub issued_rows : List Line → ℕ → List Words
issued_rows lines targets = map (issued_row lines) (range_with_len 0 targets)

-- whether a target is down
abbrev pub end_row : Option ℕ → Words
end_row None = codes "end" ∷ codes "0" ∷ []
end_row (Some target) = codes "end" ∷ codes "8" ∷ []

abbrev pub summary_rows : Report → ℕ → List Words
summary_rows q count =
    head_row count q.targets ∷ count_row (codes "commands") (commands_of q.lines) ∷ count_row (codes "attempts") (count_by is_try q.lines)
    ∷ ending_rows q.lines ++ issued_rows q.lines q.targets ++ end_row q.down ∷ []

-- the summary of a report of a load of so many commands
unfoldable pub summary_text : Report → ℕ → List ℕ
summary_text q count = rows_text (summary_rows q count)
