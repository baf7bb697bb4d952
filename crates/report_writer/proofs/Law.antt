-- The text of a report determines it.
use Rattle.std.proofs.Common.{◌≡◌, ℕ, ◌^◌, ◌<◌, List, [], ◌∷◌, ◌++◌, map, flat_map, Option, Some, refl, sym, ap, ◌∙◌}
use Rattle.std.specs.Fmt.{decimal}
use Rattle.std.specs.List.{AllByRecursion}
use Rattle.std.proofs.lemmas.List.{same_from_push}
use Rattle.std.proofs.lemmas.List.Elements.{recursion_from_All}
use Rattle.base_types.specs.declared.report.Line.{Line}
use Rattle.base_types.specs.declared.report.Report.{Report}
use Rattle.base_types.specs.declared.script.Script.{Script}
use Rattle.base_text.specs.Number.{number_in}
use Rattle.base_text.specs.Parts.{parts_of}
use Rattle.base_text.specs.RowLaws.{rows_are_texts}
use Rattle.base_text.specs.Rows.{Words, IsRow, row_line, line_words, rows_text}
use Rattle.report_writer.specs.Forms.{IsLineOf, IsReportOf, least_down, TextsDetermineReports}
use Rattle.report_writer.specs.Reports.{end_row, line_rows, report_rows, report_text}
use Rattle.report_writer.proofs.Again.{u8_again, lines_again}
use Rattle.report_writer.proofs.Inner.{report_inner}
use Rattle.report_writer.proofs.Prefix.{no_prefix}
use Rattle.report_writer.proofs.Reading.{lines_of, read_rows, nothing_read}

-- ---- the rows of a text

words_of_lines : (rows : List Words) → AllByRecursion IsRow rows → map line_words (map row_line rows) ≡ rows
words_of_lines [] h = refl
words_of_lines (row ∷ rows) h = ap (λ t. t ∷ map line_words (map row_line rows)) (rows_are_texts.words_of_row row h.0) ∙ ap (λ t. row ∷ t) (words_of_lines rows h.1)

same_rows : (rows more : List Words) → AllByRecursion IsRow rows → AllByRecursion IsRow more → rows_text rows ≡ rows_text more → rows ≡ more
same_rows rows more p q e =
    let parts : map row_line rows ++ [] ∷ [] ≡ map row_line more ++ [] ∷ [] = sym (rows_are_texts.lines_of_rows rows p) ∙ ap (parts_of 10) e ∙ rows_are_texts.lines_of_rows more q in
    sym (words_of_lines rows p) ∙ ap (map line_words) ((same_from_push (map row_line rows) (map row_line more) [] [] parts).0) ∙ words_of_lines more q

-- ---- what the rows tell

abbrev found : {A : Type 0} → A → Option A
found x = Some x

found_same : {A : Type 0} (x y : A) → found x ≡ found y → x ≡ y
found_same x y e = cc

same_lines : (s : Script) (ls ms : List Line) → AllByRecursion (IsLineOf s) ls → AllByRecursion (IsLineOf s) ms → flat_map (line_rows s) ls ≡ flat_map (line_rows s) ms → ls ≡ ms
same_lines s ls ms p q e =
    let a = lines_again s nothing_read ls p in
    let b = lines_again s nothing_read ms q in
    sym a.2 ∙ ap lines_of (found_same a.0 b.0 (sym a.1 ∙ ap (read_rows s nothing_read) e ∙ b.1)) ∙ b.2

same_number : (m n : ℕ) → m < 2 ^ 8 → n < 2 ^ 8 → decimal m ≡ decimal n → m ≡ n
same_number m n p q e = found_same m n (sym (u8_again m p) ∙ ap (number_in 0 255) e ∙ u8_again n q)

-- the last word of a row of four
abbrev fourth : Words → List ℕ
fourth [] = []
fourth (a ∷ []) = []
fourth (a ∷ b ∷ []) = []
fourth (a ∷ b ∷ c ∷ []) = []
fourth (a ∷ b ∷ c ∷ d ∷ words) = d

abbrev first_row : List Words → Words
first_row [] = []
first_row (row ∷ rows) = row

abbrev later_rows : List Words → List Words
later_rows [] = []
later_rows (row ∷ rows) = rows

abbrev report : ℕ → List Line → Option ℕ → Report
report targets lines down = record { targets = targets; lines = lines; down = down }

pub same_reports : (q r : Report) → q.targets ≡ r.targets → q.lines ≡ r.lines → q.down ≡ r.down → q ≡ r
same_reports q r t l d = ap (λ n. report n q.lines q.down) t ∙ ap (λ ls. report r.targets ls q.down) l ∙ ap (report r.targets r.lines) d

from_rows : (s : Script) (q r : Report) → IsReportOf s q → IsReportOf s r → report_rows s q ≡ report_rows s r → q ≡ r
unfolding report_rows
from_rows s q r p h e =
    let targets = same_number q.targets r.targets p.targets h.targets (ap (λ rows. fourth (first_row rows)) e) in
    let rest : flat_map (line_rows s) q.lines ++ end_row q.down ∷ [] ≡ flat_map (line_rows s) r.lines ++ end_row r.down ∷ [] = ap later_rows e in
    let rows = same_from_push (flat_map (line_rows s) q.lines) (flat_map (line_rows s) r.lines) (end_row q.down) (end_row r.down) rest in
    let lines = same_lines s q.lines r.lines (recursion_from_All (IsLineOf s) q.lines p.lines) (recursion_from_All (IsLineOf s) r.lines h.lines) rows.0 in
    same_reports q r targets lines (p.down ∙ ap least_down lines ∙ sym h.down)

all_reports : (s : Script) (q r : Report) → IsReportOf s q → IsReportOf s r → report_text s q ≡ report_text s r → q ≡ r
unfolding report_text
all_reports s q r p h e = from_rows s q r p h (same_rows (report_rows s q) (report_rows s r) (report_inner s q p) (report_inner s r h) e)

pub texts_determine_reports : TextsDetermineReports
texts_determine_reports = record {
  all = all_reports;
  no_prefix = no_prefix;
}
