-- No report's text goes on from another's.
use Rattle.std.proofs.Common.{◌≡◌, ℕ, Bool, true, false, eqb, not, List, [], ◌∷◌, ◌++◌, map, flat_map, Option, Some, None, refl, sym, ap, subst, ◌∙◌, arith, append_assoc, codes}
use Rattle.std.specs.List.{list_all, AllByRecursion}
use Rattle.std.specs.Str.{bytes_eq}
use Rattle.std.proofs.lemmas.Bool.{and_parts}
use Rattle.std.proofs.lemmas.Bool.Decides.{nat_tests}
use Rattle.base_types.specs.declared.answer.Answer.{Answer}
use Rattle.base_types.specs.declared.report.Line.{Line}
use Rattle.base_types.specs.declared.report.Line.TheVariants as line
use Rattle.base_types.specs.declared.report.Report.{Report}
use Rattle.base_types.specs.declared.script.Script.{Script}
use Rattle.base_text.specs.RowLaws.{rows_are_texts}
use Rattle.base_text.specs.Rows.{Words, IsLine, IsRow, is_line_byte, row_line, line_words, rows_text}
use Rattle.report_writer.specs.Forms.{IsReportOf}
use Rattle.report_writer.specs.Reports.{cond_row, conds_after, conds_until, detail_rows, end_row, got_row, line_rows, report_rows, report_text}
use Rattle.report_writer.proofs.Inner.{all_append, report_inner}

-- ---- the first line of a text

abbrev first_byte : List ℕ → ℕ
first_byte [] = 0
first_byte (b ∷ bs) = b

abbrev later : {A : Type 0} → List A → List A
later [] = []
later (x ∷ xs) = xs

-- a line's byte is no line end
no_end : (b : ℕ) (bs : List ℕ) → IsLine (b ∷ bs) → b ≡ 10 → ⊥
no_end b bs h is = let p = and_parts (is_line_byte b) (list_all is_line_byte bs) h in let e : eqb b 10 ≡ true = grind (arith, nat_tests) in absurd (go (eqb b 10) e p.0)
  where
    go : (t : Bool) → t ≡ true → not t ≡ true → ⊥
    go true e f = absurd cc
    go false e f = absurd cc

line_rest : (b : ℕ) (bs : List ℕ) → IsLine (b ∷ bs) → IsLine bs
line_rest b bs h = (and_parts (is_line_byte b) (list_all is_line_byte bs) h).1

same_line : (a b x y : List ℕ) → IsLine a → IsLine b → a ++ 10 ∷ x ≡ b ++ 10 ∷ y → (a ≡ b) × (x ≡ y)
same_line [] [] x y p q e = (refl, ap later e)
same_line [] (d ∷ b) x y p q e = absurd (no_end d b q (sym (ap first_byte e)))
same_line (c ∷ a) [] x y p q e = absurd (no_end c a p (ap first_byte e))
same_line (c ∷ a) (d ∷ b) x y p q e =
    let rest = same_line a b x y (line_rest c a p) (line_rest d b q) (ap later e) in
    (ap (λ n. n ∷ a) (ap first_byte e) ∙ ap (λ t. d ∷ t) rest.0, rest.1)

is_ended : (a x rest : List ℕ) → [] ≡ (a ++ 10 ∷ x) ++ rest → ⊥
is_ended [] x rest e = absurd cc
is_ended (b ∷ a) x rest e = absurd cc

-- rows whose text goes on from that of others go on from those
rows_go_on : (rows others : List Words) (rest : List ℕ) → AllByRecursion IsRow rows → AllByRecursion IsRow others → rows_text rows ≡ rows_text others ++ rest
    → (more : List Words) × (rows ≡ others ++ more) × (rows_text more ≡ rest)
rows_go_on rows [] rest p q e = (rows, refl, e)
rows_go_on [] (o ∷ others) rest p q e = absurd (is_ended (row_line o) (rows_text others) rest e)
rows_go_on (r ∷ rows) (o ∷ others) rest p q e =
    let cut = same_line (row_line r) (row_line o) (rows_text rows) (rows_text others ++ rest) (rows_are_texts.row_is_line r p.0) (rows_are_texts.row_is_line o q.0)
    (e ∙ append_assoc (row_line o) (10 ∷ rows_text others) rest) in
    let first : r ≡ o = sym (rows_are_texts.words_of_row r p.0) ∙ ap line_words cut.0 ∙ rows_are_texts.words_of_row o q.0 in
    let next = rows_go_on rows others rest p.1 q.1 cut.1 in
    (next.0, ap (λ row. row ∷ rows) first ∙ ap (λ t. o ∷ t) next.1, next.2)

-- ---- the end stands once, at the end

abbrev is_end : Words → Bool
is_end [] = false
is_end (word ∷ words) = bytes_eq word (codes "end")

abbrev NoEnd : Words → Type 0
NoEnd row = is_end row ≡ false

conds_no_end : (cs : List (ℕ × Bool)) → AllByRecursion (λ row. is_end row ≡ false) (map cond_row cs)
conds_no_end [] = tt
conds_no_end (c ∷ cs) = (refl, conds_no_end cs)

details_no_end : (cs : List (ℕ × Bool)) (gs : List (ℕ × Answer)) → AllByRecursion (λ row. is_end row ≡ false) (detail_rows cs gs)
details_no_end cs [] = conds_no_end cs
details_no_end cs (g ∷ gs) =
    all_append NoEnd (map cond_row (conds_until g.0 cs)) (got_row g ∷ detail_rows (conds_after g.0 cs) gs) (conds_no_end (conds_until g.0 cs)) (refl, details_no_end (conds_after g.0 cs) gs)

line_no_end : (s : Script) (l : Line) → AllByRecursion (λ row. is_end row ≡ false) (line_rows s l)
line_no_end s (line.Try a) = (refl, details_no_end a.conds a.gots)
line_no_end s (line.Stop number target) = (refl, tt)
line_no_end s (line.Restart number target incarnation floor) = (refl, tt)
line_no_end s (line.Freeze target cont epoch) = (refl, tt)
line_no_end s (line.Snapshot name cont epoch) = (refl, tt)
line_no_end s (line.Aggregate number target cont upto) = (refl, tt)
line_no_end s (line.Down target) = (refl, tt)

lines_no_end : (s : Script) (ls : List Line) → AllByRecursion (λ row. is_end row ≡ false) (flat_map (line_rows s) ls)
lines_no_end s [] = tt
lines_no_end s (l ∷ ls) = all_append NoEnd (line_rows s l) (flat_map (line_rows s) ls) (line_no_end s l) (lines_no_end s ls)

end_is_end : (down : Option ℕ) → is_end (end_row down) ≡ true
end_is_end None = refl
end_is_end (Some target) = refl

abbrev first_row : List Words → Words
first_row [] = []
first_row (row ∷ rows) = row

has_rows : (ys more : List Words) (y : Words) → [] ≡ (ys ++ y ∷ []) ++ more → ⊥
has_rows [] more y e = absurd cc
has_rows (z ∷ ys) more y e = absurd cc

not_both : (x y : Words) → x ≡ y → is_end x ≡ false → is_end y ≡ true → ⊥
not_both x y is p q = let both : is_end y ≡ false = subst (λ z. is_end z ≡ false) is p in absurd cc

ends_once : (xs ys more : List Words) (x y : Words) → AllByRecursion (λ row. is_end row ≡ false) xs → is_end y ≡ true → xs ++ x ∷ [] ≡ (ys ++ y ∷ []) ++ more → more ≡ []
ends_once [] [] more x y p q e = sym (ap later e)
ends_once [] (z ∷ ys) more x y p q e = absurd (has_rows ys more y (ap later e))
ends_once (w ∷ xs) [] more x y p q e = absurd (not_both w y (ap first_row e) p.0 q)
ends_once (w ∷ xs) (z ∷ ys) more x y p q e = ends_once xs ys more x y p.1 q (ap later e)

rows_end : (s t : Script) (q r : Report) (more : List Words) → report_rows t r ≡ report_rows s q ++ more → more ≡ []
unfolding report_rows
rows_end s t q r more e =
    ends_once (flat_map (line_rows t) r.lines) (flat_map (line_rows s) q.lines) more (end_row r.down) (end_row q.down) (lines_no_end t r.lines) (end_is_end q.down) (ap later e)

pub no_prefix : (s t : Script) (q r : Report) (rest : List ℕ) → IsReportOf s q → IsReportOf t r → report_text t r ≡ report_text s q ++ rest → rest ≡ []
unfolding report_text
no_prefix s t q r rest p h e =
    let rows = rows_go_on (report_rows t r) (report_rows s q) rest (report_inner t r h) (report_inner s q p) e in
    sym rows.2 ∙ ap rows_text (rows_end s t q r rows.0 rows.1)
