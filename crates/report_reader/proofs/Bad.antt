-- Where no report is read, the first bad line is told.
use Rattle.std.proofs.Common.{◌≡◌, ℕ, ◌+◌, ◌-◌, ◌^◌, ◌<◌, Bool, true, false, not, List, [], ◌∷◌, ◌++◌, length, take, drop, Option, Some, None, Result, Ok, Err, refl, sym, ap, subst, ◌∙◌, append_assoc, append-nil, arith, eqb}
use Rattle.std.specs.List.{AllByRecursion, list_all}
use Rattle.std.proofs.lemmas.Bool.{and_parts}
use Rattle.std.proofs.lemmas.List.{length-append, take-append-drop}
use Rattle.std.proofs.lemmas.List.Elements.{All-from_recursion, recursion_from_All}
use Rattle.std.proofs.lemmas.List.Splits.{length-slice_split, slice_split_at}
use Rattle.std.proofs.Math.Seq.{take-append_seam}
use Rattle.base_types.specs.declared.report.Report.{Report}
use Rattle.base_types.specs.declared.script.Script.{Script}
use Rattle.base_text.specs.Parts.{parts_of}
use Rattle.base_text.specs.Results as result
use Rattle.base_text.specs.RowLaws.{rows_are_texts}
use Rattle.base_text.specs.Rows.{IsLine, is_line_byte, lines_text, row_line}
use Rattle.base_text.specs.Steps.{steps, steps-cons_err}
use Rattle.report_writer.specs.Reports.{end_row, report_text}
use Rattle.report_reader.specs.declared.reading.Reading.{Reading}
use Rattle.report_reader.specs.declared.report.Stage.{Stage}
use Rattle.report_reader.specs.declared.report.Stage.TheVariants.{Start, Inside, Ended, Whole}
use Rattle.report_reader.specs.Law.{AreBytes, Begins, IsFirstBad, IsNamed, IsReportFor, first_lines}
use Rattle.report_reader.specs.Marks.{Marks, table_of}
use Rattle.report_reader.specs.Reading.{at_end, bad_at, finished, next_of, nothing_read, or_bad_line, report_of, report_read, step}
use Rattle.report_reader.proofs.Back.{is_read_back, leads_to_whole, then_steps}
use Rattle.report_reader.proofs.Kept.{IsKeptStage, kept_report, nothing_kept, parts_are_texts, steps_kept}
use Rattle.report_reader.proofs.Sound.{IsRead, end_read, lines_append, steps_read}

-- ---- the step that fails

record Failed {S A F : Type 0} (f : ℕ → S → A → Result S F) (at : ℕ) (s : S) (xs : List A) (fault : F) : Type 0 where
  before : List A
  item : A
  after : List A
  state : S
  whole : xs ≡ before ++ item ∷ after
  until : steps f at s before ≡ Ok state
  fails : f (at + length before) state item ≡ Err fault

steps_fail : {S A F : Type 0} (f : ℕ → S → A → Result S F) (at : ℕ) (s : S) (xs : List A) (fault : F) → steps f at s xs ≡ Err fault → Failed f at s xs fault
unfolding steps
steps_fail {S = S} {A = A} {F = F} f at s [] fault e = absurd cc
steps_fail {S = S} {A = A} {F = F} f at s (x ∷ xs) fault e = go (f at s x) refl e (λ t k. steps_fail f (at + 1) t xs fault k)
  where
    here : at + 0 ≡ at
    here = omega arith

    there : (ys : List A) → at + 1 + length ys ≡ at + length (x ∷ ys)
    there ys = omega arith

    go : (o : Result S F) → f at s x ≡ o → result.◌>>=◌ o (λ t. steps f (at + 1) t xs) ≡ Err fault → ((t : S) → steps f (at + 1) t xs ≡ Err fault → Failed f (at + 1) t xs fault) → Failed f at s (x ∷ xs) fault
    go (Err n) i e k =
        let is : n ≡ fault = cc in
        record { before = []; item = x; after = xs; state = s; whole = refl; until = refl; fails = subst (λ m. f m s x ≡ Err fault) (sym here) (i ∙ ap (λ m. Err m) is) }
    go (Ok t) i e k =
        let rest = k t e in
        record {
          before = x ∷ rest.before;
          item = rest.item;
          after = rest.after;
          state = rest.state;
          whole = ap (λ ys. x ∷ ys) rest.whole;
          until = ap (λ r. result.◌>>=◌ r (λ u. steps f (at + 1) u rest.before)) i ∙ rest.until;
          fails = subst (λ m. f m rest.state rest.item ≡ Err fault) (there rest.before) rest.fails;
        }

-- ---- lines in front of a text

no_mark : (b : Bool) → not b ≡ true → b ≡ false
no_mark true e = absurd cc
no_mark false e = refl

no_ends : (l : List ℕ) → IsLine l → AllByRecursion (λ b. eqb b 10 ≡ false) l
no_ends [] h = tt
no_ends (b ∷ l) h = let p = and_parts (is_line_byte b) (list_all is_line_byte l) h in (no_mark (eqb b 10) p.0, no_ends l p.1)

lines_then : (ls : List (List ℕ)) (rest : List ℕ) → AllByRecursion IsLine ls → parts_of 10 (lines_text ls ++ rest) ≡ ls ++ parts_of 10 rest
lines_then [] rest h = refl
lines_then (l ∷ ls) rest h =
    ap (parts_of 10) (append_assoc l (10 ∷ lines_text ls) rest) ∙ slice_split_at (λ b. eqb b 10) l 10 (lines_text ls ++ rest) (All-from_recursion (λ b. eqb b 10 ≡ false) l (no_ends l h.0)) refl
    ∙ ap (λ t. l ∷ t) (lines_then ls rest h.1)

some_part : (bytes : List ℕ) → 0 < length (parts_of 10 bytes)
some_part bytes = omega (arith, length-slice_split (λ b. eqb b 10) bytes)

-- the first of a list, by its length
front : {A : Type 0} (xs ys zs : List A) → xs ≡ ys ++ zs → take (length ys) xs ≡ ys
front xs ys zs e = ap (take (length ys)) e ∙ take-append_seam ys zs

left : {A : Type 0} (P : A → Type 0) (xs ys : List A) → AllByRecursion P (xs ++ ys) → AllByRecursion P xs
left P [] ys h = tt
left P (x ∷ xs) ys h = (h.0, left P xs ys h.1)

module _ (s : Script) (named : IsNamed s) where
  abbrev table : List (List Marks)
  table = table_of s

  -- ---- lines that begin a report

  begun_less : (xs ys : List (List ℕ)) → Begins s (lines_text (xs ++ ys)) → Begins s (lines_text xs)
  begun_less xs ys h = record {
    report = h.report;
    of_script = h.of_script;
    rest = lines_text ys ++ h.rest;
    whole = h.whole ∙ ap (λ t. t ++ h.rest) (lines_append xs ys) ∙ append_assoc (lines_text xs) (lines_text ys) h.rest;
  }

  begun_whole : (q : Report) (text : List ℕ) → IsReportFor s q → text ≡ report_text s q → Begins s text
  begun_whole q text h e = record { report = q; of_script = h; rest = []; whole = sym e ∙ sym (append-nil text) }

  begun_inside : (r : Reading) (done : List (List ℕ)) → IsRead s (Inside r) done → IsKeptStage s named (Inside r) → Begins s (lines_text done)
  unfolding at_end
  begun_inside r done h k =
      let last = row_line (end_row r.down) in
      let ended : lines_text (done ++ last ∷ []) ≡ report_text s (report_read s r) = end_read s r (Ended (report_read s r)) done last refl at_the_end h.1 in
      begun_less done (last ∷ []) (begun_whole (report_read s r) (lines_text (done ++ last ∷ [])) (kept_report s named r k) ended)
    where
      at_the_end : at_end s r ≡ Some (Ended (report_read s r))
      at_the_end = refl

  begun_start : Begins s []
  begun_start = record { report = report_read s nothing_read; of_script = kept_report s named nothing_read (nothing_kept s named); rest = report_text s (report_read s nothing_read); whole = refl }

  -- a stage behind which further lines may stand
  abbrev IsOpen : Stage → Type 0
  IsOpen Start = Unit {0}
  IsOpen (Inside r) = Unit {0}
  IsOpen (Ended q) = Unit {0}
  IsOpen (Whole q) = ⊥

  begun : (stage : Stage) (done : List (List ℕ)) → IsOpen stage → IsRead s stage done → IsKeptStage s named stage → Begins s (lines_text done)
  begun Start done o h k = subst (λ d. Begins s (lines_text d)) (sym h) begun_start
  begun (Inside r) done o h k = begun_inside r done h k
  begun (Ended q) done o h k = begun_whole q (lines_text done) k h
  begun (Whole q) done o h k = absurd o

  -- ---- lines that begin none

  not_both : {A F : Type 0} (r : Result A F) (x : A) (e : F) → r ≡ Ok x → r ≡ Err e → ⊥
  not_both r x e p q = cc

  -- no report begins with lines behind which a step fails, whatever follows
  begins_none : (ls : List (List ℕ)) (fault : ℕ) → AllByRecursion IsLine ls → ((p : List ℕ) (ps : List (List ℕ)) → steps (step s table) 1 Start (ls ++ p ∷ ps) ≡ Err fault) → Begins s (lines_text ls) → ⊥
  begins_none ls fault lines stuck h =
      not_both (steps (step s table) 1 Start (parts_of 10 (report_text s h.report))) (Whole h.report) fault (leads_to_whole s h.report h.of_script 1) (ap (steps (step s table) 1 Start) parts ∙ fails (parts_of 10 h.rest) (some_part h.rest))
    where
      parts : parts_of 10 (report_text s h.report) ≡ ls ++ parts_of 10 h.rest
      parts = ap (parts_of 10) h.whole ∙ lines_then ls h.rest lines

      fails : (ps : List (List ℕ)) → 0 < length ps → steps (step s table) 1 Start (ls ++ ps) ≡ Err fault
      fails [] lt = absurd (omega (arith, lt))
      fails (p ∷ ps) lt = stuck p ps

  step_fails : (n : ℕ) (stage : Stage) (l : List ℕ) (at : ℕ) → step s table n stage l ≡ Err at → bad_at n stage ≡ at
  unfolding step
  step_fails n stage l at e = go (next_of s table stage l) e
    where
      go : (o : Option Stage) → or_bad_line (bad_at n stage) o ≡ Err at → bad_at n stage ≡ at
      go None e = cc
      go (Some x) e = absurd cc

  whole_fails : (n : ℕ) (q : Report) (p : List ℕ) → step s table n (Whole q) p ≡ Err (n - 1)
  unfolding step
  whole_fails n q p = refl

  module _ (bytes : List ℕ) (are : AreBytes bytes) where
    abbrev lines : List (List ℕ)
    lines = parts_of 10 bytes

    texts : AllByRecursion (λ l. AllByRecursion (λ b. b < 2 ^ 8) l) lines
    texts = parts_are_texts 10 bytes (recursion_from_All (λ b. b < 2 ^ 8) bytes are)

    first_are : (k : ℕ) (xs ys : List (List ℕ)) → lines ≡ xs ++ ys → k ≡ length xs → first_lines k bytes ≡ lines_text xs
    first_are k xs ys e i = ap (λ n. lines_text (take n lines)) i ∙ ap lines_text (front lines xs ys e)

    lines_front : (xs ys : List (List ℕ)) → lines ≡ xs ++ ys → AllByRecursion IsLine xs
    lines_front xs ys e = left IsLine xs ys (subst (AllByRecursion IsLine) e (rows_are_texts.parts_are_lines bytes))

    -- the step of a line fails
    module _ (at : ℕ) (f : Failed (step s table) 1 Start lines at) (none : (q : Report) → IsReportFor s q → bytes ≡ report_text s q → ⊥) where
      abbrev n : ℕ
      n = length f.before

      read : IsRead s f.state f.before
      read = steps_read s table 1 Start f.state [] f.before f.until refl

      kept : IsKeptStage s named f.state
      kept = steps_kept s named 1 Start f.state f.before (left (λ l. AllByRecursion (λ b. b < 2 ^ 8) l) f.before (f.item ∷ f.after) (subst (AllByRecursion (λ l. AllByRecursion (λ b. b < 2 ^ 8) l)) f.whole texts)) f.until tt

      count : length lines ≡ n + (1 + length f.after)
      count = ap length f.whole ∙ length-append f.before (f.item ∷ f.after) ∙ omega arith

      abbrev with_item : List (List ℕ)
      with_item = f.before ++ f.item ∷ []

      split : lines ≡ with_item ++ f.after
      split = f.whole ∙ sym (append_assoc f.before (f.item ∷ []) f.after)

      item_stuck : (p : List ℕ) (ps : List (List ℕ)) → steps (step s table) 1 Start (with_item ++ p ∷ ps) ≡ Err at
      item_stuck p ps =
          ap (steps (step s table) 1 Start) (append_assoc f.before (f.item ∷ []) (p ∷ ps))
          ∙ then_steps (step s table) 1 Start f.state (Err at) f.before (f.item ∷ p ∷ ps) f.until (steps-cons_err (step s table) (1 + n) f.state f.item (p ∷ ps) at f.fails)

      at_item : IsOpen f.state → at ≡ 1 + n → IsFirstBad s bytes at
      at_item o i = record {
        from_one = omega (arith, i);
        within = omega (arith, i, count);
        good = subst (Begins s) (sym (first_are (at - 1) f.before (f.item ∷ f.after) f.whole (omega (arith, i)))) (begun f.state f.before o read kept);
        bad = λ lt h. begins_none with_item at (lines_front with_item f.after split) item_stuck (subst (Begins s) (first_are at with_item f.after split (omega (arith, i, length-append f.before (f.item ∷ [])))) h);
        none = none;
      }

      at_whole : (q : Report) → f.state ≡ Whole q → at ≡ 1 + n - 1 → IsFirstBad s bytes at
      at_whole q e i =
          let r : IsRead s (Whole q) f.before = subst (λ x. IsRead s x f.before) e read in
          let k : IsReportFor s q = subst (λ x. IsKeptStage s named x) e kept in
          let long : n ≡ length r.0 + 1 = ap length r.1 ∙ length-append r.0 ([] ∷ []) in
          let parts : lines ≡ r.0 ++ [] ∷ f.item ∷ f.after = f.whole ∙ ap (λ t. t ++ f.item ∷ f.after) r.1 ∙ append_assoc r.0 ([] ∷ []) (f.item ∷ f.after) in
          let stuck : (p : List ℕ) (ps : List (List ℕ)) → steps (step s table) 1 Start (f.before ++ p ∷ ps) ≡ Err (1 + n - 1) =
          λ p ps. then_steps (step s table) 1 Start (Whole q) (Err (1 + n - 1)) f.before (p ∷ ps) (f.until ∙ ap (λ x. Ok x) e) (steps-cons_err (step s table) (1 + n) (Whole q) p ps (1 + n - 1) (whole_fails (1 + n) q p)) in
          record {
            from_one = omega (arith, i, long);
            within = omega (arith, i, count);
            good = subst (Begins s) (sym (first_are (at - 1) r.0 ([] ∷ f.item ∷ f.after) parts (omega (arith, i, long)))) (begun_whole q (lines_text r.0) k r.2);
            bad = λ lt h. begins_none f.before (1 + n - 1) (lines_front f.before (f.item ∷ f.after) f.whole) stuck (subst (Begins s) (first_are at f.before (f.item ∷ f.after) f.whole (omega (arith, i))) h);
            none = none;
          }

      at_step : IsFirstBad s bytes at
      at_step = go f.state refl (step_fails (1 + n) f.state f.item at f.fails)
        where
          go : (x : Stage) → f.state ≡ x → bad_at (1 + n) f.state ≡ at → IsFirstBad s bytes at
          go Start e i = at_item (subst IsOpen (sym e) tt) (sym i ∙ ap (bad_at (1 + n)) e)
          go (Inside r) e i = at_item (subst IsOpen (sym e) tt) (sym i ∙ ap (bad_at (1 + n)) e)
          go (Ended q) e i = at_item (subst IsOpen (sym e) tt) (sym i ∙ ap (bad_at (1 + n)) e)
          go (Whole q) e i = at_whole q e (sym i ∙ ap (bad_at (1 + n)) e)

    -- all lines are read, and the end is missing
    at_end_of : (at : ℕ) (stage : Stage) → ((q : Report) → IsReportFor s q → bytes ≡ report_text s q → ⊥) → steps (step s table) 1 Start lines ≡ Ok stage → IsOpen stage → at ≡ length lines → IsFirstBad s bytes at
    at_end_of at stage none e o i =
        let read = steps_read s table 1 Start stage [] lines e refl in
        let kept = steps_kept s named 1 Start stage lines texts e tt in
        let all = begun stage lines o read kept in
        record {
          from_one = omega (arith, i, some_part bytes);
          within = omega (arith, i);
          good = begun_less (take (at - 1) lines) (drop (at - 1) lines) (subst (λ ls. Begins s (lines_text ls)) (sym (take-append-drop (at - 1) lines)) all);
          bad = λ lt h. absurd (omega (arith, i, lt));
          none = none;
        }

    pub is_first_bad : (at : ℕ) → report_of s bytes ≡ Err at → IsFirstBad s bytes at
    unfolding report_of
    is_first_bad at e = go (steps (step s table) 1 Start lines) refl e
      where
        none : (q : Report) → IsReportFor s q → bytes ≡ report_text s q → ⊥
        none q h text = not_both (report_of s bytes) q at (ap (report_of s) text ∙ is_read_back s q h) e

        ended : (stage : Stage) → steps (step s table) 1 Start lines ≡ Ok stage → finished (length lines) stage ≡ Err at → IsFirstBad s bytes at
        ended Start i e = let is : at ≡ length lines = cc in at_end_of at Start none i tt is
        ended (Inside r) i e = let is : at ≡ length lines = cc in at_end_of at (Inside r) none i tt is
        ended (Ended q) i e = let is : at ≡ length lines = cc in at_end_of at (Ended q) none i tt is
        ended (Whole q) i e = absurd cc

        go : (o : Result Stage ℕ) → steps (step s table) 1 Start lines ≡ o → result.◌>>=◌ o (finished (length lines)) ≡ Err at → IsFirstBad s bytes at
        go (Err m) i e = let is : m ≡ at = cc in at_step at (steps_fail (step s table) 1 Start lines at (i ∙ ap (λ k. Err k) is)) none
        go (Ok stage) i e = ended stage i e
