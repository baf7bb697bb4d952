-- What is read is spelled as the text says.
use Rattle.std.proofs.Common.{◌≡◌, ℕ, ◌+◌, ◌*◌, ◌≤◌, Bool, true, false, cond, ◌&&◌, leb, eqb, List, [], ◌∷◌, ◌++◌, length, flat_map, Option, Some, None, Result, Ok, Err, refl, sym, ap, ◌∙◌, subst, append_assoc, append-nil, arith}
use Rattle.std.specs.Str.{bytes_eq}
use Rattle.std.specs.List.{AllByRecursion}
use Rattle.std.proofs.lemmas.Bool.Decides.{nat_tests}
use Rattle.std.proofs.lemmas.Grind.{flat_map-append}
use Rattle.std.proofs.lemmas.Slice.Eq.{bytes_eq-Decides}
use Rattle.base_types.specs.declared.answer.Answer.{Answer}
use Rattle.base_types.specs.declared.report.Attempt.{Attempt}
use Rattle.base_types.specs.declared.report.Line.{Line}
use Rattle.base_types.specs.declared.report.Line.TheVariants as line
use Rattle.base_types.specs.declared.report.Report.{Report}
use Rattle.base_types.specs.declared.script.Script.{Script}
use Rattle.base_text.specs.Parts.{parts_of}
use Rattle.base_text.specs.Results as result
use Rattle.base_text.specs.RowLaws.{rows_are_texts}
use Rattle.base_text.specs.Rows.{Words, row_line, lines_text, rows_text}
use Rattle.base_text.specs.Steps.{steps}
use Rattle.report_writer.specs.Reports.{try_row, cond_row, got_row, detail_rows, line_rows, head_row, end_row, report_rows, report_text}
use Rattle.report_reader.specs.declared.reading.Open.{Open}
use Rattle.report_reader.specs.declared.reading.Reading.{Reading}
use Rattle.report_reader.specs.declared.report.Stage.{Stage}
use Rattle.report_reader.specs.declared.report.Stage.TheVariants.{Start, Inside, Ended, Whole}
use Rattle.report_grammar.specs.declared.rows.Told.{Told}
use Rattle.report_grammar.specs.declared.rows.Told.TheVariants.{Try, Cond, Got, Other}
use Rattle.report_reader.specs.Marks.{Marks, ops_of, table_of}
use Rattle.report_grammar.specs.Reads.{◌>>=◌}
use Rattle.report_reader.specs.Reading.{asked, reads, unit_at, cond_added, got_added, with_cond, with_got, lines_of, some_open, with_try, stop_after, down_after, with_line, reopened, with_cond_last, with_got_last, put, nothing_read, at_head, report_read, at_end, row_of, next_of, bad_at, or_bad_line, step, finished, report_of}
use Rattle.report_grammar.specs.Rows.{told_of}
use Rattle.report_reader.specs.Told.{told_in, told_text, spelled, is_bare, outcome_fits_in, attempt_fits, answer_fits, line_fits}
use Rattle.report_reader.proofs.Order.{Below, GotBelow, details-cond, details-got, all-below, all-push}

-- ---- tests that were passed

pub tested : {A : Type 0} (b : Bool) (x y : A) → cond b (Some x) None ≡ Some y → (b ≡ true) × (x ≡ y)
tested true x y e = (refl, cc)
tested false x y e = absurd cc

pub both : (a b : Bool) → (a && b) ≡ true → (a ≡ true) × (b ≡ true)
both true b e = (refl, e)
both false b e = absurd cc

same_bytes : (a b : List ℕ) → bytes_eq a b ≡ true → a ≡ b
same_bytes a b e = (bytes_eq-Decides a b).0 e

pub at_most : (a b : ℕ) → leb a b ≡ true → a ≤ b
at_most a b e = grind (arith, nat_tests)

no_length : (n : ℕ) → eqb n 0 ≡ true → n ≡ 0
no_length n e = grind (arith, nat_tests)

pub empty : {A : Type 0} (xs : List A) → eqb (length xs) 0 ≡ true → xs ≡ []
empty [] e = refl
empty (x ∷ xs) e = let none : length (x ∷ xs) ≡ 0 = no_length (length (x ∷ xs)) e in absurd (omega (arith, none))

pub then_some : {A B : Type 0} (o : Option A) (f : A → Option B) (y : B) → (o >>= f) ≡ Some y → (x : A) × (o ≡ Some x) × (f x ≡ Some y)
then_some None f y e = absurd cc
then_some (Some x) f y e = (x, refl, e)

-- ---- rows

rows_append : (rs ss : List Words) → rows_text (rs ++ ss) ≡ rows_text rs ++ rows_text ss
rows_append [] ss = refl
rows_append (r ∷ rs) ss = ap (λ t. row_line r ++ 10 ∷ t) (rows_append rs ss) ∙ sym (append_assoc (row_line r) (10 ∷ rows_text rs) (rows_text ss))

pub lines_append : (ls ms : List (List ℕ)) → lines_text (ls ++ ms) ≡ lines_text ls ++ lines_text ms
lines_append [] ms = refl
lines_append (l ∷ ls) ms = ap (λ t. l ++ 10 ∷ t) (lines_append ls ms) ∙ sym (append_assoc l (10 ∷ lines_text ls) (lines_text ms))

module _ (s : Script) where
  -- the text of lines
  abbrev pub told : List Line → List ℕ
  told ls = rows_text (flat_map (line_rows s) ls)

  told-push : (ls : List Line) (l : Line) → told (ls ++ l ∷ []) ≡ told ls ++ rows_text (line_rows s l)
  told-push ls l =
      ap rows_text (flat_map-append (line_rows s) ls (l ∷ []) ∙ ap (λ t. flat_map (line_rows s) ls ++ t) (append-nil (line_rows s l))) ∙ rows_append (flat_map (line_rows s) ls) (line_rows s l)

  -- the rows of an open attempt are in order
  pub record IsOrdered (o : Open) : Type 0 where
    pub conds : AllByRecursion (Below o.next) o.attempt.conds
    pub gots : AllByRecursion (GotBelow o.next) o.attempt.gots

  abbrev pub IsLast : Option Open → Type 0
  IsLast None = Unit {0}
  IsLast (Some o) = IsOrdered o

  pub cond_more : (table : List (List Marks)) (o p : Open) (c : ℕ × Bool) → IsOrdered o → with_cond table o c ≡ Some p
      → IsOrdered p × (rows_text (line_rows s (line.Try p.attempt)) ≡ rows_text (line_rows s (line.Try o.attempt)) ++ rows_text (cond_row c ∷ []))
  unfolding with_cond
  cond_more table o p c h e =
      let t = tested (asked table o.attempt.id c.0 && leb o.next (c.0 * 2)) (cond_added o c) p e in
      let le = at_most o.next (c.0 * 2) (both (asked table o.attempt.id c.0) (leb o.next (c.0 * 2)) t.0).1 in
      let conds = all-push (λ (d : ℕ × Bool). d.0 * 2) (c.0 * 2 + 1) o.attempt.conds c (all-below (λ (d : ℕ × Bool). d.0 * 2) o.next (c.0 * 2 + 1) o.attempt.conds (omega (arith, le)) h.conds) (omega arith) in
      let gots = all-below (λ (g : ℕ × Answer). g.0 * 2 + 1) o.next (c.0 * 2 + 1) o.attempt.gots (omega (arith, le)) h.gots in
      let rows = ap (λ t. rows_text (try_row s o.attempt ∷ t)) (details-cond o.attempt.conds o.attempt.gots c gots)
      ∙ rows_append (try_row s o.attempt ∷ detail_rows o.attempt.conds o.attempt.gots) (cond_row c ∷ []) in
      let P : Open → Type 0 = λ q. IsOrdered q × (rows_text (line_rows s (line.Try q.attempt)) ≡ rows_text (line_rows s (line.Try o.attempt)) ++ rows_text (cond_row c ∷ [])) in
      subst P t.1 (record { conds = conds; gots = gots }, rows)

  pub got_more : (table : List (List Marks)) (o p : Open) (g : ℕ × Answer) → IsOrdered o → with_got table o g ≡ Some p
      → IsOrdered p × (rows_text (line_rows s (line.Try p.attempt)) ≡ rows_text (line_rows s (line.Try o.attempt)) ++ rows_text (got_row g ∷ []))
  unfolding with_got
  got_more table o p g h e =
      let fits = leb o.next (g.0 * 2 + 1) in
      let t = tested (reads table o.attempt.id g.0 && fits && answer_fits (unit_at table o.attempt.id g.0) g.1) (got_added o g) p e in
      let le = at_most o.next (g.0 * 2 + 1) (both (reads table o.attempt.id g.0) fits (both (reads table o.attempt.id g.0 && fits) (answer_fits (unit_at table o.attempt.id g.0) g.1) t.0).0).1 in
      let conds = all-below (λ (d : ℕ × Bool). d.0 * 2) o.next (g.0 * 2 + 1) o.attempt.conds le h.conds in
      let more = all-below (λ (d : ℕ × Bool). d.0 * 2) (g.0 * 2 + 1) (g.0 * 2 + 2) o.attempt.conds (omega arith) conds in
      let gots = all-push (λ (k : ℕ × Answer). k.0 * 2 + 1) (g.0 * 2 + 2) o.attempt.gots g (all-below (λ (k : ℕ × Answer). k.0 * 2 + 1) o.next (g.0 * 2 + 2) o.attempt.gots (omega (arith, le)) h.gots) (omega arith) in
      let rows = ap (λ t. rows_text (try_row s o.attempt ∷ t)) (details-got o.attempt.conds o.attempt.gots g conds)
      ∙ rows_append (try_row s o.attempt ∷ detail_rows o.attempt.conds o.attempt.gots) (got_row g ∷ []) in
      let P : Open → Type 0 = λ q. IsOrdered q × (rows_text (line_rows s (line.Try q.attempt)) ≡ rows_text (line_rows s (line.Try o.attempt)) ++ rows_text (got_row g ∷ [])) in
      subst P t.1 (record { conds = more; gots = gots }, rows)

  -- what was read, with a row more
  abbrev pub Adds : Reading → List ℕ → Reading → Type 0
  Adds r text next = IsLast next.last × (told (lines_of next.lines next.last) ≡ told (lines_of r.lines r.last) ++ text)

  try_adds : (table : List (List Marks)) (r next : Reading) (a : Attempt) → with_try s table r a ≡ Some next → Adds r (rows_text (try_row s a ∷ [])) next
  unfolding with_try
  try_adds table r next a e =
      let made : Reading = record { lines = lines_of r.lines r.last; last = some_open a; next_stop = r.next_stop; down = r.down } in
      let t = tested (attempt_fits s table a) made next e in
      let bare = both (eqb (length a.conds) 0) (eqb (length a.gots) 0) (both (is_bare a) (outcome_fits_in s table (ops_of table a.id) a.outcome) t.0).0 in
      let no_conds = empty a.conds bare.0 in
      let no_gots = empty a.gots bare.1 in
      let open_ordered : IsOrdered (record { attempt = a; next = 0 }) =
      record { conds = subst (AllByRecursion (Below 0)) (sym no_conds) tt; gots = subst (AllByRecursion (GotBelow 0)) (sym no_gots) tt } in
      let none : detail_rows a.conds a.gots ≡ [] = ap (λ g. detail_rows a.conds g) no_gots ∙ ap (λ c. detail_rows c []) no_conds in
      let rows = told-push (lines_of r.lines r.last) (line.Try a) ∙ ap (λ t. told (lines_of r.lines r.last) ++ rows_text (try_row s a ∷ t)) none in
      subst (Adds r (rows_text (try_row s a ∷ []))) t.1 (open_ordered, rows)

  line_adds : (r next : Reading) (l : Line) → with_line s r l ≡ Some next → Adds r (rows_text (line_rows s l)) next
  unfolding with_line
  line_adds r next l e =
      let made : Reading = record { lines = lines_of r.lines r.last ++ l ∷ []; last = None; next_stop = stop_after r.next_stop l; down = down_after r.down l } in
      let t = tested (line_fits s r.next_stop l) made next e in
      subst (Adds r (rows_text (line_rows s l))) t.1 (tt, told-push (lines_of r.lines r.last) l)

  -- the open attempt with more rows
  last_adds : (r : Reading) (o p : Open) (text : List ℕ) → r.last ≡ Some o → IsOrdered p
      → rows_text (line_rows s (line.Try p.attempt)) ≡ rows_text (line_rows s (line.Try o.attempt)) ++ text → Adds r text (reopened r p)
  last_adds r o p text e h rows =
      let before = told-push r.lines (line.Try o.attempt) in
      let was : told (lines_of r.lines r.last) ≡ told r.lines ++ rows_text (line_rows s (line.Try o.attempt)) = ap (λ l. told (lines_of r.lines l)) e ∙ before in (
        h,
        told-push r.lines (line.Try p.attempt) ∙ ap (λ t. told r.lines ++ t) rows ∙ sym (append_assoc (told r.lines) (rows_text (line_rows s (line.Try o.attempt))) text) ∙ ap (λ t. t ++ text) (sym was),
      )

  same_reading : (a b : Reading) → Some a ≡ Some b → a ≡ b
  same_reading a b e = cc

  cond_adds : (table : List (List Marks)) (r next : Reading) (c : ℕ × Bool) → IsLast r.last → with_cond_last table r r.last c ≡ Some next → Adds r (rows_text (cond_row c ∷ [])) next
  cond_adds table r next c h e = go r.last refl h e
    where
      go : (x : Option Open) → r.last ≡ x → IsLast x → with_cond_last table r x c ≡ Some next → Adds r (rows_text (cond_row c ∷ [])) next
      go None i h e = absurd cc
      go (Some o) i h e =
          let t = then_some (with_cond table o c) (λ p. Some (reopened r p)) next e in
          let more = cond_more table o t.0 c h t.1 in
          subst (Adds r (rows_text (cond_row c ∷ []))) (same_reading (reopened r t.0) next t.2) (last_adds r o t.0 (rows_text (cond_row c ∷ [])) i more.0 more.1)

  got_adds : (table : List (List Marks)) (r next : Reading) (g : ℕ × Answer) → IsLast r.last → with_got_last table r r.last g ≡ Some next → Adds r (rows_text (got_row g ∷ [])) next
  got_adds table r next g h e = go r.last refl h e
    where
      go : (x : Option Open) → r.last ≡ x → IsLast x → with_got_last table r x g ≡ Some next → Adds r (rows_text (got_row g ∷ [])) next
      go None i h e = absurd cc
      go (Some o) i h e =
          let t = then_some (with_got table o g) (λ p. Some (reopened r p)) next e in
          let more = got_more table o t.0 g h t.1 in
          subst (Adds r (rows_text (got_row g ∷ []))) (same_reading (reopened r t.0) next t.2) (last_adds r o t.0 (rows_text (got_row g ∷ [])) i more.0 more.1)

  pub put_adds : (table : List (List Marks)) (r next : Reading) (t : Told) → IsLast r.last → put s table r t ≡ Some next → Adds r (told_text s t) next
  put_adds table r next (Try a) h e = try_adds table r next a e
  put_adds table r next (Cond c) h e = cond_adds table r next c h e
  put_adds table r next (Got g) h e = got_adds table r next g h e
  put_adds table r next (Other l) h e = line_adds r next l e

  -- ---- lines

  abbrev pub head : List ℕ
  head = rows_text (head_row s.targets ∷ [])

  -- the lines so far spell what was read
  abbrev pub IsRead : Stage → List (List ℕ) → Type 0
  IsRead Start done = done ≡ []
  IsRead (Inside r) done = IsLast r.last × (lines_text done ≡ head ++ told (lines_of r.lines r.last))
  IsRead (Ended q) done = lines_text done ≡ report_text s q
  IsRead (Whole q) done = (lines : List (List ℕ)) × (done ≡ lines ++ [] ∷ []) × (lines_text lines ≡ report_text s q)

  head_read : (stage : Stage) (done : List (List ℕ)) (l : List ℕ) → at_head s l ≡ Some stage → done ≡ [] → IsRead stage (done ++ l ∷ [])
  unfolding at_head
  head_read stage done l e f =
      let t = tested (bytes_eq (row_line (head_row s.targets)) l) (Inside nothing_read) stage e in
      let same = same_bytes (row_line (head_row s.targets)) l t.0 in
      let text : lines_text (done ++ l ∷ []) ≡ head ++ told [] = ap (λ d. lines_text (d ++ l ∷ [])) f ∙ ap (λ x. x ++ 10 ∷ []) (sym same) ∙ sym (append-nil head) in
      subst (λ x. IsRead x (done ++ l ∷ [])) t.1 (tt, text)

  pub end_read : (r : Reading) (stage : Stage) (done : List (List ℕ)) (l : List ℕ) → l ≡ row_line (end_row r.down) → at_end s r ≡ Some stage
      → lines_text done ≡ head ++ told (lines_of r.lines r.last) → IsRead stage (done ++ l ∷ [])
  unfolding at_end report_text report_rows
  end_read r stage done l i e f =
      let rows = flat_map (line_rows s) (lines_of r.lines r.last) in
      let last : List ℕ = rows_text (end_row r.down ∷ []) in
      let text = lines_append done (l ∷ []) ∙ ap (λ x. lines_text done ++ (x ++ 10 ∷ [])) i ∙ ap (λ x. x ++ last) (f ∙ sym (rows_append (head_row s.targets ∷ []) rows)) ∙ sym (rows_append (head_row s.targets ∷ rows) (end_row r.down ∷ [])) in
      let same : Ended (report_read s r) ≡ stage = cc in
      subst (λ x. IsRead x (done ++ l ∷ [])) same text

  -- what a line tells is what its words tell, and spelled as the line
  pub told_in_says : (l : List ℕ) (t : Told) → told_in s l ≡ Some t → (told_of s (parts_of 32 l) ≡ Some t) × (told_text s t ≡ l ++ 10 ∷ [])
  unfolding told_in
  told_in_says l t e =
      let a = then_some (told_of s (parts_of 32 l)) (λ read. spelled s l read) t e in
      let b = tested (bytes_eq (told_text s a.0) (l ++ 10 ∷ [])) a.0 t a.2 in
      (a.1 ∙ ap (λ x. Some x) b.1, ap (told_text s) (sym b.1) ∙ same_bytes (told_text s a.0) (l ++ 10 ∷ []) b.0)

  row_read : (table : List (List Marks)) (r : Reading) (stage : Stage) (done : List (List ℕ)) (l : List ℕ) → row_of s table r l ≡ Some stage → IsLast r.last
      → lines_text done ≡ head ++ told (lines_of r.lines r.last) → IsRead stage (done ++ l ∷ [])
  unfolding row_of
  row_read table r stage done l e h f =
      let b = then_some (told_in s l) (λ t. put s table r t >>= λ next. Some (Inside next)) stage e in
      let c = then_some (put s table r b.0) (λ next. Some (Inside next)) stage b.2 in
      let adds = put_adds table r c.0 b.0 h c.1 in
      let line : l ++ 10 ∷ [] ≡ told_text s b.0 = sym (told_in_says l b.0 b.1).1 in
      let text = lines_append done (l ∷ []) ∙ ap (λ x. lines_text done ++ x) line ∙ ap (λ x. x ++ told_text s b.0) f
      ∙ append_assoc head (told (lines_of r.lines r.last)) (told_text s b.0) ∙ ap (λ x. head ++ x) (sym adds.1) in
      let same : Inside c.0 ≡ stage = some_stage (Inside c.0) stage c.2 in
      subst (λ x. IsRead x (done ++ l ∷ [])) same (adds.0, text)
    where
      some_stage : (a b : Stage) → Some a ≡ Some b → a ≡ b
      some_stage a b e = cc

  next_read : (table : List (List Marks)) (stage next : Stage) (done : List (List ℕ)) (l : List ℕ) → next_of s table stage l ≡ Some next → IsRead stage done → IsRead next (done ++ l ∷ [])
  next_read table Start next done l e h = head_read next done l e h
  next_read table (Inside r) next done l e h = go (bytes_eq l (row_line (end_row r.down))) refl e
    where
      go : (b : Bool) → bytes_eq l (row_line (end_row r.down)) ≡ b → cond b (at_end s r) (row_of s table r l) ≡ Some next → IsRead next (done ++ l ∷ [])
      go true i e = end_read r next done l (same_bytes l (row_line (end_row r.down)) i) e h.1
      go false i e = row_read table r next done l e h.0 h.1
  next_read table (Ended q) next done l e h =
      let t = tested (eqb (length l) 0) (Whole q) next e in
      subst (λ x. IsRead x (done ++ l ∷ [])) t.1 (done, ap (λ x. done ++ x ∷ []) (empty l t.0), h)
  next_read table (Whole q) next done l e h = absurd cc

  step_read : (table : List (List Marks)) (at : ℕ) (stage next : Stage) (done : List (List ℕ)) (l : List ℕ) → step s table at stage l ≡ Ok next → IsRead stage done → IsRead next (done ++ l ∷ [])
  unfolding step
  step_read table at stage next done l e h = go (next_of s table stage l) refl e
    where
      go : (o : Option Stage) → next_of s table stage l ≡ o → or_bad_line (bad_at at stage) o ≡ Ok next → IsRead next (done ++ l ∷ [])
      go None i e = absurd cc
      go (Some x) i e = let same : x ≡ next = cc in next_read table stage next done l (i ∙ ap (λ y. Some y) same) h

  pub steps_read : (table : List (List Marks)) (at : ℕ) (stage last : Stage) (done ls : List (List ℕ)) → steps (step s table) at stage ls ≡ Ok last → IsRead stage done → IsRead last (done ++ ls)
  unfolding steps
  steps_read table at stage last done [] e h = let same : stage ≡ last = cc in subst (IsRead last) (sym (append-nil done)) (subst (λ x. IsRead x done) same h)
  steps_read table at stage last done (l ∷ ls) e h = go (step s table at stage l) refl e (λ x i k. steps_read table (at + 1) x last (done ++ l ∷ []) ls k (step_read table at stage x done l i h))
    where
      go : (o : Result Stage ℕ) → step s table at stage l ≡ o → result.◌>>=◌ o (λ x. steps (step s table) (at + 1) x ls) ≡ Ok last
          → ((x : Stage) → step s table at stage l ≡ Ok x → steps (step s table) (at + 1) x ls ≡ Ok last → IsRead last ((done ++ l ∷ []) ++ ls)) → IsRead last (done ++ l ∷ ls)
      go (Err n) i e k = absurd cc
      go (Ok x) i e k = subst (IsRead last) (append_assoc done (l ∷ []) ls) (k x i e)

  -- a report that is read has the text
  pub read_is_spelled : (bytes : List ℕ) (q : Report) → report_of s bytes ≡ Ok q → bytes ≡ report_text s q
  unfolding report_of
  read_is_spelled bytes q e = go (steps (step s (table_of s)) 1 Start (parts_of 10 bytes)) refl e
    where
      whole : (stage : Stage) → finished (length (parts_of 10 bytes)) stage ≡ Ok q → IsRead stage (parts_of 10 bytes) → bytes ≡ report_text s q
      whole Start e h = absurd cc
      whole (Inside r) e h = absurd cc
      whole (Ended r) e h = absurd cc
      whole (Whole r) e h =
          let same : r ≡ q = cc in
          rows_are_texts.text_of_lines bytes h.0 h.1 ∙ h.2 ∙ ap (report_text s) same

      go : (o : Result Stage ℕ) → steps (step s (table_of s)) 1 Start (parts_of 10 bytes) ≡ o → result.◌>>=◌ o (finished (length (parts_of 10 bytes))) ≡ Ok q → bytes ≡ report_text s q
      go (Err n) i e = absurd cc
      go (Ok stage) i e = whole stage e (steps_read (table_of s) 1 Start stage [] (parts_of 10 bytes) i refl)
