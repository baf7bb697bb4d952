-- The text of each report for a script is read back.
use Rattle.std.proofs.Common.{◌≡◌, ℕ, ◌+◌, ◌*◌, ◌^◌, ◌<◌, ◌≤◌, min, Bool, true, false, cond, leb, ltb, eqb, List, [], ◌∷◌, ◌++◌, length, map, flat_map, Option, Some, None, Result, Ok, Err, refl, sym, ap, subst, ◌∙◌, append_assoc, append-nil, arith}
use Rattle.std.specs.Str.{bytes_eq}
use Rattle.std.specs.List.{AllByRecursion}
use Rattle.std.proofs.lemmas.Bool.Decides.{nat_tests}
use Rattle.std.proofs.lemmas.List.{map-append}
use Rattle.std.proofs.lemmas.List.Elements.{recursion_from_All}
use Rattle.std.proofs.lemmas.Slice.Eq.{bytes_eq-Decides}
use Rattle.base_types.specs.declared.answer.Answer.{Answer}
use Rattle.base_types.specs.declared.report.Attempt.{Attempt}
use Rattle.base_types.specs.declared.report.Line.{Line}
use Rattle.base_types.specs.declared.report.Line.TheVariants as line
use Rattle.base_types.specs.declared.report.Report.{Report}
use Rattle.base_types.specs.declared.script.Script.{Script}
use Rattle.base_text.specs.Parts.{parts_of}
use Rattle.base_text.specs.Results as result
use Rattle.base_text.specs.RowLaws.{rows_are_texts}
use Rattle.base_text.specs.Rows.{Words, IsRow, row_line, line_words, rows_text}
use Rattle.base_text.specs.Steps.{steps}
use Rattle.report_writer.specs.Forms.{IsCond, IsGot, IsLineOf, IsReportOf, least_down}
use Rattle.report_writer.specs.Forms as form
use Rattle.report_writer.specs.Reports.{cond_row, conds_after, conds_until, detail_rows, end_row, got_row, head_row, line_rows, report_rows, report_text, try_row}
use Rattle.report_writer.proofs.Again.{conds_after_kept, conds_until_kept, until_and_after}
use Rattle.report_writer.proofs.Inner.{answer_inner, end_inner, line_inner, report_inner, try_inner, u8_inner, yes_inner}
use Rattle.report_writer.proofs.Law.{same_reports}
use Rattle.report_grammar.specs.declared.rows.Told.{Told}
use Rattle.report_grammar.specs.declared.rows.Told.TheVariants.{Try, Cond, Got, Other}
use Rattle.report_grammar.specs.Rows.{told_of}
use Rattle.report_reader.specs.declared.reading.Reading.{Reading}
use Rattle.report_reader.specs.declared.report.Stage.{Stage}
use Rattle.report_reader.specs.declared.report.Stage.TheVariants.{Start, Inside, Ended, Whole}
use Rattle.report_reader.specs.Law.{IsAttemptIn, IsGotIn, IsLineIn, IsReportFor, RiseFrom, StopsFrom}
use Rattle.report_reader.specs.Marks.{Marks, table_of}
use Rattle.report_reader.specs.Reading.{asked, at_end, at_head, down_after, lesser, lines_of, next_of, nothing_read, put, report_of, report_read, row_of, step, stop_after, with_cond, with_got, with_line, with_try}
use Rattle.report_reader.specs.Told.{told_in, line_fits, told_text}
use Rattle.report_reader.proofs.Again.{aggregate_back, alone, cond_back, down_back, freeze_back, got_back, restart_back, snapshot_back, stop_back, try_back}

-- ---- numbers

upto : (a b : ℕ) → a ≤ b → leb a b ≡ true
upto a b le = grind (arith, nat_tests)

pub below : (a b : ℕ) → a < b → ltb a b ≡ true
below a b lt = grind (arith, nat_tests)

same_number : (a b : ℕ) → a ≡ b → eqb a b ≡ true
same_number a b e = grind (arith, nat_tests)

-- ---- the order of rows

abbrev pub places : {A : Type 0} → List (ℕ × A) → List ℕ
places xs = map (λ x. x.0) xs

until_rises : (op m : ℕ) (cs : List (ℕ × Bool)) → RiseFrom m (places cs) → RiseFrom m (places (conds_until op cs))
until_rises op m [] h = tt
until_rises op m (c ∷ cs) h = go (leb c.0 op) (until_rises op (c.0 + 1) cs h.1)
  where
    go : (b : Bool) → RiseFrom (c.0 + 1) (places (conds_until op cs)) → RiseFrom m (places (cond b (c ∷ conds_until op cs) []))
    go true ih = (h.0, ih)
    go false ih = tt

after_rises : (op m : ℕ) (cs : List (ℕ × Bool)) → RiseFrom m (places cs) → RiseFrom (op + 1) (places (conds_after op cs))
after_rises op m [] h = tt
after_rises op m (c ∷ cs) h = go (leb c.0 op) refl (after_rises op (c.0 + 1) cs h.1)
  where
    go : (b : Bool) → leb c.0 op ≡ b → RiseFrom (op + 1) (places (conds_after op cs)) → RiseFrom (op + 1) (places (cond b (conds_after op cs) (c ∷ cs)))
    go true e ih = ih
    go false e ih = let lt : op + 1 ≤ c.0 = grind (arith, nat_tests) in (lt, h.1)

abbrev Upto : ℕ → ℕ × Bool → Type 0
Upto op c = c.0 ≤ op

until_upto : (op : ℕ) (cs : List (ℕ × Bool)) → AllByRecursion (Upto op) (conds_until op cs)
until_upto op [] = tt
until_upto op (c ∷ cs) = go (leb c.0 op) refl (until_upto op cs)
  where
    go : (b : Bool) → leb c.0 op ≡ b → AllByRecursion (Upto op) (conds_until op cs) → AllByRecursion (Upto op) (cond b (c ∷ conds_until op cs) [])
    go true e ih = let le : c.0 ≤ op = grind (arith, nat_tests) in (le, ih)
    go false e ih = tt

-- the least place of a row behind conditions
abbrev place_after : ℕ → List (ℕ × Bool) → ℕ
place_after n [] = n
place_after n (c ∷ cs) = place_after (c.0 * 2 + 1) cs

place_bound : (op n : ℕ) (cs : List (ℕ × Bool)) → n ≤ op * 2 + 1 → AllByRecursion (Upto op) cs → place_after n cs ≤ op * 2 + 1
place_bound op n [] le h = le
place_bound op n (c ∷ cs) le h = place_bound op (c.0 * 2 + 1) cs (omega (arith, h.0)) h.1

-- ---- one line more

pub then_steps : {S A F : Type 0} (f : ℕ → S → A → Result S F) (at : ℕ) (s t : S) (r : Result S F) (xs ys : List A) → steps f at s xs ≡ Ok t → steps f (at + length xs) t ys ≡ r → steps f at s (xs ++ ys) ≡ r
unfolding steps
then_steps {S = S} {F = F} f at s t r [] ys e h = let same : s ≡ t = cc in let here : at + 0 ≡ at = omega arith in subst (λ z. steps f at z ys ≡ r) (sym same) (subst (λ n. steps f n t ys ≡ r) here h)
then_steps {S = S} {F = F} f at s t r (x ∷ xs) ys e h = go (f at s x) refl e (λ u k. then_steps f (at + 1) u t r xs ys k (subst (λ n. steps f n t ys ≡ r) there h))
  where
    there : at + length (x ∷ xs) ≡ at + 1 + length xs
    there = omega arith

    go : (o : Result S F) → f at s x ≡ o → result.◌>>=◌ o (λ u. steps f (at + 1) u xs) ≡ Ok t → ((u : S) → steps f (at + 1) u xs ≡ Ok t → steps f (at + 1) u (xs ++ ys) ≡ r)
        → result.◌>>=◌ (f at s x) (λ u. steps f (at + 1) u (xs ++ ys)) ≡ r
    go (Err n) i e k = absurd cc
    go (Ok u) i e k = rw i (k u e)

module _ (s : Script) where
  abbrev table : List (List Marks)
  table = table_of s

  -- one line after another leads from a stage to a stage
  abbrev Leads : Stage → List (List ℕ) → Stage → Type 0
  Leads stage ls next = (at : ℕ) → steps (step s table) at stage ls ≡ Ok next

  leads-nothing : (stage : Stage) → Leads stage [] stage
  unfolding steps
  leads-nothing stage = λ at. refl

  leads-one : (stage next : Stage) (l : List ℕ) → next_of s table stage l ≡ Some next → Leads stage (l ∷ []) next
  unfolding steps step
  leads-one stage next l e = λ at. rw e refl

  leads-on : (stage next last : Stage) (ls ms : List (List ℕ)) → Leads stage ls next → Leads next ms last → Leads stage (ls ++ ms) last
  leads-on stage next last ls ms h k = λ at. then_steps (step s table) at stage next (Ok last) ls ms (h at) (k (at + length ls))

  -- rows that are read one after another
  abbrev Tells : Reading → List Words → Reading → Type 0
  Tells r rows next = Leads (Inside r) (map row_line rows) (Inside next)

  tells-on : (r t u : Reading) (rows more : List Words) → Tells r rows t → Tells t more u → Tells r (rows ++ more) u
  tells-on r t u rows more h k =
      subst (λ ls. Leads (Inside r) ls (Inside u)) (sym (map-append row_line rows more)) (leads-on (Inside r) (Inside t) (Inside u) (map row_line rows) (map row_line more) h k)

  no_end : (down : Option ℕ) → told_of s (end_row down) ≡ None
  unfolding told_of
  no_end None = refl
  no_end (Some target) = refl

  -- a row that tells something is no end
  not_end : (down : Option ℕ) (row : Words) (t : Told) → IsRow row → told_of s row ≡ Some t → bytes_eq (row_line row) (row_line (end_row down)) ≡ false
  not_end down row t h e = go (bytes_eq (row_line row) (row_line (end_row down))) refl
    where
      some_or_none : (x : Option Told) → x ≡ Some t → x ≡ None → ⊥
      some_or_none x e f = absurd cc

      go : (b : Bool) → bytes_eq (row_line row) (row_line (end_row down)) ≡ b → b ≡ false
      go false i = refl
      go true i =
          let lines : row_line row ≡ row_line (end_row down) = (bytes_eq-Decides (row_line row) (row_line (end_row down))).0 i in
          let same : row ≡ end_row down = sym (rows_are_texts.words_of_row row h) ∙ ap line_words lines ∙ rows_are_texts.words_of_row (end_row down) (end_inner down) in
          absurd (some_or_none (told_of s row) e (ap (told_of s) same ∙ no_end down))

  same_text : (w : List ℕ) → bytes_eq w w ≡ true
  same_text w = (bytes_eq-Decides w w).1 refl

  -- a row that is spelled as what it tells, and what that adds
  one_row : (r next : Reading) (row : Words) (t : Told) → IsRow row → told_of s row ≡ Some t → told_text s t ≡ rows_text (row ∷ []) → put s table r t ≡ Some next → Tells r (row ∷ []) next
  unfolding row_of told_in
  one_row r next row t h e text adds = leads-one (Inside r) (Inside next) (row_line row) (rw (not_end r.down row t h e) told)
    where
      words : told_of s (parts_of 32 (row_line row)) ≡ Some t
      words = ap (told_of s) (rows_are_texts.words_of_row row h) ∙ e

      same : bytes_eq (told_text s t) (row_line row ++ 10 ∷ []) ≡ true
      same = ap (λ w. bytes_eq w (row_line row ++ 10 ∷ [])) text ∙ same_text (row_line row ++ 10 ∷ [])

      told : row_of s table r (row_line row) ≡ Some (Inside next)
      told = rw (words, same, adds) refl

  -- ---- the rows of an attempt

  module _ (lines : List Line) (next_stop down : Option ℕ) (a : Attempt) where
    -- the attempt behind lines, with the conditions and answers read so far, and the least place of a further one
    abbrev so_far : List (ℕ × Bool) → List (ℕ × Answer) → ℕ → Reading
    so_far cs gs n = record {
      lines = lines;
      last = Some (record { attempt = record a { conds = cs; gots = gs }; next = n });
      next_stop = next_stop;
      down = down;
    }

    cond_tells : (cs : List (ℕ × Bool)) (gs : List (ℕ × Answer)) (n : ℕ) (c : ℕ × Bool) → IsCond c → asked table a.id c.0 ≡ true → n ≤ c.0 * 2
        → Tells (so_far cs gs n) (cond_row c ∷ []) (so_far (cs ++ c ∷ []) gs (c.0 * 2 + 1))
    unfolding with_cond
    cond_tells cs gs n c h has le = one_row (so_far cs gs n) (so_far (cs ++ c ∷ []) gs (c.0 * 2 + 1)) (cond_row c) (Cond c) (refl, (u8_inner c.0 h, (yes_inner c.1, tt))) (cond_back s c h) refl adds
      where
        adds : put s table (so_far cs gs n) (Cond c) ≡ Some (so_far (cs ++ c ∷ []) gs (c.0 * 2 + 1))
        adds = rw (has, upto n (c.0 * 2) le) refl

    got_tells : (cs : List (ℕ × Bool)) (gs : List (ℕ × Answer)) (n : ℕ) (g : ℕ × Answer) → IsGot g → IsGotIn s a.id g → n ≤ g.0 * 2 + 1
        → Tells (so_far cs gs n) (got_row g ∷ []) (so_far cs (gs ++ g ∷ []) (g.0 * 2 + 2))
    unfolding with_got
    got_tells cs gs n g h k le = one_row (so_far cs gs n) (so_far cs (gs ++ g ∷ []) (g.0 * 2 + 2)) (got_row g) (Got g) (refl, (u8_inner g.0 h.op, answer_inner g.1 h.answer)) (got_back s g h k.values) refl adds
      where
        adds : put s table (so_far cs gs n) (Got g) ≡ Some (so_far cs (gs ++ g ∷ []) (g.0 * 2 + 2))
        adds = rw (k.reads, upto n (g.0 * 2 + 1) le, k.fits) refl

    abbrev Asked : ℕ × Bool → Type 0
    Asked c = asked table a.id c.0 ≡ true

    conds_tell : (cs ds : List (ℕ × Bool)) (gs : List (ℕ × Answer)) (n m : ℕ) → n ≤ m * 2 → RiseFrom m (places ds) → AllByRecursion IsCond ds → AllByRecursion Asked ds
        → Tells (so_far cs gs n) (map cond_row ds) (so_far (cs ++ ds) gs (place_after n ds))
    conds_tell cs [] gs n m le rise h k = subst (λ t. Tells (so_far cs gs n) [] (so_far t gs n)) (sym (append-nil cs)) (leads-nothing (Inside (so_far cs gs n)))
    conds_tell cs (d ∷ ds) gs n m le rise h k =
        let first = cond_tells cs gs n d h.0 k.0 (omega (arith, le, rise.0)) in
        let rest = conds_tell (cs ++ d ∷ []) ds gs (d.0 * 2 + 1) (d.0 + 1) (omega arith) rise.1 h.1 k.1 in
        subst (λ t. Tells (so_far cs gs n) (map cond_row (d ∷ ds)) (so_far t gs (place_after (d.0 * 2 + 1) ds))) (append_assoc cs (d ∷ []) ds)
        (tells-on (so_far cs gs n) (so_far (cs ++ d ∷ []) gs (d.0 * 2 + 1)) (so_far ((cs ++ d ∷ []) ++ ds) gs (place_after (d.0 * 2 + 1) ds)) (cond_row d ∷ []) (map cond_row ds) first rest)

    details_tell : (cs ds : List (ℕ × Bool)) (gs hs : List (ℕ × Answer)) (n m k : ℕ) → n ≤ m * 2 → n ≤ k * 2 + 1 → RiseFrom m (places ds) → RiseFrom k (places hs)
        → AllByRecursion IsCond ds → AllByRecursion Asked ds → AllByRecursion IsGot hs → AllByRecursion (IsGotIn s a.id) hs
        → (last : ℕ) × Tells (so_far cs gs n) (detail_rows ds hs) (so_far (cs ++ ds) (gs ++ hs) last)
    details_tell cs ds gs [] n m k le la rise up c1 c2 g1 g2 =
        (place_after n ds, subst (λ t. Tells (so_far cs gs n) (map cond_row ds) (so_far (cs ++ ds) t (place_after n ds))) (sym (append-nil gs)) (conds_tell cs ds gs n m le rise c1 c2))
    details_tell cs ds gs (h ∷ hs) n m k le la rise up c1 c2 g1 g2 =
        let until = conds_until h.0 ds in
        let after = conds_after h.0 ds in
        let whole : (cs ++ until) ++ after ≡ cs ++ ds = append_assoc cs until after ∙ ap (λ t. cs ++ t) (until_and_after h.0 ds) in
        let first = conds_tell cs until gs n m le (until_rises h.0 m ds rise) (conds_until_kept IsCond h.0 ds c1) (conds_until_kept Asked h.0 ds c2) in
        let bound = place_bound h.0 n until (omega (arith, la, up.0)) (until_upto h.0 ds) in
        let one = got_tells (cs ++ until) gs (place_after n until) h g1.0 g2.0 bound in
        let rest = details_tell (cs ++ until) after (gs ++ h ∷ []) hs (h.0 * 2 + 2) (h.0 + 1) (h.0 + 1) (omega arith) (omega arith) (after_rises h.0 m ds rise) up.1
        (conds_after_kept IsCond h.0 ds c1) (conds_after_kept Asked h.0 ds c2) g1.1 g2.1 in
        let all = tells-on (so_far cs gs n) (so_far (cs ++ until) gs (place_after n until)) (so_far ((cs ++ until) ++ after) ((gs ++ h ∷ []) ++ hs) rest.0) (map cond_row until) (got_row h ∷ detail_rows after hs) first
        (tells-on (so_far (cs ++ until) gs (place_after n until)) (so_far (cs ++ until) (gs ++ h ∷ []) (h.0 * 2 + 2)) (so_far ((cs ++ until) ++ after) ((gs ++ h ∷ []) ++ hs) rest.0) (got_row h ∷ []) (detail_rows after hs) one rest.1) in (
          rest.0,
          subst (λ t. Tells (so_far cs gs n) (detail_rows ds (h ∷ hs)) (so_far t (gs ++ h ∷ hs) rest.0)) whole
              (subst (λ t. Tells (so_far cs gs n) (detail_rows ds (h ∷ hs)) (so_far ((cs ++ until) ++ after) t rest.0)) (append_assoc gs (h ∷ []) hs) all),
        )

  -- ---- lines

  -- what the rows of a line lead to
  record Told-by (r : Reading) (l : Line) : Type 0 where
    next : Reading
    tells : Tells r (line_rows s l) next
    lines : lines_of next.lines next.last ≡ lines_of r.lines r.last ++ l ∷ []
    stop : next.next_stop ≡ stop_after r.next_stop l
    down : next.down ≡ down_after r.down l

  abbrev IsNext : Option ℕ → Line → Type 0
  IsNext next (line.Try attempt) = Unit {0}
  IsNext next (line.Stop number target) = next ≡ Some number
  IsNext next (line.Restart number target incarnation floor) = Unit {0}
  IsNext next (line.Freeze target cont epoch) = Unit {0}
  IsNext next (line.Snapshot name cont epoch) = Unit {0}
  IsNext next (line.Aggregate number target cont upto) = Unit {0}
  IsNext next (line.Down target) = Unit {0}

  abbrev behind : Reading → Line → Reading
  behind r l = record { lines = lines_of r.lines r.last ++ l ∷ []; last = None; next_stop = stop_after r.next_stop l; down = down_after r.down l }

  -- a line of one row
  other_tells : (r : Reading) (l : Line) (row : Words) → line_rows s l ≡ row ∷ [] → IsRow row → told_of s row ≡ Some (Other l) → line_fits s r.next_stop l ≡ true → Told-by r l
  unfolding with_line
  other_tells r l row rows h e fits = record {
    next = behind r l;
    tells = subst (λ t. Tells r t (behind r l)) (sym rows) (one_row r (behind r l) row (Other l) h e (ap rows_text rows) adds);
    lines = refl;
    stop = refl;
    down = refl;
  }
    where
      adds : put s table r (Other l) ≡ Some (behind r l)
      adds = rw fits refl

  try_tells : (r : Reading) (a : Attempt) → IsLineOf s (line.Try a) → IsAttemptIn s a → Told-by r (line.Try a)
  unfolding with_try
  try_tells r a h k =
      let base = lines_of r.lines r.last in
      let opened : Reading = so_far base r.next_stop r.down a [] [] 0 in
      let first = one_row r opened (try_row s a) (Try (alone a)) (try_inner s a h) (try_back s a h) refl adds in
      let rest = details_tell base r.next_stop r.down a [] a.conds [] a.gots 0 0 0 (omega arith) (omega arith) k.conds_rise k.gots_rise (recursion_from_All IsCond a.conds h.conds)
      (recursion_from_All (λ c. asked table a.id c.0 ≡ true) a.conds k.conds) (recursion_from_All IsGot a.gots h.gots) (recursion_from_All (IsGotIn s a.id) a.gots k.gots) in
      record {
        next = so_far base r.next_stop r.down a a.conds a.gots rest.0;
        tells = tells-on r opened (so_far base r.next_stop r.down a a.conds a.gots rest.0) (try_row s a ∷ []) (detail_rows a.conds a.gots) first rest.1;
        lines = refl;
        stop = refl;
        down = refl;
      }
    where
      adds : put s table r (Try (alone a)) ≡ Some (so_far (lines_of r.lines r.last) r.next_stop r.down a [] [] 0)
      adds = rw k.ends refl

  line_tells : (r : Reading) (l : Line) → IsLineOf s l → IsLineIn s l → IsNext r.next_stop l → Told-by r l
  line_tells r (line.Try a) h k n = try_tells r a h k
  line_tells r (line.Stop number target) h k n = other_tells r (line.Stop number target) _ refl (line_inner s (line.Stop number target) h).0 (stop_back s number target h.0 h.1) (rw (n, same_number number number refl, below target s.targets k) refl)
  line_tells r (line.Restart number target incarnation floor) h k n =
      other_tells r (line.Restart number target incarnation floor) _ refl (line_inner s (line.Restart number target incarnation floor) h).0 (restart_back s number target incarnation floor h) (below target s.targets k)
  line_tells r (line.Freeze target cont epoch) h k n =
      other_tells r (line.Freeze target cont epoch) _ refl (line_inner s (line.Freeze target cont epoch) h).0 (freeze_back s target cont epoch h) (below target s.targets k)
  line_tells r (line.Snapshot name cont epoch) h k n =
      other_tells r (line.Snapshot name cont epoch) _ refl (line_inner s (line.Snapshot name cont epoch) h).0 (snapshot_back s name cont epoch h) k
  line_tells r (line.Aggregate number target cont upto) h k n =
      other_tells r (line.Aggregate number target cont upto) _ refl (line_inner s (line.Aggregate number target cont upto) h).0 (aggregate_back s number target cont upto h) (below target s.targets k)
  line_tells r (line.Down target) h k n = other_tells r (line.Down target) _ refl (line_inner s (line.Down target) h).0 (down_back s target h) (below target s.targets k)

  -- ---- all lines

  -- the number of the next stop, while it is one
  abbrev pub numbered : ℕ → Option ℕ
  numbered n = cond (ltb n (2 ^ 32)) (Some n) None

  -- the least target that is down behind lines
  abbrev pub down_of : Option ℕ → List Line → Option ℕ
  down_of down [] = down
  down_of down (l ∷ ls) = down_of (down_after down l) ls

  abbrev pub stops_of : ℕ → Line → ℕ
  stops_of n (line.Try attempt) = n
  stops_of n (line.Stop number target) = n + 1
  stops_of n (line.Restart number target incarnation floor) = n
  stops_of n (line.Freeze target cont epoch) = n
  stops_of n (line.Snapshot name cont epoch) = n
  stops_of n (line.Aggregate number target cont upto) = n
  stops_of n (line.Down target) = n

  is_next : (n : ℕ) (l : Line) (ls : List Line) (next : Option ℕ) → next ≡ numbered n → IsLineOf s l → StopsFrom n (l ∷ ls) → IsNext next l × (stop_after next l ≡ numbered (stops_of n l)) × StopsFrom (stops_of n l) ls
  is_next n (line.Try attempt) ls next e h k = (tt, e, k)
  is_next n (line.Stop number target) ls next e h k =
      let lt : n < 2 ^ 32 = omega (arith, k.0, h.0) in
      (e ∙ ap (λ b. cond b (Some n) None) (below n (2 ^ 32) lt) ∙ ap (λ m. Some m) (sym k.0), ap (λ m. numbered (m + 1)) k.0, k.1)
  is_next n (line.Restart number target incarnation floor) ls next e h k = (tt, e, k)
  is_next n (line.Freeze target cont epoch) ls next e h k = (tt, e, k)
  is_next n (line.Snapshot name cont epoch) ls next e h k = (tt, e, k)
  is_next n (line.Aggregate number target cont upto) ls next e h k = (tt, e, k)
  is_next n (line.Down target) ls next e h k = (tt, e, k)

  lines_tell : (r : Reading) (n : ℕ) (ls : List Line) → r.next_stop ≡ numbered n → AllByRecursion (IsLineOf s) ls → AllByRecursion (IsLineIn s) ls → StopsFrom n ls
      → (next : Reading) × Tells r (flat_map (line_rows s) ls) next × (lines_of next.lines next.last ≡ lines_of r.lines r.last ++ ls) × (next.down ≡ down_of r.down ls)
  lines_tell r n [] e h k st = (r, leads-nothing (Inside r), sym (append-nil (lines_of r.lines r.last)), refl)
  lines_tell r n (l ∷ ls) e h k st =
      let i = is_next n l ls r.next_stop e h.0 st in
      let first = line_tells r l h.0 k.0 i.0 in
      let rest = lines_tell first.next (stops_of n l) ls (first.stop ∙ i.1) h.1 k.1 i.2 in
      (rest.0, tells-on r first.next rest.0 (line_rows s l) (flat_map (line_rows s) ls) first.tells rest.1, rest.2 ∙ ap (λ t. t ++ ls) first.lines ∙ append_assoc (lines_of r.lines r.last) (l ∷ []) ls, rest.3 ∙ ap (λ d. down_of d ls) first.down)

-- ---- the least target that is down

abbrev joined : Option ℕ → Option ℕ → Option ℕ
joined None e = e
joined (Some t) e = form.lesser t e

lesser_is : (t v : ℕ) → cond (ltb v t) (Some v) (Some t) ≡ Some (min t v)
lesser_is t v = go (ltb v t) refl
  where
    go : (b : Bool) → ltb v t ≡ b → cond b (Some v) (Some t) ≡ Some (min t v)
    go true e = let is : v ≡ min t v = grind (arith, nat_tests) in ap (λ n. Some n) is
    go false e = let is : t ≡ min t v = grind (arith, nat_tests) in ap (λ n. Some n) is

least_joined : (d : Option ℕ) (t : ℕ) (e : Option ℕ) → joined (lesser d t) e ≡ joined d (form.lesser t e)
least_joined None t e = refl
least_joined (Some u) t None =
    let turn : min t u ≡ min u t = omega arith in
    ap (λ x. joined x None) (lesser_is t u) ∙ ap (λ n. Some n) turn ∙ sym (lesser_is u t)
least_joined (Some u) t (Some v) =
    let turn : min (min t u) v ≡ min u (min t v) = omega arith in
    ap (λ x. joined x (Some v)) (lesser_is t u) ∙ lesser_is (min t u) v ∙ ap (λ n. Some n) turn ∙ sym (ap (form.lesser u) (lesser_is t v) ∙ lesser_is u (min t v))

pub down_is : (s : Script) (d : Option ℕ) (ls : List Line) → down_of s d ls ≡ joined d (least_down ls)
down_is s None [] = refl
down_is s (Some t) [] = refl
down_is s d (line.Try attempt ∷ ls) = down_is s d ls
down_is s d (line.Stop number target ∷ ls) = down_is s d ls
down_is s d (line.Restart number target incarnation floor ∷ ls) = down_is s d ls
down_is s d (line.Freeze target cont epoch ∷ ls) = down_is s d ls
down_is s d (line.Snapshot name cont epoch ∷ ls) = down_is s d ls
down_is s d (line.Aggregate number target cont upto ∷ ls) = down_is s d ls
down_is s d (line.Down target ∷ ls) = down_is s (lesser d target) ls ∙ least_joined d target (least_down ls)

-- ---- the text

module _ (s : Script) (q : Report) (h : IsReportFor s q) where
  abbrev rows : List Words
  rows = flat_map (line_rows s) q.lines

  first_line : next_of s (table_of s) Start (row_line (head_row q.targets)) ≡ Some (Inside nothing_read)
  unfolding at_head
  first_line = rw (ap (λ n. bytes_eq (row_line (head_row s.targets)) (row_line (head_row n))) h.targets ∙ (bytes_eq-Decides (row_line (head_row s.targets)) (row_line (head_row s.targets))).1 refl) refl

  last_line : (r : Reading) → r.down ≡ q.down → next_of s (table_of s) (Inside r) (row_line (end_row q.down)) ≡ Some (Ended (report_read s r))
  unfolding at_end
  last_line r e = rw (ap (λ d. bytes_eq (row_line (end_row q.down)) (row_line (end_row d))) e ∙ (bytes_eq-Decides (row_line (end_row q.down)) (row_line (end_row q.down))).1 refl) refl

  all_lines : List (List ℕ)
  all_lines = row_line (head_row q.targets) ∷ (map row_line rows ++ row_line (end_row q.down) ∷ []) ++ [] ∷ []

  -- all lines are read, and the empty one behind them
  pub leads_to_whole : (at : ℕ) → steps (step s (table_of s)) at Start (parts_of 10 (report_text s q)) ≡ Ok (Whole q)
  unfolding report_text report_rows all_lines
  leads_to_whole =
      let inner = lines_tell s nothing_read 0 q.lines refl (recursion_from_All (IsLineOf s) q.lines h.in_form.lines) (recursion_from_All (IsLineIn s) q.lines h.lines) h.stops in
      let down : inner.0.down ≡ q.down = inner.3 ∙ down_is s None q.lines ∙ sym h.in_form.down in
      let same : report_read s inner.0 ≡ q = same_reports (report_read s inner.0) q (sym h.targets) inner.2 down in
      let ends : Leads s (Inside inner.0) (row_line (end_row q.down) ∷ []) (Ended q) =
      subst (λ x. Leads s (Inside inner.0) (row_line (end_row q.down) ∷ []) (Ended x)) same (leads-one s (Inside inner.0) (Ended (report_read s inner.0)) (row_line (end_row q.down)) (last_line inner.0 down)) in
      let to_end = leads-on s (Inside nothing_read) (Inside inner.0) (Ended q) (map row_line rows) (row_line (end_row q.down) ∷ []) inner.1 ends in
      let behind_end = leads-on s (Inside nothing_read) (Ended q) (Whole q) (map row_line rows ++ row_line (end_row q.down) ∷ []) ([] ∷ []) to_end (leads-one s (Ended q) (Whole q) [] refl) in
      let all = leads-on s Start (Inside nothing_read) (Whole q) (row_line (head_row q.targets) ∷ []) ((map row_line rows ++ row_line (end_row q.down) ∷ []) ++ [] ∷ []) (leads-one s Start (Inside nothing_read) (row_line (head_row q.targets)) first_line) behind_end in
      let lines : parts_of 10 (report_text s q) ≡ all_lines = rows_are_texts.lines_of_rows (report_rows s q) (report_inner s q h.in_form) ∙ ap (λ t. (row_line (head_row q.targets) ∷ t) ++ [] ∷ []) (map-append row_line rows (end_row q.down ∷ [])) in
      λ at. ap (steps (step s (table_of s)) at Start) lines ∙ all at

  pub is_read_back : report_of s (report_text s q) ≡ Ok q
  unfolding report_of
  is_read_back = rw (leads_to_whole 1) refl
