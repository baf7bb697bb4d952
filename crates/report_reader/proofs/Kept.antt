-- A report that is read is one for the script, and where none is read the first bad line is told.
use Rattle.std.proofs.Common.{◌≡◌, ℕ, ◌+◌, ◌*◌, ◌^◌, ◌<◌, ◌≤◌, Bool, true, false, cond, ◌&&◌, leb, ltb, eqb, List, [], ◌∷◌, ◌++◌, length, Option, Some, None, Result, Ok, Err, refl, sym, ap, subst, ◌∙◌, arith}
use Rattle.std.specs.Str.{bytes_eq}
use Rattle.std.specs.List.{AllByRecursion, onto_first}
use Rattle.std.proofs.lemmas.Bool.Decides.{nat_tests}
use Rattle.std.proofs.lemmas.List.Elements.{All-from_recursion, recursion_from_All}
use Rattle.base_types.specs.declared.answer.Answer.{Answer}
use Rattle.base_types.specs.declared.report.Attempt.{Attempt}
use Rattle.base_types.specs.declared.report.Line.{Line}
use Rattle.base_types.specs.declared.report.Line.TheVariants as line
use Rattle.base_types.specs.declared.report.Report.{Report}
use Rattle.base_types.specs.declared.script.Script.{Script}
use Rattle.base_text.specs.Parts.{parts_of}
use Rattle.base_text.specs.Results as result
use Rattle.base_text.specs.Rows.{row_line}
use Rattle.base_text.specs.Steps.{steps}
use Rattle.report_writer.specs.Forms.{IsAttemptOf, IsCond, IsGot, IsLineOf, least_down}
use Rattle.report_writer.specs.Reports.{end_row, head_row}
use Rattle.report_writer.proofs.Inner.{all_append}
use Rattle.report_grammar.specs.declared.rows.Told.{Told}
use Rattle.report_grammar.specs.declared.rows.Told.TheVariants.{Try, Cond, Got, Other}
use Rattle.report_grammar.specs.Reads.{◌>>=◌}
use Rattle.report_reader.specs.declared.reading.Open.{Open}
use Rattle.report_reader.specs.declared.reading.Reading.{Reading}
use Rattle.report_reader.specs.declared.report.Stage.{Stage}
use Rattle.report_reader.specs.declared.report.Stage.TheVariants.{Start, Inside, Ended, Whole}
use Rattle.report_reader.specs.Law.{AreBytes, HasWholeValues, IsAttemptIn, IsGotIn, IsLineIn, IsNamed, IsReportFor, RiseFrom, StopsFrom}
use Rattle.report_reader.specs.Marks.{Marks, ops_of, table_of}
use Rattle.report_reader.specs.Reading.{asked, unit_at, at_end, at_head, bad_at, cond_added, down_after, finished, got_added, lines_of, next_of, nothing_read, or_bad_line, put, reads, reopened, report_of, report_read, row_of, some_open, step, stop_after, with_cond, with_cond_last, with_got, with_got_last, with_line, with_try}
use Rattle.report_reader.specs.Told.{told_in, answer_fits, attempt_fits, is_bare, is_next, is_target, line_fits, outcome_fits_in}
use Rattle.report_reader.proofs.Back.{down_is, down_of, numbered, places, stops_of}
use Rattle.report_reader.proofs.Order.{Below, GotBelow}
use Rattle.report_reader.proofs.Sound.{IsLast, IsOrdered, at_most, both, cond_more, empty, got_more, put_adds, tested, then_some, told_in_says}
use Rattle.report_reader.proofs.Takes.{IsGoodTold, told_takes}

same : {A : Type 0} {x y : A} → Some x ≡ Some y → x ≡ y
same e = cc

is_below : (a b : ℕ) → ltb a b ≡ true → a < b
is_below a b e = grind (arith, nat_tests)

is_same : (a b : ℕ) → eqb a b ≡ true → a ≡ b
is_same a b e = grind (arith, nat_tests)

-- ---- numbers that rise, one more

rise_push : {A : Type 0} (n : ℕ) (xs : List (ℕ × A)) (y : ℕ × A) → RiseFrom n (places xs) → AllByRecursion (λ x. x.0 < y.0) xs → n ≤ y.0 → RiseFrom n (places (xs ++ y ∷ []))
rise_push n [] y h k le = (le, tt)
rise_push n (x ∷ xs) y h k le = (h.0, rise_push (x.0 + 1) xs y h.1 k.1 (omega (arith, k.0)))

conds_below : (n op : ℕ) (cs : List (ℕ × Bool)) → n ≤ op * 2 → AllByRecursion (Below n) cs → AllByRecursion (λ c. c.0 < op) cs
conds_below n op [] le h = tt
conds_below n op (c ∷ cs) le h = (omega (arith, h.0), conds_below n op cs le h.1)

gots_below : (n op : ℕ) (gs : List (ℕ × Answer)) → n ≤ op * 2 + 1 → AllByRecursion (GotBelow n) gs → AllByRecursion (λ g. g.0 < op) gs
gots_below n op [] le h = tt
gots_below n op (g ∷ gs) le h = (omega (arith, h.0), gots_below n op gs le h.1)

-- ---- stops and targets that are down, one line more

-- the number of the stop behind lines
pub stops_in : Script → ℕ → List Line → ℕ
stops_in s n [] = n
stops_in s n (l ∷ ls) = stops_in s (stops_of s n l) ls

abbrev IsStopNext : ℕ → Line → Type 0
IsStopNext n (line.Try attempt) = Unit {0}
IsStopNext n (line.Stop number target) = number ≡ n
IsStopNext n (line.Restart number target incarnation floor) = Unit {0}
IsStopNext n (line.Freeze target cont epoch) = Unit {0}
IsStopNext n (line.Snapshot name cont epoch) = Unit {0}
IsStopNext n (line.Aggregate number target cont upto) = Unit {0}
IsStopNext n (line.Down target) = Unit {0}

stops_first : (s : Script) (n : ℕ) (l : Line) (ls : List Line) → IsStopNext n l → StopsFrom (stops_of s n l) ls → StopsFrom n (l ∷ ls)
stops_first s n (line.Try attempt) ls h k = k
stops_first s n (line.Stop number target) ls h k = (h, k)
stops_first s n (line.Restart number target incarnation floor) ls h k = k
stops_first s n (line.Freeze target cont epoch) ls h k = k
stops_first s n (line.Snapshot name cont epoch) ls h k = k
stops_first s n (line.Aggregate number target cont upto) ls h k = k
stops_first s n (line.Down target) ls h k = k

stops_rest : (s : Script) (n : ℕ) (l : Line) (ls : List Line) → StopsFrom n (l ∷ ls) → IsStopNext n l × StopsFrom (stops_of s n l) ls
stops_rest s n (line.Try attempt) ls h = (tt, h)
stops_rest s n (line.Stop number target) ls h = (h.0, h.1)
stops_rest s n (line.Restart number target incarnation floor) ls h = (tt, h)
stops_rest s n (line.Freeze target cont epoch) ls h = (tt, h)
stops_rest s n (line.Snapshot name cont epoch) ls h = (tt, h)
stops_rest s n (line.Aggregate number target cont upto) ls h = (tt, h)
stops_rest s n (line.Down target) ls h = (tt, h)

stops_push : (s : Script) (n : ℕ) (ls : List Line) (l : Line) → StopsFrom n ls → IsStopNext (stops_in s n ls) l → StopsFrom n (ls ++ l ∷ [])
unfolding stops_in
stops_push s n [] l h k = stops_first s n l [] k tt
stops_push s n (m ∷ ls) l h k = let r = stops_rest s n m ls h in stops_first s n m (ls ++ l ∷ []) r.0 (stops_push s (stops_of s n m) ls l r.1 k)

stops_in-push : (s : Script) (n : ℕ) (ls : List Line) (l : Line) → stops_in s n (ls ++ l ∷ []) ≡ stops_of s (stops_in s n ls) l
unfolding stops_in
stops_in-push s n [] l = refl
stops_in-push s n (m ∷ ls) l = stops_in-push s (stops_of s n m) ls l

stop_goes_on : (s : Script) (n : ℕ) (l : Line) → IsStopNext n l → stop_after (numbered s n) l ≡ numbered s (stops_of s n l)
stop_goes_on s n (line.Try attempt) h = refl
stop_goes_on s n (line.Stop number target) h = ap (λ m. numbered s (m + 1)) h
stop_goes_on s n (line.Restart number target incarnation floor) h = refl
stop_goes_on s n (line.Freeze target cont epoch) h = refl
stop_goes_on s n (line.Snapshot name cont epoch) h = refl
stop_goes_on s n (line.Aggregate number target cont upto) h = refl
stop_goes_on s n (line.Down target) h = refl

down_push : (s : Script) (d : Option ℕ) (ls : List Line) (l : Line) → down_of s d (ls ++ l ∷ []) ≡ down_after (down_of s d ls) l
down_push s d [] l = refl
down_push s d (m ∷ ls) l = down_push s (down_after d m) ls l

least_push : (s : Script) (ls : List Line) (l : Line) → least_down (ls ++ l ∷ []) ≡ down_after (least_down ls) l
least_push s ls l = sym (down_is s None (ls ++ l ∷ [])) ∙ down_push s None ls l ∙ ap (λ d. down_after d l) (down_is s None ls)

number_is_next : (s : Script) (n number : ℕ) → is_next (numbered s n) number ≡ true → number ≡ n
number_is_next s n number e = go (ltb n (2 ^ 32)) e
  where
    go : (b : Bool) → is_next (cond b (Some n) None) number ≡ true → number ≡ n
    go true e = sym (is_same n number e)
    go false e = absurd cc

-- ---- bytes of lines and words

first_text : (b : ℕ) (ps : List (List ℕ)) → b < 2 ^ 8 → AllByRecursion (λ w. AllByRecursion (λ b. b < 2 ^ 8) w) ps → AllByRecursion (λ w. AllByRecursion (λ b. b < 2 ^ 8) w) (onto_first b ps)
first_text b [] lt h = ((lt, tt), tt)
first_text b (p ∷ ps) lt h = ((lt, h.0), h.1)

pub parts_are_texts : (mark : ℕ) (bytes : List ℕ) → AllByRecursion (λ b. b < 2 ^ 8) bytes → AllByRecursion (λ w. AllByRecursion (λ b. b < 2 ^ 8) w) (parts_of mark bytes)
parts_are_texts mark [] h = (tt, tt)
parts_are_texts mark (b ∷ bs) h = go (eqb b mark) (parts_are_texts mark bs h.1)
  where
    go : (t : Bool) → AllByRecursion (λ w. AllByRecursion (λ b. b < 2 ^ 8) w) (parts_of mark bs) → AllByRecursion (λ w. AllByRecursion (λ b. b < 2 ^ 8) w) (cond t ([] ∷ parts_of mark bs) (onto_first b (parts_of mark bs)))
    go true ih = (tt, ih)
    go false ih = first_text b (parts_of mark bs) h.0 ih

module _ (s : Script) (named : IsNamed s) where
  abbrev table : List (List Marks)
  table = table_of s

  -- ---- what was read is for the script

  -- lines that were read, with the number of the next stop and the least target that is down
  pub record AreKept (ls : List Line) (next down : Option ℕ) : Type 0 where
    pub form : AllByRecursion (IsLineOf s) ls
    pub inside : AllByRecursion (IsLineIn s) ls
    pub stops : StopsFrom 0 ls
    pub next_is : next ≡ numbered s (stops_in s 0 ls)
    pub down_is_least : down ≡ least_down ls

  abbrev pub IsKeptLast : Option Open → Type 0
  IsKeptLast None = Unit {0}
  IsKeptLast (Some o) = IsAttemptOf s o.attempt × IsAttemptIn s o.attempt × IsOrdered s o

  abbrev pub IsKept : Reading → Type 0
  IsKept r = AreKept r.lines r.next_stop r.down × IsKeptLast r.last

  kept_line : (ls : List Line) (next down : Option ℕ) (l : Line) → AreKept ls next down → IsLineOf s l → IsLineIn s l → IsStopNext (stops_in s 0 ls) l → AreKept (ls ++ l ∷ []) (stop_after next l) (down_after down l)
  kept_line ls next down l h form inside stop = record {
    form = all_append (IsLineOf s) ls (l ∷ []) h.form (form, tt);
    inside = all_append (IsLineIn s) ls (l ∷ []) h.inside (inside, tt);
    stops = stops_push s 0 ls l h.stops stop;
    next_is = ap (λ n. stop_after n l) h.next_is ∙ stop_goes_on s (stops_in s 0 ls) l stop ∙ ap (λ n. numbered s n) (sym (stops_in-push s 0 ls l));
    down_is_least = ap (λ d. down_after d l) h.down_is_least ∙ sym (least_push s ls l);
  }

  closed : (lines : List Line) (next down : Option ℕ) (last : Option Open) → AreKept lines next down → IsKeptLast last → AreKept (lines_of lines last) next down
  closed lines next down None h k = h
  closed lines next down (Some o) h k = kept_line lines next down (line.Try o.attempt) h k.0 k.1 tt

  try_kept : (r next : Reading) (a : Attempt) → IsKept r → IsAttemptOf s a → IsLast s next.last → with_try s table r a ≡ Some next → IsKept next
  unfolding with_try
  try_kept r next a h form ordered e =
      let made : Reading = record { lines = lines_of r.lines r.last; last = some_open a; next_stop = r.next_stop; down = r.down } in
      let t = tested (attempt_fits s table a) made next e in
      let parts = both (is_bare a) (outcome_fits_in s table (ops_of table a.id) a.outcome) t.0 in
      let bare = both (eqb (length a.conds) 0) (eqb (length a.gots) 0) parts.0 in
      let no_conds = empty a.conds bare.0 in
      let no_gots = empty a.gots bare.1 in
      let inside : IsAttemptIn s a = record {
        ends = parts.1;
        conds = All-from_recursion (λ c. asked table a.id c.0 ≡ true) a.conds (subst (AllByRecursion (λ c. asked table a.id c.0 ≡ true)) (sym no_conds) tt);
        conds_rise = subst (λ cs. RiseFrom 0 (places cs)) (sym no_conds) tt;
        gots = All-from_recursion (IsGotIn s a.id) a.gots (subst (AllByRecursion (IsGotIn s a.id)) (sym no_gots) tt);
        gots_rise = subst (λ gs. RiseFrom 0 (places gs)) (sym no_gots) tt;
      } in
      let lasts : IsLast s made.last = subst (λ (x : Reading). IsLast s x.last) (sym t.1) ordered in
      subst IsKept t.1 (closed r.lines r.next_stop r.down r.last h.0 h.1, (form, inside, lasts))

  line_inside : (next : Option ℕ) (n : ℕ) (l : Line) → next ≡ numbered s n → line_fits s next l ≡ true → IsLineIn s l × IsStopNext n l
  line_inside next n (line.Try attempt) i e = absurd cc
  line_inside next n (line.Stop number target) i e =
      let p = both (is_next next number) (is_target s target) e in
      (is_below target s.targets p.1, number_is_next s n number (ap (λ x. is_next x number) (sym i) ∙ p.0))
  line_inside next n (line.Restart number target incarnation floor) i e = (is_below target s.targets e, tt)
  line_inside next n (line.Freeze target cont epoch) i e = (is_below target s.targets e, tt)
  line_inside next n (line.Snapshot name cont epoch) i e = (e, tt)
  line_inside next n (line.Aggregate number target cont upto) i e = (is_below target s.targets e, tt)
  line_inside next n (line.Down target) i e = (is_below target s.targets e, tt)

  other_kept : (r next : Reading) (l : Line) → IsKept r → IsLineOf s l → with_line s r l ≡ Some next → IsKept next
  unfolding with_line
  other_kept r next l h form e =
      let made : Reading = record { lines = lines_of r.lines r.last ++ l ∷ []; last = None; next_stop = stop_after r.next_stop l; down = down_after r.down l } in
      let t = tested (line_fits s r.next_stop l) made next e in
      let all = closed r.lines r.next_stop r.down r.last h.0 h.1 in
      let fits = line_inside r.next_stop (stops_in s 0 (lines_of r.lines r.last)) l all.next_is t.0 in
      subst IsKept t.1 (kept_line (lines_of r.lines r.last) r.next_stop r.down l all form fits.0 fits.1, tt)

  cond_kept : (o p : Open) (c : ℕ × Bool) → IsKeptLast (Some o) → IsCond c → with_cond table o c ≡ Some p → IsKeptLast (Some p)
  unfolding with_cond
  cond_kept o p c h form e = go e
    where
      ordered : IsOrdered s p
      ordered = (cond_more s table o p c h.2 e).0

      go : with_cond table o c ≡ Some p → IsKeptLast (Some p)
      go e =
          let t = tested (asked table o.attempt.id c.0 && leb o.next (c.0 * 2)) (cond_added o c) p e in
          let parts = both (asked table o.attempt.id c.0) (leb o.next (c.0 * 2)) t.0 in
          let le = at_most o.next (c.0 * 2) parts.1 in
          let conds = o.attempt.conds in
          let added : IsAttemptOf s (cond_added o c).attempt = record {
            id = h.0.id;
            epoch = h.0.epoch;
            conds = All-from_recursion IsCond (conds ++ c ∷ []) (all_append IsCond conds (c ∷ []) (recursion_from_All IsCond conds h.0.conds) (form, tt));
            gots = h.0.gots;
            outcome = h.0.outcome;
          } in
          let inside : IsAttemptIn s (cond_added o c).attempt = record {
            ends = h.1.ends;
            conds = All-from_recursion (λ d. asked table o.attempt.id d.0 ≡ true) (conds ++ c ∷ [])
                (all_append (λ d. asked table o.attempt.id d.0 ≡ true) conds (c ∷ []) (recursion_from_All (λ d. asked table o.attempt.id d.0 ≡ true) conds h.1.conds) (parts.0, tt));
            conds_rise = rise_push 0 conds c h.1.conds_rise (conds_below o.next c.0 conds le h.2.conds) (omega arith);
            gots = h.1.gots;
            gots_rise = h.1.gots_rise;
          } in
          let P : Open → Type 0 = λ q. IsAttemptOf s q.attempt × IsAttemptIn s q.attempt in
          let both_kept : P p = subst P t.1 (added, inside) in
          (both_kept.0, both_kept.1, ordered)

  got_kept : (o p : Open) (g : ℕ × Answer) → IsKeptLast (Some o) → IsGot g → HasWholeValues g.1 → with_got table o g ≡ Some p → IsKeptLast (Some p)
  unfolding with_got
  got_kept o p g h form values e = go e
    where
      ordered : IsOrdered s p
      ordered = (got_more s table o p g h.2 e).0

      go : with_got table o g ≡ Some p → IsKeptLast (Some p)
      go e =
          let t = tested (reads table o.attempt.id g.0 && leb o.next (g.0 * 2 + 1) && answer_fits (unit_at table o.attempt.id g.0) g.1) (got_added o g) p e in
          let parts = both (reads table o.attempt.id g.0 && leb o.next (g.0 * 2 + 1)) (answer_fits (unit_at table o.attempt.id g.0) g.1) t.0 in
          let first = both (reads table o.attempt.id g.0) (leb o.next (g.0 * 2 + 1)) parts.0 in
          let le = at_most o.next (g.0 * 2 + 1) first.1 in
          let gots = o.attempt.gots in
          let told : IsGotIn s o.attempt.id g = record { reads = first.0; fits = parts.1; values = values } in
          let added : IsAttemptOf s (got_added o g).attempt = record {
            id = h.0.id;
            epoch = h.0.epoch;
            conds = h.0.conds;
            gots = All-from_recursion IsGot (gots ++ g ∷ []) (all_append IsGot gots (g ∷ []) (recursion_from_All IsGot gots h.0.gots) (form, tt));
            outcome = h.0.outcome;
          } in
          let inside : IsAttemptIn s (got_added o g).attempt = record {
            ends = h.1.ends;
            conds = h.1.conds;
            conds_rise = h.1.conds_rise;
            gots = All-from_recursion (IsGotIn s o.attempt.id) (gots ++ g ∷ []) (all_append (IsGotIn s o.attempt.id) gots (g ∷ []) (recursion_from_All (IsGotIn s o.attempt.id) gots h.1.gots) (told, tt));
            gots_rise = rise_push 0 gots g h.1.gots_rise (gots_below o.next g.0 gots le h.2.gots) (omega arith);
          } in
          let P : Open → Type 0 = λ q. IsAttemptOf s q.attempt × IsAttemptIn s q.attempt in
          let both_kept : P p = subst P t.1 (added, inside) in
          (both_kept.0, both_kept.1, ordered)

  last_ordered : (last : Option Open) → IsKeptLast last → IsLast s last
  last_ordered None h = tt
  last_ordered (Some o) h = h.2

  put_kept : (r next : Reading) (t : Told) → IsKept r → IsGoodTold s named.names t → put s table r t ≡ Some next → IsKept next
  put_kept r next (Try a) h k e = try_kept r next a h k (put_adds s table r next (Try a) (last_ordered r.last h.1) e).0 e
  put_kept r next (Cond c) h k e = go r.last h.1 e
    where
      go : (x : Option Open) → IsKeptLast x → with_cond_last table r x c ≡ Some next → IsKept next
      go None h1 e = absurd cc
      go (Some o) h1 e =
          let t = then_some (with_cond table o c) (λ p. Some (reopened r p)) next e in
          subst IsKept (same t.2) (h.0, cond_kept o t.0 c h1 k t.1)
  put_kept r next (Got g) h k e = go r.last h.1 e
    where
      go : (x : Option Open) → IsKeptLast x → with_got_last table r x g ≡ Some next → IsKept next
      go None h1 e = absurd cc
      go (Some o) h1 e =
          let t = then_some (with_got table o g) (λ p. Some (reopened r p)) next e in
          subst IsKept (same t.2) (h.0, got_kept o t.0 g h1 k.0 k.1 t.1)
  put_kept r next (Other l) h k e = other_kept r next l h k e

  -- ---- stages

  abbrev pub IsKeptStage : Stage → Type 0
  IsKeptStage Start = Unit {0}
  IsKeptStage (Inside r) = IsKept r
  IsKeptStage (Ended q) = IsReportFor s q
  IsKeptStage (Whole q) = IsReportFor s q

  pub kept_report : (r : Reading) → IsKept r → IsReportFor s (report_read s r)
  kept_report r h =
      let all = closed r.lines r.next_stop r.down r.last h.0 h.1 in
      record {
        targets = refl;
        in_form = record { targets = named.targets; lines = All-from_recursion (IsLineOf s) (lines_of r.lines r.last) all.form; down = all.down_is_least };
        lines = All-from_recursion (IsLineIn s) (lines_of r.lines r.last) all.inside;
        stops = all.stops;
      }

  pub nothing_kept : IsKept nothing_read
  unfolding stops_in
  nothing_kept = (record { form = tt; inside = tt; stops = tt; next_is = refl; down_is_least = refl }, tt)

  row_kept : (r : Reading) (next : Stage) (l : List ℕ) → AllByRecursion (λ b. b < 2 ^ 8) l → row_of s table r l ≡ Some next → IsKept r → IsKeptStage next
  unfolding row_of
  row_kept r next l bytes e h =
      let b = then_some (told_in s l) (λ t. put s table r t >>= λ next. Some (Inside next)) next e in
      let c = then_some (put s table r b.0) (λ next. Some (Inside next)) next b.2 in
      let good = told_takes s named.names (parts_of 32 l) b.0 (parts_are_texts 32 l bytes) (told_in_says s l b.0 b.1).0 in
      subst (λ x. IsKeptStage x) (same c.2) (put_kept r c.0 b.0 h good c.1)

  next_kept : (stage next : Stage) (l : List ℕ) → AllByRecursion (λ b. b < 2 ^ 8) l → next_of s table stage l ≡ Some next → IsKeptStage stage → IsKeptStage next
  unfolding at_head at_end
  next_kept Start next l bytes e h = let t = tested (bytes_eq (row_line (head_row s.targets)) l) (Inside nothing_read) next e in subst (λ x. IsKeptStage x) t.1 nothing_kept
  next_kept (Inside r) next l bytes e h = go (bytes_eq l (row_line (end_row r.down))) e
    where
      go : (b : Bool) → cond b (at_end s r) (row_of s table r l) ≡ Some next → IsKeptStage next
      go true e = subst (λ x. IsKeptStage x) (same e) (kept_report r h)
      go false e = row_kept r next l bytes e h
  next_kept (Ended q) next l bytes e h = let t = tested (eqb (length l) 0) (Whole q) next e in subst (λ x. IsKeptStage x) t.1 h
  next_kept (Whole q) next l bytes e h = absurd cc

  pub steps_kept : (at : ℕ) (stage last : Stage) (ls : List (List ℕ)) → AllByRecursion (λ l. AllByRecursion (λ b. b < 2 ^ 8) l) ls → steps (step s table) at stage ls ≡ Ok last → IsKeptStage stage → IsKeptStage last
  unfolding steps step
  steps_kept at stage last [] bytes e h = let is : stage ≡ last = cc in subst (λ x. IsKeptStage x) is h
  steps_kept at stage last (l ∷ ls) bytes e h = go (next_of s table stage l) refl e (λ x i k. steps_kept (at + 1) x last ls bytes.1 k (next_kept stage x l bytes.0 i h))
    where
      go : (o : Option Stage) → next_of s table stage l ≡ o → result.◌>>=◌ (or_bad_line (bad_at at stage) o) (λ x. steps (step s table) (at + 1) x ls) ≡ Ok last
          → ((x : Stage) → next_of s table stage l ≡ Some x → steps (step s table) (at + 1) x ls ≡ Ok last → IsKeptStage last) → IsKeptStage last
      go None i e k = absurd cc
      go (Some x) i e k = k x i e

  pub is_for_script : (bytes : List ℕ) (q : Report) → AreBytes bytes → report_of s bytes ≡ Ok q → IsReportFor s q
  unfolding report_of
  is_for_script bytes q are e = go (steps (step s table) 1 Start (parts_of 10 bytes)) refl e
    where
      whole : (stage : Stage) → finished (length (parts_of 10 bytes)) stage ≡ Ok q → IsKeptStage stage → IsReportFor s q
      whole Start e h = absurd cc
      whole (Inside r) e h = absurd cc
      whole (Ended r) e h = absurd cc
      whole (Whole r) e h = let is : r ≡ q = cc in subst (IsReportFor s) is h

      go : (o : Result Stage ℕ) → steps (step s table) 1 Start (parts_of 10 bytes) ≡ o → result.◌>>=◌ o (finished (length (parts_of 10 bytes))) ≡ Ok q → IsReportFor s q
      go (Err n) i e = absurd cc
      go (Ok stage) i e = whole stage e (steps_kept 1 Start stage (parts_of 10 bytes) (parts_are_texts 10 bytes (recursion_from_All (λ b. b < 2 ^ 8) bytes are)) i tt)
