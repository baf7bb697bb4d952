-- The words and rows of a report are read again as what they tell.
use Rattle.std.proofs.Common.{◌≡◌, ℕ, ◌+◌, ◌*◌, ◌/◌, ◌%◌, ◌^◌, ◌≤◌, ◌<◌, Bool, true, false, cond, leb, ltb, List, [], ◌∷◌, ◌++◌, map, flat_map, Option, Some, None, refl, sym, ap, subst, ◌∙◌, arith, append_assoc, codes}
use Rattle.std.specs.List.{list_all, AllByRecursion}
use Rattle.std.specs.Fmt.{decimal}
use Rattle.std.specs.Str.{bytes_eq}
use Rattle.std.proofs.lemmas.Bool.Decides.{nat_tests}
use Rattle.std.proofs.lemmas.List.{append-nil}
use Rattle.std.proofs.lemmas.List.Elements.{recursion_from_All}
use Rattle.std.proofs.lemmas.Slice.Eq.{bytes_eq-Decides}
use Rattle.std.proofs.Math.Nat.{div-add-mod}
use Rattle.base_types.specs.declared.answer.Answer.{Answer}
use Rattle.base_types.specs.declared.answer.Answer.TheVariants as answer
use Rattle.base_types.specs.declared.answer.Piece.{Piece}
use Rattle.base_types.specs.declared.answer.Piece.TheVariants as piece
use Rattle.base_types.specs.declared.epoch.Epoch.{Epoch}
use Rattle.base_types.specs.declared.id.AttemptId.{AttemptId}
use Rattle.base_types.specs.declared.id.ContId.{ContId}
use Rattle.base_types.specs.declared.outcome.Cause.{Cause}
use Rattle.base_types.specs.declared.outcome.Cause.TheVariants as cause
use Rattle.base_types.specs.declared.outcome.FloorWhy.{FloorWhy}
use Rattle.base_types.specs.declared.outcome.FloorWhy.TheVariants as floor
use Rattle.base_types.specs.declared.outcome.Outcome.{Outcome}
use Rattle.base_types.specs.declared.outcome.Outcome.TheVariants as outcome
use Rattle.base_types.specs.declared.path.Path.{Path}
use Rattle.base_types.specs.declared.report.Attempt.{Attempt}
use Rattle.base_types.specs.declared.report.Line.{Line}
use Rattle.base_types.specs.declared.report.Line.TheVariants as line
use Rattle.base_types.specs.declared.script.Script.{Script}
use Rattle.base_text.specs.Number.{number_in}
use Rattle.base_text.specs.NumberLaws.{numbers_are_decimals}
use Rattle.base_text.specs.Rows.{Words}
use Rattle.report_writer.specs.Answers.{answer_words, piece_word}
use Rattle.report_writer.specs.Forms.{IsEpoch, IsEpochOrNone, IsAttemptId, IsCond, IsFloorWhy, IsPiece, IsAnswer, IsGot, IsAccessOf, IsCauseOf, IsOutcomeOf, IsAttemptOf, IsRestart, IsFreezeOf, IsSnapshotOf, IsAggregateOf, IsLineOf}
use Rattle.report_writer.specs.Names.{cont_word, path_word}
use Rattle.report_writer.specs.Outcomes.{access_words, cause_words, floor_words, outcome_words}
use Rattle.report_writer.specs.Reports.{cond_row, conds_after, conds_until, detail_rows, got_row, line_rows, try_row, yes_word}
use Rattle.report_writer.specs.Values.{is_printable, hex_byte, hex_digit, value_word}
use Rattle.report_writer.specs.Words.{attempt_words, epoch_word}
use Rattle.report_writer.proofs.Reading.{◌>>=◌, each, epoch_of, epoch_or_none_of, attempt_id_at, hex_value, hex_bytes, value_of, piece_of, answer_of, floor_of, access_of, cause_of, outcome_of, attempt_of, yes_of, cond_of, got_of, stop_of, restart_of, freeze_of, snapshot_of, aggregate_of, down_of, line_of, Read, lines_of, with_line, with_row, read_rows}
use Rattle.report_writer.proofs.NamesAgain.{cont_again, path_again}

-- ---- numbers, epochs, attempts

pub u8_again : (n : ℕ) → n < 2 ^ 8 → number_in 0 255 (decimal n) ≡ Some n
u8_again n lt = numbers_are_decimals.read 0 255 n (omega arith) (omega arith) (omega arith)

pub u16_again : (n : ℕ) → n < 2 ^ 16 → number_in 0 65535 (decimal n) ≡ Some n
u16_again n lt = numbers_are_decimals.read 0 65535 n (omega arith) (omega arith) (omega arith)

pub u32_again : (n : ℕ) → n < 2 ^ 32 → number_in 0 4294967295 (decimal n) ≡ Some n
u32_again n lt = numbers_are_decimals.read 0 4294967295 n (omega arith) (omega arith) (omega arith)

pub u64_again : (n : ℕ) → n < 2 ^ 64 → number_in 0 18446744073709551615 (decimal n) ≡ Some n
u64_again n lt = numbers_are_decimals.read 0 18446744073709551615 n (omega arith) (omega arith) (omega arith)

no_number : (n : ℕ) → number_in 0 18446744073709551615 (codes "-") ≡ Some n → ⊥
unfolding number_in
no_number n e = cc

-- a number is no dash
pub no_dash : (n : ℕ) → n < 2 ^ 64 → bytes_eq (decimal n) (codes "-") ≡ false
no_dash n lt = go (bytes_eq (decimal n) (codes "-")) refl
  where
    go : (b : Bool) → bytes_eq (decimal n) (codes "-") ≡ b → bytes_eq (decimal n) (codes "-") ≡ false
    go false e = e
    go true e = absurd (no_number n (ap (number_in 0 18446744073709551615) (sym ((bytes_eq-Decides (decimal n) (codes "-")).0 e)) ∙ u64_again n lt))

pub epoch_again : (epoch : Epoch) → IsEpoch epoch → epoch_of (decimal epoch.0) ≡ Some epoch
epoch_again epoch lt = rw (u64_again epoch.0 lt) refl

pub epoch_or_none_again : (epoch : Option Epoch) → IsEpochOrNone epoch → epoch_or_none_of (epoch_word epoch) ≡ Some epoch
epoch_or_none_again None h = refl
epoch_or_none_again (Some epoch) lt = rw (no_dash epoch.0 lt, u64_again epoch.0 lt) refl

pub attempt_id_again : (id : AttemptId) (rest : Words) → IsAttemptId id → attempt_id_at (attempt_words id ++ rest) ≡ Some (id, rest)
unfolding attempt_id_at
attempt_id_again id rest h = rw (u16_again id.client h.client, u32_again id.command h.command, u8_again id.attempt h.attempt) refl

-- ---- values

hex_digit_low : (n : ℕ) → n < 10 → (ltb n 10 ≡ true) × (ltb (48 + n) 58 ≡ true)
hex_digit_low n lt = (grind (arith, nat_tests), grind (arith, nat_tests))

hex_digit_high : (n : ℕ) → 10 ≤ n → (ltb n 10 ≡ false) × (ltb (87 + n) 58 ≡ false)
hex_digit_high n le = (grind (arith, nat_tests), grind (arith, nat_tests))

hex_digit_again : (n : ℕ) → hex_value (hex_digit n) ≡ n
hex_digit_again n = go (ltb n 10) refl
  where
    go : (b : Bool) → ltb n 10 ≡ b → hex_value (hex_digit n) ≡ n
    go true e = let lt : n < 10 = grind (arith, nat_tests) in rw ((hex_digit_low n lt).0, (hex_digit_low n lt).1) (omega arith)
    go false e = let le : 10 ≤ n = grind (arith, nat_tests) in rw ((hex_digit_high n le).0, (hex_digit_high n le).1) (omega arith)

hex_byte_again : (byte : ℕ) → hex_value (hex_digit (byte / 16)) * 16 + hex_value (hex_digit (byte % 16)) ≡ byte
hex_byte_again byte = rw (hex_digit_again (byte / 16), hex_digit_again (byte % 16)) (omega (arith, div-add-mod byte 16))

hex_again : (bytes : List ℕ) → hex_bytes (flat_map hex_byte bytes) ≡ Some bytes
hex_again [] = refl
hex_again (byte ∷ bytes) = rw (hex_again bytes) (ap (λ b. Some (b ∷ bytes)) (hex_byte_again byte))

pub value_again : (bytes : List ℕ) → value_of (value_word bytes) ≡ Some bytes
unfolding value_word
value_again bytes = go (list_all is_printable bytes) refl
  where
    go : (b : Bool) → list_all is_printable bytes ≡ b → value_of (cond (list_all is_printable bytes) (61 ∷ bytes) (35 ∷ flat_map hex_byte bytes)) ≡ Some bytes
    go true e = rw e refl
    go false e = rw e (hex_again bytes)

piece_from_value : (bytes : List ℕ) → piece_of (value_word bytes) ≡ Some (piece.Bytes bytes)
unfolding value_word
piece_from_value bytes = go (list_all is_printable bytes) refl
  where
    go : (b : Bool) → list_all is_printable bytes ≡ b → piece_of (cond (list_all is_printable bytes) (61 ∷ bytes) (35 ∷ flat_map hex_byte bytes)) ≡ Some (piece.Bytes bytes)
    go true e = rw e refl
    go false e = rw e (rw (hex_again bytes) refl)

piece_again : (p : Piece) → IsPiece p → piece_of (piece_word p) ≡ Some p
piece_again (piece.Bytes bytes) h = piece_from_value bytes
piece_again (piece.Hole count) lt = rw (u32_again count lt) refl

-- ---- answers

pieces_again : (ps : List Piece) → AllByRecursion IsPiece ps → each piece_of (map piece_word ps) ≡ Some ps
pieces_again [] h = refl
pieces_again (p ∷ ps) h = rw (piece_again p h.0, pieces_again ps h.1) refl

pub answer_again : (a : Answer) → IsAnswer a → answer_of (answer_words a) ≡ Some a
unfolding answer_of
answer_again (answer.Bytes bytes) h = rw (value_again bytes) refl
answer_again (answer.Parts pieces) h = rw (pieces_again pieces (recursion_from_All IsPiece pieces h)) refl
answer_again (answer.Names keys) h = refl
answer_again answer.Yes h = refl
answer_again answer.No h = refl
answer_again answer.Absent h = refl

-- ---- outcomes

floor_again : (why : FloorWhy) → IsFloorWhy why → floor_of (floor_words why) ≡ Some why
unfolding floor_of
floor_again floor.Opening h = absurd h
floor_again (floor.Restart number) lt = rw (u32_again number lt) refl
floor_again (floor.Snapshot epoch) lt = rw (u64_again epoch.0 lt) refl
floor_again (floor.Aggregate number) lt = rw (u32_again number lt) refl

access_again : (s : Script) (by : AttemptId) (epoch : Epoch) (path : Path) → IsAccessOf s by epoch path → access_of s (access_words s by epoch path) ≡ Some (by, epoch, path)
unfolding access_of
access_again s by epoch path h =
    rw (attempt_id_again by (decimal epoch.0 ∷ path_word s path ∷ []) h.id, u64_again epoch.0 h.issued, path_again s path h.named) refl

cause_again : (s : Script) (why : Cause) → IsCauseOf s why → cause_of s (cause_words s why) ≡ Some why
unfolding cause_of
cause_again s (cause.ReadLater by epoch path) h = rw (access_again s by epoch path h) refl
cause_again s (cause.WriteLater by epoch path) h = rw (access_again s by epoch path h) refl
cause_again s (cause.Unresolved by) h = rw (attempt_id_again by [] h) refl
cause_again s (cause.Floor target epoch why) h = rw (u8_again target h.number, u64_again epoch.0 h.issued, floor_again why h.cause) refl

outcome_again : (s : Script) (o : Outcome) → IsOutcomeOf s o → outcome_of s (outcome_words s o) ≡ Some o
unfolding outcome_of
outcome_again s outcome.Committed h = refl
outcome_again s (outcome.CondFailed op) lt = rw (u8_again op lt) refl
outcome_again s (outcome.Restart why) h = rw (cause_again s why h) refl
outcome_again s (outcome.NoSpace target need free) h = rw (u8_again target h.number, u32_again need h.wanted, u32_again free h.found) refl
outcome_again s outcome.EpochsSpent h = refl
outcome_again s outcome.NoSnapshot h = refl
outcome_again s (outcome.Unknown target) lt = rw (u8_again target lt) refl

-- ---- rows

-- the words behind the first
abbrev behind : Words → Words
behind [] = []
behind (word ∷ words) = words

abbrev alone : Attempt → Attempt
alone a = record a { conds = []; gots = [] }

attempt_again : (s : Script) (a : Attempt) → IsAttemptOf s a → attempt_of s (behind (try_row s a)) ≡ Some (alone a)
unfolding attempt_of
attempt_again s a h =
    rw (attempt_id_again a.id (epoch_word a.epoch ∷ outcome_words s a.outcome) h.id, epoch_or_none_again a.epoch h.epoch, outcome_again s a.outcome h.outcome) refl

yes_again : (b : Bool) → yes_of (yes_word b) ≡ Some b
yes_again true = refl
yes_again false = refl

cond_again : (c : ℕ × Bool) → IsCond c → cond_of (behind (cond_row c)) ≡ Some c
unfolding cond_of
cond_again c lt = rw (u8_again c.0 lt, yes_again c.1) refl

got_again : (g : ℕ × Answer) → IsGot g → got_of (behind (got_row g)) ≡ Some g
unfolding got_of
got_again g h = rw (u8_again g.0 h.op, answer_again g.1 h.answer) refl

stop_again : (number target : ℕ) → number < 2 ^ 32 → target < 2 ^ 8 → stop_of (decimal number ∷ decimal target ∷ []) ≡ Some (line.Stop number target)
unfolding stop_of
stop_again number target p q = rw (u32_again number p, u8_again target q) refl

restart_again : (number target incarnation : ℕ) (floor : Epoch) → IsRestart number target incarnation floor
    → restart_of (decimal number ∷ decimal target ∷ decimal incarnation ∷ decimal floor.0 ∷ []) ≡ Some (line.Restart number target incarnation floor)
unfolding restart_of
restart_again number target incarnation floor h =
    rw (u32_again number h.which, u8_again target h.of_target, u64_again incarnation h.opening, u64_again floor.0 h.issued) refl

freeze_again : (s : Script) (target : ℕ) (cont : ContId) (epoch : Epoch) → IsFreezeOf s target cont epoch
    → freeze_of s (decimal target ∷ cont_word s.conts cont ∷ decimal epoch.0 ∷ []) ≡ Some (line.Freeze target cont epoch)
unfolding freeze_of
freeze_again s target cont epoch h = rw (u8_again target h.of_target, cont_again s cont h.named, u64_again epoch.0 h.issued) refl

snapshot_again : (s : Script) (name : List ℕ) (cont : ContId) (epoch : Epoch) → IsSnapshotOf s name cont epoch
    → snapshot_of s (name ∷ cont_word s.conts cont ∷ decimal epoch.0 ∷ []) ≡ Some (line.Snapshot name cont epoch)
unfolding snapshot_of
snapshot_again s name cont epoch h = rw (cont_again s cont h.named, u64_again epoch.0 h.issued) refl

aggregate_again : (s : Script) (number target : ℕ) (cont : ContId) (upto : Epoch) → IsAggregateOf s number target cont upto
    → aggregate_of s (decimal number ∷ decimal target ∷ cont_word s.conts cont ∷ decimal upto.0 ∷ []) ≡ Some (line.Aggregate number target cont upto)
unfolding aggregate_of
aggregate_again s number target cont upto h =
    rw (u32_again number h.which, u8_again target h.of_target, cont_again s cont h.named, u64_again upto.0 h.issued) refl

down_again : (target : ℕ) → target < 2 ^ 8 → down_of (decimal target ∷ []) ≡ Some (line.Down target)
unfolding down_of
down_again target lt = rw (u8_again target lt) refl

-- ---- rows one after the other

then_rows : (s : Script) (r t u : Read) (rows more : List Words) → read_rows s r rows ≡ Some t → read_rows s t more ≡ Some u → read_rows s r (rows ++ more) ≡ Some u
unfolding read_rows
then_rows s r t u [] more e f = let same : r ≡ t = cc in subst (λ z. read_rows s z more ≡ Some u) (sym same) f
then_rows s r t u (row ∷ rows) more e f = go (with_row s r row) refl e (λ v h. then_rows s v t u rows more h f)
  where
    go : (o : Option Read) → with_row s r row ≡ o → (o >>= λ v. read_rows s v rows) ≡ Some t → ((v : Read) → read_rows s v rows ≡ Some t → read_rows s v (rows ++ more) ≡ Some u)
        → (with_row s r row >>= λ v. read_rows s v (rows ++ more)) ≡ Some u
    go None h e ih = absurd cc
    go (Some v) h e ih = rw h (ih v e)

pub until_and_after : (op : ℕ) (conds : List (ℕ × Bool)) → conds_until op conds ++ conds_after op conds ≡ conds
until_and_after op [] = refl
until_and_after op (c ∷ cs) = go (leb c.0 op) (until_and_after op cs)
  where
    go : (b : Bool) → conds_until op cs ++ conds_after op cs ≡ cs → cond b (c ∷ conds_until op cs) [] ++ cond b (conds_after op cs) (c ∷ cs) ≡ c ∷ cs
    go true ih = ap (λ t. c ∷ t) ih
    go false ih = refl

pub conds_until_kept : (P : ℕ × Bool → Type 0) (op : ℕ) (conds : List (ℕ × Bool)) → AllByRecursion P conds → AllByRecursion P (conds_until op conds)
conds_until_kept P op [] h = tt
conds_until_kept P op (c ∷ cs) h = go (leb c.0 op) (conds_until_kept P op cs h.1)
  where
    go : (b : Bool) → AllByRecursion P (conds_until op cs) → AllByRecursion P (cond b (c ∷ conds_until op cs) [])
    go true ih = (h.0, ih)
    go false ih = tt

pub conds_after_kept : (P : ℕ × Bool → Type 0) (op : ℕ) (conds : List (ℕ × Bool)) → AllByRecursion P conds → AllByRecursion P (conds_after op conds)
conds_after_kept P op [] h = tt
conds_after_kept P op (c ∷ cs) h = go (leb c.0 op) (conds_after_kept P op cs h.1)
  where
    go : (b : Bool) → AllByRecursion P (conds_after op cs) → AllByRecursion P (cond b (conds_after op cs) (c ∷ cs))
    go true ih = ih
    go false ih = h

module _ (s : Script) (done : List Line) (a : Attempt) where
  -- the attempt with the conditions and answers read so far
  abbrev so_far : List (ℕ × Bool) → List (ℕ × Answer) → Read
  so_far cs gs = record { done = done; last = Some (record a { conds = cs; gots = gs }) }

  cond_read : (cs : List (ℕ × Bool)) (gs : List (ℕ × Answer)) (c : ℕ × Bool) → IsCond c → with_row s (so_far cs gs) (cond_row c) ≡ Some (so_far (cs ++ c ∷ []) gs)
  unfolding with_row
  cond_read cs gs c h = rw (cond_again c h) refl

  got_read : (cs : List (ℕ × Bool)) (gs : List (ℕ × Answer)) (g : ℕ × Answer) → IsGot g → with_row s (so_far cs gs) (got_row g) ≡ Some (so_far cs (gs ++ g ∷ []))
  unfolding with_row
  got_read cs gs g h = rw (got_again g h) refl

  conds_read : (cs ds : List (ℕ × Bool)) (gs : List (ℕ × Answer)) → AllByRecursion IsCond ds → read_rows s (so_far cs gs) (map cond_row ds) ≡ Some (so_far (cs ++ ds) gs)
  unfolding read_rows
  conds_read cs [] gs h = ap (λ x. Some (so_far x gs)) (sym (append-nil cs))
  conds_read cs (d ∷ ds) gs h = rw (cond_read cs gs d h.0) (conds_read (cs ++ d ∷ []) ds gs h.1 ∙ ap (λ x. Some (so_far x gs)) (append_assoc cs (d ∷ []) ds))

  details_read : (cs : List (ℕ × Bool)) (gs : List (ℕ × Answer)) (ds : List (ℕ × Bool)) (hs : List (ℕ × Answer)) → AllByRecursion IsCond ds → AllByRecursion IsGot hs
      → read_rows s (so_far cs gs) (detail_rows ds hs) ≡ Some (so_far (cs ++ ds) (gs ++ hs))
  unfolding read_rows
  details_read cs gs ds [] p q = conds_read cs ds gs p ∙ ap (λ x. Some (so_far (cs ++ ds) x)) (sym (append-nil gs))
  details_read cs gs ds (h ∷ hs) p q =
      let until = conds_until h.0 ds in
      let after = conds_after h.0 ds in
      let whole : (cs ++ until) ++ after ≡ cs ++ ds = append_assoc cs until after ∙ ap (λ x. cs ++ x) (until_and_after h.0 ds) in
      let rest = details_read (cs ++ until) (gs ++ h ∷ []) after hs (conds_after_kept IsCond h.0 ds p) q.1 in
      then_rows s (so_far cs gs) (so_far (cs ++ until) gs) (so_far (cs ++ ds) (gs ++ h ∷ hs)) (map cond_row until) (got_row h ∷ detail_rows after hs)
      (conds_read cs until gs (conds_until_kept IsCond h.0 ds p))
      (rw (got_read (cs ++ until) gs h q.0)
      (rest ∙ ap (λ x. Some (so_far x ((gs ++ h ∷ []) ++ hs))) whole ∙ ap (λ x. Some (so_far (cs ++ ds) x)) (append_assoc gs (h ∷ []) hs)))

-- one line's rows
pub line_again : (s : Script) (r : Read) (l : Line) → IsLineOf s l → (t : Read) × (read_rows s r (line_rows s l) ≡ Some t) × (lines_of t ≡ lines_of r ++ l ∷ [])
unfolding read_rows with_row line_of
line_again s r (line.Try a) h = (
  so_far s (lines_of r) a a.conds a.gots,
  rw (attempt_again s a h) (details_read s (lines_of r) a [] [] a.conds a.gots (recursion_from_All IsCond a.conds h.conds) (recursion_from_All IsGot a.gots h.gots)),
  refl,
)
line_again s r (line.Stop number target) h = (with_line r (line.Stop number target), rw (stop_again number target h.0 h.1) refl, append-nil _)
line_again s r (line.Restart number target incarnation floor) h =
    (with_line r (line.Restart number target incarnation floor), rw (restart_again number target incarnation floor h) refl, append-nil _)
line_again s r (line.Freeze target cont epoch) h = (with_line r (line.Freeze target cont epoch), rw (freeze_again s target cont epoch h) refl, append-nil _)
line_again s r (line.Snapshot name cont epoch) h = (with_line r (line.Snapshot name cont epoch), rw (snapshot_again s name cont epoch h) refl, append-nil _)
line_again s r (line.Aggregate number target cont upto) h =
    (with_line r (line.Aggregate number target cont upto), rw (aggregate_again s number target cont upto h) refl, append-nil _)
line_again s r (line.Down target) h = (with_line r (line.Down target), rw (down_again target h) refl, append-nil _)

-- all lines' rows
pub lines_again : (s : Script) (r : Read) (ls : List Line) → AllByRecursion (IsLineOf s) ls → (t : Read) × (read_rows s r (flat_map (line_rows s) ls) ≡ Some t) × (lines_of t ≡ lines_of r ++ ls)
unfolding read_rows
lines_again s r [] h = (r, refl, sym (append-nil (lines_of r)))
lines_again s r (l ∷ ls) h =
    let first = line_again s r l h.0 in
    let rest = lines_again s first.0 ls h.1 in
    (rest.0, then_rows s r first.0 rest.0 (line_rows s l) (flat_map (line_rows s) ls) first.1 rest.1, rest.2 ∙ ap (λ x. x ++ ls) first.2 ∙ append_assoc (lines_of r) (l ∷ []) ls)
