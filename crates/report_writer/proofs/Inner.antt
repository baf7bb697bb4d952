-- The rows of a report are rows: no space and no line end stands in a word.
use Rattle.std.proofs.Common.{◌≡◌, ℕ, ◌+◌, ◌/◌, ◌%◌, ◌^◌, ◌<◌, Bool, true, false, cond, leb, ltb, eqb, ◌&&◌, List, [], ◌∷◌, ◌++◌, map, flat_map, Option, Some, None, refl, arith}
use Rattle.std.specs.List.{list_all, AllByRecursion}
use Rattle.std.specs.Fmt.{decimal}
use Rattle.std.proofs.lemmas.Bool.{and_parts, and_from}
use Rattle.std.proofs.lemmas.Bool.Decides.{nat_tests}
use Rattle.std.proofs.lemmas.List.Elements.{recursion_from_All}
use Rattle.base_types.specs.declared.answer.Answer.{Answer}
use Rattle.base_types.specs.declared.answer.Answer.TheVariants as answer
use Rattle.base_types.specs.declared.answer.Piece.{Piece}
use Rattle.base_types.specs.declared.answer.Piece.TheVariants as piece
use Rattle.base_types.specs.declared.epoch.Epoch.{Epoch}
use Rattle.base_types.specs.declared.id.AttemptId.{AttemptId}
use Rattle.base_types.specs.declared.id.ContId.{ContId}
use Rattle.base_types.specs.declared.id.ObjId.{ObjId}
use Rattle.base_types.specs.declared.outcome.Cause.{Cause}
use Rattle.base_types.specs.declared.outcome.Cause.TheVariants as cause
use Rattle.base_types.specs.declared.outcome.FloorWhy.{FloorWhy}
use Rattle.base_types.specs.declared.outcome.FloorWhy.TheVariants as floor
use Rattle.base_types.specs.declared.outcome.Outcome.{Outcome}
use Rattle.base_types.specs.declared.outcome.Outcome.TheVariants as outcome
use Rattle.base_types.specs.declared.path.Path.{Path}
use Rattle.base_types.specs.declared.report.Attempt.{Attempt}
use Rattle.base_types.specs.declared.report.Line.{Line}
use Rattle.base_types.specs.declared.report.Line.TheVariants as line
use Rattle.base_types.specs.declared.report.Report.{Report}
use Rattle.base_types.specs.declared.script.ContDecl.{ContDecl}
use Rattle.base_types.specs.declared.script.ObjDecl.{ObjDecl}
use Rattle.base_types.specs.declared.script.Script.{Script}
use Rattle.base_types.specs.Keys.{IsKey}
use Rattle.base_types.specs.Paths.{same_object}
use Rattle.base_text.specs.Rows.{IsWord, IsRow}
use Rattle.base_text.specs.RowLaws.{IsWord-append, IsWord-decimal, IsWord-from_high}
use Rattle.report_writer.specs.Answers.{answer_words, piece_word}
use Rattle.report_writer.specs.Forms.{IsEpochOrNone, IsAttemptId, IsCond, IsFloorWhy, IsPiece, IsAnswer, IsGot, HasNames, IsContOf, IsBelowOf, IsPathOf, IsAccessOf, IsCauseOf, IsOutcomeOf, IsAttemptOf, IsLineOf, IsReportOf}
use Rattle.report_writer.specs.Names.{cont_word, obj_word, obj_part, key_part, path_word}
use Rattle.report_writer.specs.Outcomes.{access_words, cause_words, floor_words, outcome_words}
use Rattle.report_writer.specs.Reports.{cond_row, conds_after, conds_until, detail_rows, end_row, got_row, line_rows, report_rows, try_row, yes_word}
use Rattle.report_writer.specs.Values.{is_printable, hex_byte, hex_digit, value_word}
use Rattle.report_writer.specs.Words.{attempt_words, epoch_word}
use Rattle.report_writer.proofs.Again.{conds_until_kept, conds_after_kept}
use Rattle.report_writer.proofs.Keys.{IsWord-from_key}

-- ---- words

pub all_append : {A : Type 0} (P : A → Type 0) (xs ys : List A) → AllByRecursion P xs → AllByRecursion P ys → AllByRecursion P (xs ++ ys)
all_append P [] ys p q = q
all_append P (x ∷ xs) ys p q = (p.0, all_append P xs ys p.1 q)

pub u8_inner : (n : ℕ) → n < 2 ^ 8 → IsWord (decimal n)
u8_inner n lt = IsWord-decimal n (omega arith)

u16_inner : (n : ℕ) → n < 2 ^ 16 → IsWord (decimal n)
u16_inner n lt = IsWord-decimal n (omega arith)

u32_inner : (n : ℕ) → n < 2 ^ 32 → IsWord (decimal n)
u32_inner n lt = IsWord-decimal n (omega arith)

epoch_or_none_inner : (epoch : Option Epoch) → IsEpochOrNone epoch → IsWord (epoch_word epoch)
epoch_or_none_inner None h = refl
epoch_or_none_inner (Some epoch) lt = IsWord-decimal epoch.0 lt

attempt_id_inner : (id : AttemptId) → IsAttemptId id → AllByRecursion IsWord (attempt_words id)
attempt_id_inner id h = (u16_inner id.client h.client, (u32_inner id.command h.command, (u8_inner id.attempt h.attempt, tt)))

printable_high : (b : ℕ) → is_printable b ≡ true → leb 33 b ≡ true
printable_high b e = (and_parts (leb 33 b) (leb b 126) e).0

all_printable_high : (bs : List ℕ) → list_all is_printable bs ≡ true → list_all (λ b. leb 33 b) bs ≡ true
all_printable_high [] e = refl
all_printable_high (b ∷ bs) e =
    let p = and_parts (is_printable b) (list_all is_printable bs) e in and_from (leb 33 b) (list_all (λ b. leb 33 b) bs) (printable_high b p.0) (all_printable_high bs p.1)

hex_digit_high : (n : ℕ) → leb 33 (hex_digit n) ≡ true
hex_digit_high n = go (ltb n 10)
  where
    go : (b : Bool) → leb 33 (cond b (48 + n) (87 + n)) ≡ true
    go true = grind (arith, nat_tests)
    go false = grind (arith, nat_tests)

hex_high : (bs : List ℕ) → list_all (λ b. leb 33 b) (flat_map hex_byte bs) ≡ true
hex_high [] = refl
hex_high (b ∷ bs) =
    and_from (leb 33 (hex_digit (b / 16))) (leb 33 (hex_digit (b % 16)) && list_all (λ b. leb 33 b) (flat_map hex_byte bs)) (hex_digit_high (b / 16))
    (and_from (leb 33 (hex_digit (b % 16))) (list_all (λ b. leb 33 b) (flat_map hex_byte bs)) (hex_digit_high (b % 16)) (hex_high bs))

value_inner : (bytes : List ℕ) → IsWord (value_word bytes)
unfolding value_word
value_inner bytes = go (list_all is_printable bytes) refl
  where
    go : (b : Bool) → list_all is_printable bytes ≡ b → IsWord (cond b (61 ∷ bytes) (35 ∷ flat_map hex_byte bytes))
    go true e = IsWord-from_high (61 ∷ bytes) (all_printable_high bytes e)
    go false e = IsWord-from_high (35 ∷ flat_map hex_byte bytes) (hex_high bytes)

piece_inner : (p : Piece) → IsPiece p → IsWord (piece_word p)
piece_inner (piece.Bytes bytes) h = value_inner bytes
piece_inner (piece.Hole count) lt = IsWord-append (126 ∷ []) (decimal count) refl (u32_inner count lt)

pieces_inner : (ps : List Piece) → AllByRecursion IsPiece ps → AllByRecursion IsWord (map piece_word ps)
pieces_inner [] h = tt
pieces_inner (p ∷ ps) h = (piece_inner p h.0, pieces_inner ps h.1)

keys_inner : (ks : List (List ℕ)) → AllByRecursion IsKey ks → AllByRecursion IsWord ks
keys_inner [] h = tt
keys_inner (k ∷ ks) h = (IsWord-from_key k h.0, keys_inner ks h.1)

pub answer_inner : (a : Answer) → IsAnswer a → AllByRecursion IsWord (answer_words a)
answer_inner (answer.Bytes bytes) h = (refl, (value_inner bytes, tt))
answer_inner (answer.Parts pieces) h = (refl, pieces_inner pieces (recursion_from_All IsPiece pieces h))
answer_inner (answer.Names keys) h = (refl, keys_inner keys (recursion_from_All IsKey keys h))
answer_inner answer.Yes h = (refl, tt)
answer_inner answer.No h = (refl, tt)
answer_inner answer.Absent h = (refl, tt)

-- ---- names and paths

cont_inner : (ds : List ContDecl) (cont : ContId) → AllByRecursion (λ d. IsKey d.name) ds → IsWord (cont_word ds cont)
cont_inner [] cont h = refl
cont_inner (d ∷ ds) cont h = go (eqb d.id.0 cont.0) (cont_inner ds cont h.1)
  where
    go : (b : Bool) → IsWord (cont_word ds cont) → IsWord (cond b d.name (cont_word ds cont))
    go true rest = IsWord-from_key d.name h.0
    go false rest = rest

obj_inner : (ds : List ObjDecl) (cont : ContId) (obj : ObjId) → AllByRecursion (λ d. IsKey d.name) ds → IsWord (obj_word ds cont obj)
obj_inner [] cont obj h = refl
obj_inner (d ∷ ds) cont obj h = go (eqb d.cont.0 cont.0 && same_object d.id obj) (obj_inner ds cont obj h.1)
  where
    go : (b : Bool) → IsWord (obj_word ds cont obj) → IsWord (cond b d.name (obj_word ds cont obj))
    go true rest = IsWord-from_key d.name h.0
    go false rest = rest

named_inner : (s : Script) (cont : ContId) → IsContOf s cont → IsWord (cont_word s.conts cont)
named_inner s cont h = cont_inner s.conts cont (recursion_from_All (λ d. IsKey d.name) s.conts h.names.cont_keys)

obj_part_inner : (s : Script) (cont : ContId) (obj : Option ObjId) → HasNames s → IsWord (obj_part s.objs cont obj)
obj_part_inner s cont None h = refl
obj_part_inner s cont (Some obj) h = IsWord-append (47 ∷ []) (obj_word s.objs cont obj) refl (obj_inner s.objs cont obj (recursion_from_All (λ d. IsKey d.name) s.objs h.obj_keys))

-- a key, if there is one
abbrev IsKeyOrNone : Option (List ℕ) → Type 0
IsKeyOrNone None = Unit {0}
IsKeyOrNone (Some key) = IsKey key

key_part_inner : (key : Option (List ℕ)) → IsKeyOrNone key → IsWord (key_part key)
key_part_inner None h = refl
key_part_inner (Some key) h = IsWord-append (47 ∷ []) key refl (IsWord-from_key key h)

keys_below : (s : Script) (cont : ContId) (obj : Option ObjId) (dkey akey : Option (List ℕ)) → IsBelowOf s cont obj dkey akey → IsKeyOrNone dkey × IsKeyOrNone akey
keys_below s cont None None None h = (tt, tt)
keys_below s cont None None (Some akey) h = absurd h
keys_below s cont None (Some dkey) akey h = absurd h
keys_below s cont (Some obj) None None h = (tt, tt)
keys_below s cont (Some obj) None (Some akey) h = absurd h
keys_below s cont (Some obj) (Some dkey) None h = (h.1, tt)
keys_below s cont (Some obj) (Some dkey) (Some akey) h = (h.1, h.2)

path_inner : (s : Script) (path : Path) → IsPathOf s path → IsWord (path_word s path)
unfolding path_word
path_inner s path h =
    let keys = keys_below s path.cont path.obj path.dkey path.akey h.below in
    IsWord-append (cont_word s.conts path.cont ++ obj_part s.objs path.cont path.obj ++ key_part path.dkey) (key_part path.akey)
    (IsWord-append (cont_word s.conts path.cont ++ obj_part s.objs path.cont path.obj) (key_part path.dkey)
    (IsWord-append (cont_word s.conts path.cont) (obj_part s.objs path.cont path.obj) (named_inner s path.cont h.cont) (obj_part_inner s path.cont path.obj h.cont.names))
    (key_part_inner path.dkey keys.0))
    (key_part_inner path.akey keys.1)

-- ---- outcomes

floor_inner : (why : FloorWhy) → IsFloorWhy why → AllByRecursion IsWord (floor_words why)
floor_inner floor.Opening h = absurd h
floor_inner (floor.Restart number) lt = (refl, (u32_inner number lt, tt))
floor_inner (floor.Snapshot epoch) lt = (refl, (IsWord-decimal epoch.0 lt, tt))
floor_inner (floor.Aggregate number) lt = (refl, (u32_inner number lt, tt))

access_inner : (s : Script) (by : AttemptId) (epoch : Epoch) (path : Path) → IsAccessOf s by epoch path → AllByRecursion IsWord (access_words s by epoch path)
access_inner s by epoch path h =
    all_append IsWord (attempt_words by) (decimal epoch.0 ∷ path_word s path ∷ []) (attempt_id_inner by h.id) (IsWord-decimal epoch.0 h.issued, (path_inner s path h.named, tt))

cause_inner : (s : Script) (why : Cause) → IsCauseOf s why → AllByRecursion IsWord (cause_words s why)
cause_inner s (cause.ReadLater by epoch path) h = (refl, access_inner s by epoch path h)
cause_inner s (cause.WriteLater by epoch path) h = (refl, access_inner s by epoch path h)
cause_inner s (cause.Unresolved by) h = (refl, attempt_id_inner by h)
cause_inner s (cause.Floor target epoch why) h = (refl, (u8_inner target h.number, (IsWord-decimal epoch.0 h.issued, floor_inner why h.cause)))

outcome_inner : (s : Script) (o : Outcome) → IsOutcomeOf s o → AllByRecursion IsWord (outcome_words s o)
outcome_inner s outcome.Committed h = (refl, tt)
outcome_inner s (outcome.CondFailed op) lt = (refl, (u8_inner op lt, tt))
outcome_inner s (outcome.Restart why) h = (refl, cause_inner s why h)
outcome_inner s (outcome.NoSpace target need free) h = (refl, (u8_inner target h.number, (u32_inner need h.wanted, (u32_inner free h.found, tt))))
outcome_inner s outcome.EpochsSpent h = (refl, tt)
outcome_inner s outcome.NoSnapshot h = (refl, tt)
outcome_inner s (outcome.Unknown target) lt = (refl, (u8_inner target lt, tt))

-- ---- rows

pub try_inner : (s : Script) (a : Attempt) → IsAttemptOf s a → IsRow (try_row s a)
try_inner s a h =
    (refl, all_append IsWord (attempt_words a.id) (epoch_word a.epoch ∷ outcome_words s a.outcome) (attempt_id_inner a.id h.id) (epoch_or_none_inner a.epoch h.epoch, outcome_inner s a.outcome h.outcome))

pub yes_inner : (b : Bool) → IsWord (yes_word b)
yes_inner true = refl
yes_inner false = refl

conds_inner : (cs : List (ℕ × Bool)) → AllByRecursion IsCond cs → AllByRecursion IsRow (map cond_row cs)
conds_inner [] h = tt
conds_inner (c ∷ cs) h = ((refl, (u8_inner c.0 h.0, (yes_inner c.1, tt))), conds_inner cs h.1)

pub details_inner : (cs : List (ℕ × Bool)) (gs : List (ℕ × Answer)) → AllByRecursion IsCond cs → AllByRecursion IsGot gs → AllByRecursion IsRow (detail_rows cs gs)
details_inner cs [] p q = conds_inner cs p
details_inner cs (g ∷ gs) p q =
    all_append IsRow (map cond_row (conds_until g.0 cs)) (got_row g ∷ detail_rows (conds_after g.0 cs) gs) (conds_inner (conds_until g.0 cs) (conds_until_kept IsCond g.0 cs p))
    ((refl, (u8_inner g.0 q.0.op, answer_inner g.1 q.0.answer)), details_inner (conds_after g.0 cs) gs (conds_after_kept IsCond g.0 cs p) q.1)

pub line_inner : (s : Script) (l : Line) → IsLineOf s l → AllByRecursion IsRow (line_rows s l)
line_inner s (line.Try a) h = (try_inner s a h, details_inner a.conds a.gots (recursion_from_All IsCond a.conds h.conds) (recursion_from_All IsGot a.gots h.gots))
line_inner s (line.Stop number target) h = ((refl, (u32_inner number h.0, (u8_inner target h.1, tt))), tt)
line_inner s (line.Restart number target incarnation floor) h =
    ((refl, (u32_inner number h.which, (u8_inner target h.of_target, (IsWord-decimal incarnation h.opening, (IsWord-decimal floor.0 h.issued, tt))))), tt)
line_inner s (line.Freeze target cont epoch) h = ((refl, (u8_inner target h.of_target, (named_inner s cont h.named, (IsWord-decimal epoch.0 h.issued, tt)))), tt)
line_inner s (line.Snapshot name cont epoch) h = ((refl, (IsWord-from_key name h.key, (named_inner s cont h.named, (IsWord-decimal epoch.0 h.issued, tt)))), tt)
line_inner s (line.Aggregate number target cont upto) h =
    ((refl, (u32_inner number h.which, (u8_inner target h.of_target, (named_inner s cont h.named, (IsWord-decimal upto.0 h.issued, tt))))), tt)
line_inner s (line.Down target) lt = ((refl, (u8_inner target lt, tt)), tt)

lines_inner : (s : Script) (ls : List Line) → AllByRecursion (IsLineOf s) ls → AllByRecursion IsRow (flat_map (line_rows s) ls)
lines_inner s [] h = tt
lines_inner s (l ∷ ls) h = all_append IsRow (line_rows s l) (flat_map (line_rows s) ls) (line_inner s l h.0) (lines_inner s ls h.1)

pub end_inner : (down : Option ℕ) → IsRow (end_row down)
end_inner None = (refl, (refl, tt))
end_inner (Some target) = (refl, (refl, tt))

pub report_inner : (s : Script) (q : Report) → IsReportOf s q → AllByRecursion IsRow (report_rows s q)
unfolding report_rows
report_inner s q h = (
  (refl, (refl, (refl, (u8_inner q.targets h.targets, tt)))),
  all_append IsRow (flat_map (line_rows s) q.lines) (end_row q.down ∷ []) (lines_inner s q.lines (recursion_from_All (IsLineOf s) q.lines h.lines)) (end_inner q.down, tt),
)
