-- The words and rows of a report are read as what they tell.
use Rattle.std.proofs.Common.{◌≡◌, ℕ, ◌+◌, ◌-◌, ◌*◌, ◌/◌, ◌%◌, ◌^◌, ◌≤◌, ◌<◌, Bool, true, false, cond, leb, ltb, eqb, ◌&&◌, ◌⊎◌, inl, inr, List, [], ◌∷◌, ◌++◌, map, flat_map, Option, Some, None, refl, sym, ap, ◌∙◌, arith, append_assoc, append-nil}
use Rattle.std.specs.List.{list_all, AllByRecursion, IsDistinct}
use Rattle.std.specs.Fmt.{decimal}
use Rattle.std.proofs.lemmas.Bool.{and_parts, and_from}
use Rattle.std.proofs.lemmas.Bool.Decides.{nat_tests}
use Rattle.std.proofs.lemmas.List.Elements.{recursion_from_All}
use Rattle.std.proofs.lemmas.Map.Keys.{IsDistinct-head, IsDistinct-tail}
use Rattle.std.proofs.Math.Nat.{div-add-mod}
use Rattle.base_types.specs.declared.answer.Answer.{Answer}
use Rattle.base_types.specs.declared.answer.Answer.TheVariants as answer
use Rattle.base_types.specs.declared.answer.Piece.{Piece}
use Rattle.base_types.specs.declared.answer.Piece.TheVariants as piece
use Rattle.base_types.specs.declared.epoch.Epoch.{Epoch}
use Rattle.base_types.specs.declared.id.AttemptId.{AttemptId}
use Rattle.base_types.specs.declared.id.ContId.{ContId}
use Rattle.base_types.specs.declared.id.ObjId.{ObjId}
use Rattle.base_types.specs.declared.outcome.Cause.{Cause}
use Rattle.base_types.specs.declared.outcome.Cause.TheVariants as cause
use Rattle.base_types.specs.declared.outcome.FloorWhy.{FloorWhy}
use Rattle.base_types.specs.declared.outcome.FloorWhy.TheVariants as floor
use Rattle.base_types.specs.declared.outcome.Outcome.{Outcome}
use Rattle.base_types.specs.declared.outcome.Outcome.TheVariants as outcome
use Rattle.base_types.specs.declared.path.Path.{Path}
use Rattle.base_types.specs.declared.report.Attempt.{Attempt}
use Rattle.base_types.specs.declared.report.Line.TheVariants as line
use Rattle.base_types.specs.declared.script.ContDecl.{ContDecl}
use Rattle.base_types.specs.declared.script.ObjDecl.{ObjDecl}
use Rattle.base_types.specs.declared.script.Script.{Script}
use Rattle.base_types.specs.Keys.{IsKey, same_key}
use Rattle.base_types.specs.Scripts.{obj_name}
use Rattle.base_types.specs.Paths.{same_object}
use Rattle.base_text.specs.NumberLaws.{numbers_are_decimals}
use Rattle.base_text.specs.Parts.{parts_of}
use Rattle.base_text.specs.Rows.{Words}
use Rattle.report_writer.specs.Answers.{answer_words, piece_word}
use Rattle.report_writer.specs.Forms.{IsEpoch, IsEpochOrNone, IsAttemptId, IsCond, IsFloorWhy, IsPiece, IsAnswer, IsGot, IsContOf, IsObjOf, IsBelowOf, IsPathOf, IsAccessOf, IsCauseOf, IsOutcomeOf, IsAttemptOf, IsRestart, IsFreezeOf, IsSnapshotOf, IsAggregateOf}
use Rattle.report_writer.specs.Names.{cont_word, obj_word, obj_part, key_part, path_word}
use Rattle.report_writer.specs.Outcomes.{access_words, cause_words, floor_words, outcome_words}
use Rattle.report_writer.specs.Reports.{aggregate_row, cond_row, down_row, freeze_row, got_row, restart_row, snapshot_row, stop_row, try_row, yes_word}
use Rattle.report_writer.specs.Values.{is_printable, hex_byte, hex_digit, value_word}
use Rattle.report_writer.specs.Words.{attempt_words, epoch_word}
use Rattle.report_writer.proofs.Again.{no_dash, u8_again, u16_again, u32_again, u64_again}
use Rattle.report_writer.proofs.Keys.{key_unslashed}
use Rattle.report_writer.proofs.NamesAgain.{Declares, Holds, Holds-from_Any, cont_again, differs, is_decl, keys_of_conts, keys_of_objs, last_part, next_part, not_declared, obj_word_stands, same_obj, same_self}
use Rattle.report_writer.proofs.Reading as told
use Rattle.report_grammar.specs.declared.rows.Told.TheVariants.{Try, Cond, Got, Other}
use Rattle.report_grammar.specs.Answers.{answer_of, digit_of, hex_of, names_from, piece_of, pieces_from, value_of}
use Rattle.report_grammar.specs.Names.{cont_at, cont_of, key_or_none_at, obj_of, obj_or_none_at, path_at, path_of}
use Rattle.report_grammar.specs.Outcomes.{access_of, cause_of, floor_cause_of, floor_of, no_space_of, numbered_of, outcome_of}
use Rattle.report_grammar.specs.Reads.{◌>>=◌}
use Rattle.report_grammar.specs.Rows.{aggregate_of, attempt_of, cond_of, down_of, freeze_of, got_of, restart_of, snapshot_of, stop_of, told_of, yes_at}
use Rattle.report_grammar.specs.Words.{attempt_id_at, epoch_at, epoch_or_none_at, key_at, key_of, nothing_at, number_at}
use Rattle.report_reader.specs.Law.{HasWholeValues, IsWholePiece}

-- ---- numbers, epochs, attempts

u8_at : (n : ℕ) (rest : Words) → n < 2 ^ 8 → number_at 0 255 (decimal n ∷ rest) ≡ Some (n, rest)
unfolding number_at
u8_at n rest lt = rw (u8_again n lt) refl

u16_at : (n : ℕ) (rest : Words) → n < 2 ^ 16 → number_at 0 65535 (decimal n ∷ rest) ≡ Some (n, rest)
unfolding number_at
u16_at n rest lt = rw (u16_again n lt) refl

u32_at : (n : ℕ) (rest : Words) → n < 2 ^ 32 → number_at 0 4294967295 (decimal n ∷ rest) ≡ Some (n, rest)
unfolding number_at
u32_at n rest lt = rw (u32_again n lt) refl

u64_at : (n : ℕ) (rest : Words) → n < 2 ^ 64 → number_at 0 18446744073709551615 (decimal n ∷ rest) ≡ Some (n, rest)
unfolding number_at
u64_at n rest lt = rw (u64_again n lt) refl

epoch_back : (epoch : Epoch) (rest : Words) → IsEpoch epoch → epoch_at (decimal epoch.0 ∷ rest) ≡ Some (epoch, rest)
unfolding epoch_at
epoch_back epoch rest lt = rw (u64_at epoch.0 rest lt) refl

epoch_or_none_back : (epoch : Option Epoch) (rest : Words) → IsEpochOrNone epoch → epoch_or_none_at (epoch_word epoch ∷ rest) ≡ Some (epoch, rest)
unfolding epoch_or_none_at
epoch_or_none_back None rest h = refl
epoch_or_none_back (Some epoch) rest lt = rw (no_dash epoch.0 lt, u64_again epoch.0 lt) refl

attempt_back : (id : AttemptId) (rest : Words) → IsAttemptId id → attempt_id_at (attempt_words id ++ rest) ≡ Some (id, rest)
unfolding attempt_id_at
attempt_back id rest h =
    rw (u16_at id.client (decimal id.command ∷ decimal id.attempt ∷ rest) h.client, u32_at id.command (decimal id.attempt ∷ rest) h.command, u8_at id.attempt rest h.attempt) refl

-- ---- names and paths

key_back : (key : List ℕ) → IsKey key → key_of key ≡ Some key
key_back key h = rw h refl

same_conts : (ds : List ContDecl) (name : List ℕ) → cont_of ds name ≡ told.cont_of ds name
same_conts [] name = refl
same_conts (d ∷ ds) name = ap (λ t. cond (same_key d.name name) (Some d.id) t) (same_conts ds name)

cont_back : (s : Script) (cont : ContId) (rest : Words) → IsContOf s cont → cont_at s (cont_word s.conts cont ∷ rest) ≡ Some (cont, rest)
unfolding cont_at
cont_back s cont rest h = rw (same_conts s.conts (cont_word s.conts cont) ∙ cont_again s cont h) refl

obj_found : (ds : List ObjDecl) (cont : ContId) (obj : ObjId) → IsDistinct same_key (map obj_name ds) → Holds (Declares cont obj) ds → obj_of ds cont (obj_word ds cont obj) ≡ Some obj
obj_found [] cont obj distinct none = absurd none
obj_found (d ∷ ds) cont obj distinct h = go (is_decl cont obj d) refl h (obj_found ds cont obj (IsDistinct-tail same_key (obj_name d) (map obj_name ds) distinct))
  where
    first : (eqb d.cont.0 cont.0 && same_key d.name d.name) ≡ true → d.id ≡ obj → cond (eqb d.cont.0 cont.0 && same_key d.name d.name) (Some d.id) (obj_of ds cont d.name) ≡ Some obj
    first same is = rw same (ap (λ o. Some o) is)

    not_named : (b c : Bool) → c ≡ false → (b && c) ≡ false
    not_named true c e = e
    not_named false c e = refl

    later : (b : Bool) → b ≡ false → obj_of ds cont (obj_word ds cont obj) ≡ Some obj → cond b (Some d.id) (obj_of ds cont (obj_word ds cont obj)) ≡ Some obj
    later b e is = rw e is

    go : (b : Bool) → is_decl cont obj d ≡ b → Declares cont obj d ⊎ Holds (Declares cont obj) ds → (Holds (Declares cont obj) ds → obj_of ds cont (obj_word ds cont obj) ≡ Some obj)
        → cond (eqb d.cont.0 cont.0 && same_key d.name (cond b d.name (obj_word ds cont obj))) (Some d.id) (obj_of ds cont (cond b d.name (obj_word ds cont obj))) ≡ Some obj
    go true e h ih =
        let p = and_parts (eqb d.cont.0 cont.0) (same_object d.id obj) e in
        first (and_from (eqb d.cont.0 cont.0) (same_key d.name d.name) p.0 (same_self d.name)) (same_obj d.id obj p.1)
    go false e (inl is) ih = absurd (not_declared cont obj d is e)
    go false e (inr rest) ih =
        later (eqb d.cont.0 cont.0 && same_key d.name (obj_word ds cont obj))
        (not_named (eqb d.cont.0 cont.0) (same_key d.name (obj_word ds cont obj)) (differs obj_name d.name (obj_word ds cont obj) ds (IsDistinct-head same_key (obj_name d) (map obj_name ds) distinct) (obj_word_stands ds cont obj rest)))
        (ih rest)

module _ (s : Script) (cont : ContId) (named : IsContOf s cont) where
  abbrev name : List ℕ
  name = cont_word s.conts cont

  obj_back : (obj : ObjId) → IsObjOf s cont obj → obj_of s.objs cont (obj_word s.objs cont obj) ≡ Some obj
  obj_back obj h = obj_found s.objs cont obj named.names.obj_names (Holds-from_Any (Declares cont obj) s.objs h)

  -- the path of a word of these parts
  abbrev path_of_parts : Words → Option Path
  path_of_parts parts = do
    c ← cont_at s parts
    obj ← obj_or_none_at s c.0 c.1
    dkey ← key_or_none_at obj.1
    akey ← key_or_none_at dkey.1
    end ← nothing_at akey.1
    Some (record { cont = c.0; obj = obj.0; dkey = dkey.0; akey = akey.0 })

  from_parts : (word : List ℕ) (parts : Words) (p : Path) → parts_of 47 word ≡ parts → path_of_parts parts ≡ Some p → path_of s word ≡ Some p
  unfolding path_of
  from_parts word parts p e f = ap path_of_parts e ∙ f

  below_back : (obj : Option ObjId) (dkey akey : Option (List ℕ)) → IsBelowOf s cont obj dkey akey
      → path_of s (cont_word s.conts cont ++ (obj_part s.objs cont obj ++ (key_part dkey ++ key_part akey))) ≡ Some (record { cont = cont; obj = obj; dkey = dkey; akey = akey })
  below_back None None None b =
      from_parts _ (name ∷ []) _ (ap (parts_of 47) (append-nil name) ∙ last_part name (keys_of_conts s named.names cont)) (rw (cont_back s cont [] named) refl)
  below_back None None (Some akey) b = absurd b
  below_back None (Some dkey) akey b = absurd b
  below_back (Some obj) None None b =
      let o = obj_word s.objs cont obj in
      from_parts _ (name ∷ o ∷ []) _
      (next_part name (o ++ []) (keys_of_conts s named.names cont) ∙ ap (λ t. name ∷ t) (ap (parts_of 47) (append-nil o) ∙ last_part o (keys_of_objs s named.names cont obj)))
      (rw (cont_back s cont (o ∷ []) named, obj_back obj b) refl)
  below_back (Some obj) None (Some akey) b = absurd b
  below_back (Some obj) (Some dkey) None b =
      let o = obj_word s.objs cont obj in
      from_parts _ (name ∷ o ∷ dkey ∷ []) _
      (next_part name (o ++ 47 ∷ (dkey ++ [])) (keys_of_conts s named.names cont)
      ∙ ap (λ t. name ∷ t) (next_part o (dkey ++ []) (keys_of_objs s named.names cont obj)
      ∙ ap (λ t. o ∷ t) (ap (parts_of 47) (append-nil dkey) ∙ last_part dkey (key_unslashed dkey b.1))))
      (rw (cont_back s cont (o ∷ dkey ∷ []) named, obj_back obj b.0, key_back dkey b.1) refl)
  below_back (Some obj) (Some dkey) (Some akey) b =
      let o = obj_word s.objs cont obj in
      from_parts _ (name ∷ o ∷ dkey ∷ akey ∷ []) _
      (next_part name (o ++ 47 ∷ (dkey ++ 47 ∷ akey)) (keys_of_conts s named.names cont)
      ∙ ap (λ t. name ∷ t) (next_part o (dkey ++ 47 ∷ akey) (keys_of_objs s named.names cont obj)
      ∙ ap (λ t. o ∷ t) (next_part dkey akey (key_unslashed dkey b.1) ∙ ap (λ t. dkey ∷ t) (last_part akey (key_unslashed akey b.2)))))
      (rw (cont_back s cont (o ∷ dkey ∷ akey ∷ []) named, obj_back obj b.0, key_back dkey b.1, key_back akey b.2) refl)

path_back : (s : Script) (path : Path) → IsPathOf s path → path_of s (path_word s path) ≡ Some path
unfolding path_word
path_back s path h =
    ap (path_of s) (append_assoc (cont_word s.conts path.cont ++ obj_part s.objs path.cont path.obj) (key_part path.dkey) (key_part path.akey)
    ∙ append_assoc (cont_word s.conts path.cont) (obj_part s.objs path.cont path.obj) (key_part path.dkey ++ key_part path.akey))
    ∙ below_back s path.cont h.cont path.obj path.dkey path.akey h.below

path_at_back : (s : Script) (path : Path) (rest : Words) → IsPathOf s path → path_at s (path_word s path ∷ rest) ≡ Some (path, rest)
unfolding path_at
path_at_back s path rest h = rw (path_back s path h) refl

-- ---- values and answers

low_digit : (n : ℕ) → ltb n 10 ≡ true → ((leb 48 (48 + n) && leb (48 + n) 57) ≡ true) × (48 + n - 48 ≡ n)
low_digit n e = let lt : n < 10 = grind (arith, nat_tests) in (grind (arith, nat_tests), omega arith)

high_digit : (n : ℕ) → n < 16 → ltb n 10 ≡ false → ((leb 48 (87 + n) && leb (87 + n) 57) ≡ false) × ((leb 97 (87 + n) && leb (87 + n) 102) ≡ true) × (87 + n - 87 ≡ n)
high_digit n lt e = let le : 10 ≤ n = grind (arith, nat_tests) in (grind (arith, nat_tests), grind (arith, nat_tests), omega arith)

digit_back : (n : ℕ) → n < 16 → digit_of (hex_digit n) ≡ Some n
digit_back n lt = go (ltb n 10) refl
  where
    go : (b : Bool) → ltb n 10 ≡ b → digit_of (cond b (48 + n) (87 + n)) ≡ Some n
    go true e = let d = low_digit n e in rw d.0 (ap (λ m. Some m) d.1)
    go false e = let d = high_digit n lt e in rw (d.0, d.1) (ap (λ m. Some m) d.2)

hex_back : (bytes more : List ℕ) → AllByRecursion (λ b. b < 2 ^ 8) more → hex_of bytes (flat_map hex_byte more) ≡ Some (bytes ++ more)
hex_back bytes [] h = ap (λ t. Some t) (sym (append-nil bytes))
hex_back bytes (b ∷ more) h =
    let whole : b / 16 * 16 + b % 16 ≡ b = omega (arith, div-add-mod b 16) in
    rw (digit_back (b / 16) (omega (arith, h.0)), digit_back (b % 16) (omega arith))
    (ap (λ t. hex_of (bytes ++ t ∷ []) (flat_map hex_byte more)) whole ∙ hex_back (bytes ++ b ∷ []) more h.1 ∙ ap (λ t. Some t) (append_assoc bytes (b ∷ []) more))

value_back : (bytes : List ℕ) → AllByRecursion (λ b. b < 2 ^ 8) bytes → value_of (value_word bytes) ≡ Some bytes
unfolding value_word
value_back bytes h = go (list_all is_printable bytes)
  where
    go : (b : Bool) → value_of (cond b (61 ∷ bytes) (35 ∷ flat_map hex_byte bytes)) ≡ Some bytes
    go true = refl
    go false = hex_back [] bytes h

piece_value : (bytes : List ℕ) → AllByRecursion (λ b. b < 2 ^ 8) bytes → piece_of (value_word bytes) ≡ Some (piece.Bytes bytes)
unfolding value_word
piece_value bytes h = go (list_all is_printable bytes)
  where
    go : (b : Bool) → piece_of (cond b (61 ∷ bytes) (35 ∷ flat_map hex_byte bytes)) ≡ Some (piece.Bytes bytes)
    go true = refl
    go false = rw (hex_back [] bytes h) refl

piece_back : (p : Piece) → IsPiece p → IsWholePiece p → piece_of (piece_word p) ≡ Some p
piece_back (piece.Bytes bytes) h k = piece_value bytes (recursion_from_All (λ b. b < 2 ^ 8) bytes k)
piece_back (piece.Hole count) h k = rw (numbers_are_decimals.read 1 4294967295 count (omega arith) (omega (arith, k)) (omega (arith, h))) refl

pieces_back : (ps more : List Piece) → AllByRecursion IsPiece more → AllByRecursion IsWholePiece more → pieces_from ps (map piece_word more) ≡ Some (ps ++ more)
pieces_back ps [] h k = ap (λ t. Some t) (sym (append-nil ps))
pieces_back ps (p ∷ more) h k = rw (piece_back p h.0 k.0) (pieces_back (ps ++ p ∷ []) more h.1 k.1 ∙ ap (λ t. Some t) (append_assoc ps (p ∷ []) more))

names_back : (ks more : List (List ℕ)) → AllByRecursion IsKey more → names_from ks more ≡ Some (ks ++ more)
names_back ks [] h = ap (λ t. Some t) (sym (append-nil ks))
names_back ks (k ∷ more) h = rw (key_back k h.0) (names_back (ks ++ k ∷ []) more h.1 ∙ ap (λ t. Some t) (append_assoc ks (k ∷ []) more))

answer_back : (a : Answer) → IsAnswer a → HasWholeValues a → answer_of (answer_words a) ≡ Some a
unfolding answer_of
answer_back (answer.Bytes bytes) h k = rw (value_back bytes (recursion_from_All (λ b. b < 2 ^ 8) bytes k)) refl
answer_back (answer.Parts pieces) h k = rw (pieces_back [] pieces (recursion_from_All IsPiece pieces h) (recursion_from_All IsWholePiece pieces k)) refl
answer_back (answer.Names keys) h k = rw (names_back [] keys (recursion_from_All IsKey keys h)) refl
answer_back answer.Yes h k = refl
answer_back answer.No h k = refl
answer_back answer.Absent h k = refl

-- ---- outcomes

floor_back : (why : FloorWhy) → IsFloorWhy why → floor_of (floor_words why) ≡ Some why
unfolding floor_of
floor_back floor.Opening h = absurd h
floor_back (floor.Restart number) lt = rw (u32_at number [] lt) refl
floor_back (floor.Snapshot epoch) lt = rw (epoch_back epoch [] lt) refl
floor_back (floor.Aggregate number) lt = rw (u32_at number [] lt) refl

access_back : (s : Script) (by : AttemptId) (epoch : Epoch) (path : Path) → IsAccessOf s by epoch path → access_of s (access_words s by epoch path) ≡ Some (record { by = by; epoch = epoch; path = path })
unfolding access_of
access_back s by epoch path h =
    rw (attempt_back by (decimal epoch.0 ∷ path_word s path ∷ []) h.id, epoch_back epoch (path_word s path ∷ []) h.issued, path_at_back s path [] h.named) refl

floor_cause_back : (target : ℕ) (epoch : Epoch) (why : FloorWhy) → target < 2 ^ 8 → IsEpoch epoch → IsFloorWhy why
    → floor_cause_of (decimal target ∷ decimal epoch.0 ∷ floor_words why) ≡ Some (cause.Floor target epoch why)
unfolding floor_cause_of
floor_cause_back target epoch why p q r = rw (u8_at target (decimal epoch.0 ∷ floor_words why) p, epoch_back epoch (floor_words why) q, floor_back why r) refl

cause_back : (s : Script) (why : Cause) → IsCauseOf s why → cause_of s (cause_words s why) ≡ Some why
unfolding cause_of
cause_back s (cause.ReadLater by epoch path) h = rw (access_back s by epoch path h) refl
cause_back s (cause.WriteLater by epoch path) h = rw (access_back s by epoch path h) refl
cause_back s (cause.Unresolved by) h = rw (attempt_back by [] h) refl
cause_back s (cause.Floor target epoch why) h = floor_cause_back target epoch why h.number h.issued h.cause

no_space_back : (target need free : ℕ) → target < 2 ^ 8 → need < 2 ^ 32 → free < 2 ^ 32 → no_space_of (decimal target ∷ decimal need ∷ decimal free ∷ []) ≡ Some (outcome.NoSpace target need free)
unfolding no_space_of
no_space_back target need free p q r = rw (u8_at target (decimal need ∷ decimal free ∷ []) p, u32_at need (decimal free ∷ []) q, u32_at free [] r) refl

outcome_back : (s : Script) (o : Outcome) → IsOutcomeOf s o → outcome_of s (outcome_words s o) ≡ Some o
unfolding outcome_of numbered_of
outcome_back s outcome.Committed h = refl
outcome_back s (outcome.CondFailed op) lt = rw (u8_at op [] lt) refl
outcome_back s (outcome.Restart why) h = rw (cause_back s why h) refl
outcome_back s (outcome.NoSpace target need free) h = no_space_back target need free h.number h.wanted h.found
outcome_back s outcome.EpochsSpent h = refl
outcome_back s outcome.NoSnapshot h = refl
outcome_back s (outcome.Unknown target) lt = rw (u8_at target [] lt) refl

-- ---- rows

abbrev pub alone : Attempt → Attempt
alone a = record a { conds = []; gots = [] }

pub try_back : (s : Script) (a : Attempt) → IsAttemptOf s a → told_of s (try_row s a) ≡ Some (Try (alone a))
unfolding told_of attempt_of
try_back s a h =
    rw (attempt_back a.id (epoch_word a.epoch ∷ outcome_words s a.outcome) h.id, epoch_or_none_back a.epoch (outcome_words s a.outcome) h.epoch, outcome_back s a.outcome h.outcome) refl

yes_back : (b : Bool) → yes_at (yes_word b ∷ []) ≡ Some (b, [])
unfolding yes_at
yes_back true = refl
yes_back false = refl

pub cond_back : (s : Script) (c : ℕ × Bool) → IsCond c → told_of s (cond_row c) ≡ Some (Cond c)
unfolding told_of cond_of
cond_back s c lt = rw (u8_at c.0 (yes_word c.1 ∷ []) lt, yes_back c.1) refl

pub got_back : (s : Script) (g : ℕ × Answer) → IsGot g → HasWholeValues g.1 → told_of s (got_row g) ≡ Some (Got g)
unfolding told_of got_of
got_back s g h k = rw (u8_at g.0 (answer_words g.1) h.op, answer_back g.1 h.answer k) refl

pub stop_back : (s : Script) (number target : ℕ) → number < 2 ^ 32 → target < 2 ^ 8 → told_of s (stop_row number target) ≡ Some (Other (line.Stop number target))
unfolding told_of stop_of
stop_back s number target p q = rw (u32_at number (decimal target ∷ []) p, u8_at target [] q) refl

pub restart_back : (s : Script) (number target incarnation : ℕ) (floor : Epoch) → IsRestart number target incarnation floor
    → told_of s (restart_row number target incarnation floor) ≡ Some (Other (line.Restart number target incarnation floor))
unfolding told_of restart_of
restart_back s number target incarnation floor h =
    rw (
      u32_at number (decimal target ∷ decimal incarnation ∷ decimal floor.0 ∷ []) h.which,
      u8_at target (decimal incarnation ∷ decimal floor.0 ∷ []) h.of_target,
      u64_at incarnation (decimal floor.0 ∷ []) h.opening,
      epoch_back floor [] h.issued,
    ) refl

pub freeze_back : (s : Script) (target : ℕ) (cont : ContId) (epoch : Epoch) → IsFreezeOf s target cont epoch
    → told_of s (freeze_row s target cont epoch) ≡ Some (Other (line.Freeze target cont epoch))
unfolding told_of freeze_of
freeze_back s target cont epoch h =
    rw (u8_at target (cont_word s.conts cont ∷ decimal epoch.0 ∷ []) h.of_target, cont_back s cont (decimal epoch.0 ∷ []) h.named, epoch_back epoch [] h.issued) refl

key_at_back : (key : List ℕ) (rest : Words) → IsKey key → key_at (key ∷ rest) ≡ Some (key, rest)
unfolding key_at
key_at_back key rest h = rw (key_back key h) refl

pub snapshot_back : (s : Script) (name : List ℕ) (cont : ContId) (epoch : Epoch) → IsSnapshotOf s name cont epoch
    → told_of s (snapshot_row s name cont epoch) ≡ Some (Other (line.Snapshot name cont epoch))
unfolding told_of snapshot_of
snapshot_back s name cont epoch h =
    rw (key_at_back name (cont_word s.conts cont ∷ decimal epoch.0 ∷ []) h.key, cont_back s cont (decimal epoch.0 ∷ []) h.named, epoch_back epoch [] h.issued) refl

pub aggregate_back : (s : Script) (number target : ℕ) (cont : ContId) (upto : Epoch) → IsAggregateOf s number target cont upto
    → told_of s (aggregate_row s number target cont upto) ≡ Some (Other (line.Aggregate number target cont upto))
unfolding told_of aggregate_of
aggregate_back s number target cont upto h =
    rw (
      u32_at number (decimal target ∷ cont_word s.conts cont ∷ decimal upto.0 ∷ []) h.which,
      u8_at target (cont_word s.conts cont ∷ decimal upto.0 ∷ []) h.of_target,
      cont_back s cont (decimal upto.0 ∷ []) h.named,
      epoch_back upto [] h.issued,
    ) refl

pub down_back : (s : Script) (target : ℕ) → target < 2 ^ 8 → told_of s (down_row target) ≡ Some (Other (line.Down target))
unfolding told_of down_of
down_back s target lt = rw (u8_at target [] lt) refl
