-- Texts are cut into the lines and words that they are made of.
use Rattle.std.proofs.Common.{◌≡◌, ◌≢◌, ◌⊎◌, inl, inr, ℕ, ◌<◌, ◌^◌, Bool, true, false, cond, eqb, leb, not, List, [], ◌∷◌, ◌++◌, length, map, refl, sym, ap, subst, ◌∙◌, arith}
use Rattle.std.specs.List.{list_all, join_with_byte, onto_first, AllByRecursion}
use Rattle.std.specs.Str.{all_ascii_digits}
use Rattle.std.specs.Fmt.{decimal}
use Rattle.std.proofs.lemmas.Bool.{and_parts, and_from}
use Rattle.std.proofs.lemmas.Bool.Decides.{nat_tests}
use Rattle.std.proofs.lemmas.Fmt.{digits_decimal}
use Rattle.std.proofs.lemmas.List.{same_from_push}
use Rattle.std.proofs.lemmas.List.Elements.{All-from_recursion}
use Rattle.std.proofs.lemmas.List.Splits.{slice_split_at, slice_split_none, join_with_byte-slice_split}
use Rattle.std.proofs.lemmas.Str.Parse.{numerals_by_value, tells_all_ascii_digits}
use Rattle.base_text.specs.Parts.{parts_of, without_empty_end, ended_parts}
use Rattle.base_text.specs.Rows.{Words, row_line, line_words, lines_text, rows_text, is_line_byte, is_word_byte, IsLine, IsWord, IsRow, HasLines, RowsAreTexts}

-- ---- bytes of words and lines

not_mark : (mark : ℕ) (b : ℕ) → not (eqb b mark) ≡ true → eqb b mark ≡ false
not_mark mark b e = go (eqb b mark) e
  where
    go : (t : Bool) → not t ≡ true → t ≡ false
    go true e = absurd cc
    go false e = refl

same_mark : (mark : ℕ) → eqb mark mark ≡ true
same_mark mark = grind (arith, nat_tests)

word_parts : (b : ℕ) (w : List ℕ) → IsWord (b ∷ w) → (eqb b 10 ≡ false) × (eqb b 32 ≡ false) × IsWord w
word_parts b w e =
    let p = and_parts (is_word_byte b) (list_all is_word_byte w) e in
    let q = and_parts (not (eqb b 10)) (not (eqb b 32)) p.0 in
    (not_mark 10 b q.0, not_mark 32 b q.1, p.1)

word_has_no_space : (w : List ℕ) → IsWord w → AllByRecursion (λ b. eqb b 32 ≡ false) w
word_has_no_space [] e = tt
word_has_no_space (b ∷ w) e = let p = word_parts b w e in (p.1, word_has_no_space w p.2)

line_parts : (b : ℕ) (l : List ℕ) → IsLine (b ∷ l) → (eqb b 10 ≡ false) × IsLine l
line_parts b l e = let p = and_parts (is_line_byte b) (list_all is_line_byte l) e in (not_mark 10 b p.0, p.1)

line_has_no_end : (l : List ℕ) → IsLine l → AllByRecursion (λ b. eqb b 10 ≡ false) l
line_has_no_end [] e = tt
line_has_no_end (b ∷ l) e = let p = line_parts b l e in (p.0, line_has_no_end l p.1)

line_more : (b : ℕ) (l : List ℕ) → eqb b 10 ≡ false → IsLine l → IsLine (b ∷ l)
line_more b l e h = and_from (is_line_byte b) (list_all is_line_byte l) (ap not e) h

word_more : (b : ℕ) (w : List ℕ) → eqb b 10 ≡ false → eqb b 32 ≡ false → IsWord w → IsWord (b ∷ w)
word_more b w e f h = and_from (is_word_byte b) (list_all is_word_byte w) (and_from (not (eqb b 10)) (not (eqb b 32)) (ap not e) (ap not f)) h

-- a word is a line
pub IsLine-from_word : (w : List ℕ) → IsWord w → IsLine w
IsLine-from_word [] e = refl
IsLine-from_word (b ∷ w) e = let p = word_parts b w e in line_more b w p.0 (IsLine-from_word w p.2)

-- lines one after the other are a line
pub IsLine-append : (k l : List ℕ) → IsLine k → IsLine l → IsLine (k ++ l)
IsLine-append [] l e h = h
IsLine-append (b ∷ k) l e h = let p = line_parts b k e in line_more b (k ++ l) p.0 (IsLine-append k l p.1 h)

high_byte : (b : ℕ) → leb 33 b ≡ true → (eqb b 10 ≡ false) × (eqb b 32 ≡ false)
high_byte b e = (grind (arith, nat_tests), grind (arith, nat_tests))

-- bytes from 33 up are a word
pub IsWord-from_high : (w : List ℕ) → list_all (λ b. leb 33 b) w ≡ true → IsWord w
IsWord-from_high [] e = refl
IsWord-from_high (b ∷ w) e =
    let p = and_parts (leb 33 b) (list_all (λ b. leb 33 b) w) e in
    let h = high_byte b p.0 in
    word_more b w h.0 h.1 (IsWord-from_high w p.1)

-- words one after the other are a word
pub IsWord-append : (v w : List ℕ) → IsWord v → IsWord w → IsWord (v ++ w)
IsWord-append [] w e h = h
IsWord-append (b ∷ v) w e h = let p = word_parts b v e in word_more b (v ++ w) p.0 p.1 (IsWord-append v w p.2 h)

digit_byte : (c : ℕ) (cs : List ℕ) → all_ascii_digits (c ∷ cs) ≡ true → (leb 33 c ≡ true) × (all_ascii_digits cs ≡ true)
digit_byte c cs e = (grind (arith, nat_tests), grind (arith, nat_tests))

digits_are_high : (w : List ℕ) → all_ascii_digits w ≡ true → list_all (λ b. leb 33 b) w ≡ true
digits_are_high [] e = refl
digits_are_high (c ∷ cs) e = let p = digit_byte c cs e in and_from (leb 33 c) (list_all (λ b. leb 33 b) cs) p.0 (digits_are_high cs p.1)

-- what a number is written as is a word
pub IsWord-decimal : (n : ℕ) → n < 2 ^ 64 → IsWord (decimal n)
IsWord-decimal n lt = IsWord-from_high (decimal n) (digits_are_high (decimal n) (digits_decimal (numerals_by_value _ tells_all_ascii_digits) n lt))

-- ---- a row and its line

pub line_words-row_line : (row : Words) → IsRow row → line_words (row_line row) ≡ row
line_words-row_line [] h = absurd h
line_words-row_line (w ∷ []) h = slice_split_none (λ b. eqb b 32) w (All-from_recursion (λ b. eqb b 32 ≡ false) w (word_has_no_space w h.0))
line_words-row_line (w ∷ v ∷ ws) h =
    slice_split_at (λ b. eqb b 32) w 32 (row_line (v ∷ ws)) (All-from_recursion (λ b. eqb b 32 ≡ false) w (word_has_no_space w h.0)) refl
    ∙ ap (λ t. w ∷ t) (line_words-row_line (v ∷ ws) h.1)

pub row_line-line_words : (line : List ℕ) → row_line (line_words line) ≡ line
row_line-line_words line = join_with_byte-slice_split 32 line

pub IsLine-row_line : (row : Words) → IsRow row → IsLine (row_line row)
IsLine-row_line [] h = absurd h
IsLine-row_line (w ∷ []) h = IsLine-from_word w h.0
IsLine-row_line (w ∷ v ∷ ws) h = IsLine-append w (32 ∷ row_line (v ∷ ws)) (IsLine-from_word w h.0) (line_more 32 (row_line (v ∷ ws)) refl (IsLine-row_line (v ∷ ws) h.1))

onto_first_word : (b : ℕ) (ws : Words) → eqb b 10 ≡ false → eqb b 32 ≡ false → IsRow ws → IsRow (onto_first b ws)
onto_first_word b [] e f h = absurd h
onto_first_word b (w ∷ ws) e f h = (word_more b w e f h.0, h.1)

empty_first : (ws : Words) → IsRow ws → IsRow ([] ∷ ws)
empty_first [] h = absurd h
empty_first (w ∷ ws) h = (refl, h)

pub IsRow-line_words : (line : List ℕ) → IsLine line → IsRow (line_words line)
IsRow-line_words [] h = (refl, tt)
IsRow-line_words (b ∷ l) h = let p = line_parts b l h in go p.0 (IsRow-line_words l p.1) (eqb b 32) refl
  where
    go : eqb b 10 ≡ false → IsRow (line_words l) → (t : Bool) → eqb b 32 ≡ t → IsRow (cond t ([] ∷ line_words l) (onto_first b (line_words l)))
    go e ih true f = empty_first (line_words l) ih
    go e ih false f = onto_first_word b (line_words l) e f ih

-- ---- lines and their text

pub parts_of-lines_text : (lines : List (List ℕ)) → AllByRecursion IsLine lines → parts_of 10 (lines_text lines) ≡ lines ++ [] ∷ []
parts_of-lines_text [] h = refl
parts_of-lines_text (l ∷ ls) h =
    slice_split_at (λ b. eqb b 10) l 10 (lines_text ls) (All-from_recursion (λ b. eqb b 10 ≡ false) l (line_has_no_end l h.0)) refl
    ∙ ap (λ t. l ∷ t) (parts_of-lines_text ls h.1)

-- joined lines with an empty one behind them
joined_with_end : (lines : List (List ℕ)) → join_with_byte 10 (lines ++ [] ∷ []) ≡ lines_text lines
joined_with_end [] = refl
joined_with_end (l ∷ []) = refl
joined_with_end (l ∷ m ∷ ls) = ap (λ t. l ++ 10 ∷ t) (joined_with_end (m ∷ ls))

pub lines_text-parts_of : (bytes : List ℕ) (lines : List (List ℕ)) → parts_of 10 bytes ≡ lines ++ [] ∷ [] → bytes ≡ lines_text lines
lines_text-parts_of bytes lines e = sym (join_with_byte-slice_split 10 bytes) ∙ ap (join_with_byte 10) e ∙ joined_with_end lines

onto_first_line : (b : ℕ) (ls : List (List ℕ)) → eqb b 10 ≡ false → AllByRecursion IsLine ls → AllByRecursion IsLine (onto_first b ls)
onto_first_line b [] e h = (line_more b [] e refl, tt)
onto_first_line b (l ∷ ls) e h = (line_more b l e h.0, h.1)

pub parts_are_lines : (bytes : List ℕ) → AllByRecursion IsLine (parts_of 10 bytes)
parts_are_lines [] = (refl, tt)
parts_are_lines (b ∷ bs) = go (parts_are_lines bs) (eqb b 10) refl
  where
    go : AllByRecursion IsLine (parts_of 10 bs) → (t : Bool) → eqb b 10 ≡ t → AllByRecursion IsLine (cond t ([] ∷ parts_of 10 bs) (onto_first b (parts_of 10 bs)))
    go ih true e = (refl, ih)
    go ih false e = onto_first_line b (parts_of 10 bs) e ih

-- ---- a last line that may lack its end

-- a mark at the end begins an empty part
onto_first-append : (b : ℕ) (ps : List (List ℕ)) (q : List ℕ) → 0 < length ps → onto_first b (ps ++ q ∷ []) ≡ onto_first b ps ++ q ∷ []
onto_first-append b [] q lt = absurd (omega arith)
onto_first-append b (p ∷ ps) q lt = refl

some_parts : (mark : ℕ) (bytes : List ℕ) → 0 < length (parts_of mark bytes)
some_parts mark [] = omega arith
some_parts mark (b ∷ bs) = go (parts_of mark bs) (eqb b mark)
  where
    go : (ps : List (List ℕ)) (t : Bool) → 0 < length (cond t ([] ∷ ps) (onto_first b ps))
    go ps true = omega arith
    go [] false = omega arith
    go (p ∷ ps) false = omega arith

pub parts_of-ended : (mark : ℕ) (bytes : List ℕ) → parts_of mark (bytes ++ mark ∷ []) ≡ parts_of mark bytes ++ [] ∷ []
parts_of-ended mark [] = rw (same_mark mark) refl
parts_of-ended mark (b ∷ bs) = go (parts_of-ended mark bs) (eqb b mark)
  where
    go : parts_of mark (bs ++ mark ∷ []) ≡ parts_of mark bs ++ [] ∷ [] → (t : Bool) → cond t ([] ∷ parts_of mark (bs ++ mark ∷ [])) (onto_first b (parts_of mark (bs ++ mark ∷ []))) ≡ cond t ([] ∷ parts_of mark bs) (onto_first b (parts_of mark bs)) ++ [] ∷ []
    go ih true = ap (λ t. [] ∷ t) ih
    go ih false = ap (onto_first b) ih ∙ onto_first-append b (parts_of mark bs) [] (some_parts mark bs)

without_empty_end-ended : (ps : List (List ℕ)) → without_empty_end (ps ++ [] ∷ []) ≡ ps
without_empty_end-ended [] = refl
without_empty_end-ended (p ∷ []) = refl
without_empty_end-ended (p ∷ q ∷ ps) = ap (λ t. p ∷ t) (without_empty_end-ended (q ∷ ps))

pub ended_parts-ended : (mark : ℕ) (bytes : List ℕ) → ended_parts mark (bytes ++ mark ∷ []) ≡ parts_of mark bytes
unfolding ended_parts
ended_parts-ended mark bytes = ap without_empty_end (parts_of-ended mark bytes) ∙ without_empty_end-ended (parts_of mark bytes)

-- a last byte that is no mark stands in a last part
without_empty_end-cons : (p : List ℕ) (ps : List (List ℕ)) → 0 < length ps → without_empty_end ps ≡ ps → without_empty_end (p ∷ ps) ≡ p ∷ ps
without_empty_end-cons p [] lt e = absurd (omega arith)
without_empty_end-cons p (q ∷ ps) lt e = ap (λ t. p ∷ t) e

without_empty_end-onto_first : (b : ℕ) (ps : List (List ℕ)) → without_empty_end ps ≡ ps → without_empty_end (onto_first b ps) ≡ onto_first b ps
without_empty_end-onto_first b [] e = refl
without_empty_end-onto_first b (p ∷ []) e = refl
without_empty_end-onto_first b (p ∷ q ∷ ps) e = let rest : without_empty_end (q ∷ ps) ≡ q ∷ ps = cc in ap (λ t. (b ∷ p) ∷ t) rest

unended_parts : (mark : ℕ) (front : List ℕ) (b : ℕ) → eqb b mark ≡ false → without_empty_end (parts_of mark (front ++ b ∷ [])) ≡ parts_of mark (front ++ b ∷ [])
unended_parts mark [] b e = rw e refl
unended_parts mark (c ∷ front) b e = go (parts_of mark (front ++ b ∷ [])) (some_parts mark (front ++ b ∷ [])) (unended_parts mark front b e) (eqb c mark)
  where
    go : (ps : List (List ℕ)) → 0 < length ps → without_empty_end ps ≡ ps → (t : Bool) → without_empty_end (cond t ([] ∷ ps) (onto_first c ps)) ≡ cond t ([] ∷ ps) (onto_first c ps)
    go ps lt ih true = without_empty_end-cons [] ps lt ih
    go ps lt ih false = without_empty_end-onto_first c ps ih

pub ended_parts-unended : (mark : ℕ) (front : List ℕ) (b : ℕ) → eqb b mark ≡ false → ended_parts mark (front ++ b ∷ []) ≡ parts_of mark (front ++ b ∷ [])
unfolding ended_parts
ended_parts-unended mark front b e = unended_parts mark front b e

pub ended_parts-nil : (mark : ℕ) → ended_parts mark [] ≡ []
unfolding ended_parts
ended_parts-nil mark = refl

unequal : (b mark : ℕ) → b ≢ mark → eqb b mark ≡ false
unequal b mark ne = grind (arith, nat_tests)

-- the text of these lines has them
pub ended_parts-from_lines : (bytes : List ℕ) (lines : List (List ℕ)) → AllByRecursion IsLine lines → HasLines bytes lines → ended_parts 10 bytes ≡ lines
unfolding ended_parts
ended_parts-from_lines bytes lines h (inl e) = ap (λ t. without_empty_end (parts_of 10 t)) e ∙ ap without_empty_end (parts_of-lines_text lines h) ∙ without_empty_end-ended lines
ended_parts-from_lines bytes lines h (inr (u, e)) =
    let same : parts_of 10 bytes ≡ lines = (same_from_push (parts_of 10 bytes) lines [] [] (sym (parts_of-ended 10 bytes) ∙ ap (parts_of 10) e ∙ parts_of-lines_text lines h)).0 in
    let kept : without_empty_end (parts_of 10 bytes) ≡ parts_of 10 bytes = subst (λ t. without_empty_end (parts_of 10 t) ≡ parts_of 10 t) (sym u.whole) (unended_parts 10 u.front u.last (unequal u.last 10 u.no_end)) in
    kept ∙ same

-- the end of a list
last_of : (xs : List ℕ) → (xs ≡ []) ⊎ ((front : List ℕ) × (last : ℕ) × (xs ≡ front ++ last ∷ []))
last_of [] = inl refl
last_of (x ∷ xs) = go (last_of xs)
  where
    go : (xs ≡ []) ⊎ ((front : List ℕ) × (last : ℕ) × (xs ≡ front ++ last ∷ [])) → (x ∷ xs ≡ []) ⊎ ((front : List ℕ) × (last : ℕ) × (x ∷ xs ≡ front ++ last ∷ []))
    go (inl e) = inr ([], x, ap (λ t. x ∷ t) e)
    go (inr (front, last, e)) = inr (x ∷ front, last, ap (λ t. x ∷ t) e)

equal_to : (b mark : ℕ) → eqb b mark ≡ true → b ≡ mark
equal_to b mark e = grind (arith, nat_tests)

unequal_to : (b mark : ℕ) → eqb b mark ≡ false → b ≢ mark
unequal_to b mark e = grind (arith, nat_tests)

ended_has_lines : (front : List ℕ) → HasLines (front ++ 10 ∷ []) (ended_parts 10 (front ++ 10 ∷ []))
ended_has_lines front =
    inl (lines_text-parts_of (front ++ 10 ∷ []) (ended_parts 10 (front ++ 10 ∷ []))
    (parts_of-ended 10 front ∙ ap (λ ls. ls ++ [] ∷ []) (sym (ended_parts-ended 10 front))))

unended_has_lines : (front : List ℕ) (last : ℕ) → eqb last 10 ≡ false → HasLines (front ++ last ∷ []) (ended_parts 10 (front ++ last ∷ []))
unended_has_lines front last e =
    let bytes : List ℕ = front ++ last ∷ [] in
    inr (
      record { front = front; last = last; whole = refl; no_end = unequal_to last 10 e },
      lines_text-parts_of (bytes ++ 10 ∷ []) (ended_parts 10 bytes)
          (parts_of-ended 10 bytes ∙ ap (λ ls. ls ++ [] ∷ []) (sym (ended_parts-unended 10 front last e))),
    )

-- every text has its lines
pub HasLines-ended_parts : (bytes : List ℕ) → HasLines bytes (ended_parts 10 bytes)
HasLines-ended_parts bytes = go (last_of bytes)
  where
    at_end : (front : List ℕ) (last : ℕ) (t : Bool) → eqb last 10 ≡ t → HasLines (front ++ last ∷ []) (ended_parts 10 (front ++ last ∷ []))
    at_end front last true e = subst (λ b. HasLines (front ++ b ∷ []) (ended_parts 10 (front ++ b ∷ []))) (sym (equal_to last 10 e)) (ended_has_lines front)
    at_end front last false e = unended_has_lines front last e

    go : (bytes ≡ []) ⊎ ((front : List ℕ) × (last : ℕ) × (bytes ≡ front ++ last ∷ [])) → HasLines bytes (ended_parts 10 bytes)
    go (inl e) = subst (λ b. HasLines b (ended_parts 10 b)) (sym e) (inl (sym (ap lines_text (ended_parts-nil 10))))
    go (inr (front, last, e)) = subst (λ b. HasLines b (ended_parts 10 b)) (sym e) (at_end front last (eqb last 10) refl)

without_empty_end-lines : (ls : List (List ℕ)) → AllByRecursion IsLine ls → AllByRecursion IsLine (without_empty_end ls)
without_empty_end-lines [] h = tt
without_empty_end-lines ([] ∷ []) h = tt
without_empty_end-lines ((b ∷ l) ∷ []) h = h
without_empty_end-lines (l ∷ m ∷ ls) h = (h.0, without_empty_end-lines (m ∷ ls) h.1)

pub ended_are_lines : (bytes : List ℕ) → AllByRecursion IsLine (ended_parts 10 bytes)
unfolding ended_parts
ended_are_lines bytes = without_empty_end-lines (parts_of 10 bytes) (parts_are_lines bytes)

-- ---- rows and their text

lines_of : (rows : List Words) → AllByRecursion IsRow rows → AllByRecursion IsLine (map row_line rows)
lines_of [] h = tt
lines_of (r ∷ rs) h = (IsLine-row_line r h.0, lines_of rs h.1)

pub parts_of-rows_text : (rows : List Words) → AllByRecursion IsRow rows → parts_of 10 (rows_text rows) ≡ map row_line rows ++ [] ∷ []
parts_of-rows_text rows h = parts_of-lines_text (map row_line rows) (lines_of rows h)

same_lines : (lines : List (List ℕ)) → map row_line (map line_words lines) ≡ lines
same_lines [] = refl
same_lines (l ∷ ls) = ap (λ t. t ∷ map row_line (map line_words ls)) (row_line-line_words l) ∙ ap (λ t. l ∷ t) (same_lines ls)

pub rows_text-parts_of : (bytes : List ℕ) (lines : List (List ℕ)) → parts_of 10 bytes ≡ lines ++ [] ∷ [] → bytes ≡ rows_text (map line_words lines)
rows_text-parts_of bytes lines e = lines_text-parts_of bytes lines e ∙ ap lines_text (sym (same_lines lines))

pub rows_are_texts : RowsAreTexts
rows_are_texts = record {
  words_of_row = line_words-row_line;
  row_of_words = row_line-line_words;
  row_is_line = IsLine-row_line;
  words_are_row = IsRow-line_words;
  lines_of_text = parts_of-lines_text;
  text_of_lines = lines_text-parts_of;
  parts_are_lines = parts_are_lines;
  ended_of_text = ended_parts-from_lines;
  text_of_ended = HasLines-ended_parts;
  ended_are_lines = ended_are_lines;
  lines_of_rows = parts_of-rows_text;
  rows_of_lines = rows_text-parts_of;
}
