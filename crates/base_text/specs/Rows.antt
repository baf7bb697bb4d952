-- Rows of words, and the text that they make.
use Rattle.std.specs.Prelude.{◌≡◌, ◌≢◌, ◌⊎◌, ℕ, Bool, true, ◌&&◌, ◌==◌, not, List, [], ◌∷◌, ◌++◌, map}
use Rattle.std.specs.List.{list_all, join_with_byte, AllByRecursion}
use Rattle.base_text.specs.Parts.{parts_of, ended_parts}

abbrev pub Words : Type 0
Words = List (List ℕ)

-- the words of a row, joined by single spaces
abbrev pub row_line : Words → List ℕ
row_line row = join_with_byte 32 row

-- the words between the spaces of a line
abbrev pub line_words : List ℕ → Words
line_words line = parts_of 32 line

-- the text of lines, each ended by byte 10
abbrev pub lines_text : List (List ℕ) → List ℕ
lines_text [] = []
lines_text (line ∷ lines) = line ++ 10 ∷ lines_text lines

-- the text of rows, each on a line of its own
abbrev pub rows_text : List Words → List ℕ
rows_text rows = lines_text (map row_line rows)

-- a byte that may stand in a line, or in a word of it
abbrev pub is_line_byte : ℕ → Bool
is_line_byte byte = not (byte == 10)

abbrev pub is_word_byte : ℕ → Bool
is_word_byte byte = not (byte == 10) && not (byte == 32)

-- what may be a line, or a word of one
abbrev pub IsLine : List ℕ → Type 0
IsLine line = list_all is_line_byte line ≡ true

abbrev pub IsWord : List ℕ → Type 0
IsWord word = list_all is_word_byte word ≡ true

-- what may be a row: some words
abbrev pub IsRow : Words → Type 0
IsRow [] = ⊥
IsRow (word ∷ words) = IsWord word × AllByRecursion IsWord words

-- a text that ends with a byte, and not with byte 10
pub record IsUnended (bytes : List ℕ) : Type 0 where
  pub front : List ℕ
  pub last : ℕ
  pub whole : bytes ≡ front ++ last ∷ []
  pub no_end : last ≢ 10

-- a text has these lines: each ends with byte 10, but the last may lack it
abbrev pub HasLines : List ℕ → List (List ℕ) → Type 0
HasLines bytes lines = (bytes ≡ lines_text lines) ⊎ (IsUnended bytes × (bytes ++ 10 ∷ [] ≡ lines_text lines))

-- texts are cut into the lines and words that they are made of
pub record RowsAreTexts : Type 0 where
  -- a row and its line
  pub words_of_row : (row : Words) → IsRow row → line_words (row_line row) ≡ row
  pub row_of_words : (line : List ℕ) → row_line (line_words line) ≡ line
  pub row_is_line : (row : Words) → IsRow row → IsLine (row_line row)
  pub words_are_row : (line : List ℕ) → IsLine line → IsRow (line_words line)
  -- lines and their text
  pub lines_of_text : (lines : List (List ℕ)) → AllByRecursion IsLine lines → parts_of 10 (lines_text lines) ≡ lines ++ [] ∷ []
  pub text_of_lines : (bytes : List ℕ) (lines : List (List ℕ)) → parts_of 10 bytes ≡ lines ++ [] ∷ [] → bytes ≡ lines_text lines
  pub parts_are_lines : (bytes : List ℕ) → AllByRecursion IsLine (parts_of 10 bytes)
  -- the same where the last line may lack its end
  pub ended_of_text : (bytes : List ℕ) (lines : List (List ℕ)) → AllByRecursion IsLine lines → HasLines bytes lines → ended_parts 10 bytes ≡ lines
  pub text_of_ended : (bytes : List ℕ) → HasLines bytes (ended_parts 10 bytes)
  pub ended_are_lines : (bytes : List ℕ) → AllByRecursion IsLine (ended_parts 10 bytes)
  -- rows and their text
  pub lines_of_rows : (rows : List Words) → AllByRecursion IsRow rows → parts_of 10 (rows_text rows) ≡ map row_line rows ++ [] ∷ []
  pub rows_of_lines : (bytes : List ℕ) (lines : List (List ℕ)) → parts_of 10 bytes ≡ lines ++ [] ∷ [] → bytes ≡ rows_text (map line_words lines)
