-- Rows and their texts, word by word and row by row.
use Rattle.std.proofs.Common.{◌≡◌, ℕ, ◌+◌, ◌<◌, Bool, List, [], ◌∷◌, ◌++◌, length, map, flat_map, drop, get_or, refl, sym, ap, ◌∙◌, append_assoc, drop-cons, add-one}
use Rattle.std.specs.List.{join_with_byte}
use Rattle.std.proofs.lemmas.List.{append-nil}
use Rattle.base_text.specs.Rows.{Words, row_line, lines_text, rows_text}
use Rattle.base_types.specs.declared.answer.Answer.{Answer}
use Rattle.report_writer.specs.Reports.{cond_row, got_row, conds_until, conds_after, detail_rows}
use Rattle.report_writer.specs.Words.{spaced}

-- the line of a row is its first word and the others behind spaces
pub line_spaced : (w : List ℕ) (ws : Words) → join_with_byte 32 (w ∷ ws) ≡ w ++ spaced ws
line_spaced w [] = sym (append-nil w)
line_spaced w (v ∷ ws) = ap (λ t. w ++ 32 ∷ t) (line_spaced v ws)

pub spaced_append : (vs ws : Words) → spaced (vs ++ ws) ≡ spaced vs ++ spaced ws
spaced_append [] ws = refl
spaced_append (v ∷ vs) ws = ap (λ t. 32 ∷ v ++ t) (spaced_append vs ws) ∙ ap (λ t. 32 ∷ t) (sym (append_assoc v (spaced vs) (spaced ws)))

-- the rows of two lists, one after the other
pub rows_append : (rs ss : List Words) → lines_text (map row_line (rs ++ ss)) ≡ lines_text (map row_line rs) ++ lines_text (map row_line ss)
rows_append [] ss = refl
rows_append (r ∷ rs) ss =
    ap (λ t. row_line r ++ 10 ∷ t) (rows_append rs ss) ∙ sym (append_assoc (row_line r) (10 ∷ rows_text rs) (rows_text ss))

-- two texts, one added after the other
pub two_added : (old mid new a b : List ℕ) → mid ≡ old ++ a → new ≡ mid ++ b → new ≡ old ++ (a ++ b)
two_added old mid new a b e f = f ∙ ap (λ t. t ++ b) e ∙ append_assoc old a b

pub three_added : (old p q new a b c : List ℕ) → p ≡ old ++ a → q ≡ p ++ b → new ≡ q ++ c → new ≡ old ++ (a ++ (b ++ c))
three_added old p q new a b c e f g = g ∙ ap (λ t. t ++ c) (two_added old p q a b e f) ∙ append_assoc old (a ++ b) c ∙ ap (λ t. old ++ t) (append_assoc a b c)

-- the rows of one more item
pub rows_more : {A : Type 0} (f : A → List Words) (old new all : List ℕ) (xs : List A) (i : ℕ) (x : A) → i < length xs → x ≡ get_or xs i x
    → new ≡ old ++ rows_text (f x) → old ++ rows_text (flat_map f (drop i xs)) ≡ all → new ++ rows_text (flat_map f (drop (i + 1) xs)) ≡ all
rows_more f old new all xs i x lt is e so_far =
    let next : drop i xs ≡ x ∷ drop (i + 1) xs = rw (drop-cons xs i x lt, ← is, add-one) refl in
    let rest = flat_map f (drop (i + 1) xs) in
    ap (λ t. t ++ rows_text rest) e ∙ append_assoc old (rows_text (f x)) (rows_text rest)
    ∙ ap (λ t. old ++ t) (sym (rows_append (f x) rest)) ∙ ap (λ t. old ++ rows_text (flat_map f t)) (sym next) ∙ so_far

-- the rows of one more answer, and of the conditions up to it
pub details_more : (old mid new all : List ℕ) (conds rest : List (ℕ × Bool)) (gots : List (ℕ × Answer)) (i : ℕ) (got : ℕ × Answer) → i < length gots → got ≡ get_or gots i got
    → mid ≡ old ++ rows_text (map cond_row (conds_until got.0 conds)) → rest ≡ conds_after got.0 conds → new ≡ mid ++ rows_text (got_row got ∷ [])
    → old ++ rows_text (detail_rows conds (drop i gots)) ≡ all → new ++ rows_text (detail_rows rest (drop (i + 1) gots)) ≡ all
details_more old mid new all conds rest gots i got lt is e behind f so_far =
    let next : drop i gots ≡ got ∷ drop (i + 1) gots = rw (drop-cons gots i got lt, ← is, add-one) refl in
    let until = map cond_row (conds_until got.0 conds) in
    let after = detail_rows (conds_after got.0 conds) (drop (i + 1) gots) in
    ap (λ t. new ++ rows_text (detail_rows t (drop (i + 1) gots))) behind
    ∙ ap (λ t. t ++ rows_text after) (two_added old mid new (rows_text until) (rows_text (got_row got ∷ [])) e f)
    ∙ append_assoc old (rows_text until ++ rows_text (got_row got ∷ [])) (rows_text after)
    ∙ ap (λ t. old ++ t) (append_assoc (rows_text until) (rows_text (got_row got ∷ [])) (rows_text after))
    ∙ ap (λ t. old ++ (rows_text until ++ t)) (sym (rows_append (got_row got ∷ []) after))
    ∙ ap (λ t. old ++ t) (sym (rows_append until (got_row got ∷ after)))
    ∙ ap (λ t. old ++ rows_text (detail_rows conds t)) (sym next) ∙ so_far

-- texts put together
pub ruleset joins = (append_assoc, append-nil, line_spaced, spaced_append, rows_append)
