-- Rows put together.
use Rattle.std.proofs.Common.{◌≡◌, ℕ, ◌+◌, List, [], ◌∷◌, ◌++◌, map, refl, sym, ap, ◌∙◌, append_assoc, append-nil, arith}
use Rattle.std.specs.List.{range_with_len}
use Rattle.std.proofs.lemmas.List.FromFn.{map-range_with_len_more}
use Rattle.base_text.specs.Rows.{Words, row_line, lines_text, rows_text}

-- the rows of two lists, one after the other
pub rows_append : (rs ss : List Words) → lines_text (map row_line (rs ++ ss)) ≡ lines_text (map row_line rs) ++ lines_text (map row_line ss)
rows_append [] ss = refl
rows_append (r ∷ rs) ss = ap (λ t. row_line r ++ 10 ∷ t) (rows_append rs ss) ∙ sym (append_assoc (row_line r) (10 ∷ rows_text rs) (rows_text ss))

-- one row more of those that numbers have
pub range_more : (f : ℕ → Words) (old mid new : List ℕ) (n : ℕ) → mid ≡ old ++ rows_text (map f (range_with_len 0 n)) → new ≡ mid ++ rows_text (f n ∷ [])
    → new ≡ old ++ rows_text (map f (range_with_len 0 (n + 1)))
range_more f old mid new n e g =
    let more = map-range_with_len_more f 0 n n (omega arith) in
    let whole = ap rows_text more ∙ rows_append (map f (range_with_len 0 n)) (f n ∷ []) in
    g ∙ ap (λ t. t ++ rows_text (f n ∷ [])) e ∙ append_assoc old (rows_text (map f (range_with_len 0 n))) (rows_text (f n ∷ [])) ∙ ap (λ t. old ++ t) (sym whole)

-- texts put together
pub ruleset joins = (append_assoc, append-nil, rows_append)

rows_next : (mid new : List ℕ) (rs ss : List Words) → mid ≡ rows_text rs → new ≡ mid ++ rows_text ss → new ≡ rows_text (rs ++ ss)
rows_next mid new rs ss e g = g ∙ ap (λ t. t ++ rows_text ss) e ∙ sym (rows_append rs ss)

-- a text of its parts
pub whole_text : (a b c d e f g : List ℕ) (head commands attempts : Words) (endings issued : List Words) (last : Words) → a ≡ [] → b ≡ a ++ rows_text (head ∷ []) → c ≡ b ++ rows_text (commands ∷ [])
    → d ≡ c ++ rows_text (attempts ∷ []) → e ≡ d ++ rows_text endings → f ≡ e ++ rows_text issued → g ≡ f ++ rows_text (last ∷ [])
    → g ≡ rows_text (head ∷ commands ∷ attempts ∷ endings ++ issued ++ last ∷ [])
whole_text a b c d e f g head commands attempts endings issued last p q r s t u v =
    let first = rows_next a b [] (head ∷ []) p q in
    let second = rows_next b c (head ∷ []) (commands ∷ []) first r in
    let third = rows_next c d (head ∷ commands ∷ []) (attempts ∷ []) second s in
    let fourth = rows_next d e (head ∷ commands ∷ attempts ∷ []) endings third t in
    let fifth = rows_next e f (head ∷ commands ∷ attempts ∷ endings) issued fourth u in
    rows_next f g (head ∷ commands ∷ attempts ∷ endings ++ issued) (last ∷ []) fifth v
