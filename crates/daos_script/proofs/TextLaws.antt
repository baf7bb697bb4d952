-- What holds of all texts.
use Rattle.std.proofs.Common.{◌≡◌, ◌≢◌, ◌≤◌, ◌<◌, ℕ, ◌+◌, Bool, true, false, cond, eqb, ltb, List, [], ◌∷◌, ◌++◌, length, take, count_by, Result, Ok, Err, refl, ap, ◌∙◌, arith}
use Rattle.std.proofs.lemmas.Bool.Decides.{nat_tests}
use Rattle.std.proofs.lemmas.List.{take_all}
use Rattle.std.proofs.lemmas.List.Splits.{length-slice_split}
use Rattle.base_types.specs.declared.fault.ScriptFault.{ScriptFault}
use Rattle.base_types.specs.declared.fault.Why.TheVariants.{TooLong}
use Rattle.base_text.specs.Parts.{parts_of}
use Rattle.base_text.specs.Results.{◌>>=◌}
use Rattle.base_text.specs.Steps.{steps}
use Rattle.daos_script.specs.declared.reading.Reading.{Reading}
use Rattle.daos_script.specs.Grammar.{FaultsStand, CommentsSayNothing, TextsAreShort}
use Rattle.daos_script.specs.Located.{located}
use Rattle.daos_script.specs.Puts.{nothing_read}
use Rattle.daos_script.specs.Readings.{ended, is_passed, long_line, read_line, script_of, text_lines, with_line}
use Rattle.daos_script.proofs.Binds.{bind_ok}

unless_err : {A F : Type 0} (b : Bool) (fault : F) (r : Result A F) (y : A) → cond b (Err fault) r ≡ Ok y → (b ≡ false) × (r ≡ Ok y)
unless_err true fault r y e = absurd cc
unless_err false fault r y e = (refl, e)

differs : (m n : ℕ) → eqb m n ≡ false → m ≢ n
differs m n e = grind (arith, nat_tests)

at_most : (m n : ℕ) → ltb m n ≡ false → n ≤ m
at_most m n e = grind (arith, nat_tests)

not_more : (m n : ℕ) → n ≤ m → ltb m n ≡ false
not_more m n le = grind (arith, nat_tests)

-- ---- long texts

-- a line passed, which wasn't the one in which the text becomes too long
not_long : (long at : ℕ) (r t : Reading) (x : List ℕ) → with_line long at r x ≡ Ok t → at ≢ long
unfolding with_line
not_long long at r t x e =
    let g = unless_err (eqb at long) (record { line = at; why = TooLong 16777216 }) (cond (is_passed x) (Ok r) (located at (read_line at r x))) t e in
    differs at long g.0

-- the line in which the text becomes too long is met
long_met : (long : ℕ) (lines : List (List ℕ)) (at : ℕ) (r t : Reading) → at ≤ long → long < at + length lines → steps (with_line long) at r lines ≡ Ok t → ⊥
unfolding steps
long_met long [] at r t le lt e = omega arith
long_met long (x ∷ xs) at r t le lt e =
    let a = bind_ok (with_line long at r x) (λ u. steps (with_line long) (at + 1) u xs) t e in
    let other : at ≢ long = not_long long at r a.0 x a.1 in
    long_met long xs (at + 1) a.0 t (omega arith) (omega arith) a.2

pub texts_are_short : TextsAreShort
unfolding script_of long_line
texts_are_short targets bytes s e = go (ltb 16777216 (length bytes)) refl
  where
    go : (b : Bool) → ltb 16777216 (length bytes) ≡ b → length bytes ≤ 16777216
    go false h = at_most 16777216 (length bytes) h
    go true h =
        let a = bind_ok (steps (with_line (long_line bytes)) 1 (nothing_read targets) (text_lines bytes)) (λ r. ended r) s e in
        let ends = count_by (λ b. eqb b 10) (take 16777216 bytes) in
        let long : long_line bytes ≡ ends + 1 = ap (λ b. cond b (ends + 1) 0) h in
        let lines : length (text_lines bytes) ≡ ends + 1 = length-slice_split (λ b. eqb b 10) (take 16777216 bytes) in
        absurd (long_met (long_line bytes) (text_lines bytes) 1 (nothing_read targets) a.0 (omega (arith, long)) (omega (arith, long, lines)) a.1)

-- ---- a fault stands

bound : {A B F : Type 0} (r : Result A F) (f g : A → Result B F) (fault : F) → (r >>= f) ≡ Err fault → ((x : A) → f x ≡ Err fault → g x ≡ Err fault) → (r >>= g) ≡ Err fault
bound (Ok x) f g fault e k = k x e
bound (Err d) f g fault e k = e

steps-more : {S A F : Type 0} (f : ℕ → S → A → Result S F) (xs ys : List A) (at : ℕ) (s : S) (fault : F) → steps f at s xs ≡ Err fault → steps f at s (xs ++ ys) ≡ Err fault
unfolding steps
steps-more f [] ys at s fault e = absurd cc
steps-more f (x ∷ xs) ys at s fault e =
    bound (f at s x) (λ t. steps f (at + 1) t xs) (λ t. steps f (at + 1) t (xs ++ ys)) fault e (λ t h. steps-more f xs ys (at + 1) t fault h)

not_long_line : (bytes : List ℕ) → length bytes ≤ 16777216 → long_line bytes ≡ 0
unfolding long_line
not_long_line bytes le = rw (not_more 16777216 (length bytes) le) refl

pub faults_stand : FaultsStand
unfolding script_of
faults_stand targets bytes front rest fault short lines e =
    let all : text_lines bytes ≡ front ++ rest = ap (parts_of 10) (take_all 16777216 bytes short) ∙ lines in
    let none : long_line bytes ≡ 0 = not_long_line bytes short in
    let read : steps (with_line 0) 1 (nothing_read targets) (front ++ rest) ≡ Err fault = steps-more (with_line 0) front rest 1 (nothing_read targets) fault e in
    let same : steps (with_line (long_line bytes)) 1 (nothing_read targets) (text_lines bytes) ≡ Err fault = ap (λ ls. steps (with_line (long_line bytes)) 1 (nothing_read targets) ls) all ∙ ap (λ n. steps (with_line n) 1 (nothing_read targets) (front ++ rest)) none ∙ read in
    ap (λ o. o >>= λ r. ended r) same

-- ---- comments

passed_line : (long at : ℕ) (r : Reading) (c d : List ℕ) → is_passed c ≡ true → is_passed d ≡ true → with_line long at r c ≡ with_line long at r d
unfolding with_line
passed_line long at r c d e f = rw (e, f) refl

pub comments_say_nothing : CommentsSayNothing
unfolding steps
comments_say_nothing long at r [] c d rest e f = ap (λ o. o >>= λ t. steps (with_line long) (at + 1) t rest) (passed_line long at r c d e f)
comments_say_nothing long at r (x ∷ xs) c d rest e f =
    on (with_line long at r x) (λ t. steps (with_line long) (at + 1) t (xs ++ c ∷ rest)) (λ t. steps (with_line long) (at + 1) t (xs ++ d ∷ rest)) (λ t. comments_say_nothing long (at + 1) t xs c d rest e f)
  where
    on : (o : Result Reading ScriptFault) (g h : Reading → Result Reading ScriptFault) → ((t : Reading) → g t ≡ h t) → (o >>= g) ≡ (o >>= h)
    on (Ok t) g h k = k t
    on (Err fault) g h k = refl
