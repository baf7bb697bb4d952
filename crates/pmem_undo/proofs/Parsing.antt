-- Ranges are read one after another.
use Rattle.std.proofs.Common.{◌≡◌, ℕ, zero, suc, ◌+◌, ◌-◌, ◌≤◌, ◌<◌, true, false, leb, List, [], ◌∷◌, ◌++◌, length, take, drop, Option, Some, None, refl, sym, ap, ◌∙◌, arith}
use Rattle.std.proofs.lemmas.Bool.Decides.{nat_tests}
use Rattle.std.proofs.lemmas.List.{length-drop, map-append, take-append-le, drop-append-le}
use Rattle.std.proofs.lemmas.List.Elements.{All-head, All-tail}
use Rattle.std.specs.Prelude.{All}
use Rattle.std.proofs.Math.Seq.{drop-cons, drop-length}
use Rattle.base_outside.specs.Images.{Image, Range, bytes_at}
use Rattle.pmem_undo.specs.declared.span.Span.{Span}
use Rattle.pmem_undo.specs.Layout.{are_content, log_place}
use Rattle.pmem_undo.specs.Log.{number_in, ranges_in, cons_range, behind, is_log_size, log_in, logged_count, logged_length}
use Rattle.pmem_undo.specs.Spans.{IsSpan, range_of, ranges_of, spans_length}

drop_none : (n : ℕ) → drop n (let none : List ℕ = [] in none) ≡ []
drop_none zero = refl
drop_none (suc n) = refl

drop-drop : (m n : ℕ) (xs : List ℕ) → drop n (drop m xs) ≡ drop (m + n) xs
drop-drop zero n xs = let e : n ≡ 0 + n = omega arith in ap (λ (k : ℕ). drop k xs) e
drop-drop (suc m) n [] = drop_none n ∙ sym (drop_none (suc m + n))
drop-drop (suc m) n (x ∷ xs) = let e : suc (m + n) ≡ suc m + n = omega arith in drop-drop m n xs ∙ ap (λ (k : ℕ). drop k (x ∷ xs)) e

rest_read : (size n : ℕ) (rest : List ℕ) (place long : ℕ) → number_in rest ≡ place → number_in (drop 4 rest) ≡ long → 8 ≤ length rest → long ≤ length rest - 8 → are_content size place long ≡ true → ranges_in size (suc n) rest ≡ cons_range (record { place = place; bytes = take long (drop 8 rest) }) (ranges_in size n (drop long (drop 8 rest)))
unfolding ranges_in
rest_read size n rest place long first second header fits content =
    let a : leb 8 (length rest) ≡ true = grind (arith, nat_tests) in
    let b : leb (number_in (drop 4 rest)) (length rest - 8) ≡ true = grind (arith, nat_tests) in
    let c : are_content size (number_in rest) (number_in (drop 4 rest)) ≡ true = rw (first, second) content in
    rw (a, b, c, first, second) refl

rest_short : (size n : ℕ) (rest : List ℕ) → length rest < 8 → ranges_in size (suc n) rest ≡ None
unfolding ranges_in
rest_short size n rest short = let a : leb 8 (length rest) ≡ false = grind (arith, nat_tests) in rw a refl

rest_long : (size n : ℕ) (rest : List ℕ) (long : ℕ) → number_in (drop 4 rest) ≡ long → 8 ≤ length rest → length rest - 8 < long → ranges_in size (suc n) rest ≡ None
unfolding ranges_in
rest_long size n rest long second header past =
    let a : leb 8 (length rest) ≡ true = grind (arith, nat_tests) in
    let b : leb (number_in (drop 4 rest)) (length rest - 8) ≡ false = grind (arith, nat_tests) in
    rw (a, b) refl

rest_off : (size n : ℕ) (rest : List ℕ) (place long : ℕ) → number_in rest ≡ place → number_in (drop 4 rest) ≡ long → 8 ≤ length rest → long ≤ length rest - 8 → are_content size place long ≡ false → ranges_in size (suc n) rest ≡ None
unfolding ranges_in
rest_off size n rest place long first second header fits off =
    let a : leb 8 (length rest) ≡ true = grind (arith, nat_tests) in
    let b : leb (number_in (drop 4 rest)) (length rest - 8) ≡ true = grind (arith, nat_tests) in
    let c : are_content size (number_in rest) (number_in (drop 4 rest)) ≡ false = rw (first, second) off in
    rw (a, b, c) refl

one_more : (size n : ℕ) (rest : List ℕ) → ranges_in size (n + 1) rest ≡ ranges_in size (suc n) rest
one_more size n rest = let e : n + 1 ≡ suc n = omega arith in ap (λ (k : ℕ). ranges_in size k rest) e

-- one range is read in the midst of bytes
pub next_read : (size n at : ℕ) (bytes : List ℕ) (place long : ℕ) → number_in (drop at bytes) ≡ place → number_in (drop (at + 4) bytes) ≡ long → (at + 8) + long ≤ length bytes → are_content size place long ≡ true → ranges_in size (n + 1) (drop at bytes) ≡ cons_range (range_of bytes (record { place = place; start = at + 8; length = long })) (ranges_in size n (drop ((at + 8) + long) bytes))
next_read size n at bytes place long first second fits content =
    let d = length-drop at bytes in
    let second' : number_in (drop 4 (drop at bytes)) ≡ long = ap number_in (drop-drop at 4 bytes) ∙ second in
    let read = rest_read size n (drop at bytes) place long first second' (omega arith) (omega arith) content in
    let eight = drop-drop at 8 bytes in
    let rest : drop long (drop 8 (drop at bytes)) ≡ drop ((at + 8) + long) bytes = ap (λ (z : List ℕ). drop long z) eight ∙ drop-drop (at + 8) long bytes in
    let exact : long ≡ ((at + 8) + long) - (at + 8) = omega arith in
    let part : take long (drop 8 (drop at bytes)) ≡ take (((at + 8) + long) - (at + 8)) (drop (at + 8) bytes) = ap (λ (z : List ℕ). take long z) eight ∙ ap (λ (k : ℕ). take k (drop (at + 8) bytes)) exact in
    one_more size n (drop at bytes) ∙ (read ∙ rw (part, rest) refl)

pub none_short : (size n at : ℕ) (bytes : List ℕ) → length bytes - at < 8 → ranges_in size (n + 1) (drop at bytes) ≡ None
none_short size n at bytes short = let d = length-drop at bytes in one_more size n (drop at bytes) ∙ rest_short size n (drop at bytes) (omega arith)

pub none_long : (size n at : ℕ) (bytes : List ℕ) (long : ℕ) → number_in (drop (at + 4) bytes) ≡ long → at + 8 ≤ length bytes → length bytes - (at + 8) < long → ranges_in size (n + 1) (drop at bytes) ≡ None
none_long size n at bytes long second header past =
    let d = length-drop at bytes in
    one_more size n (drop at bytes) ∙ rest_long size n (drop at bytes) long (ap number_in (drop-drop at 4 bytes) ∙ second) (omega arith) (omega arith)

pub none_off : (size n at : ℕ) (bytes : List ℕ) (place long : ℕ) → number_in (drop at bytes) ≡ place → number_in (drop (at + 4) bytes) ≡ long → (at + 8) + long ≤ length bytes → are_content size place long ≡ false → ranges_in size (n + 1) (drop at bytes) ≡ None
none_off size n at bytes place long first second fits off =
    let d = length-drop at bytes in
    one_more size n (drop at bytes) ∙ rest_off size n (drop at bytes) place long first (ap number_in (drop-drop at 4 bytes) ∙ second) (omega arith) (omega arith) off

-- ranges behind others
behind-push : (rs : List Range) (r : Range) (more : Option (List Range)) → behind (rs ++ r ∷ []) more ≡ behind rs (cons_range r more)
behind-push [] r more = refl
behind-push (q ∷ rs) r more = ap (cons_range q) (behind-push rs r more)

pub behind_none : (rs : List Range) → behind rs None ≡ None
behind_none [] = refl
behind_none (r ∷ rs) = ap (cons_range r) (behind_none rs)

pub behind_all : (rs : List Range) → behind rs (Some []) ≡ Some rs
behind_all [] = refl
behind_all (r ∷ rs) = ap (cons_range r) (behind_all rs)

-- how many bytes have the spans with one pushed behind them
pub length-push : (spans : List Span) (s : Span) → spans_length (spans ++ s ∷ []) ≡ spans_length spans + s.length
length-push [] s = omega arith
length-push (t ∷ spans) s = let k = length-push spans s in omega (arith, k)

-- a span pushed behind others
pub ranges-push : (bytes : List ℕ) (spans : List Span) (span : Span) (more : Option (List Range)) → behind (ranges_of bytes (spans ++ span ∷ [])) more ≡ behind (ranges_of bytes spans) (cons_range (range_of bytes span) more)
ranges-push bytes spans span more =
    ap (λ (rs : List Range). behind rs more) (map-append (range_of bytes) spans (span ∷ [])) ∙ behind-push (ranges_of bytes spans) (range_of bytes span) more

-- what is told to the end
pub end_read : (size : ℕ) (bytes : List ℕ) (at : ℕ) → at ≡ length bytes → ranges_in size 0 (drop at bytes) ≡ Some []
unfolding ranges_in
end_read size bytes at e = let none : drop at bytes ≡ [] = ap (λ (k : ℕ). drop k bytes) e ∙ drop-length bytes in rw none refl

pub end_left : (size : ℕ) (bytes : List ℕ) (at : ℕ) → at < length bytes → ranges_in size 0 (drop at bytes) ≡ None
unfolding ranges_in
end_left size bytes at below = rw (drop-cons bytes at 0 below) refl

-- ranges at the front of more bytes
range_front : (bytes rest : List ℕ) (size : ℕ) (span : Span) → IsSpan size (length bytes) span → range_of (bytes ++ rest) span ≡ range_of bytes span
range_front bytes rest size span is =
    let fits = is.fits in
    let d = length-drop span.start bytes in
    let e : drop span.start (bytes ++ rest) ≡ drop span.start bytes ++ rest = drop-append-le span.start bytes rest (omega arith) in
    let n : (span.start + span.length) - span.start ≤ length (drop span.start bytes) = omega arith in
    let part : take ((span.start + span.length) - span.start) (drop span.start (bytes ++ rest)) ≡ take ((span.start + span.length) - span.start) (drop span.start bytes) = ap (λ (z : List ℕ). take ((span.start + span.length) - span.start) z) e ∙ take-append-le ((span.start + span.length) - span.start) (drop span.start bytes) rest n in
    ap (λ (z : List ℕ). let r : Range = record { place = span.place; bytes = z } in r) part

pub ranges_front : (bytes rest : List ℕ) (size : ℕ) (spans : List Span) → All (IsSpan size (length bytes)) spans → ranges_of (bytes ++ rest) spans ≡ ranges_of bytes spans
ranges_front bytes rest size [] all = refl
ranges_front bytes rest size (s ∷ spans) all =
    let a = range_front bytes rest size s (All-head (IsSpan size (length bytes)) s spans all) in
    let b = ranges_front bytes rest size spans (All-tail (IsSpan size (length bytes)) s spans all) in
    rw (a, b) refl

-- a log of a size that none has
pub log_none : (size count long : ℕ) (f : Image) → count ≡ number_in (bytes_at f log_place 4) → long ≡ number_in (bytes_at f (log_place + 4) 4) → is_log_size count long ≡ false → log_in size f ≡ None
unfolding log_in logged_count logged_length
log_none size count long f first second off = let e : is_log_size (number_in (bytes_at f log_place 4)) (number_in (bytes_at f (log_place + 4) 4)) ≡ false = rw (← first, ← second) off in rw e refl

-- a log that is read
pub log_some : (size count long : ℕ) (f : Image) (bytes : List ℕ) (o : Option (List Range)) → count ≡ number_in (bytes_at f log_place 4) → long ≡ number_in (bytes_at f (log_place + 4) 4) → is_log_size count long ≡ true → bytes ≡ bytes_at f (log_place + 8) long → ranges_in size count bytes ≡ o → log_in size f ≡ o
unfolding log_in logged_count logged_length
log_some size count long f bytes o first second good is read =
    let e : is_log_size (number_in (bytes_at f log_place 4)) (number_in (bytes_at f (log_place + 4) 4)) ≡ true = rw (← first, ← second) good in
    let r : ranges_in size (number_in (bytes_at f log_place 4)) (bytes_at f (log_place + 8) (number_in (bytes_at f (log_place + 4) 4))) ≡ o = rw (← first, ← second, ← is) read in
    rw e r
