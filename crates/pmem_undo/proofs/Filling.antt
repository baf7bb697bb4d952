-- A log body, filled from the front.
use Rattle.std.proofs.Common.{◌≡◌, ℕ, zero, suc, ◌+◌, ◌*◌, ◌≤◌, ◌<◌, List, [], ◌∷◌, ◌++◌, length, take, get_or, map, refl, sym, ap, ◌∙◌, arith, append_assoc, append-nil}
use Rattle.std.proofs.lemmas.List.{map-append, length-map}
use Rattle.base_outside.specs.Images.{Image, Range, bytes_at}
use Rattle.base_outside.specs.ImageLaws.{length-bytes_at}
use Rattle.pmem_undo.specs.declared.span.Span.{Span}
use Rattle.pmem_undo.specs.Layout.{total_bytes}
use Rattle.pmem_undo.specs.Log.{number_bytes, range_bytes, ranges_bytes, log_bytes}
use Rattle.pmem_undo.specs.Spans.{spans_length, old_span, old_spans}
use Rattle.pmem_undo.proofs.Parsing.{length-push}
use Rattle.pmem_undo.proofs.Settling.{length-ranges}
use Rattle.pmem_undo.proofs.Phases.{take_one_more}

-- a range put behind what was there
pub range_put : (f : Image) (span : Span) (before one two three : List ℕ) → one ≡ before ++ number_bytes span.place → two ≡ one ++ number_bytes span.length → three ≡ two ++ bytes_at f span.place span.length → three ≡ before ++ range_bytes (old_span f span)
unfolding range_bytes
range_put f span before one two three a b c =
    let long = length-bytes_at f span.place span.length in
    let p = number_bytes span.place in
    let n = number_bytes span.length in
    let bytes = bytes_at f span.place span.length in
    c ∙ (ap (λ (z : List ℕ). z ++ bytes) (b ∙ ap (λ (z : List ℕ). z ++ n) a)
    ∙ (append_assoc (before ++ p) n bytes ∙ (append_assoc before p (n ++ bytes) ∙ ap (λ (k : ℕ). before ++ (p ++ (number_bytes k ++ bytes))) (sym long))))

ranges-push : (rs : List Range) (r : Range) → ranges_bytes (rs ++ r ∷ []) ≡ ranges_bytes rs ++ range_bytes r
ranges-push [] r = append-nil (range_bytes r)
ranges-push (q ∷ rs) r = ap (λ (z : List ℕ). range_bytes q ++ z) (ranges-push rs r) ∙ sym (append_assoc (range_bytes q) (ranges_bytes rs) (range_bytes r))

spans_more : (f : Image) (spans : List Span) (k : ℕ) → k < length spans → old_spans f (take (k + 1) spans) ≡ old_spans f (take k spans) ++ old_span f (get_or spans k (record { place = 0; start = 0; length = 0 })) ∷ []
spans_more f spans k h =
    let d : Span = record { place = 0; start = 0; length = 0 } in
    ap (map (old_span f)) (take_one_more spans k d h) ∙ map-append (old_span f) (take k spans) (get_or spans k d ∷ [])

-- one range more in a body
pub body_more : (f : Image) (spans : List Span) (k : ℕ) (head before after : List ℕ) → k < length spans → before ≡ head ++ ranges_bytes (old_spans f (take k spans)) → after ≡ before ++ range_bytes (old_span f (get_or spans k (record { place = 0; start = 0; length = 0 }))) → after ≡ head ++ ranges_bytes (old_spans f (take (k + 1) spans))
body_more f spans k head before after h a b =
    let d : Span = record { place = 0; start = 0; length = 0 } in
    let r = old_span f (get_or spans k d) in
    let rs = old_spans f (take k spans) in
    b ∙ (ap (λ (z : List ℕ). z ++ range_bytes r) a ∙ (append_assoc head (ranges_bytes rs) (range_bytes r)
    ∙ (ap (λ (z : List ℕ). head ++ z) (sym (ranges-push rs r)) ∙ ap (λ (z : List Range). head ++ ranges_bytes z) (sym (spans_more f spans k h)))))

pub length_more : (spans : List Span) (k : ℕ) → k < length spans → spans_length (take (k + 1) spans) ≡ spans_length (take k spans) + (get_or spans k (record { place = 0; start = 0; length = 0 })).length
length_more spans k h =
    let d : Span = record { place = 0; start = 0; length = 0 } in
    ap spans_length (take_one_more spans k d h) ∙ length-push (take k spans) (get_or spans k d)

-- the first spans are no longer than all
pub length_front : (spans : List Span) (k : ℕ) → spans_length (take k spans) ≤ spans_length spans
length_front spans zero = omega arith
length_front [] (suc k) = omega arith
length_front (s ∷ spans) (suc k) = let e = length_front spans k in omega arith

total-spans : (f : Image) (spans : List Span) → total_bytes (old_spans f spans) ≡ spans_length spans
total-spans f [] = refl
total-spans f (s ∷ spans) = let a = length-bytes_at f s.place s.length in let b = total-spans f spans in omega arith

-- a body with its head is that of the log
pub log_is : (f : Image) (spans : List Span) (whole : List ℕ) → whole ≡ (number_bytes (length spans) ++ number_bytes (8 * length spans + spans_length spans)) ++ ranges_bytes (old_spans f spans) → whole ≡ log_bytes (old_spans f spans)
unfolding log_bytes
log_is f spans whole e =
    let n = length-map spans (old_span f) in
    let long : length (ranges_bytes (old_spans f spans)) ≡ 8 * length spans + spans_length spans = length-ranges (old_spans f spans) ∙ omega (arith, n, total-spans f spans) in
    let one = ap number_bytes n in
    let two = ap number_bytes long in
    e ∙ (append_assoc (number_bytes (length spans)) (number_bytes (8 * length spans + spans_length spans)) (ranges_bytes (old_spans f spans)) ∙ rw (one, two) refl)
