-- A commit is prepared by its log.
use Rattle.std.proofs.Common.{◌≡◌, ℕ, ◌≤◌, ◌<◌, ◌^◌, List, [], ◌∷◌, length, refl, sym, ap, ◌∙◌, subst, arith, inl}
use Rattle.std.specs.Prelude.{All}
use Rattle.std.proofs.lemmas.List.{length-map}
use Rattle.std.proofs.lemmas.List.Elements.{All-head, All-tail}
use Rattle.base_outside.specs.Images.{Image, Range, bytes_at, LeavesOnly}
use Rattle.pmem_undo.specs.declared.span.Span.{Span}
use Rattle.pmem_undo.specs.Layout.{gate, total_bytes}
use Rattle.pmem_undo.specs.Log.{old_range, old_ranges, log_bytes}
use Rattle.pmem_undo.specs.Settled.{IsPrepared, IsAtRest, StandsFor, IsBeforeOrAfter}
use Rattle.pmem_undo.specs.Spans.{IsSpan, range_of, ranges_of, old_span, old_spans, spans_length}
use Rattle.pmem_undo.proofs.Attaching.{length-span, spans_content}
use Rattle.pmem_undo.proofs.Moments.{leaves_weaker, leaves_then}
use Rattle.pmem_undo.proofs.Settling.{stands_closed}

old_is : (f : Image) (buffer : List ℕ) (size : ℕ) (span : Span) → IsSpan size (length buffer) span → old_span f span ≡ old_range f (range_of buffer span)
old_is f buffer size span is =
    ap (λ (n : ℕ). let r : Range = record { place = span.place; bytes = bytes_at f span.place n } in r) (sym (length-span buffer span size is))

olds_are : (f : Image) (buffer : List ℕ) (size : ℕ) (spans : List Span) → All (IsSpan size (length buffer)) spans → old_spans f spans ≡ old_ranges f (ranges_of buffer spans)
olds_are f buffer size [] all = refl
olds_are f buffer size (s ∷ spans) all =
    let a = old_is f buffer size s (All-head (IsSpan size (length buffer)) s spans all) in
    let b = olds_are f buffer size spans (All-tail (IsSpan size (length buffer)) s spans all) in
    rw (a, b) refl

pub total_is : (buffer : List ℕ) (size : ℕ) (spans : List Span) → All (IsSpan size (length buffer)) spans → total_bytes (ranges_of buffer spans) ≡ spans_length spans
total_is buffer size [] all = refl
total_is buffer size (s ∷ spans) all =
    let a = length-span buffer s size (All-head (IsSpan size (length buffer)) s spans all) in
    let b = total_is buffer size spans (All-tail (IsSpan size (length buffer)) s spans all) in
    omega arith

pub prepared : (size : ℕ) (f : Image) (buffer : List ℕ) (spans : List Span) (body : List ℕ) → size < 2 ^ 32 → f gate ≡ 0 → All (IsSpan size (length buffer)) spans → length spans ≤ 1024 → spans_length spans ≤ 256000 → body ≡ log_bytes (old_spans f spans) → IsPrepared size f (ranges_of buffer spans) body
prepared size f buffer spans body small closed all few short logs =
    let n = length-map spans (range_of buffer) in
    let t = total_is buffer size spans all in
    record {
      small = small;
      closed = closed;
      content = spans_content size buffer spans all;
      few = omega arith;
      short = omega arith;
      logs = logs ∙ ap log_bytes (olds_are f buffer size spans all);
    }

-- what stands there before a commit
pub at_first : (size : ℕ) (f : Image) (may : Image → Type 0) → IsAtRest f may → (c : Image) → may c → StandsFor size f c
at_first size f may rest c here =
    stands_closed size f c (rest.only c here gate ∙ rest.closed) (λ i content. rest.only c here i)

-- the three parts of a commit, one after another
pub three_parts : (t0 t1 t2 t3 : ℕ) (s0 s1 s2 s3 : ℕ → Image → Type 0) (size : ℕ) (f : Image) (news : List Range) (may : Image → Type 0) → IsAtRest f may → LeavesOnly t0 t1 s0 s1 may → LeavesOnly t1 t2 s1 s2 (StandsFor size f) → LeavesOnly t2 t3 s2 s3 (IsBeforeOrAfter size f news) → LeavesOnly t0 t3 s0 s3 (IsBeforeOrAfter size f news)
three_parts t0 t1 t2 t3 s0 s1 s2 s3 size f news may rest a b c =
    leaves_then t0 t1 t3 s0 s1 s3 (IsBeforeOrAfter size f news)
    (leaves_weaker t0 t1 s0 s1 may (IsBeforeOrAfter size f news) a (λ z here. inl (at_first size f may rest z here)))
    (leaves_then t1 t2 t3 s1 s2 s3 (IsBeforeOrAfter size f news) (leaves_weaker t1 t2 s1 s2 (StandsFor size f) (IsBeforeOrAfter size f news) b (λ z here. inl here)) c)

pub two_parts : (t0 t1 t2 : ℕ) (s0 s1 s2 : ℕ → Image → Type 0) (size : ℕ) (f : Image) (news : List Range) (may : Image → Type 0) → IsAtRest f may → LeavesOnly t0 t1 s0 s1 may → LeavesOnly t1 t2 s1 s2 (StandsFor size f) → LeavesOnly t0 t2 s0 s2 (IsBeforeOrAfter size f news)
two_parts t0 t1 t2 s0 s1 s2 size f news may rest a b =
    leaves_then t0 t1 t2 s0 s1 s2 (IsBeforeOrAfter size f news)
    (leaves_weaker t0 t1 s0 s1 may (IsBeforeOrAfter size f news) a (λ z here. inl (at_first size f may rest z here)))
    (leaves_weaker t1 t2 s1 s2 (StandsFor size f) (IsBeforeOrAfter size f news) b (λ z here. inl here))

pub opens_same : (t u : ℕ) (s v : ℕ → Image → Type 0) (size : ℕ) (f h : Image) → h ≡ f → LeavesOnly t u s v (StandsFor size h) → LeavesOnly t u s v (StandsFor size f)
opens_same t u s v size f h e l = subst (λ (z : Image). LeavesOnly t u s v (StandsFor size z)) e l
