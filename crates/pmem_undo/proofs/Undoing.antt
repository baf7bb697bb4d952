-- What an undo region holds follows from its buffers.
use Rattle.std.proofs.Common.{◌≡◌, ℕ, ◌+◌, ◌-◌, ◌≤◌, ◌<◌, ◌^◌, Bool, true, false, List, [], ◌∷◌, ◌++◌, length, take, drop, refl, sym, ap, ◌∙◌, subst, arith, inl, inr}
use Rattle.std.specs.Prelude.{All, IsTrue, MatchBool}
use Rattle.std.proofs.lemmas.Bool.{cases_lt}
use Rattle.std.proofs.lemmas.List.{length-map, map-append, length-append}
use Rattle.std.proofs.lemmas.List.Elements.{All-push}
use Rattle.std.proofs.Math.Seq.{drop-append_seam, take-length}
use mathlib.Core.Path.{fun_ext}
use Rattle.base_outside.specs.Images.{Image, Range, all_over, NoMore}
use Rattle.pmem_undo.specs.declared.span.Span.{Span}
use Rattle.pmem_undo.specs.Layout.{gate, IsContent, most_ranges, most_bytes, total_bytes}
use Rattle.pmem_undo.specs.Settled.{settled, IsAtRest, IsAttachable, IsBeforeOrAfter, ComesFrom}
use Rattle.pmem_undo.specs.Spans.{IsSpan, range_of, ranges_of, spans_length}
use Rattle.pmem_undo.specs.Undo.{IsUndo, HasBuffers, IsTooMuch, HasRoom}
use Rattle.pmem_undo.proofs.Attaching.{spans_content, settled_shut}
use Rattle.pmem_undo.proofs.Committing.{total_is}
use Rattle.pmem_undo.proofs.Parsing.{length-push, ranges_front}

pub is_undo : (size : ℕ) (tells : Bool) (image : Image) (may : Image → Type 0) (staged : List ℕ) (spans : List Span) (spans_room bytes_room body : ℕ) (stopped : Bool) → HasBuffers size spans spans_room (length staged) bytes_room body → (IsTrue tells → stopped ≡ false → IsAtRest image may) → (IsTrue tells → (c : Image) → may c → IsAttachable size c) → IsUndo size tells image may (ranges_of staged spans) stopped
is_undo size tells image may staged spans spans_room bytes_room body stopped b rest attachable =
    let n = length-map spans (range_of staged) in
    let t = total_is staged size spans b.sound in
    let few = b.few in
    let total = b.total in
    let short = b.short in
    record {
      big = b.big;
      small = b.small;
      content = spans_content size staged spans b.sound;
      few = omega arith;
      short = omega arith;
      rest = rest;
      attachable = attachable;
    }

-- at rest, whatever a crash may leave may be attached to
pub rest_attachable : (size : ℕ) (f : Image) (may : Image → Type 0) → IsAtRest f may → (c : Image) → may c → IsAttachable size c
rest_attachable size f may rest c here ajar = absurd (ajar (rest.only c here gate ∙ rest.closed))

pub either_attachable : (size : ℕ) (f : Image) (news : List Range) (c : Image) → IsBeforeOrAfter size f news c → IsAttachable size c
either_attachable size f news c (inl before) = before.attachable
either_attachable size f news c (inr after) = after.attachable

pub attachable_at : (size size' : ℕ) (may : Image → Type 0) → size ≡ size' → ((c : Image) → may c → IsAttachable size c) → (c : Image) → may c → IsAttachable size' c
attachable_at size size' may e all = subst (λ (n : ℕ). (c : Image) → may c → IsAttachable n c) e all

more_room : (size room more : ℕ) (spans : List Span) → room ≤ more → All (IsSpan size room) spans → All (IsSpan size more) spans
more_room size room more spans le all k d below =
    let s = all k d below in let fits = s.fits in record { fits = omega arith; content = s.content }

-- a range behind what is staged
pub buffers_more : (size : ℕ) (spans : List Span) (spans_room staged bytes_room body place n spans_room' bytes_room' : ℕ) → HasBuffers size spans spans_room staged bytes_room body → IsContent size place n → length spans + 1 ≤ most_ranges → staged + n ≤ most_bytes → spans_room ≤ spans_room' → bytes_room ≤ bytes_room' → HasBuffers size (spans ++ record { place = place; start = staged; length = n } ∷ []) spans_room' (staged + n) bytes_room' body
buffers_more size spans spans_room staged bytes_room body place n spans_room' bytes_room' b content few short up up' =
    let s : Span = record { place = place; start = staged; length = n } in
    let fit = b.spans_fit in
    let fit' = b.bytes_fit in
    let total = b.total in
    record {
      big = b.big;
      small = b.small;
      sound = All-push (IsSpan size (staged + n)) spans s (more_room size staged (staged + n) spans (omega arith) b.sound) (record { fits = omega arith; content = content });
      few = omega (arith, length-append spans (s ∷ []));
      spans_fit = omega arith;
      total = ap (λ (k : ℕ). k + n) total ∙ sym (length-push spans s);
      short = short;
      bytes_fit = omega arith;
      body_fits = b.body_fits;
    }

last_range : (staged bytes : List ℕ) (place : ℕ) → range_of (staged ++ bytes) (record { place = place; start = length staged; length = length bytes }) ≡ record { place = place; bytes = bytes }
last_range staged bytes place =
    let e : (length staged + length bytes) - length staged ≡ length bytes = omega arith in
    let part : take ((length staged + length bytes) - length staged) (drop (length staged) (staged ++ bytes)) ≡ bytes =
    ap (λ (k : ℕ). take k (drop (length staged) (staged ++ bytes))) e ∙ (ap (λ (z : List ℕ). take (length bytes) z) (drop-append_seam staged bytes) ∙ take-length bytes) in
    ap (λ (z : List ℕ). let r : Range = record { place = place; bytes = z } in r) part

pub staged_more : (size : ℕ) (staged bytes : List ℕ) (spans : List Span) (place : ℕ) → All (IsSpan size (length staged)) spans → ranges_of (staged ++ bytes) (spans ++ record { place = place; start = length staged; length = length bytes } ∷ []) ≡ ranges_of staged spans ++ record { place = place; bytes = bytes } ∷ []
staged_more size staged bytes spans place all =
    let s : Span = record { place = place; start = length staged; length = length bytes } in
    let a = map-append (range_of (staged ++ bytes)) spans (s ∷ []) in
    let b = ranges_front staged bytes size spans all in
    let c = last_range staged bytes place in
    a ∙ (ap (λ (z : List Range). z ++ range_of (staged ++ bytes) s ∷ []) b ∙ ap (λ (z : Range). ranges_of staged spans ++ z ∷ []) c)

-- nothing staged
pub buffers_empty : (size : ℕ) (spans_room bytes_room body : ℕ) → 323584 ≤ size → size < 2 ^ 32 → most_ranges ≤ spans_room → most_bytes ≤ bytes_room → 264200 ≤ body → HasBuffers size [] spans_room 0 bytes_room body
buffers_empty size spans_room bytes_room body big small one two three = record {
  big = big;
  small = small;
  sound = λ k d below. absurd (omega arith);
  few = omega arith;
  spans_fit = one;
  total = refl;
  short = omega arith;
  bytes_fit = two;
  body_fits = three;
}

-- what is too much, by the buffers
pub too_much : (size : ℕ) (staged : List ℕ) (spans : List Span) (spans_room bytes_room body n : ℕ) → HasBuffers size spans spans_room (length staged) bytes_room body → ((length spans + 1 ≤ 1024) × (length staged + n ≤ 256000) → ⊥) → IsTooMuch (ranges_of staged spans) n
too_much size staged spans spans_room bytes_room body n b full =
    let l = length-map spans (range_of staged) in
    let t = total_is staged size spans b.sound in
    let total = b.total in
    elim (cases_lt 1024 (length spans + 1)) [
      | inl many ↦ inl (omega arith)
      | inr few ↦ elim (cases_lt 256000 (length staged + n)) [
        | inl long ↦ inr (omega arith)
        | inr short ↦ absurd (full (few, short))
      ]
    ]

pub not_too_much : (size : ℕ) (staged : List ℕ) (spans : List Span) (spans_room bytes_room body n : ℕ) → HasBuffers size spans spans_room (length staged) bytes_room body → length spans + 1 ≤ 1024 → length staged + n ≤ 256000 → IsTooMuch (ranges_of staged spans) n → ⊥
not_too_much size staged spans spans_room bytes_room body n b few short (inl many) = let l = length-map spans (range_of staged) in absurd (omega arith)
not_too_much size staged spans spans_room bytes_room body n b few short (inr long) = let t = total_is staged size spans b.sound in let total = b.total in absurd (omega arith)

-- what there is room for, by the buffers
pub has_room : (size : ℕ) (staged : List ℕ) (spans : List Span) (spans_room bytes_room body n : ℕ) → HasBuffers size spans spans_room (length staged) bytes_room body → length spans + 1 ≤ 1024 → length staged + n ≤ 256000 → HasRoom (ranges_of staged spans) n
has_room size staged spans spans_room bytes_room body n b few short =
    let l = length-map spans (range_of staged) in
    let t = total_is staged size spans b.sound in
    let total = b.total in
    (omega arith, omega arith)

pub room_told : (size : ℕ) (staged : List ℕ) (spans : List Span) (spans_room bytes_room body n : ℕ) (told : Bool) → HasBuffers size spans spans_room (length staged) bytes_room body → (told ≡ true → (length spans + 1 ≤ 1024) × (length staged + n ≤ 256000)) × ((length spans + 1 ≤ 1024) × (length staged + n ≤ 256000) → told ≡ true) → MatchBool told (HasRoom (ranges_of staged spans) n) (IsTooMuch (ranges_of staged spans) n)
room_told size staged spans spans_room bytes_room body n true b tells = let room = tells.0 refl in has_room size staged spans spans_room bytes_room body n b room.0 room.1
room_told size staged spans spans_room bytes_room body n false b tells = too_much size staged spans spans_room bytes_room body n b (λ room. let no = tells.1 room in absurd (cc))

-- reads leave a region at rest
pub rest_looks : (f g : Image) (m n : Image → Type 0) → IsAtRest f m → g ≡ f → NoMore m n → IsAtRest g n
rest_looks f g m n rest same less = record {
  only = λ c here i. rest.only c (less c here) i ∙ sym (ap (λ (h : Image). h i) same);
  closed = ap (λ (h : Image). h gate) same ∙ rest.closed;
}

pub buffers_at : (size size' : ℕ) (spans : List Span) (spans_room staged bytes_room body : ℕ) → size ≡ size' → HasBuffers size spans spans_room staged bytes_room body → HasBuffers size' spans spans_room staged bytes_room body
buffers_at size size' spans spans_room staged bytes_room body e b = subst (λ (n : ℕ). HasBuffers n spans spans_room staged bytes_room body) e b

-- the buffers after a range was put behind
pub buffers_pushed : (size : ℕ) (spans spans' : List Span) (spans_room : ℕ) (staged staged' bytes : List ℕ) (bytes_room body place spans_room' bytes_room' : ℕ) → HasBuffers size spans spans_room (length staged) bytes_room body → IsContent size place (length bytes) → length spans + 1 ≤ most_ranges → length staged + length bytes ≤ most_bytes → spans_room ≤ spans_room' → bytes_room ≤ bytes_room' → spans' ≡ spans ++ record { place = place; start = length staged; length = length bytes } ∷ [] → staged' ≡ staged ++ bytes → HasBuffers size spans' spans_room' (length staged') bytes_room' body
buffers_pushed size spans spans' spans_room staged staged' bytes bytes_room body place spans_room' bytes_room' b content few short up up' e e' =
    let long : length staged' ≡ length staged + length bytes = ap (λ (z : List ℕ). length z) e' ∙ length-append staged bytes in
    subst (λ (z : List Span). HasBuffers size z spans_room' (length staged') bytes_room' body) (sym e)
    (subst (λ (k : ℕ). HasBuffers size (spans ++ record { place = place; start = length staged; length = length bytes } ∷ []) spans_room' k bytes_room' body) (sym long)
    (buffers_more size spans spans_room (length staged) bytes_room body place (length bytes) spans_room' bytes_room' b content few short up up'))

pub staged_pushed : (size : ℕ) (staged staged' bytes : List ℕ) (spans spans' : List Span) (place : ℕ) → All (IsSpan size (length staged)) spans → spans' ≡ spans ++ record { place = place; start = length staged; length = length bytes } ∷ [] → staged' ≡ staged ++ bytes → ranges_of staged' spans' ≡ ranges_of staged spans ++ record { place = place; bytes = bytes } ∷ []
staged_pushed size staged staged' bytes spans spans' place all e e' =
    ap (λ (z : List ℕ). ranges_of z spans') e' ∙ (ap (ranges_of (staged ++ bytes)) e ∙ staged_more size staged bytes spans place all)

-- where a crash leaves what is read, all that a commit may leave comes from it
pub comes_from : (size : ℕ) (f : Image) (ranges : List Range) (old new : Image → Type 0) → IsAtRest f old → (c : Image) × old c → ((c : Image) → new c → IsBeforeOrAfter size f ranges c) → ComesFrom size ranges old new
comes_from size f ranges old new rest some left c here =
    let was : old f = subst (λ (d : Image). old d) (fun_ext (rest.only some.0 some.1)) some.1 in
    let shut : settled size f ≡ f = settled_shut size f rest.closed in
    elim (left c here) [
      | inl before ↦ (f, (was, inl (λ i a. before.content i a ∙ ap (λ (d : Image). d i) (sym shut))))
      | inr after ↦ (f, (was, inr (λ i a. after.content i a ∙ ap (λ (d : Image). all_over ranges d i) (sym shut))))
    ]

-- what is left to stage, by the buffers
pub left_told : (size : ℕ) (staged : List ℕ) (spans : List Span) (spans_room bytes_room body : ℕ) → HasBuffers size spans spans_room (length staged) bytes_room body → (most_ranges - length spans ≡ most_ranges - length (ranges_of staged spans)) × (most_bytes - length staged ≡ most_bytes - total_bytes (ranges_of staged spans))
left_told size staged spans spans_room bytes_room body b =
    let n = length-map spans (range_of staged) in
    let t = total_is staged size spans b.sound in
    let total = b.total in
    (omega arith, omega arith)
