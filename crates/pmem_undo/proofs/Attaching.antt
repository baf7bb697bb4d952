-- What a crash may leave at each write of attaching settles to the same content.
use Rattle.std.proofs.Common.{◌≡◌, ◌≢◌, ℕ, ◌+◌, ◌-◌, ◌≤◌, ◌<◌, Bool, true, false, cond, eqb, List, [], ◌∷◌, length, take, drop, Option, Some, None, refl, sym, ap, ◌∙◌, subst, arith, inl, inr}
use Rattle.std.specs.Prelude.{IsSome, All}
use mathlib.Core.Path.{fun_ext}
use Rattle.std.proofs.lemmas.Bool.{ne_eqb}
use Rattle.std.proofs.lemmas.Bool.Decides.{eqb_tells}
use Rattle.std.proofs.lemmas.List.{length-take-le, length-drop}
use Rattle.std.proofs.lemmas.List.Elements.{All-head, All-tail}
use Rattle.base_outside.specs.Images.{Image, Range, lies_in_some, over, Torn, Only}
use Rattle.pmem_undo.specs.declared.span.Span.{Span}
use Rattle.pmem_undo.specs.Layout.{gate, gate_byte, log_place, log_end, is_content, IsContent, AreContent}
use Rattle.pmem_undo.specs.Log.{log_in, logged}
use Rattle.pmem_undo.specs.Settled.{rolled, settled, IsAttachable, StandsFor, OnlyLooks}
use Rattle.pmem_undo.specs.Spans.{range_of, ranges_of, IsSpan}
use Rattle.pmem_undo.proofs.Rolling.{rolled_outside, rolled_at}
use Rattle.pmem_undo.proofs.Reading.{same_log}
use Rattle.pmem_undo.proofs.Settling.{stands_closed, stands_open, gate_at, off_gate, only_gate, content_off_gate, ranges_off, log_is_no_content, gate_is_no_content}
use Rattle.pmem_undo.proofs.Moments.{Sofar, leaves_weaker}

-- an image that may be attached stands for what attaching makes of it
pub stands_itself : (size : ℕ) (f : Image) → IsAttachable size f → StandsFor size (settled size f) f
stands_itself size f ok = record { attachable = ok; content = λ i content. refl }

pub stands_same : (size : ℕ) (f c : Image) → IsAttachable size f → ((i : ℕ) → c i ≡ f i) → StandsFor size (settled size f) c
stands_same size f c ok same = subst (λ (g : Image). StandsFor size (settled size f) g) (sym (fun_ext same)) (stands_itself size f ok)

-- what reads leave may be left of what attaching makes
pub looks_settle : (size : ℕ) (f g : Image) (m n : Image → Type 0) (t u : ℕ) (s v : ℕ → Image → Type 0) → Only f m → IsAttachable size f → OnlyLooks f g m n t u s v → Sofar t u s v n (StandsFor size (settled size f))
looks_settle size f g m n t u s v clean ok looks = record {
  leaves = leaves_weaker t u s v m (StandsFor size (settled size f)) looks.time (λ c here. stands_same size f c ok (clean c here));
  now = λ c here. stands_same size f c ok (clean c (looks.crash c here));
}

-- .. and a crash then leaves what is read
pub looks_only : (f g : Image) (m n : Image → Type 0) (t u : ℕ) (s v : ℕ → Image → Type 0) → Only f m → OnlyLooks f g m n t u s v → Only g n
looks_only f g m n t u s v clean looks c here i = clean c (looks.crash c here) i ∙ sym (ap (λ (h : Image). h i) looks.image)

pub settled_shut : (size : ℕ) (f : Image) → f gate ≡ 0 → settled size f ≡ f
unfolding settled
settled_shut size f shut = ap (λ (g : ℕ). cond (eqb g 0) f (over (gate_byte 0) (rolled (logged (log_in size f)) f))) shut

pub settled_ajar : (size : ℕ) (f : Image) → f gate ≢ 0 → settled size f ≡ over (gate_byte 0) (rolled (logged (log_in size f)) f)
unfolding settled
settled_ajar size f ajar = ap (λ (b : Bool). cond b f (over (gate_byte 0) (rolled (logged (log_in size f)) f))) (ne_eqb (f gate) 0 ajar)

pub settled_closes : (size : ℕ) (f : Image) → settled size f gate ≡ 0
settled_closes size f = elim (eqb_tells (f gate) 0) [
  | inl shut ↦ ap (λ (g : Image). g gate) (settled_shut size f shut.1) ∙ shut.1
  | inr ajar ↦ ap (λ (g : Image). g gate) (settled_ajar size f ajar.1) ∙ gate_at 0 (rolled (logged (log_in size f)) f)
]

some_logged : (o : Option (List Range)) → IsSome o → o ≡ Some (logged o)
some_logged None some = absurd (cc)
some_logged (Some rs) some = refl

module _ (size : ℕ) (f : Image) (rs : List Range) (ok : IsAttachable size f) (ajar : f gate ≢ 0) (is : rs ≡ logged (log_in size f)) (content : AreContent size rs) where
  log_is : log_in size f ≡ Some rs
  log_is = some_logged (log_in size f) (ok ajar) ∙ ap (λ (z : List Range). Some z) (sym is)

  gate_off : lies_in_some gate rs ≡ false
  gate_off = ranges_off size rs gate content gate_is_no_content

  log_off : (i : ℕ) → log_place ≤ i → i < log_end → lies_in_some i rs ≡ false
  log_off i low high = ranges_off size rs i content (log_is_no_content i low high)

  pub makes : settled size f ≡ over (gate_byte 0) (rolled rs f)
  makes = settled_ajar size f ajar ∙ ap (λ (z : List Range). over (gate_byte 0) (rolled z f)) (sym is)

  makes_at : (i : ℕ) → is_content i ≡ true → settled size f i ≡ rolled rs f i
  makes_at i c = ap (λ (g : Image). g i) makes ∙ off_gate 0 (rolled rs f) i c

  pub at_back : (c : Image) → Torn rs f c → StandsFor size (settled size f) c
  at_back c torn =
      let same = same_log size f c (λ i low high. torn i (log_off i low high)) in
      let open_still : c gate ≢ 0 = λ e. ajar (sym (torn gate gate_off) ∙ e) in
      stands_open size (settled size f) c rs open_still (same ∙ log_is)
      (λ i here. rolled_at rs c f i (torn i) ∙ sym (makes_at i here))

  off_gate_place : (i : ℕ) → log_place ≤ i → i ≢ gate
  off_gate_place i low e = absurd (omega arith)

  pub at_shut : (c : Image) → Torn (gate_byte 0 ∷ []) (rolled rs f) c → StandsFor size (settled size f) c
  at_shut c torn =
      let here : (i : ℕ) → is_content i ≡ true → c i ≡ rolled rs f i = λ i a. torn i (only_gate 0 i (content_off_gate i a)) in
      elim (eqb_tells (c gate) 0) [
        | inl shut ↦ stands_closed size (settled size f) c shut.1 (λ i a. here i a ∙ sym (makes_at i a))
        | inr still ↦ stands_open size (settled size f) c rs still.1
            (same_log size f c (λ i low high. torn i (only_gate 0 i (off_gate_place i low)) ∙ rolled_outside rs f i (log_off i low high)) ∙ log_is)
            (λ i a. rolled_at rs c f i (λ out. here i a ∙ rolled_outside rs f i out) ∙ sym (makes_at i a))
      ]

-- spans stand for content
length-part : (buffer : List ℕ) (start n : ℕ) → start + n ≤ length buffer → length (take ((start + n) - start) (drop start buffer)) ≡ n
length-part buffer start n fits =
    let e : (start + n) - start ≡ n = omega arith in
    let long = length-drop start buffer in
    ap (λ (k : ℕ). length (take k (drop start buffer))) e ∙ length-take-le n (drop start buffer) (omega arith)

pub length-span : (buffer : List ℕ) (span : Span) (size : ℕ) → IsSpan size (length buffer) span → length ((range_of buffer span).bytes) ≡ span.length
length-span buffer span size is = length-part buffer span.start span.length is.fits

span_content : (size : ℕ) (buffer : List ℕ) (span : Span) → IsSpan size (length buffer) span → IsContent size span.place (length ((range_of buffer span).bytes))
span_content size buffer span is = subst (λ (n : ℕ). IsContent size span.place n) (sym (length-span buffer span size is)) is.content

pub spans_content : (size : ℕ) (buffer : List ℕ) (spans : List Span) → All (IsSpan size (length buffer)) spans → AreContent size (ranges_of buffer spans)
spans_content size buffer [] all = tt
spans_content size buffer (s ∷ spans) all = (span_content size buffer s (All-head (IsSpan size (length buffer)) s spans all), spans_content size buffer spans (All-tail (IsSpan size (length buffer)) s spans all))

-- the same of an equal image
pub attachable_same : (size size' : ℕ) (f g : Image) → IsAttachable size f → size' ≡ size → g ≡ f → IsAttachable size' g
attachable_same size size' f g ok e same = subst (λ (n : ℕ). IsAttachable n g) (sym e) (subst (λ (h : Image). IsAttachable size h) (sym same) ok)

pub stands_from : (size size' : ℕ) (f g c : Image) → size' ≡ size → g ≡ f → StandsFor size' (settled size' g) c → StandsFor size (settled size f) c
stands_from size size' f g c e same stands = subst (λ (n : ℕ). StandsFor n (settled n f) c) e (subst (λ (h : Image). StandsFor size' (settled size' h) c) same stands)
