-- Ranges written one after another, the last of them first.
use Rattle.std.proofs.Common.{◌≡◌, ℕ, zero, suc, ◌-◌, ◌≤◌, ◌<◌, Bool, true, false, cond, List, [], ◌∷◌, length, drop, get_or, map, refl, ap, ◌∙◌, arith}
use Rattle.std.proofs.Math.Seq.{drop-cons}
use Rattle.base_outside.specs.Images.{Image, Range, lies_in, lies_in_some, Torn, Tears, Only, Elapses, LeavesOnly}
use Rattle.pmem_undo.specs.declared.span.Span.{Span}
use Rattle.pmem_undo.specs.Spans.{range_of, ranges_of}
use Rattle.pmem_undo.specs.Settled.{settled, StandsFor, rolled, IsAttachable}
use Rattle.pmem_undo.specs.Layout.{gate, gate_byte, AreContent}
use Rattle.pmem_undo.specs.Log.{log_in, logged}
use Rattle.pmem_undo.proofs.Attaching.{at_back, at_shut}
use Rattle.pmem_undo.proofs.Moments.{Sofar, sofar_write, leaves_weaker}

-- one span more in front
pub ranges_before : (buffer : List ℕ) (spans : List Span) (left : ℕ) → 0 < left → left ≤ length spans → ranges_of buffer (drop (left - 1) spans) ≡ range_of buffer (get_or spans (left - 1) (record { place = 0; start = 0; length = 0 })) ∷ ranges_of buffer (drop left spans)
ranges_before buffer spans left some within =
    let d : Span = record { place = 0; start = 0; length = 0 } in
    let e : suc (left - 1) ≡ left = omega arith in
    ap (map (range_of buffer)) (drop-cons spans (left - 1) d (omega arith) ∙ ap (λ (k : ℕ). get_or spans (left - 1) d ∷ drop k spans) e)

pub tears_before : (r : Range) (rs : List Range) (a b c : Image → Type 0) → Tears rs a b → Tears (r ∷ []) b c → Tears (r ∷ rs) a c
tears_before r rs a b c s t z now =
    let w = t z now in
    let v = s w.0 w.1.0 in (
      v.0,
      (
        v.1.0,
        λ i out.
            elim (lies_in i r) as (λ q. lies_in i r ≡ q → cond q true (lies_in_some i rs) ≡ false → z i ≡ v.0 i) [
              | true ↦ λ e off. absurd (cc)
              | false ↦ λ e off. w.1.1 i (ap (λ (q : Bool). cond q true false) e) ∙ v.1.1 i off
            ] refl out,
      ),
    )

lies-behind : (i k : ℕ) (buffer : List ℕ) (spans : List Span) → lies_in_some i (ranges_of buffer spans) ≡ false → lies_in_some i (ranges_of buffer (drop k spans)) ≡ false
lies-behind i zero buffer spans h = h
lies-behind i (suc k) buffer [] h = refl
lies-behind i (suc k) buffer (s ∷ spans) h =
    elim (lies_in i (range_of buffer s)) as (λ b. cond b true (lies_in_some i (ranges_of buffer spans)) ≡ false → lies_in_some i (ranges_of buffer (drop k spans)) ≡ false) [
      | true ↦ λ e. absurd (cc)
      | false ↦ λ e. lies-behind i k buffer spans e
    ] h

-- what tears the ranges of the last spans tears those of all
pub spans_behind : (buffer : List ℕ) (spans : List Span) (k : ℕ) (a b : Image → Type 0) → Tears (ranges_of buffer (drop k spans)) a b → Tears (ranges_of buffer spans) a b
spans_behind buffer spans k a b t c now = let w = t c now in (w.0, (w.1.0, λ i out. w.1.1 i (lies-behind i k buffer spans out)))

-- the ranges were written back
pub ranges_back : (t0 t1 : ℕ) (s0 s1 : ℕ → Image → Type 0) (m0 m1 : Image → Type 0) (f : Image) (rs : List Range) → Only f m0 → Tears rs m0 m1 → LeavesOnly t0 t1 s0 s1 (λ c. (d : Image) × (m0 d × Torn rs d c)) → (size : ℕ) → IsAttachable size f → (f gate ≡ 0 → ⊥) → rs ≡ logged (log_in size f) → AreContent size rs → Sofar t0 t1 s0 s1 m1 (StandsFor size (settled size f))
ranges_back t0 t1 s0 s1 m0 m1 f rs clean0 w1 l1 size ok ajar is content =
    let allowed = λ (c : Image) (w : (d : Image) × (m0 d × Torn rs d c)). at_back size f rs ok ajar is content c (λ i out. w.1.1 i out ∙ clean0 w.0 w.1.0 i) in
    record { leaves = leaves_weaker t0 t1 s0 s1 _ _ l1 allowed; now = λ c h. allowed c (w1 c h) }

-- .. and flushed, and the gate was closed
pub gate_shut : (t0 t2 t3 : ℕ) (s0 s2 s3 : ℕ → Image → Type 0) (m2 m3 : Image → Type 0) (f : Image) (rs : List Range) (size : ℕ) → IsAttachable size f → (f gate ≡ 0 → ⊥) → rs ≡ logged (log_in size f) → AreContent size rs → Sofar t0 t2 s0 s2 m2 (StandsFor size (settled size f)) → Only (rolled rs f) m2 → Tears (gate_byte 0 ∷ []) m2 m3 → Elapses t2 t3 s2 s3 m3 → Sofar t0 t3 s0 s3 m3 (StandsFor size (settled size f))
gate_shut t0 t2 t3 s0 s2 s3 m2 m3 f rs size ok ajar is content r clean2 w3 e3 =
    sofar_write t0 t2 t3 s0 s2 s3 m2 m3 (StandsFor size (settled size f)) (gate_byte 0 ∷ []) (rolled rs f) r clean2 w3 e3 (at_shut size f rs ok ajar is content)
