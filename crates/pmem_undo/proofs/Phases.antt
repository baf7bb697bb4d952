-- The two halves of a commit, call by call.
use Rattle.std.proofs.Common.{◌≡◌, ℕ, add-one, ◌+◌, List, [], ◌∷◌, ◌++◌, take, length, map, sym, ap, ◌∙◌, subst, inl, Result, Ok, Err, OnOk}
use Rattle.std.proofs.lemmas.List.{map-append, take-map}
use Rattle.std.proofs.Math.Seq.{take-suc}
use Rattle.std.proofs.Common.{get_or, ◌<◌}
use Rattle.base_outside.specs.Images.{Image, Range, over, all_over, Torn, Only, Tears, Elapses, LeavesOnly}
use Rattle.pmem_undo.specs.declared.span.Span.{Span}
use Rattle.pmem_undo.specs.Layout.{gate_byte}
use Rattle.pmem_undo.specs.Settled.{StandsFor, IsBeforeOrAfter, IsPrepared, body_range, log_opened}
use Rattle.pmem_undo.specs.Spans.{range_of, ranges_of}
use Rattle.pmem_undo.proofs.Moments.{Sofar, sofar_start, sofar_write, leaves_weaker, tears_front}
use Rattle.pmem_undo.proofs.Settling.{at_body, at_gate, at_ranges, at_close}

pub take_one_more : {A : Type 0} (xs : List A) (k : ℕ) (d : A) → k < length xs → take (k + 1) xs ≡ take k xs ++ get_or xs k d ∷ []
take_one_more xs k d h = rw add-one (take-suc xs k d h)

-- one span more
pub ranges_more : (buffer : List ℕ) (spans : List Span) (k : ℕ) → k < length spans → ranges_of buffer (take (k + 1) spans) ≡ ranges_of buffer (take k spans) ++ range_of buffer (get_or spans k (record { place = 0; start = 0; length = 0 })) ∷ []
ranges_more buffer spans k h =
    let d : Span = record { place = 0; start = 0; length = 0 } in
    let more = take_one_more spans k d h in
    ap (map (range_of buffer)) more ∙ map-append (range_of buffer) (take k spans) (get_or spans k d ∷ [])

-- what tears the ranges of some spans tears those of all
pub spans_front : (buffer : List ℕ) (spans : List Span) (k : ℕ) (a b : Image → Type 0) → Tears (ranges_of buffer (take k spans)) a b → Tears (ranges_of buffer spans) a b
spans_front buffer spans k a b t = tears_front k (ranges_of buffer spans) a b (subst (λ (rs : List Range). Tears rs a b) (sym (take-map (range_of buffer) k spans)) t)

-- the body was written
pub body_written : (t0 t1 : ℕ) (s0 s1 : ℕ → Image → Type 0) (m0 m1 : Image → Type 0) (f : Image) (body : List ℕ) → Only f m0 → Tears (body_range body ∷ []) m0 m1 → Elapses t0 t1 s0 s1 m1 → (size : ℕ) (ranges : List Range) → IsPrepared size f ranges body → Sofar t0 t1 s0 s1 m1 (StandsFor size f)
body_written t0 t1 s0 s1 m0 m1 f body clean0 w1 e1 size ranges p =
    sofar_write t0 t0 t1 s0 s0 s1 m0 m1 (StandsFor size f) (body_range body ∷ []) f
    (sofar_start t0 s0 m0 (StandsFor size f) (λ c h. at_body size f ranges body p c (λ i out. clean0 c h i))) clean0 w1 e1 (at_body size f ranges body p)

-- the body was written and flushed, and the gate was opened
pub gate_opened : (t0 t2 t3 : ℕ) (s0 s2 s3 : ℕ → Image → Type 0) (m2 m3 : Image → Type 0) (f : Image) (body : List ℕ) (size : ℕ) (ranges : List Range) → IsPrepared size f ranges body → Sofar t0 t2 s0 s2 m2 (StandsFor size f) → Only (over (body_range body) f) m2 → Tears (gate_byte 1 ∷ []) m2 m3 → Elapses t2 t3 s2 s3 m3 → Sofar t0 t3 s0 s3 m3 (StandsFor size f)
gate_opened t0 t2 t3 s0 s2 s3 m2 m3 f body size ranges p r clean2 w3 e3 =
    sofar_write t0 t2 t3 s0 s2 s3 m2 m3 (StandsFor size f) (gate_byte 1 ∷ []) (over (body_range body) f) r clean2 w3 e3 (at_gate size f ranges body p)

-- the ranges were written
pub ranges_written : (t0 t1 : ℕ) (s0 s1 : ℕ → Image → Type 0) (m0 m1 : Image → Type 0) (now : Image) (news : List Range) → Only now m0 → Tears news m0 m1 → LeavesOnly t0 t1 s0 s1 (λ c. (d : Image) × (m0 d × Torn news d c)) → (size : ℕ) (f : Image) (body : List ℕ) → IsPrepared size f news body → now ≡ log_opened body f → Sofar t0 t1 s0 s1 m1 (IsBeforeOrAfter size f news)
ranges_written t0 t1 s0 s1 m0 m1 now news clean0 w1 l1 size f body p is =
    let allowed = λ (c : Image) (w : (d : Image) × (m0 d × Torn news d c)). inl (at_ranges size f news body p c (λ i out. w.1.1 i out ∙ (clean0 w.0 w.1.0 i ∙ ap (λ (g : Image). g i) is))) in
    record { leaves = leaves_weaker t0 t1 s0 s1 _ _ l1 allowed; now = λ c h. allowed c (w1 c h) }

-- the ranges were written and flushed, and the gate was closed
pub gate_closed : (t0 t2 t3 : ℕ) (s0 s2 s3 : ℕ → Image → Type 0) (m2 m3 : Image → Type 0) (now : Image) (news : List Range) (size : ℕ) (f : Image) (body : List ℕ) → IsPrepared size f news body → now ≡ log_opened body f → Sofar t0 t2 s0 s2 m2 (IsBeforeOrAfter size f news) → Only (all_over news now) m2 → Tears (gate_byte 0 ∷ []) m2 m3 → Elapses t2 t3 s2 s3 m3 → Sofar t0 t3 s0 s3 m3 (IsBeforeOrAfter size f news)
gate_closed t0 t2 t3 s0 s2 s3 m2 m3 now news size f body p is r clean2 w3 e3 =
    sofar_write t0 t2 t3 s0 s2 s3 m2 m3 (IsBeforeOrAfter size f news) (gate_byte 0 ∷ []) (all_over news now) r clean2 w3 e3
    (λ c torn. at_close size f news body p c (λ i out. torn i out ∙ ap (λ (g : Image). all_over news g i) is))

-- from an answer's two facts to a third
pub OnOk-both : {T E : Type 0} (r : Result T E) (X Y Z : Type 0) → OnOk r X → OnOk r Y → (X → Y → Z) → OnOk r Z
OnOk-both (Ok x) X Y Z a b f = f a b
OnOk-both (Err e) X Y Z a b f = tt

pub OnOk-map : {T E : Type 0} (r : Result T E) (X Y : Type 0) → OnOk r X → (X → Y) → OnOk r Y
OnOk-map (Ok x) X Y a f = f a
OnOk-map (Err e) X Y a f = tt
