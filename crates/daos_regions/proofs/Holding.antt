-- The bytes of a disk stand for its writes.
use Rattle.std.proofs.Common.{◌≡◌, ℕ, zero, suc, ◌+◌, ◌≤◌, ◌<◌, List, [], ◌∷◌, ◌++◌, length, replicate, get_or, refl, sym, ap, ◌∙◌, subst, arith}
use mathlib.Core.Path.{fun_ext}
use Rattle.std.proofs.lemmas.List.{map-append}
use Rattle.base_outside.specs.Images.{Range, over, all_over, image_of}
use Rattle.base_outside.specs.ImageLaws.{all_over-push}
use Rattle.daos_regions.specs.declared.piece.Piece.{Piece}
use Rattle.daos_regions.specs.declared.piece.Stretch.{Stretch}
use Rattle.daos_regions.specs.declared.keep.Keep.{Keep}
use Rattle.daos_regions.specs.declared.keep.Keep.TheVariants.{All}
use Rattle.daos_regions.specs.Periods.{Period, range_of, ranges_of, period_of, periods_of, kept_from, all_ended, zeros, AllFit, HoldsDisk}
use Rattle.daos_regions.specs.PeriodLaws.{all_ended-push, all_kept, fit-push}

zero_at : (n i : ℕ) → get_or (replicate n (let z : ℕ = 0 in z)) i 0 ≡ 0
zero_at zero i = refl
zero_at (suc n) zero = refl
zero_at (suc n) (suc i) = zero_at n i

image_at : (xs : List ℕ) (i : ℕ) → image_of xs i ≡ get_or xs i 0
unfolding image_of
image_at xs i = refl

pub holds_new : (n : ℕ) (bytes base : List ℕ) → bytes ≡ replicate n 0 → base ≡ replicate n 0 → HoldsDisk bytes base [] []
holds_new n bytes base a b =
    let zero_image : (xs : List ℕ) → xs ≡ replicate n 0 → image_of xs ≡ zeros = λ xs e. fun_ext (λ i. image_at xs i ∙ (ap (λ (z : List ℕ). get_or z i 0) e ∙ zero_at n i)) in
    record { now = zero_image bytes a; lasting = zero_image base b; long = ap (λ (z : List ℕ). length z) (b ∙ sym a); fits = tt }

-- a piece of some that fit
pub fit_at : (size : ℕ) (pieces : List Piece) (k : ℕ) (p : Piece) → AllFit size (ranges_of pieces) → k < length pieces → p ≡ get_or pieces k p → p.place + length p.bytes.items ≤ size
fit_at size [] k p all below is = absurd (omega arith)
fit_at size (q ∷ pieces) zero p all below is = subst (λ (z : Piece). z.place + length z.bytes.items ≤ size) (sym is) all.0
fit_at size (q ∷ pieces) (suc k) p all below is = fit_at size pieces k p all.1 (omega arith) is

-- one write more
pub holds_write : (bytes bytes' base : List ℕ) (past : List Period) (pieces pieces' : List Piece) (p : Piece) → HoldsDisk bytes base past (ranges_of pieces) → pieces' ≡ pieces ++ p ∷ [] → image_of bytes' ≡ over (range_of p) (image_of bytes) → length bytes' ≡ length bytes → p.place + length p.bytes.items ≤ length bytes → HoldsDisk bytes' base past (ranges_of pieces')
holds_write bytes bytes' base past pieces pieces' p h e is long fits =
    let rs = ranges_of pieces in
    let r = range_of p in
    let more : rs ++ r ∷ [] ≡ ranges_of pieces' = sym (ap ranges_of e ∙ map-append range_of pieces (p ∷ [])) in
    subst (λ (z : List Range). HoldsDisk bytes' base past z) more (record {
      now = is ∙ (ap (over r) h.now ∙ sym (all_over-push rs r (all_ended past zeros)));
      lasting = h.lasting;
      long = h.long ∙ sym long;
      fits = subst (λ (n : ℕ). AllFit n (rs ++ r ∷ [])) (sym long) (fit-push (length bytes) rs r h.fits fits);
    })

periods-push : (past : List Stretch) (s : Stretch) → periods_of (past ++ s ∷ []) ≡ periods_of past ++ period_of s ∷ []
periods-push past s = map-append period_of past (s ∷ [])

-- the end of a period that a crash ends
pub holds_crash : (bytes base bytes' base' : List ℕ) (past past' : List Stretch) (s : Stretch) (unflushed : List Piece) → HoldsDisk bytes base (periods_of past) (ranges_of s.writes.items) → image_of base' ≡ all_over (kept_from s.keep 0 (ranges_of s.writes.items)) (image_of base) → bytes' ≡ base' → past' ≡ past ++ s ∷ [] → unflushed ≡ [] → HoldsDisk bytes' base' (periods_of past') (ranges_of unflushed)
holds_crash bytes base bytes' base' past past' s unflushed h is same more none =
    let lasts : image_of base' ≡ all_ended (periods_of past') zeros =
    is ∙ (ap (all_over (kept_from s.keep 0 (ranges_of s.writes.items))) h.lasting ∙ (sym (all_ended-push (periods_of past) (period_of s) zeros) ∙ ap (λ (z : List Period). all_ended z zeros) (sym (ap periods_of more ∙ periods-push past s)))) in
    subst (λ (z : List Piece). HoldsDisk bytes' base' (periods_of past') (ranges_of z)) (sym none) (record {
      now = ap image_of same ∙ lasts;
      lasting = lasts;
      long = ap (λ (z : List ℕ). length z) (sym same);
      fits = tt;
    })

-- the end of a period that a flush ends
pub holds_flush : (bytes base base' : List ℕ) (past past' : List Stretch) (s : Stretch) (unflushed : List Piece) → HoldsDisk bytes base (periods_of past) (ranges_of s.writes.items) → s.keep ≡ All → image_of base' ≡ all_over (kept_from s.keep 0 (ranges_of s.writes.items)) (image_of base) → length base' ≡ length base → past' ≡ past ++ s ∷ [] → unflushed ≡ [] → HoldsDisk bytes base' (periods_of past') (ranges_of unflushed)
holds_flush bytes base base' past past' s unflushed h all is long more none =
    let rs = ranges_of s.writes.items in
    let kept : kept_from s.keep 0 rs ≡ rs = ap (λ (k : Keep). kept_from k 0 rs) all ∙ all_kept 0 rs in
    let end : all_over rs (all_ended (periods_of past) zeros) ≡ all_ended (periods_of past') zeros =
    ap (λ (z : List Range). all_over z (all_ended (periods_of past) zeros)) (sym kept) ∙ (sym (all_ended-push (periods_of past) (period_of s) zeros) ∙ ap (λ (z : List Period). all_ended z zeros) (sym (ap periods_of more ∙ periods-push past s))) in
    subst (λ (z : List Piece). HoldsDisk bytes base' (periods_of past') (ranges_of z)) (sym none) (record {
      now = h.now ∙ end;
      lasting = is ∙ (ap (λ (z : List Range). all_over z (image_of base)) kept ∙ (ap (all_over rs) h.lasting ∙ end));
      long = long ∙ h.long;
      fits = tt;
    })
