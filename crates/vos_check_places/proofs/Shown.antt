-- Numbers and zeros of an image that has some bytes.
use Rattle.std.proofs.Common.{◌≡◌, ◌≢◌, ℕ, zero, suc, ◌+◌, ◌≤◌, ◌<◌, ◌==◌, false, List, drop, get_or, refl, sym, ap, subst, ◌∙◌, arith, inl, inr}
use Rattle.std.proofs.lemmas.Bool.{ne_eqb}
use Rattle.std.proofs.lemmas.Bool.Decides.{eqb_tells}
use Rattle.std.proofs.lemmas.List.{get_or-drop}
use Rattle.base_outside.specs.ImageLaws.{get_or-bytes_at}
use Rattle.base_outside.specs.Images.{Image, bytes_at}
use Rattle.byteorder.specs.Endian.{big_from, big_number}
use Rattle.vos_image.specs.Content.{number}
use Rattle.vos_image.specs.Places.{zeros_at}
use Rattle.vos_image.specs.Steps.{◌>>=◌, fail, give, rule}
use Rattle.vos_check_places.specs.Shown.{IsShown}

-- the number in bytes that agree place by place
same_from : (n i : ℕ) (xs ys : List ℕ) → ((k : ℕ) → i ≤ k → k < i + n → get_or xs k 0 ≡ get_or ys k 0) → big_from i n xs ≡ big_from i n ys
same_from zero i xs ys same = refl
same_from (suc n) i xs ys same =
    let head : get_or xs i 0 ≡ get_or ys i 0 = same i (omega arith) (omega arith) in
    let tail = same_from n (suc i) xs ys (λ k low high. same k (omega arith) (omega arith)) in
    cc

pub number_shown : (f : Image) (bs : List ℕ) (at w : ℕ) → IsShown f bs at (at + w) → number f at w ≡ big_number w (drop at bs)
unfolding number
number_shown f bs at w s = same_from w 0 (bytes_at f at w) (drop at bs) (λ k low high.
    let below : k < w = omega arith in
    get_or-bytes_at f at w k below ∙ (s (at + k) (omega arith) (omega arith) ∙ sym (get_or-drop at bs k 0)))

-- ---- zeros

pub zeros_hold : (f : Image) (at n : ℕ) → ((k : ℕ) → at ≤ k → k < at + n → f k ≡ 0) → zeros_at f at n ≡ give tt
unfolding ◌>>=◌ rule bytes_at
zeros_hold f at zero h = refl
zeros_hold f at (suc n) h =
    let e : f at ≡ 0 = h at (omega arith) (omega arith) in
    rw e (zeros_hold f (at + 1) n (λ k low high. h k (omega arith) (omega arith)))

pub zeros_fail : (f : Image) (at n i : ℕ) → at ≤ i → i < at + n → ((k : ℕ) → at ≤ k → k < i → f k ≡ 0) → f i ≢ 0 → zeros_at f at n ≡ fail i
unfolding ◌>>=◌ rule bytes_at
zeros_fail f at zero i low high h wrong = absurd (omega arith)
zeros_fail f at (suc n) i low high h wrong =
    elim (eqb_tells at i) [
      | inl a ↦ let same = a.1 in let e : (f at == 0) ≡ false = ne_eqb (f at) 0 (subst (λ (z : ℕ). f z ≢ 0) (sym same) wrong) in rw e (ap (λ (z : ℕ). fail z) same)
      | inr a ↦
          let other : at ≢ i = a.1 in
          let e : f at ≡ 0 = h at (omega arith) (omega arith) in
          rw e (zeros_fail f (at + 1) n i (omega arith) (omega arith) (λ k l m. h k (omega arith) m) wrong)
    ]
