-- What is read where bytes are zero.
use Rattle.std.proofs.Common.{◌≡◌, ℕ, zero, suc, ◌+◌, ◌*◌, ◌≤◌, ◌<◌, [], ◌∷◌, ◌++◌, Option, None, length, replicate, refl, sym, ap, ◌∙◌, arith}
use Rattle.base_outside.specs.Images.{Image, bytes_at}
use Rattle.vos_image.specs.Content.{Content, number}
use Rattle.vos_image.specs.Places.{read_cont, read_snap}
use Rattle.vos_places.specs.Tables.{HoldConts, HoldSnaps, HoldsCont, HoldsSnap, those}
use Rattle.vos_places.proofs.Bytes.{number_known}
use Rattle.vos_image.proofs.Codecs.{at_most_test}
use Rattle.vos_places.proofs.Steps.{AreZeros, rule_goes, zeros_go, zeros_known}

-- bytes are zero from one place up to another
abbrev pub ZeroIn : Image → ℕ → ℕ → Type 0
ZeroIn f from to = (i : ℕ) → from ≤ i → i < to → f i ≡ 0

pub zero_bytes : (f : Image) (p n : ℕ) → ZeroIn f p (p + n) → bytes_at f p n ≡ replicate n 0
unfolding bytes_at
zero_bytes f p zero z = refl
zero_bytes f p (suc n) z =
    let first : f p ≡ 0 = z p (omega arith) (omega arith) in
    let rest : bytes_at f (p + 1) n ≡ replicate n 0 = zero_bytes f (p + 1) n (λ i low high. z i (omega arith) (omega arith)) in
    ap (λ b. b ∷ bytes_at f (p + 1) n) first ∙ ap (λ bs. 0 ∷ bs) rest

pub zeros_in : (f : Image) (from to p n : ℕ) → ZeroIn f from to → from ≤ p → p + n ≤ to → AreZeros p (bytes_at f p n)
zeros_in f from to p n z low high = zeros_known p (bytes_at f p n) n (zero_bytes f p n (λ i l h. z i (omega arith) (omega arith)))

pub eight_zero : (f : Image) (from to p : ℕ) → ZeroIn f from to → from ≤ p → p + 8 ≤ to → number f p 8 ≡ 0
eight_zero f from to p z low high =
    let e : p + 0 ≡ p = omega arith in
    ap (λ q. number f q 8) (sym e) ∙ number_known f p (replicate 8 0) (zero_bytes f p 8 (λ i l h. z i (omega arith) (omega arith))) 0 8 0 (omega arith) refl (omega arith)

pub four_zero : (f : Image) (from to p : ℕ) → ZeroIn f from to → from ≤ p → p + 4 ≤ to → number f p 4 ≡ 0
four_zero f from to p z low high =
    let e : p + 0 ≡ p = omega arith in
    ap (λ q. number f q 4) (sym e) ∙ number_known f p (replicate 4 0) (zero_bytes f p 4 (λ i l h. z i (omega arith) (omega arith))) 0 4 0 (omega arith) refl (omega arith)

-- ---- places that aren't used

cont_empty : (c : Content) (p : ℕ) → ZeroIn c.bytes p (p + 64) → HoldsCont c p None
unfolding read_cont
cont_empty c p z =
    let f = c.bytes in
    let used : f p ≡ 0 = z p (omega arith) (omega arith) in
    let why : f (p + 1) ≡ 0 = z (p + 1) (omega arith) (omega arith) in
    let floor : number f (p + 8) 8 ≡ 0 = eight_zero f p (p + 64) (p + 8) z (omega arith) (omega arith) in
    let aggregated : number f (p + 24) 8 ≡ 0 = eight_zero f p (p + 64) (p + 24) z (omega arith) (omega arith) in
    let ordinal : number f (p + 32) 8 ≡ 0 = eight_zero f p (p + 64) (p + 32) z (omega arith) (omega arith) in
    rule_goes _ _ _ [] _ (rw used refl)
    (rule_goes _ _ _ [] _ (rw why refl)
    (zeros_go _ _ _ [] _ (zeros_in f p (p + 64) (p + 2) 6 z (omega arith) (omega arith))
    (rule_goes _ _ _ [] _ (rw floor (at_most_test 0 c.covered (omega arith)))
    (rule_goes _ _ _ [] _ (rw why refl)
    (rule_goes _ _ _ [] _ (rw aggregated (at_most_test 0 c.covered (omega arith)))
    (rule_goes _ _ _ [] _ (rw ordinal refl)
    (zeros_go _ _ _ [] _ (zeros_in f p (p + 64) (p + 40) 8 z (omega arith) (omega arith))
    (rule_goes _ _ _ [] _ (rw used refl)
    (rw used refl)))))))))

snap_empty : (c : Content) (p : ℕ) → ZeroIn c.bytes p (p + 32) → HoldsSnap c p None
unfolding read_snap
snap_empty c p z =
    let f = c.bytes in
    let used : f p ≡ 0 = z p (omega arith) (omega arith) in
    rule_goes _ _ _ [] _ (rw used refl)
    (zeros_go _ _ _ [] _ (zeros_in f p (p + 32) (p + 1) 7 z (omega arith) (omega arith))
    (rule_goes _ _ _ [] _ (rw used refl)
    (rw used refl)))

pub conts_empty : (c : Content) (p n : ℕ) → ZeroIn c.bytes p (p + 64 * n) → HoldConts c p (replicate n None)
conts_empty c p zero z = tt
conts_empty c p (suc n) z = (cont_empty c p (λ i low high. z i low (omega arith)), conts_empty c (p + 64) n (λ i low high. z i (omega arith) (omega arith)))

pub snaps_empty : (c : Content) (p n : ℕ) → ZeroIn c.bytes p (p + 32 * n) → HoldSnaps c p (replicate n None)
snaps_empty c p zero z = tt
snaps_empty c p (suc n) z = (snap_empty c p (λ i low high. z i low (omega arith)), snaps_empty c (p + 32) n (λ i low high. z i (omega arith) (omega arith)))

pub none_there : {T : Type 0} (n : ℕ) → those {A = T} (replicate n None) ≡ []
none_there zero = refl
none_there (suc n) = none_there n

pub many_none : (T : Type 0) (n : ℕ) → length (replicate {A = Option T} n None) ≡ n
many_none T zero = refl
many_none T (suc n) = omega (arith, many_none T n)

-- one byte more of an image
pub bytes_more : (f : Image) (p n m : ℕ) → m ≡ n + 1 → bytes_at f p m ≡ bytes_at f p n ++ f (p + n) ∷ []
unfolding bytes_at
bytes_more f p n zero next = absurd (omega arith)
bytes_more f p zero (suc m) next = let none : m ≡ 0 = omega arith in let e : p + 0 ≡ p = omega arith in rw (none, e) refl
bytes_more f p (suc n) (suc m) next = let e : (p + 1) + n ≡ p + suc n = omega arith in ap (λ bs. f p ∷ bs) (bytes_more f (p + 1) n m (omega arith) ∙ ap (λ i. bytes_at f (p + 1) n ++ f i ∷ []) e)

pub no_bytes : (f : Image) (p : ℕ) → bytes_at f p 0 ≡ []
unfolding bytes_at
no_bytes f p = refl
