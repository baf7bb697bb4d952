-- Numbers and bytes of an image whose bytes from a place on are known.
use Rattle.std.proofs.Common.{◌≡◌, ℕ, ◌+◌, ◌≤◌, ◌<◌, ◌^◌, List, [], length, take, drop, get_or, sym, ap, ◌∙◌, arith}
use Rattle.std.proofs.lemmas.List.{append-nil}
use Rattle.base_outside.specs.ImageLaws.{get_or-bytes_at, part_at, same_bytes_at}
use Rattle.base_outside.specs.Images.{Image, bytes_at}
use Rattle.byteorder.specs.Endian.{big_bytes, big_number}
use Rattle.byteorder.specs.Numbers.{big_number-reads_back}
use Rattle.vos_image.specs.Content.{number}

pub byte_known : (f : Image) (p : ℕ) (bs : List ℕ) → bytes_at f p (length bs) ≡ bs → (k : ℕ) → k < length bs → f (p + k) ≡ get_or bs k 0
byte_known f p bs is k below = sym (get_or-bytes_at f p (length bs) k below) ∙ ap (λ (z : List ℕ). get_or z k 0) is

pub first_known : (f : Image) (p : ℕ) (bs : List ℕ) → bytes_at f p (length bs) ≡ bs → 0 < length bs → f p ≡ get_or bs 0 0
first_known f p bs is some = let e : p ≡ p + 0 = omega arith in ap f e ∙ byte_known f p bs is 0 some

pub part_known : (f : Image) (p : ℕ) (bs : List ℕ) → bytes_at f p (length bs) ≡ bs → (m n : ℕ) → m + n ≤ length bs → bytes_at f (p + m) n ≡ take n (drop m bs)
part_known f p bs is m n fits = part_at f p bs (byte_known f p bs is) m n fits

pub number_known : (f : Image) (p : ℕ) (bs : List ℕ) → bytes_at f p (length bs) ≡ bs → (m w x : ℕ) → m + w ≤ length bs → take w (drop m bs) ≡ big_bytes w x → x < 256 ^ w → number f (p + m) w ≡ x
unfolding number
number_known f p bs is m w x fits there small =
    ap (big_number w) (part_known f p bs is m w fits ∙ (there ∙ sym (append-nil (big_bytes w x)))) ∙ big_number-reads_back w x [] small

-- the same bytes say the same number
pub same_number : (f g : Image) (p w : ℕ) → bytes_at g p w ≡ bytes_at f p w → number g p w ≡ number f p w
unfolding number
same_number f g p w e = ap (big_number w) e

-- two images have the same bytes from one place up to another
abbrev pub Agree : Image → Image → ℕ → ℕ → Type 0
Agree f g from to = (i : ℕ) → from ≤ i → i < to → g i ≡ f i

pub agreed_bytes : (f g : Image) (from to p w : ℕ) → Agree f g from to → from ≤ p → p + w ≤ to → bytes_at g p w ≡ bytes_at f p w
agreed_bytes f g from to p w a low high = same_bytes_at f g p w (λ i l h. a i (omega arith) (omega arith))

pub agreed_number : (f g : Image) (from to p w : ℕ) → Agree f g from to → from ≤ p → p + w ≤ to → number g p w ≡ number f p w
agreed_number f g from to p w a low high = same_number f g p w (agreed_bytes f g from to p w a low high)
