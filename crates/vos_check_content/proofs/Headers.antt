-- What the fields of a header that was read say.
use Rattle.std.proofs.Common.{◌≡◌, ℕ, ◌<◌, ◌^◌, List, [], Result, Ok, Err, refl, sym, ap, subst}
use Rattle.base_outside.specs.Images.{Image}
use Rattle.vos_image.specs.Steps.{Step, ◌>>=◌, onward}
use Rattle.vos_image.specs.Content.{Content, content_of, number}
use Rattle.vos_image.specs.Places.{Header, header_in, read_header}
use Rattle.vos_check_places.proofs.vos_places.Header.{lease_read, lease_small}
use Rattle.vos_check_places.specs.vos_places.Laws.{Keeps}
use Rattle.vos_check_base.specs.Answers.{content}
use Rattle.vos_check_places.specs.declared.places.Fixed.{Fixed}
use Rattle.vos_check_places.specs.Fixed.{header_of, table_of}
use Rattle.vos_check_content.specs.Whole.{ground_with}

-- the step behind another was read
record Behind {B : Type 0} (y : Step B) (r : B × List ℕ) : Type 0 where
  mid : List ℕ
  is : y mid ≡ Ok r

went_on : {A B : Type 0} (o : Result (A × List ℕ) ℕ) (y : Step B) (r : B × List ℕ) → onward o (λ _. y) ≡ Ok r → Behind y r
went_on (Ok x) y r h = record { mid = x.1; is = h }
went_on (Err at) y r h = absurd (let no : ⊥ = cc in no)

behind : {A B : Type 0} (x : Step A) (y : Step B) (led : List ℕ) (r : B × List ℕ) → (x >>= λ _. y) led ≡ Ok r → Behind y r
unfolding ◌>>=◌
behind x y led r h = went_on (x led) y r h

inside_ok : (x y : Header × List ℕ) → ◌≡◌ {A = Result (Header × List ℕ) ℕ} (Ok x) (Ok y) → x ≡ y
inside_ok x y e = cc

header_said : (target : ℕ) (c : Content) (k : Header) (after : List ℕ) → read_header target c [] ≡ Ok (k, after) → header_in c.bytes ≡ k
unfolding read_header
header_said target c k after h =
    let one = behind _ _ [] (k, after) h in
    let two = behind _ _ one.mid (k, after) one.is in
    let three = behind _ _ two.mid (k, after) two.is in
    let four = behind _ _ three.mid (k, after) three.is in
    let five = behind _ _ four.mid (k, after) four.is in
    let six = behind _ _ five.mid (k, after) five.is in
    let seven = behind _ _ six.mid (k, after) six.is in
    let eight = behind _ _ seven.mid (k, after) seven.is in
    let nine = behind _ _ eight.mid (k, after) eight.is in
    ap (λ (z : Header × List ℕ). z.0) (inside_ok (header_in c.bytes, nine.mid) (k, after) nine.is)

-- a content is judged by its header
pub ground_is : (target size : ℕ) (f : Image) (x : Fixed) → Keeps target size f (table_of x) → content (ground_with x.header size) f ≡ content_of size f
unfolding header_in
ground_is target size f x k =
    let h = header_said target (content_of size f) (header_of x.header) _ k.header in
    let layout : x.header.layout ≡ number f 8 4 = sym (ap (λ (z : Header). z.layout) h) in
    let lease : x.header.lease ≡ number f 32 8 = sym (ap (λ (z : Header). z.lease) h) in
    let targets : x.header.targets ≡ f 13 = sym (ap (λ (z : Header). z.targets) h) in
    rw (layout, lease, targets) refl

pub lease_low : (target size : ℕ) (f : Image) (x : Fixed) → Keeps target size f (table_of x) → x.header.lease < 2 ^ 56
lease_low target size f x k =
    subst (λ (n : ℕ). n < 2 ^ 56) (lease_read target (content_of size f) (header_of x.header) _ k.header) (lease_small target (content_of size f) (header_of x.header) _ k.header)
