-- What an image says of itself once it says the second layout: all else as before.
use Rattle.std.proofs.Common.{◌≡◌, ◌⊎◌, ℕ, ◌+◌, ◌<◌, ◌≤◌, ◌^◌, ◌==◌, ◌&&◌, not, nat_lt, Bool, true, List, [], ◌∷◌, Ok, Err, length, refl, sym, ap, ◌∙◌, arith, inl, inr}
use Rattle.std.specs.Prelude.{if◌then◌else◌}
use mathlib.Core.Path.{fun_ext}
use Rattle.base_outside.specs.ImageLaws.{same_bytes_at}
use Rattle.base_outside.specs.Images.{Image, bytes_at}
use Rattle.vos_pool_base.specs.vos_image.Content.{Content, link, number}
use Rattle.vos_pool_base.specs.vos_image.Places.{Header, header_in, is_layout, magic, read_bytes, read_header, zeros_at}
use Rattle.vos_pool_base.specs.vos_image.Steps.{Step, ◌>>=◌, give, is_among, rule, zeros}
use Rattle.vos_pool_base.proofs.vos_standing.vos_places.Bytes.{same_number}
use Rattle.vos_pool_base.proofs.vos_standing.vos_places.Conts.{same_read}
use Rattle.vos_pool_base.proofs.vos_standing.vos_places.Header.{layout_read}
use Rattle.vos_pool_base.proofs.vos_standing.vos_places.Map.{SameMap, taken_as}
use Rattle.vos_pool_base.proofs.vos_standing.vos_places.Steps.{bound_was, step_goes}

-- the second content is the first one with the second layout
pub record SaysSecond (c d : Content) : Type 0 where
  pub layout : number d.bytes 8 4 ≡ 2
  pub besides : (i : ℕ) → (i < 8) ⊎ (12 ≤ i) → d.bytes i ≡ c.bytes i
  pub size : d.size ≡ c.size

pub same_map : (c d : Content) → SaysSecond c d → SameMap c d
same_map c d s = record { bytes = λ i high. s.besides i (inr (omega arith)); size = s.size }

pub bytes_besides : (c d : Content) (at n : ℕ) → SaysSecond c d → (at + n ≤ 8) ⊎ (12 ≤ at) → bytes_at d.bytes at n ≡ bytes_at c.bytes at n
bytes_besides c d at n s out =
    same_bytes_at c.bytes d.bytes at n (λ i low high. s.besides i (elim out [
      | inl before ↦ inl (omega arith)
      | inr past ↦ inr (omega arith)
    ]))

pub number_besides : (c d : Content) (at n : ℕ) → SaysSecond c d → (at + n ≤ 8) ⊎ (12 ≤ at) → number d.bytes at n ≡ number c.bytes at n
number_besides c d at n s out = same_number c.bytes d.bytes at n (bytes_besides c d at n s out)

-- ---- readings step by step

-- steps one after another, and then the last one
abbrev after_all : {A : Type 0} → List (Step (Unit {0})) → Step A → Step A
after_all [] last = last
after_all (s ∷ ss) last = s >>= λ _. after_all ss last

-- what is given in the end is what was read,
given_was : {A : Type 0} (ss : List (Step (Unit {0}))) (a r : A) (led after : List ℕ) → after_all ss (give a) led ≡ Ok (r, after) → a ≡ r
given_was [] a r led after h = ap (λ z. z.0) (same_read (a, led) (r, after) h)
given_was (s ∷ ss) a r led after h =
    let k = bound_was s (λ _. after_all ss (give a)) led (r, after) h in
    given_was ss a r k.after after k.behind

-- and something else can be given in its place
given_other : {A : Type 0} (ss : List (Step (Unit {0}))) (a b r : A) (led after : List ℕ) → after_all ss (give a) led ≡ Ok (r, after) → after_all ss (give b) led ≡ Ok (b, after)
given_other [] a b r led after h = ap (λ z. Ok (b, z.1)) (same_read (a, led) (r, after) h)
given_other (s ∷ ss) a b r led after h =
    let k = bound_was s (λ _. after_all ss (give a)) led (r, after) h in
    step_goes s (λ _. after_all ss (give b)) k.given led k.after (b, after) k.first (given_other ss a b r k.after after k.behind)

-- ---- the header

header_steps : ℕ → Content → List (Step (Unit {0}))
header_steps target c =
    let h = header_in c.bytes in
    read_bytes c.bytes 0 magic ∷ rule 8 (is_layout h.layout) ∷ rule 12 (h.target == target) ∷ zeros_at c.bytes 14 2 ∷ rule 16 (number c.bytes 16 8 == c.size)
    ∷ rule 32 (nat_lt h.lease (2 ^ 56)) ∷ link c 40 h.objects ∷ link c 44 h.entries ∷ zeros_at c.bytes 48 4048 ∷ []

by_steps : (target : ℕ) (c : Content) → read_header target c ≡ after_all (header_steps target c) (give (header_in c.bytes))
unfolding read_header header_steps
by_steps target c = refl

text_as : (f g : Image) (at : ℕ) (bs : List ℕ) → ((i : ℕ) → i < at + length bs → g i ≡ f i) → read_bytes g at bs ≡ read_bytes f at bs
text_as f g at [] same = refl
text_as f g at (b ∷ bs) same =
    ap (λ (x : ℕ). rule at (x == b) >>= λ _. read_bytes g (at + 1) bs) (same at (omega arith))
    ∙ ap (λ (x : Step (Unit {0})). rule at (f at == b) >>= λ _. x) (text_as f g (at + 1) bs (λ i below. same i (omega arith)))

link_as : (c d : Content) (at b : ℕ) → SameMap c d → link d at b ≡ link c at b
unfolding link
link_as c d at b s = fun_ext (λ led. ap (λ (t : Bool). if b == 0 then Ok (tt, led) else if t && not (is_among b led) then Ok (tt, b ∷ led) else Err at) (taken_as c d b s))

module _ (target : ℕ) (c d : Content) (s : SaysSecond c d) where
  steps_as : is_layout (number c.bytes 8 4) ≡ true → header_steps target d ≡ header_steps target c
  unfolding header_steps header_in
  steps_as layout =
      let first = text_as c.bytes d.bytes 0 magic (λ i below. s.besides i (inl (omega arith))) in
      let says : is_layout (number d.bytes 8 4) ≡ is_layout (number c.bytes 8 4) = ap is_layout s.layout ∙ sym layout in
      let target_at : d.bytes 12 ≡ c.bytes 12 = s.besides 12 (inr (omega arith)) in
      let gap = bytes_besides c d 14 2 s (inr (omega arith)) in
      let long = number_besides c d 16 8 s (inr (omega arith)) in
      let lease = number_besides c d 32 8 s (inr (omega arith)) in
      let objects = ap (link d 40) (number_besides c d 40 4 s (inr (omega arith))) ∙ link_as c d 40 (number c.bytes 40 4) (same_map c d s) in
      let entries = ap (link d 44) (number_besides c d 44 4 s (inr (omega arith))) ∙ link_as c d 44 (number c.bytes 44 4) (same_map c d s) in
      let rest = bytes_besides c d 48 4048 s (inr (omega arith)) in
      λ i. first i ∷ rule 8 (says i) ∷ rule 12 (target_at i == target) ∷ zeros 14 (gap i) ∷ rule 16 (long i == s.size i) ∷ rule 32 (nat_lt (lease i) (2 ^ 56)) ∷ objects i ∷ entries i ∷ zeros 48 (rest i) ∷ []

  header_as : header_in d.bytes ≡ record (header_in c.bytes) { layout = 2 }
  unfolding header_in
  header_as =
      let target_at : d.bytes 12 ≡ c.bytes 12 = s.besides 12 (inr (omega arith)) in
      let targets_at : d.bytes 13 ≡ c.bytes 13 = s.besides 13 (inr (omega arith)) in
      let incarnation = number_besides c d 24 8 s (inr (omega arith)) in
      let lease = number_besides c d 32 8 s (inr (omega arith)) in
      let objects = number_besides c d 40 4 s (inr (omega arith)) in
      let entries = number_besides c d 44 4 s (inr (omega arith)) in
      λ i. record { layout = s.layout i; target = target_at i; targets = targets_at i; incarnation = incarnation i; lease = lease i; objects = objects i; entries = entries i }

  said : (h : Header) (after : List ℕ) → read_header target c [] ≡ Ok (h, after) → is_layout (number c.bytes 8 4) ≡ true
  unfolding header_in
  said h after is =
      let same = given_was (header_steps target c) (header_in c.bytes) h [] after (ap (λ (x : Step Header). x []) (sym (by_steps target c)) ∙ is) in
      ap (λ (x : Header). is_layout x.layout) same ∙ layout_read target c h after is

  -- what was read is read, with the second layout
  pub second_read : (h : Header) (after : List ℕ) → read_header target c [] ≡ Ok (h, after) → read_header target d [] ≡ Ok (record h { layout = 2 }, after)
  second_read h after is =
      let was : after_all (header_steps target c) (give (header_in c.bytes)) [] ≡ Ok (h, after) = ap (λ (x : Step Header). x []) (sym (by_steps target c)) ∙ is in
      let same : header_in c.bytes ≡ h = given_was (header_steps target c) (header_in c.bytes) h [] after was in
      let now : header_in d.bytes ≡ record h { layout = 2 } = header_as ∙ ap (λ (x : Header). let y : Header = record x { layout = 2 } in y) same in
      ap (λ (x : Step Header). x []) (by_steps target d)
      ∙ ap (λ (ss : List (Step (Unit {0}))). after_all ss (give (header_in d.bytes)) []) (steps_as (said h after is))
      ∙ given_other (header_steps target c) (header_in c.bytes) (header_in d.bytes) h [] after was
      ∙ ap (λ (x : Header). Ok (x, after)) now
