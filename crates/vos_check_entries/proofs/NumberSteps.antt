-- The numbers of a block, one by one.
use Rattle.std.proofs.Common.{◌≡◌, ◌≢◌, ℕ, zero, suc, ◌+◌, ◌-◌, ◌*◌, ◌==◌, ◌&&◌, not, Bool, true, false, List, [], ◌∷◌, ◌++◌, take, drop, length, Result, Ok, Err, refl, sym, ap, ◌∙◌, arith, subst}
use Rattle.std.specs.Prelude.{slice_index}
use Rattle.std.proofs.lemmas.Grind.{common_steps}
use Rattle.std.proofs.lemmas.Bool.{ne_eqb}
use Rattle.std.proofs.lemmas.List.{length-drop, take_all}
use Rattle.base_outside.specs.ImageLaws.{length-bytes_at}
use Rattle.byteorder.specs.Endian.{big_number}
use Rattle.vos_check.specs.vos_image.Steps.{Step, ◌>>=◌, give, is_among, rule, zeros}
use Rattle.vos_check.specs.vos_image.Content.{Content, block, link}
use Rattle.vos_check.specs.vos_image.Kinds.{read_numbers, read_part}
use Rattle.vos_check_base.specs.Sets.{Set}
use Rattle.vos_check_base.specs.Answers.{Gives, Plain, nothing}
use Rattle.vos_check_base.proofs.Steps.{assoc, off, on}
use Rattle.vos_check_entries.specs.declared.numbers.ListNo.{ListNo}
use Rattle.vos_check_entries.specs.declared.numbers.ListNo.TheVariants.{At, Memory}
use Rattle.vos_check_entries.specs.Steps.{AddsNumbers, FindsPart, read_end, read_front, read_list_block}

pub numbers_none : (is_node : ℕ → Bool) (last : Bool) (left at : ℕ) (bs so_far led : List ℕ) → left ≡ 0 → read_numbers is_node last left at bs so_far led ≡ Ok (so_far, led)
numbers_none is_node last left at bs so_far led none = rw none refl

ended : (last : Bool) (at : ℕ) (bs so_far led : List ℕ) → read_end last at bs led ≡ Ok (tt, led) → (rule at last >>= λ _. zeros at bs >>= λ _. give so_far) led ≡ Ok (so_far, led)
unfolding read_end
ended last at bs so_far led h = sym (assoc _ _ _ led) ∙ on _ _ led tt led _ h refl

unended : (last : Bool) (at place : ℕ) (bs so_far led : List ℕ) → read_end last at bs led ≡ Err place → (rule at last >>= λ _. zeros at bs >>= λ _. give so_far) led ≡ Err place
unfolding read_end
unended last at place bs so_far led h = sym (assoc _ _ _ led) ∙ off _ _ led place h

ruled : (at : ℕ) (t : Bool) (led : List ℕ) → t ≡ true → rule at t led ≡ Ok (tt, led)
unfolding rule
ruled at t led h = rw h refl

unruled : (at : ℕ) (t : Bool) (led : List ℕ) → t ≡ false → rule at t led ≡ Err at
unfolding rule
unruled at t led h = rw h refl

pub numbers_end : (is_node : ℕ → Bool) (last : Bool) (left at : ℕ) (bs so_far led : List ℕ) → left ≢ 0 → big_number 4 bs ≡ 0 → read_end last at bs led ≡ Ok (tt, led) → read_numbers is_node last left at bs so_far led ≡ Ok (so_far, led)
numbers_end is_node last zero at bs so_far led some n h = absurd (some refl)
numbers_end is_node last (suc k) at bs so_far led some n h = rw n (ended last at bs so_far led h)

pub numbers_unended : (is_node : ℕ → Bool) (last : Bool) (left at place : ℕ) (bs so_far led : List ℕ) → left ≢ 0 → big_number 4 bs ≡ 0 → read_end last at bs led ≡ Err place → read_numbers is_node last left at bs so_far led ≡ Err place
numbers_unended is_node last zero at place bs so_far led some n h = absurd (some refl)
numbers_unended is_node last (suc k) at place bs so_far led some n h = rw n (unended last at place bs so_far led h)

pub numbers_bad : (is_node : ℕ → Bool) (last : Bool) (left at n : ℕ) (bs so_far led : List ℕ) → left ≢ 0 → n ≡ big_number 4 bs → n ≢ 0 → (is_node n && not (is_among n so_far)) ≡ false → read_numbers is_node last left at bs so_far led ≡ Err at
numbers_bad is_node last zero at n bs so_far led some e ne h = absurd (some refl)
numbers_bad is_node last (suc k) at n bs so_far led some e ne h = let z : (n == 0) ≡ false = ne_eqb n 0 ne in rw (← e, z) (off _ _ led at (unruled at _ led h))

pub numbers_go : (is_node : ℕ → Bool) (last : Bool) (left at n : ℕ) (bs so_far led : List ℕ) → left ≢ 0 → n ≡ big_number 4 bs → n ≢ 0 → (is_node n && not (is_among n so_far)) ≡ true
    → read_numbers is_node last left at bs so_far led ≡ read_numbers is_node last (left - 1) (at + 4) (drop 4 bs) (so_far ++ n ∷ []) led
numbers_go is_node last zero at n bs so_far led some e ne h = absurd (some refl)
numbers_go is_node last (suc k) at n bs so_far led some e ne h =
    let z : (n == 0) ≡ false = ne_eqb n 0 ne in
    let w : suc k - 1 ≡ k = omega arith in
    rw (← e, z, w) (on _ _ led tt led _ (ruled at _ led h) refl)

pub ends_as : (last : Bool) (at : ℕ) (bs led : List ℕ) (r : Result (Unit {0}) ℕ) → rule at last led ≡ Ok (tt, led) → Plain (zeros at bs led) led nothing r → Plain (read_end last at bs led) led nothing r
unfolding read_end
ends_as last at bs led (Ok u) h k = on _ _ led tt led _ h k
ends_as last at bs led (Err place) h k = on _ _ led tt led _ h k

-- ---- what is answered for numbers

pub adds_by : (step other : Step (List ℕ)) (numbers : List ℕ) (r : Result (Unit {0}) ListNo) → ((led : List ℕ) → step led ≡ other led) → AddsNumbers other numbers r → AddsNumbers step numbers r
adds_by step other numbers (Ok u) same h = λ led. same led ∙ h led
adds_by step other numbers (Err (At at)) same h = λ led. same led ∙ h led
adds_by step other numbers (Err Memory) same h = tt

rest_is : (bs : List ℕ) → take (length bs - 4) (drop 4 bs) ≡ drop 4 bs
rest_is bs = grind (arith, common_steps)

-- a number more, and those behind it
pub adds_more : (is_node : ℕ → Bool) (last : Bool) (left at n : ℕ) (bs so_far more numbers : List ℕ) (r : Result (Unit {0}) ListNo) → left ≢ 0 → n ≡ big_number 4 bs → n ≢ 0 → (is_node n && not (is_among n so_far)) ≡ true → more ≡ so_far ++ n ∷ []
    → AddsNumbers (read_numbers is_node last (left - 1) (at + 4) (take (length bs - 4) (drop 4 bs)) more) numbers r → AddsNumbers (read_numbers is_node last left at bs so_far) numbers r
adds_more is_node last left at n bs so_far more numbers r some e ne node is h =
    adds_by _ _ numbers r (λ led. numbers_go is_node last left at n bs so_far led some e ne node)
    (subst (λ z. AddsNumbers (read_numbers is_node last (left - 1) (at + 4) (drop 4 bs) z) numbers r) is
    (subst (λ z. AddsNumbers (read_numbers is_node last (left - 1) (at + 4) z more) numbers r) (rest_is bs) h))

-- ---- a block

abbrev pub front_by : Content → ℕ → Bool → ℕ → Bool → List ℕ → Step ℕ
front_by c b kind next some bytes =
    rule (256 * b + 0) kind
    >>= λ _. zeros (256 * b + 1) (take 3 (drop 1 bytes))
    >>= λ _. link c (256 * b + 4) next
    >>= λ _. rule (256 * b + 8) some
    >>= λ _. give next

pub front_tests : (c : Content) (b : ℕ) (bytes : List ℕ) (kind some : Bool) (next : ℕ) (led : List ℕ) → block c b ≡ bytes → next ≡ big_number 4 (drop 4 bytes) → kind ≡ (slice_index bytes 0 == 8) → some ≡ not (big_number 4 (drop 8 bytes) == 0)
    → read_front c b led ≡ front_by c b kind next some bytes led
unfolding read_front
front_tests c b bytes kind some next led h n k s =
    let z : 256 * b + 0 ≡ 256 * b = omega arith in
    rw (h, z, k, s, n) refl

pub part_off : (c : Content) (is_node : ℕ → Bool) (b at : ℕ) (so_far led : List ℕ) → read_front c b led ≡ Err at → read_list_block c is_node b so_far led ≡ Err at
unfolding read_list_block
part_off c is_node b at so_far led h = off _ _ led at h

block_long : (c : Content) (b : ℕ) (bytes : List ℕ) → block c b ≡ bytes → length bytes ≡ 256
unfolding block
block_long c b bytes here = ap length (sym here) ∙ length-bytes_at c.bytes (256 * b) 256

behind_is : (c : Content) (b : ℕ) (bytes : List ℕ) → block c b ≡ bytes → take 248 (drop 8 bytes) ≡ drop 8 bytes
behind_is c b bytes here = take_all 248 (drop 8 bytes) (omega (arith, length-drop 8 bytes, block_long c b bytes here))

-- as many as a block has
pub all_there : (is_node : ℕ → Bool) (last : Bool) (most at : ℕ) (bs so_far numbers : List ℕ) (r : Result (Unit {0}) ListNo) → most ≡ 62 → AddsNumbers (read_numbers is_node last most at bs so_far) numbers r → AddsNumbers (read_part is_node last at bs so_far) numbers r
unfolding read_part
all_there is_node last most at bs so_far numbers r is h = subst (λ (n : ℕ). AddsNumbers (read_numbers is_node last n at bs so_far) numbers r) is h

numbers_there : (c : Content) (is_node : ℕ → Bool) (b at next : ℕ) (bytes so_far numbers : List ℕ) (r : Result (Unit {0}) ListNo) → block c b ≡ bytes → at ≡ 256 * b + 8 → AddsNumbers (read_part is_node (next == 0) at (take 248 (drop 8 bytes)) so_far) numbers r
    → AddsNumbers (read_part is_node (next == 0) (256 * b + 8) (drop 8 (block c b)) so_far) numbers r
numbers_there c is_node b at next bytes so_far numbers r here place h =
    subst (λ z. AddsNumbers (read_part is_node (next == 0) (256 * b + 8) (drop 8 z) so_far) numbers r) (sym here)
    (subst (λ z. AddsNumbers (read_part is_node (next == 0) z (drop 8 bytes) so_far) numbers r) place
    (subst (λ z. AddsNumbers (read_part is_node (next == 0) at z so_far) numbers r) (behind_is c b bytes here) h))

pub part_bad : (c : Content) (is_node : ℕ → Bool) (b at next : ℕ) (bytes so_far numbers led more : List ℕ) (after : Set) (e : ListNo) → block c b ≡ bytes → at ≡ 256 * b + 8 → read_front c b led ≡ Ok (next, more)
    → AddsNumbers (read_part is_node (next == 0) at (take 248 (drop 8 bytes)) so_far) numbers (Err e) → FindsPart c (read_list_block c is_node b so_far led) after numbers (Err e)
unfolding read_list_block
part_bad c is_node b at next bytes so_far numbers led more after (At place) here is front h =
    on _ _ led next more _ front (off _ _ more place (numbers_there c is_node b at next bytes so_far numbers (Err (At place)) here is h more))
part_bad c is_node b at next bytes so_far numbers led more after Memory here is front h = tt

pub part_on : (c : Content) (is_node : ℕ → Bool) (b at next : ℕ) (bytes so_far numbers led : List ℕ) (after : Set) → block c b ≡ bytes → at ≡ 256 * b + 8 → Gives c (read_front c b led) next after
    → AddsNumbers (read_part is_node (next == 0) at (take 248 (drop 8 bytes)) so_far) numbers (Ok tt) → Gives c (read_list_block c is_node b so_far led) (next, numbers) after
unfolding read_list_block
part_on c is_node b at next bytes so_far numbers led after here is front h = record {
  led = front.led;
  is = on _ _ led next front.led _ front.is (on _ _ front.led numbers front.led _ (numbers_there c is_node b at next bytes so_far numbers (Ok tt) here is h front.led) refl);
  marks = front.marks;
}
