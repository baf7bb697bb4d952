-- Steps after one another, and blocks that are led to.
use Rattle.std.proofs.Common.{◌≡◌, ◌≢◌, ℕ, zero, suc, ◌+◌, ◌-◌, ◌/◌, ◌%◌, ◌<◌, min, ◌==◌, ◌&&◌, ◌||◌, not, eqb, leb, ltb, get_or, Bool, true, false, cond, List, [], ◌∷◌, length, take, drop, Some, None, Result, Ok, Err, refl, sym, subst, ap, ◌∙◌, arith}
use Rattle.std.specs.Prelude.{if◌then◌else◌}
use Rattle.std.proofs.lemmas.Grind.{common_steps}
use Rattle.std.specs.List.{position, position_or_len}
use Rattle.std.proofs.lemmas.Bool.{ne_eqb}
use Rattle.std.proofs.lemmas.Bool.Decides.{nat_tests}
use Rattle.std.specs.Int.{bit_at}
use Rattle.base_outside.specs.Images.{Image, bytes_at}
use Rattle.vos_image.specs.Steps.{Step, ◌>>=◌, onward, is_among, rule, zeros}
use Rattle.vos_image.specs.Content.{Content, is_taken, link}
use Rattle.vos_check_base.specs.Sets.{Set, IsWithout, is_open, is_some_byte, open_in, without}
use Rattle.vos_check_base.specs.Answers.{Gives, MarksIn, Plain, nothing}

-- a step that gives something, and what comes after it
pub on : {A B : Type 0} (x : Step A) (f : A → Step B) (led : List ℕ) (a : A) (next : List ℕ) (end : Result (B × List ℕ) ℕ) → x led ≡ Ok (a, next) → f a next ≡ end → (x >>= f) led ≡ end
unfolding ◌>>=◌
on x f led a next end h k = rw h k

-- a step that ends at a fault
pub off : {A B : Type 0} (x : Step A) (f : A → Step B) (led : List ℕ) (at : ℕ) → x led ≡ Err at → (x >>= f) led ≡ Err at
unfolding ◌>>=◌
off x f led at h = rw h refl

-- steps that go on from others
grouped : {A B C : Type 0} (f : A → Step B) (g : B → Step C) (o : Result (A × List ℕ) ℕ) → onward (onward o f) g ≡ onward o (λ a. f a >>= g)
unfolding ◌>>=◌
grouped f g (Ok r) = refl
grouped f g (Err at) = refl

pub assoc : {A B C : Type 0} (x : Step A) (f : A → Step B) (g : B → Step C) (led : List ℕ) → ((x >>= f) >>= g) led ≡ (x >>= λ a. f a >>= g) led
unfolding ◌>>=◌
assoc x f g led = grouped f g (x led)

alike : {A B : Type 0} (f g : A → Step B) → ((a : A) (led : List ℕ) → f a led ≡ g a led) → (o : Result (A × List ℕ) ℕ) → onward o f ≡ onward o g
alike f g h (Ok r) = h r.0 r.1
alike f g h (Err at) = refl

pub under : {A B : Type 0} (x : Step A) (f g : A → Step B) (led : List ℕ) → ((a : A) (next : List ℕ) → f a next ≡ g a next) → (x >>= f) led ≡ (x >>= g) led
unfolding ◌>>=◌
under x f g led h = alike f g h (x led)

-- ---- zeros

first_zeros : (at b : ℕ) (bs led : List ℕ) (t : Bool) → (b == 0) ≡ t → zeros at (b ∷ bs) led ≡ (if t then zeros (at + 1) bs led else Err at)
unfolding ◌>>=◌ rule
first_zeros at b bs led true e = rw e refl
first_zeros at b bs led false e = rw e refl

-- the first byte that isn't zero is at fault
abbrev pub fault_from : ℕ → ℕ → ℕ → List ℕ → Result (Unit {0} × List ℕ) ℕ
fault_from at k n led = cond (ltb k n) (Err (at + k)) (Ok (tt, led))

later : (at k n : ℕ) (led : List ℕ) → fault_from (at + 1) k n led ≡ fault_from at (1 + k) (suc n) led
later at k n led = by (ltb k n) refl
  where
    by : (t : Bool) → ltb k n ≡ t → fault_from (at + 1) k n led ≡ fault_from at (1 + k) (suc n) led
    by true e =
        let u : ltb (1 + k) (suc n) ≡ true = grind (arith, nat_tests) in
        let w : at + 1 + k ≡ at + (1 + k) = omega arith in
        rw (e, u, w) refl
    by false e =
        let u : ltb (1 + k) (suc n) ≡ false = grind (arith, nat_tests) in
        rw (e, u) refl

pub zeros_by_first : (at : ℕ) (bs led : List ℕ) → zeros at bs led ≡ fault_from at (position_or_len is_some_byte bs) (length bs) led
zeros_by_first at [] led = refl
zeros_by_first at (b ∷ bs) led = by (zeros_by_first (at + 1) bs led) (b == 0) refl
  where
    by : zeros (at + 1) bs led ≡ fault_from (at + 1) (position_or_len is_some_byte bs) (length bs) led → (t : Bool) → (b == 0) ≡ t → zeros at (b ∷ bs) led ≡ fault_from at (position_or_len is_some_byte (b ∷ bs)) (length (b ∷ bs)) led
    by h true e = first_zeros at b bs led true e ∙ (h ∙ (later at (position_or_len is_some_byte bs) (length bs) led ∙ sym (rw e refl)))
    by h false e =
        let w : at + 0 ≡ at = omega arith in
        let u : ltb 0 (suc (length bs)) ≡ true = grind (arith, nat_tests) in
        first_zeros at b bs led false e ∙ sym (rw (e, u, w) refl)

pub all_zero : (at : ℕ) (bs led : List ℕ) → position is_some_byte bs ≡ None → zeros at bs led ≡ Ok (tt, led)
all_zero at bs led h = zeros_by_first at bs led ∙ by (ltb (position_or_len is_some_byte bs) (length bs)) refl
  where
    by : (t : Bool) → ltb (position_or_len is_some_byte bs) (length bs) ≡ t → fault_from at (position_or_len is_some_byte bs) (length bs) led ≡ Ok (tt, led)
    by true e = let some : position is_some_byte bs ≡ Some (position_or_len is_some_byte bs) = rw e refl in absurd (cc)
    by false e = rw e refl

inside : (m n : ℕ) → Some m ≡ Some n → m ≡ n
inside m n h = cc

pub not_all_zero : (at i : ℕ) (bs led : List ℕ) → position is_some_byte bs ≡ Some i → zeros at bs led ≡ Err (at + i)
not_all_zero at i bs led h = zeros_by_first at bs led ∙ by (ltb (position_or_len is_some_byte bs) (length bs)) refl
  where
    by : (t : Bool) → ltb (position_or_len is_some_byte bs) (length bs) ≡ t → fault_from at (position_or_len is_some_byte bs) (length bs) led ≡ Err (at + i)
    by true e =
        let some : position is_some_byte bs ≡ Some (position_or_len is_some_byte bs) = rw e refl in
        let k : position_or_len is_some_byte bs ≡ i = inside _ _ (sym some ∙ h) in
        rw (e, k) refl
    by false e = let none : position is_some_byte bs ≡ None = rw e refl in absurd (cc)

whole : (p q : Bool) → (p && (true && q)) ≡ ((p && (true && q)) && true)
whole true true = refl
whole true false = refl
whole false q = refl

none : (p : Bool) → (p && false) ≡ ((p && false) && true)
none true = refl
none false = refl

take_all : (b : List ℕ) (d : ℕ) → take (length b - d) (drop d b) ≡ drop d b
take_all b d = grind (arith, common_steps)

pub zeros_there : (b : List ℕ) (d at : ℕ) (led : List ℕ) (r : Result (Unit {0}) ℕ) → Plain (zeros at (take (length b - d) (drop d b)) led) led nothing r → Plain (zeros at (drop d b) led) led nothing r
zeros_there b d at led r h = subst (λ (x : List ℕ). Plain (zeros at x led) led nothing r) (take_all b d) h

-- ---- bytes

-- a byte of those that stand from a place on
pub byte_of : (f : Image) (n at k : ℕ) → k < n → get_or (bytes_at f at n) k 0 ≡ f (at + k)
unfolding bytes_at
byte_of f zero at k low = absurd (omega arith)
byte_of f (suc n) at zero low = ap f (omega arith)
byte_of f (suc n) at (suc k) low = byte_of f n (at + 1) k (omega arith) ∙ ap f (omega arith)

-- ---- links

-- what a map in memory says is taken, where its bytes were read
pub all_taken : (c : Content) (end : ℕ) (bytes : List ℕ) → end ≡ min (c.size / 256) 131072 → bytes ≡ bytes_at c.bytes 307200 16384 → MarksIn c (open_in end bytes) []
unfolding open_in is_open is_taken
all_taken c end bytes e h b = by (ltb b end) refl
  where
    by : (t : Bool) → ltb b end ≡ t → open_in end bytes b ≡ (is_taken c b && not (is_among b []))
    by true u =
        let low : b < end = grind (arith, nat_tests) in
        let in_map : b / 8 < 16384 = omega (arith, e, low) in
        let byte : get_or bytes (b / 8) 0 ≡ c.bytes (307200 + b / 8) = ap (λ (x : List ℕ). get_or x (b / 8) 0) h ∙ byte_of c.bytes 16384 307200 (b / 8) in_map in
        let v : ltb b (min (c.size / 256) 131072) ≡ true = ap (λ (x : ℕ). ltb b x) (sym e) ∙ u in
        rw (byte, u, v) (whole (leb 1264 b) (not (eqb (bit_at (c.bytes (307200 + b / 8)) (b % 8)) 0)))
    by false u =
        let v : ltb b (min (c.size / 256) 131072) ≡ false = ap (λ (x : ℕ). ltb b x) (sym e) ∙ u in
        rw (u, v) (none (leb 1264 b))

linked_set : (taken same among : Bool) → cond same false (taken && not among) ≡ (taken && not (same || among))
linked_set true true true = refl
linked_set true true false = refl
linked_set true false a = refl
linked_set false true a = refl
linked_set false false a = refl

-- a block that a set has, taken out of it, is led to
pub linked : (c : Content) (at b : ℕ) (led : List ℕ) (s t : Set) → MarksIn c s led → b ≢ 0 → s b ≡ true → IsWithout s b t → Gives c (link c at b led) tt t
unfolding link without
linked c at b led s t marks some has out =
    let e : (b == 0) ≡ false = ne_eqb b 0 some in
    let fits : (is_taken c b && not (is_among b led)) ≡ true = sym (marks b) ∙ has in
    record {
      led = b ∷ led;
      is = rw (e, fits) refl;
      marks = λ q. out q ∙ (ap (λ (x : Bool). cond (q == b) false x) (marks q) ∙ linked_set (is_taken c q) (q == b) (is_among q led));
    }

pub linked_none : (c : Content) (at b : ℕ) (led : List ℕ) (s : Set) → MarksIn c s led → b ≡ 0 → Gives c (link c at b led) tt s
unfolding link
linked_none c at b led s marks none = record { led = led; is = rw none refl; marks = marks }

pub not_linked : (c : Content) (at b : ℕ) (led : List ℕ) (s : Set) → MarksIn c s led → b ≢ 0 → s b ≡ false → link c at b led ≡ Err at
unfolding link
not_linked c at b led s marks some has =
    let e : (b == 0) ≡ false = ne_eqb b 0 some in
    let off : (is_taken c b && not (is_among b led)) ≡ false = sym (marks b) ∙ has in
    rw (e, off) refl
