-- What a step reads, and which blocks it leads to, wherever no block is led to twice.
use Rattle.std.proofs.Common.{◌≡◌, ◌≢◌, ℕ, suc, ◌+◌, ◌≤◌, ◌<◌, ◌==◌, Bool, true, false, List, [], ◌∷◌, Option, Some, None, Ok, refl, sym, ◌∙◌, arith, inl, inr}
use Rattle.std.specs.Prelude.{if◌then◌else◌, slice_index}
use Rattle.std.proofs.lemmas.Bool.{ne_eqb}
use Rattle.std.proofs.lemmas.Bool.Decides.{eqb_tells}
use Rattle.pmem_pages.specs.Counts.{times_none, times_one, times_own}
use Rattle.pmem_pages.specs.Owners.{times}
use Rattle.vos_image.specs.Steps.{Step, ◌>>=◌, give, is_among, rule, says, zeros}
use Rattle.vos_image.specs.Content.{Content, block, is_taken, link, shown}

-- how often blocks were led to
abbrev pub Tally : Type 0
Tally = ℕ → ℕ

abbrev pub none : Tally
none q = 0

-- it reads this, and goes from one tally to another on the way
pub record Passed {A : Type 0} (x : Step A) (a : A) (from to : Tally) (led : List ℕ) : Type 0 where
  pub after : List ℕ
  pub is : x led ≡ Ok (a, after)
  pub counted : (q : ℕ) → times q after + from q ≡ times q led + to q

-- nothing that it leads to was led to before
abbrev pub IsFresh : Tally → Tally → List ℕ → Type 0
IsFresh from to led = (q : ℕ) → 0 < to q → from q ≡ 0 → times q led ≡ 0

pub record Passes {A : Type 0} (x : Step A) (a : A) (from to : Tally) : Type 0 where
  pub more : (q : ℕ) → from q ≤ to q
  pub passed : (led : List ℕ) → IsFresh from to led → Passed x a from to led

-- one step after another
pub go_on : {A B : Type 0} (x : Step A) (f : A → Step B) (a : A) (b : B) (from mid to : Tally) → Passes x a from mid → Passes (f a) b mid to → Passes (x >>= f) b from to
unfolding ◌>>=◌
go_on x f a b from mid to p r = record {
  more = λ q. omega (arith, p.more q, r.more q);
  passed = λ led fresh.
      let one = p.passed led (λ q some off. fresh q (omega (arith, some, r.more q)) off) in
      let two = r.passed one.after (λ q some off. let clean = fresh q some (omega (arith, off, p.more q)) in omega (arith, one.counted q, off, clean)) in
      record { after = two.after; is = rw one.is two.is; counted = λ q. omega (arith, one.counted q, two.counted q) };
}

-- a step that leads to nothing
pub silent : {A : Type 0} (x : Step A) (a : A) (n : Tally) → ((led : List ℕ) → x led ≡ Ok (a, led)) → Passes x a n n
silent x a n h = record { more = λ q. omega arith; passed = λ led fresh. record { after = led; is = h led; counted = λ q. refl } }

pub kept : {A B : Type 0} (x : Step A) (f : A → Step B) (a : A) (b : B) (n to : Tally) → ((led : List ℕ) → x led ≡ Ok (a, led)) → Passes (f a) b n to → Passes (x >>= f) b n to
kept x f a b n to h r = go_on x f a b n n to (silent x a n h) r

rule_holds : (at : ℕ) (t : Bool) → t ≡ true → (led : List ℕ) → rule at t led ≡ Ok (tt, led)
unfolding rule
rule_holds at t h led = rw h refl

pub ruled : {B : Type 0} (at : ℕ) (t : Bool) (f : Unit {0} → Step B) (b : B) (n to : Tally) → t ≡ true → Passes (f tt) b n to → Passes (rule at t >>= f) b n to
ruled at t f b n to h r = kept (rule at t) f tt b n to (rule_holds at t h) r

pub says_holds : {A : Type 0} (at : ℕ) (x : Option A) (a : A) → x ≡ Some a → (led : List ℕ) → says at x led ≡ Ok (a, led)
unfolding says
says_holds at x a h led = rw h refl

pub said : {A B : Type 0} (at : ℕ) (x : Option A) (f : A → Step B) (a : A) (b : B) (n to : Tally) → x ≡ Some a → Passes (f a) b n to → Passes (says at x >>= f) b n to
said at x f a b n to h r = kept (says at x) f a b n to (says_holds at x a h) r

pub given : {A : Type 0} (a : A) (n : Tally) → Passes (give a) a n n
given a n = silent (give a) a n (λ led. refl)

-- a step beside blocks that it doesn't lead to
pub beside : {A : Type 0} (x : Step A) (a : A) (from to from2 to2 extra : Tally) → Passes x a from to → ((q : ℕ) → from2 q ≡ from q + extra q) → ((q : ℕ) → to2 q ≡ to q + extra q) → ((q : ℕ) → to2 q ≤ 1) → Passes x a from2 to2
beside x a from to from2 to2 extra p f t apart = record {
  more = λ q. omega (arith, p.more q, f q, t q);
  passed = λ led fresh.
      let one = p.passed led (λ q some off. fresh q (omega (arith, some, t q)) (omega (arith, off, some, apart q, t q, f q))) in
      record { after = one.after; is = one.is; counted = λ q. omega (arith, one.counted q, f q, t q) };
}

-- the same by another count
pub recounted : {A : Type 0} (x : Step A) (a : A) (from to from2 to2 : Tally) → Passes x a from to → ((q : ℕ) → from2 q ≡ from q) → ((q : ℕ) → to2 q ≡ to q) → Passes x a from2 to2
recounted x a from to from2 to2 p f t = record {
  more = λ q. omega (arith, p.more q, f q, t q);
  passed = λ led fresh.
      let one = p.passed led (λ q some off. fresh q (omega (arith, some, t q)) (omega (arith, off, f q))) in
      record { after = one.after; is = one.is; counted = λ q. omega (arith, one.counted q, f q, t q) };
}

-- ---- zeros, and links

pub zeros_hold : (at : ℕ) (bs : List ℕ) → ((i : ℕ) → slice_index bs i ≡ 0) → (led : List ℕ) → zeros at bs led ≡ Ok (tt, led)
unfolding ◌>>=◌ rule
zeros_hold at [] h led = refl
zeros_hold at (b ∷ bs) h led = let first : b ≡ 0 = h 0 in rw first (zeros_hold (at + 1) bs (λ i. h (suc i)) led)

pub not_among : (b : ℕ) (xs : List ℕ) → times b xs ≡ 0 → is_among b xs ≡ false
unfolding times
not_among b [] h = refl
not_among b (x ∷ xs) h =
    elim (eqb_tells b x) [
      | inl a ↦ absurd (let e = a.0 in let n : times b (x ∷ xs) ≡ 1 + times b xs = rw e refl in omega (arith, n, h))
      | inr a ↦ let e = ne_eqb b x a.1 in rw e (not_among b xs (omega (arith, h)))
    ]

-- a block, or none
abbrev pub some_block : ℕ → List ℕ
some_block b = if b == 0 then [] else b ∷ []

abbrev pub root_tally : ℕ → Tally
root_tally b q = times q (some_block b)

pub linked : (c : Content) (at b : ℕ) → (b ≢ 0 → is_taken c b ≡ true) → Passes (link c at b) tt none (root_tally b)
unfolding link
linked c at b taken =
    elim (eqb_tells b 0) [
      | inl a ↦ let e = a.0 in record { more = λ q. omega arith; passed = λ led fresh. record { after = led; is = rw e refl; counted = λ q. rw e (omega (arith, times_none q)) } }
      | inr a ↦
          let e : (b == 0) ≡ false = ne_eqb b 0 a.1 in
          record {
            more = λ q. omega arith;
            passed = λ led fresh.
                let new : times b led ≡ 0 = fresh b (rw e (omega (arith, times_own b))) refl in
                record { after = b ∷ led; is = rw (e, taken a.1, not_among b led new) refl; counted = λ q. rw e (omega (arith, times_one q b led)) };
          }
    ]

-- ---- blocks that are shown

pub record IsShown (c : Content) (b : ℕ) (bytes : List ℕ) : Type 0 where
  pub taken : is_taken c b ≡ true
  pub bytes_are : block c b ≡ bytes

inside : (x y : List ℕ) → Some x ≡ Some y → x ≡ y
inside x y h = cc

pub shown_there : (c : Content) (b : ℕ) (bytes : List ℕ) → shown c b ≡ Some bytes → IsShown c b bytes
unfolding shown
shown_there c b bytes h = by (is_taken c b) refl
  where
    by : (t : Bool) → is_taken c b ≡ t → IsShown c b bytes
    by true e = record { taken = e; bytes_are = inside (block c b) bytes (sym (rw e refl) ∙ h) }
    by false e = absurd (let no : None ≡ Some bytes = sym (rw e refl) ∙ h in cc)
