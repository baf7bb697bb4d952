-- What follows of what a step reads, and which blocks it led to.
use Rattle.std.proofs.Common.{◌≡◌, ◌≢◌, ℕ, zero, suc, ◌+◌, ◌≤◌, ◌==◌, ◌&&◌, not, Bool, true, false, List, [], ◌∷◌, Option, Some, None, Result, Ok, Err, refl, sym, ap, ◌∙◌, subst, arith, inl, inr}
use Rattle.std.specs.Prelude.{if◌then◌else◌, slice_index}
use Rattle.std.proofs.lemmas.Bool.{ne_eqb}
use Rattle.std.proofs.lemmas.Bool.Decides.{eqb_tells, nat_tests}
use Rattle.pmem_pages.specs.Counts.{times_none, times_one, times_other, times_own}
use Rattle.pmem_pages.specs.Owners.{times}
use Rattle.vos_image.specs.Steps.{Step, ◌>>=◌, fail, give, is_among, onward, rule, says, zeros}
use Rattle.vos_image.specs.Content.{Content, is_taken, link}
use Rattle.vos_image.proofs.Steps.{Tally, none, root_tally}

-- what it read is such; it went from one tally to another; and no block is led to twice, if none was before
pub record Told {A : Type 0} (P : A → Type 0) (from : Tally) (to : A → Tally) (a : A) (led after : List ℕ) : Type 0 where
  pub fact : P a
  pub counted : (q : ℕ) → times q after + from q ≡ times q led + to a q
  pub apart : ((q : ℕ) → times q led ≤ 1) → (q : ℕ) → times q after ≤ 1

pub record Tells {A : Type 0} (x : Step A) (P : A → Type 0) (from : Tally) (to : A → Tally) : Type 0 where
  pub told : (a : A) (led after : List ℕ) → x led ≡ Ok (a, after) → Told P from to a led after

-- one step after another
on_told : {A B : Type 0} (x : Step A) (f : A → Step B) (P : A → Type 0) (Q : B → Type 0) (from : Tally) (mid : A → Tally) (to : B → Tally)
    → Tells x P from mid → ((a : A) → P a → Tells (f a) Q (mid a) to)
    → (b : B) (led after : List ℕ) (y : Result (A × List ℕ) ℕ) → x led ≡ y → onward y f ≡ Ok (b, after) → Told Q from to b led after
on_told x f P Q from mid to p r b led after (Ok z) e h =
    let one = p.told z.0 led z.1 e in
    let two = (r z.0 one.fact).told b z.1 after h in
    record { fact = two.fact; counted = λ q. omega (arith, one.counted q, two.counted q); apart = λ was. two.apart (one.apart was) }
on_told x f P Q from mid to p r b led after (Err at) e h = absurd (let no : ⊥ = cc in no)

pub tells_on : {A B : Type 0} (x : Step A) (f : A → Step B) (P : A → Type 0) (Q : B → Type 0) (from : Tally) (mid : A → Tally) (to : B → Tally)
    → Tells x P from mid → ((a : A) → P a → Tells (f a) Q (mid a) to) → Tells (x >>= f) Q from to
unfolding ◌>>=◌
tells_on x f P Q from mid to p r = record { told = λ b led after h. on_told x f P Q from mid to p r b led after (x led) refl h }

-- the same beside blocks that the step doesn't lead to
pub beside_tells : {A : Type 0} (x : Step A) (P : A → Type 0) (from : Tally) (to : A → Tally) (from2 : Tally) (to2 : A → Tally) (extra : Tally)
    → Tells x P from to → ((q : ℕ) → from2 q ≡ from q + extra q) → ((a : A) (q : ℕ) → to2 a q ≡ to a q + extra q) → Tells x P from2 to2
beside_tells x P from to from2 to2 extra p f t = record {
  told = λ a led after h. let one = p.told a led after h in record { fact = one.fact; counted = λ q. omega (arith, one.counted q, f q, t a q); apart = one.apart };
}

pub tells_then : {A B : Type 0} (x : Step A) (f : A → Step B) (P : A → Type 0) (Q : B → Type 0) (from : Tally) (to : A → Tally) (from2 : Tally) (to2 : B → Tally) (extra : Tally)
    → Tells x P from to → ((q : ℕ) → from2 q ≡ from q + extra q) → ((a : A) → P a → Tells (f a) Q (λ q. to a q + extra q) to2) → Tells (x >>= f) Q from2 to2
tells_then x f P Q from to from2 to2 extra p e r =
    tells_on x f P Q from2 (λ a q. to a q + extra q) to2 (beside_tells x P from to from2 (λ a q. to a q + extra q) extra p e (λ a q. refl)) r

-- a step that leads to nothing
pub tells_quiet : {A B : Type 0} (x : Step A) (f : A → Step B) (P : A → Type 0) (Q : B → Type 0) (from : Tally) (to : B → Tally) → Tells x P none (λ _. none) → ((a : A) → P a → Tells (f a) Q from to) → Tells (x >>= f) Q from to
tells_quiet x f P Q from to p r = tells_on x f P Q from (λ _. from) to (beside_tells x P none (λ _. none) from (λ _. from) from p (λ q. omega arith) (λ a q. omega arith)) r

-- another fact follows, and the count is the same
pub tells_too : {A : Type 0} (x : Step A) (P Q : A → Type 0) (from : Tally) (to : A → Tally) (from2 : Tally) (to2 : A → Tally)
    → Tells x P from to → ((a : A) → P a → Q a) → ((a : A) → P a → (q : ℕ) → to2 a q + from q ≡ to a q + from2 q) → Tells x Q from2 to2
tells_too x P Q from to from2 to2 p f t = record {
  told = λ a led after h. let one = p.told a led after h in record { fact = f a one.fact; counted = λ q. omega (arith, one.counted q, t a one.fact q); apart = one.apart };
}

same_pair : {A : Type 0} (x y : A × List ℕ) → (r : Result (A × List ℕ) ℕ) → r ≡ Ok x → r ≡ Ok y → x ≡ y
same_pair x y r g h = let both : Ok x ≡ Ok y = sym g ∙ h in cc

pub read_is : {A : Type 0} (x : Result (A × List ℕ) ℕ) (a b : A) (led after : List ℕ) → x ≡ Ok (a, led) → x ≡ Ok (b, after) → (a ≡ b) × (led ≡ after)
read_is x a b led after g h = let e = same_pair (a, led) (b, after) x g h in (ap (λ z. z.0) e, ap (λ z. z.1) e)

pub tells_given : {A : Type 0} (a : A) (P : A → Type 0) (from : Tally) (to : A → Tally) → P a → ((q : ℕ) → from q ≡ to a q) → Tells (give a) P from to
tells_given a P from to p t = record {
  told = λ b led after h.
      let both = read_is (give a led) a b led after refl h in
      subst (λ z. Told P from to z led after) both.0 (subst (λ z. Told P from to a led z) both.1 (record { fact = p; counted = λ q. omega (arith, t q); apart = λ was. was }));
}

pub tells_none : {A : Type 0} (at : ℕ) (P : A → Type 0) (from : Tally) (to : A → Tally) → Tells (fail at) P from to
tells_none at P from to = record { told = λ b led after h. absurd (let no : ⊥ = cc in no) }

-- ---- rules, and what fields say

rule_told : (at : ℕ) (t : Bool) → Tells (rule at t) (λ _. t ≡ true) none (λ _. none)
unfolding rule
rule_told at true = tells_given tt _ none _ refl (λ q. refl)
rule_told at false = tells_none at _ none _

pub tells_ruled : {B : Type 0} (at : ℕ) (t : Bool) (f : Unit {0} → Step B) (Q : B → Type 0) (from : Tally) (to : B → Tally) → (t ≡ true → Tells (f tt) Q from to) → Tells (rule at t >>= f) Q from to
tells_ruled at t f Q from to r = tells_quiet (rule at t) f (λ _. t ≡ true) Q from to (rule_told at t) (λ _ h. r h)

says_told : {A : Type 0} (at : ℕ) (x : Option A) → Tells (says at x) (λ a. x ≡ Some a) none (λ _. none)
unfolding says
says_told at (Some a) = tells_given a _ none _ refl (λ q. refl)
says_told at None = tells_none at _ none _

pub tells_said : {A B : Type 0} (at : ℕ) (x : Option A) (f : A → Step B) (Q : B → Type 0) (from : Tally) (to : B → Tally) → ((a : A) → x ≡ Some a → Tells (f a) Q from to) → Tells (says at x >>= f) Q from to
tells_said at x f Q from to r = tells_quiet (says at x) f (λ a. x ≡ Some a) Q from to (says_told at x) r

pub says_what : {A : Type 0} (at : ℕ) (x : Option A) (Q : A → Type 0) → ((a : A) → x ≡ Some a → Q a) → Tells (says at x) Q none (λ _. none)
says_what at x Q f = tells_too (says at x) (λ a. x ≡ Some a) Q none _ none _ (says_told at x) f (λ a h q. refl)

-- ---- zeros

abbrev pub AreZero : List ℕ → Type 0
AreZero bs = (i : ℕ) → slice_index bs i ≡ 0

pub zero_test : (b : ℕ) → (b == 0) ≡ true → b ≡ 0
zero_test b h = grind (arith, nat_tests)

all_zero : (b : ℕ) (bs : List ℕ) → b ≡ 0 → AreZero bs → AreZero (b ∷ bs)
all_zero b bs e h zero = e
all_zero b bs e h (suc i) = h i

pub zeros_told : (at : ℕ) (bs : List ℕ) → Tells (zeros at bs) (λ _. AreZero bs) none (λ _. none)
zeros_told at [] = tells_given tt _ none _ (λ i. refl) (λ q. refl)
zeros_told at (b ∷ bs) =
    tells_ruled at (b == 0) (λ _. zeros (at + 1) bs) (λ _. AreZero (b ∷ bs)) none (λ _. none) (λ e.
    tells_too (zeros (at + 1) bs) (λ _. AreZero bs) (λ _. AreZero (b ∷ bs)) none _ none _ (zeros_told (at + 1) bs) (λ _ h. all_zero b bs (zero_test b e) h) (λ _ h q. refl))

pub tells_zeros : {B : Type 0} (at : ℕ) (bs : List ℕ) (f : Unit {0} → Step B) (Q : B → Type 0) (from : Tally) (to : B → Tally) → (AreZero bs → Tells (f tt) Q from to) → Tells (zeros at bs >>= f) Q from to
tells_zeros at bs f Q from to r = tells_quiet (zeros at bs) f (λ _. AreZero bs) Q from to (zeros_told at bs) (λ _ h. r h)

-- ---- links

pub fresh : (b : ℕ) (xs : List ℕ) → is_among b xs ≡ false → times b xs ≡ 0
fresh b [] h = omega (arith, times_none b)
fresh b (x ∷ xs) h =
    elim (eqb_tells b x) [
      | inl a ↦ absurd (let e : (b == x) ≡ true = a.0 in let no : true ≡ false = sym (rw e refl) ∙ h in cc)
      | inr a ↦ let e = ne_eqb b x a.1 in let rest : is_among b xs ≡ false = sym (rw e refl) ∙ h in omega (arith, times_one b x xs, times_other b x a.1, fresh b xs rest)
    ]

abbrev pub IsLink : Content → ℕ → Type 0
IsLink c b = b ≢ 0 → is_taken c b ≡ true

pub led_once : (b : ℕ) (led : List ℕ) → times b led ≡ 0 → ((q : ℕ) → times q led ≤ 1) → (q : ℕ) → times q (b ∷ led) ≤ 1
led_once b led off was q = elim (eqb_tells q b) [
  | inl a ↦ let e = a.1 in subst (λ z. times z (b ∷ led) ≤ 1) (sym e) (omega (arith, times_one b b led, times_own b, off))
  | inr a ↦ omega (arith, times_one q b led, times_other q b a.1, was q)
]

abbrev pub linked_by : ℕ → ℕ → List ℕ → Bool → Bool → Bool → Result (Unit {0} × List ℕ) ℕ
linked_by at b led t k m = if t then Ok (tt, led) else if k && not m then Ok (tt, b ∷ led) else Err at

pub link_told : (c : Content) (at b : ℕ) → Tells (link c at b) (λ _. IsLink c b) none (λ _. root_tally b)
unfolding link
link_told c at b = record { told = λ u led after h. by u led after (b == 0) refl (is_taken c b) refl (is_among b led) refl h }
  where
    by : (u : Unit {0}) (led after : List ℕ) (t : Bool) → (b == 0) ≡ t → (k : Bool) → is_taken c b ≡ k → (m : Bool) → is_among b led ≡ m
        → linked_by at b led t k m ≡ Ok (u, after) → Told (λ (_ : Unit {0}). IsLink c b) none (λ _. root_tally b) u led after
    by u led after true e k taken m among h =
        let is = (read_is (Ok (tt, led)) tt u led after refl h).1 in
        subst (λ z. Told (λ (_ : Unit {0}). IsLink c b) none (λ _. root_tally b) u led z) is (record { fact = λ ne. absurd (ne (zero_test b e)); counted = λ q. rw e (omega (arith, times_none q)); apart = λ was. was })
    by u led after false e true taken false among h =
        let is = (read_is (Ok (tt, b ∷ led)) tt u (b ∷ led) after refl h).1 in
        subst (λ z. Told (λ (_ : Unit {0}). IsLink c b) none (λ _. root_tally b) u led z) is (record { fact = λ ne. taken; counted = λ q. rw e (omega (arith, times_one q b led)); apart = λ was. led_once b led (fresh b led among) was })
    by u led after false e true taken true among h = absurd (let no : ⊥ = cc in no)
    by u led after false e false taken m among h = absurd (let no : ⊥ = cc in no)

pub tells_linked : {B : Type 0} (c : Content) (at b : ℕ) (f : Unit {0} → Step B) (Q : B → Type 0) (from : Tally) (to : B → Tally) → (IsLink c b → Tells (f tt) Q (λ q. root_tally b q + from q) to) → Tells (link c at b >>= f) Q from to
tells_linked c at b f Q from to r = tells_then (link c at b) f (λ _. IsLink c b) Q none (λ _. root_tally b) from to from (link_told c at b) (λ q. omega arith) (λ _ h. r h)
