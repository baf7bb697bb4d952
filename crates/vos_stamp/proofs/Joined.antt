-- Of two marks the later read stays, and no other.
use Rattle.std.proofs.Common.{◌≡◌, ℕ, ◌≤◌, ◌<◌, ◌⊎◌, Bool, true, false, Option, Some, None, refl, subst, inl, inr, arith}
use Rattle.std.specs.Prelude.{nat_lt, if◌then◌else◌}
use Rattle.std.proofs.lemmas.Bool.Decides.{nat_tests}
use Rattle.base_types.specs.declared.shown.Shown.{Shown}
use Rattle.vos_stamp.specs.declared.marks.Marks.{Marks}
use Rattle.vos_stamp.specs.Marks.{above, joined, later, rank, side}

later-left : (x y : Option Shown) → rank x ≤ rank (later x y)
later-left None y = omega arith
later-left (Some r) None = omega arith
later-left (Some r) (Some s) = by (nat_lt r.epoch.0 s.epoch.0) refl
  where
    by : (b : Bool) → nat_lt r.epoch.0 s.epoch.0 ≡ b → r.epoch.0 ≤ rank (if b then Some s else Some r)
    by true lt = grind (arith, nat_tests)
    by false over = omega arith

later-right : (x y : Option Shown) → rank y ≤ rank (later x y)
later-right None y = omega arith
later-right (Some r) None = omega arith
later-right (Some r) (Some s) = by (nat_lt r.epoch.0 s.epoch.0) refl
  where
    by : (b : Bool) → nat_lt r.epoch.0 s.epoch.0 ≡ b → s.epoch.0 ≤ rank (if b then Some s else Some r)
    by true lt = omega arith
    by false over = grind (arith, nat_tests)

later-either : (x y : Option Shown) (q : Shown) → later x y ≡ Some q → (x ≡ Some q) ⊎ (y ≡ Some q)
later-either None y q h = inr h
later-either (Some r) None q h = inl h
later-either (Some r) (Some s) q h = by (nat_lt r.epoch.0 s.epoch.0) h
  where
    by : (b : Bool) → (if b then Some s else Some r) ≡ Some q → (Some r ≡ Some q) ⊎ (Some s ≡ Some q)
    by true e = inr e
    by false e = inl e

-- a mark is at least each of the two that were joined
pub joined-left : (low : Bool) (m n : Marks) → rank (side low m) ≤ rank (side low (joined m n))
joined-left true m n = later-left m.low n.low
joined-left false m n = later-left m.high n.high

pub joined-right : (low : Bool) (m n : Marks) → rank (side low n) ≤ rank (side low (joined m n))
joined-right true m n = later-right m.low n.low
joined-right false m n = later-right m.high n.high

-- and it is one of them
pub joined-either : (low : Bool) (m n : Marks) (q : Shown) → side low (joined m n) ≡ Some q → (side low m ≡ Some q) ⊎ (side low n ≡ Some q)
joined-either true m n q h = later-either m.low n.low q h
joined-either false m n q h = later-either m.high n.high q h

-- a read that is found above an epoch is that of the mark
pub above-some : (e : ℕ) (x : Option Shown) (q : Shown) → above e x ≡ Some q → (x ≡ Some q) × (e < q.epoch.0)
above-some e None q h = absurd (let no : ⊥ = cc in no)
above-some e (Some r) q h = by (nat_lt e r.epoch.0) refl h
  where
    by : (b : Bool) → nat_lt e r.epoch.0 ≡ b → (if b then Some r else None) ≡ Some q → (Some r ≡ Some q) × (e < q.epoch.0)
    by true lt same = let is : r ≡ q = cc in (same, subst (λ z. e < z.epoch.0) is (let below : e < r.epoch.0 = grind (arith, nat_tests) in below))
    by false over same = absurd (let none : ⊥ = cc in none)

-- where none is found, the mark isn't above it
pub above-none : (e : ℕ) (x : Option Shown) → above e x ≡ None → rank x ≤ e
above-none e None h = omega arith
above-none e (Some r) h = by (nat_lt e r.epoch.0) refl h
  where
    by : (b : Bool) → nat_lt e r.epoch.0 ≡ b → (if b then Some r else None) ≡ None → r.epoch.0 ≤ e
    by true lt same = absurd (let none : ⊥ = cc in none)
    by false over same = grind (arith, nat_tests)
