-- What a test of several parts says of each.
use Rattle.std.proofs.Common.{◌≡◌, Bool, true, false, ◌&&◌, ◌||◌, not, refl}

pub and_left : (a b : Bool) → (a && b) ≡ true → a ≡ true
and_left true b e = refl
and_left false b e = e

pub and_right : (a b : Bool) → (a && b) ≡ true → b ≡ true
and_right true b e = e
and_right false b e = absurd (let n : ⊥ = cc in n)

pub both : (a b : Bool) → a ≡ true → b ≡ true → (a && b) ≡ true
both true b x y = y
both false b x y = absurd (let n : ⊥ = cc in n)

pub or_left : (a b : Bool) → (a || b) ≡ false → a ≡ false
or_left true b e = e
or_left false b e = refl

pub or_right : (a b : Bool) → (a || b) ≡ false → b ≡ false
or_right true b e = absurd (let n : ⊥ = cc in n)
or_right false b e = e

pub or_from_right : (a b : Bool) → b ≡ true → (a || b) ≡ true
or_from_right true b e = refl
or_from_right false b e = e

pub or_other : (a b : Bool) → (a || b) ≡ true → a ≡ false → b ≡ true
or_other true b e f = absurd (let n : ⊥ = cc in n)
or_other false b e f = e

pub not_true : (a : Bool) → not a ≡ true → a ≡ false
not_true true e = absurd (let n : ⊥ = cc in n)
not_true false e = refl

pub not_false : (a : Bool) → not a ≡ false → a ≡ true
not_false true e = refl
not_false false e = absurd (let n : ⊥ = cc in n)

pub false_of : (a : Bool) → (a ≡ true → ⊥) → a ≡ false
false_of true h = absurd (h refl)
false_of false h = refl

pub clash : {A : Type 0} (a : Bool) → a ≡ true → a ≡ false → A
clash a e f = absurd (let n : ⊥ = cc in n)
