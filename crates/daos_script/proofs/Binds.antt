-- Steps that did not fail.
use Rattle.std.proofs.Common.{◌≡◌, ℕ, ◌<◌, Bool, true, false, cond, leb, Option, Some, None, Result, Ok, Err, refl, sym, ◌+◌, is_some, arith}
use Rattle.std.proofs.lemmas.Bool.Decides.{nat_tests}
use Rattle.base_types.specs.declared.fault.Why.{Why}
use Rattle.base_types.specs.declared.fault.Why.TheVariants.{TooMany}
use Rattle.base_text.specs.Results.{◌>>=◌}
use Rattle.script_words.specs.Decls.{room}
use Rattle.script_words.specs.Reads.{Read}
use Rattle.daos_script.specs.declared.client.Client.{Client}
use Rattle.daos_script.specs.Steps.{begun, counted}

-- the value of a step, and what the next one made of it
pub bind_ok : {A B F : Type 0} (r : Result A F) (f : A → Result B F) (y : B) → (r >>= f) ≡ Ok y → (x : A) × (r ≡ Ok x) × (f x ≡ Ok y)
bind_ok (Ok x) f y e = (x, refl, e)
bind_ok (Err d) f y e = absurd cc

abbrev done : {A : Type 0} → A → Read A
done x = Ok x

pub ok_is : {A : Type 0} (x y : A) → done x ≡ done y → x ≡ y
ok_is x y e = cc

-- a test that had to fail
pub unless_ok : {A : Type 0} (b : Bool) (why : Why) (r : Read A) (y : A) → cond b (Err why) r ≡ Ok y → (b ≡ false) × (r ≡ Ok y)
unless_ok true why r y e = absurd cc
unless_ok false why r y e = (refl, e)

pub none_of : {A : Type 0} (o : Option A) → is_some o ≡ false → o ≡ None
none_of None e = refl
none_of (Some x) e = absurd cc

below : (m n : ℕ) → leb m n ≡ false → n < m
below m n e = grind (arith, nat_tests)

abbrev there : Read (Unit {0})
there = Ok tt

pub room_left : (most n : ℕ) (u : Unit {0}) → room most n ≡ Ok u → n < most
room_left most n u e = go (leb most n) refl e
  where
    go : (b : Bool) → leb most n ≡ b → cond b (Err (TooMany most)) there ≡ Ok u → n < most
    go true h e = absurd cc
    go false h e = below most n h

-- there was room
pub room_ok : {A : Type 0} (most n : ℕ) (x y : A) → (room most n >>= λ fits. Ok x) ≡ Ok y → (n < most) × (x ≡ y)
room_ok {A} most n x y e = go (leb most n) refl e
  where
    go : (b : Bool) → leb most n ≡ b → (cond b (Err (TooMany most)) there >>= λ fits. Ok x) ≡ Ok y → (n < most) × (x ≡ y)
    go true h e = absurd cc
    go false h e = (below most n h, ok_is x y e)

pub begun_ok : (o : Option Client) (c : Client) → begun o ≡ Ok c → o ≡ Some c
begun_ok None c e = absurd cc
begun_ok (Some d) c e = cc

-- one more was counted
pub counted_ok : (n m : ℕ) → counted true n ≡ Ok m → (n < 100000) × (m ≡ n + 1)
counted_ok n m e = go (leb 100000 n) refl e
  where
    go : (b : Bool) → leb 100000 n ≡ b → cond b (Err (TooMany 100000)) (Ok (n + 1)) ≡ Ok m → (n < 100000) × (m ≡ n + 1)
    go true h e = absurd cc
    go false h e = let same : n + 1 ≡ m = cc in (below 100000 n h, sym same)
