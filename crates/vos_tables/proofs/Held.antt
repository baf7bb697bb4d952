-- A table that the places of an image of bytes hold is one that places can hold.
use Rattle.std.proofs.Common.{◌≡◌, ℕ, zero, suc, ◌+◌, ◌*◌, ◌≤◌, ◌<◌, ◌^◌, ◌==◌, ◌||◌, not, Bool, true, false, List, [], ◌∷◌, ◌++◌, Option, Some, None, Result, Ok, get_or, nat_lt, refl, sym, ap, subst, ◌∙◌, arith}
use Rattle.std.specs.Prelude.{All, if◌then◌else◌}
use Rattle.std.proofs.lemmas.Bool.Decides.{nat_tests}
use Rattle.std.proofs.lemmas.List.Elements.{All-cons}
use Rattle.base_outside.specs.Images.{Image, bytes_at}
use Rattle.base_types.specs.declared.snapshot.Snap.{Snap}
use Rattle.byteorder.specs.Numbers.{big_from-lt}
use Rattle.daos_model.specs.declared.durable.ContRow.{ContRow}
use Rattle.vos_places.specs.vos_image.Content.{Content, content_of, number}
use Rattle.vos_places.specs.vos_image.Laws.{IsOfBytes}
use Rattle.vos_places.specs.vos_image.Places.{cont_in, floor_of, is_why, read_cont, read_snap, snap_in, why_of}
use Rattle.vos_places.specs.Codec.{IsContUnder, IsSnap, IsStoredFloor}
use Rattle.vos_places.specs.Laws.{covered_by}
use Rattle.vos_places.specs.Tables.{HoldConts, HoldSnaps, HoldsCont, HoldsSnap, those}
use Rattle.vos_places.proofs.Conts.{same_read}
use Rattle.vos_places.proofs.Header.{lease_read}
use Rattle.vos_places.proofs.Steps.{rule_was, zeros_were}
use Rattle.vos_tables.specs.Laws.{HeldAreTables}

bytes_small : (f : Image) (p w k : ℕ) → IsOfBytes f → get_or (bytes_at f p w) k 0 < 256
unfolding bytes_at
bytes_small f p zero k small = omega arith
bytes_small f p (suc w) zero small = small p
bytes_small f p (suc w) (suc k) small = bytes_small f (p + 1) w k small

number_small : (f : Image) (p w : ℕ) → IsOfBytes f → number f p w < 256 ^ w
unfolding number
number_small f p w small = big_from-lt 0 w (bytes_at f p w) (λ k. bytes_small f p w k small)

eight_small : (f : Image) (p : ℕ) → IsOfBytes f → number f p 8 < 2 ^ 64
eight_small f p small = number_small f p 8 small

sixteen_small : (f : Image) (p : ℕ) → IsOfBytes f → number f p 16 < 2 ^ 128
sixteen_small f p small = number_small f p 16 small

-- what was read, with the blocks that were led to
abbrev Reading : Type 0 → Type 0
Reading A = Result (List A × List ℕ) ℕ

abbrev done : {A : Type 0} → List A → Reading A
done xs = Ok (xs, [])

given : {A : Type 0} (b : Bool) (x a : A) → done (if b then [] else [] ++ x ∷ []) ≡ done (a ∷ []) → x ≡ a
given true x a h = let e : [] ≡ a ∷ [] = ap (λ z. z.0) (same_read ([], []) (a ∷ [], []) h) in absurd (let no : ⊥ = cc in no)
given false x a h = let e : x ∷ [] ≡ a ∷ [] = ap (λ z. z.0) (same_read (x ∷ [], []) (a ∷ [], []) h) in cc

-- ---- a container

record FloorFits (covered why n floor : ℕ) : Type 0 where
  low : floor_of why floor ≤ covered
  stored : IsStoredFloor (record { 0 = floor_of why floor }) (why_of why n)

floor_fits : (covered why n floor : ℕ) → is_why why ≡ true → (not (why == 3) || nat_lt n (2 ^ 32)) ≡ true → n < 2 ^ 64 → floor ≤ covered → FloorFits covered why n floor
floor_fits covered why n floor kind reason small low = by (why == 0) (why == 2) (why == 3) refl refl refl
  where
    by : (a b d : Bool) → (why == 0) ≡ a → (why == 2) ≡ b → (why == 3) ≡ d → FloorFits covered why n floor
    by true true d e f g = absurd (let no : ⊥ = grind (arith, nat_tests) in no)
    by true false true e f g = absurd (let no : ⊥ = grind (arith, nat_tests) in no)
    by true false false e f g = record { low = rw e (omega arith); stored = rw (e, f, g) refl }
    by false true d e f g = record { low = rw e low; stored = rw (e, f) small }
    by false false true e f g = let less : n < 2 ^ 32 = let t : nat_lt n (2 ^ 32) ≡ true = sym (ap (λ (x : Bool). not x || nat_lt n (2 ^ 32)) g) ∙ reason in grind (arith, nat_tests) in record { low = rw e low; stored = rw (e, f, g) less }
    by false false false e f g = absurd (let no : false ≡ true = sym (rw (e, f, g) refl) ∙ kind in let k : ⊥ = cc in k)

cont_under : (c : Content) (p : ℕ) (r : ContRow) → IsOfBytes c.bytes → HoldsCont c p (Some r) → IsContUnder c.covered r
unfolding read_cont cont_in
cont_under c p r small h =
    let out : List ContRow × List ℕ = (r ∷ [], []) in
    let one = rule_was _ _ _ [] out h in
    let two = rule_was _ _ _ [] out one.1 in
    let three = zeros_were _ _ _ [] out two.1 in
    let four = rule_was _ _ _ [] out three.1 in
    let five = rule_was _ _ _ [] out four.1 in
    let six = rule_was _ _ _ [] out five.1 in
    let seven = rule_was _ _ _ [] out six.1 in
    let eight = zeros_were _ _ _ [] out seven.1 in
    let nine = rule_was _ _ _ [] out eight.1 in
    let is : cont_in c.bytes p ≡ r = given (c.bytes p == 0) (cont_in c.bytes p) r nine.1 in
    let f = c.bytes in
    let low : number f (p + 8) 8 ≤ c.covered = let t = four.0 in grind (arith, nat_tests) in
    let high : number f (p + 24) 8 ≤ c.covered = let t = six.0 in grind (arith, nat_tests) in
    let ordinal : number f (p + 32) 8 < 2 ^ 32 = let t = seven.0 in grind (arith, nat_tests) in
    let floor = floor_fits c.covered (f (p + 1)) (number f (p + 16) 8) (number f (p + 8) 8) two.0 five.0 (eight_small f (p + 16) small) low in
    subst (IsContUnder c.covered) is (record { uuid = sixteen_small f (p + 48) small; floor = floor.low; why = floor.stored; aggregated = high; number = ordinal })

none_all : {A : Type 0} (P : A → Type 0) → All P []
none_all P = λ k a lt. absurd (omega arith)

conts_under : (c : Content) (p : ℕ) (os : List (Option ContRow)) → IsOfBytes c.bytes → HoldConts c p os → All (IsContUnder c.covered) (those os)
conts_under c p [] small h = none_all (IsContUnder c.covered)
conts_under c p (None ∷ os) small h = conts_under c (p + 64) os small h.1
conts_under c p (Some r ∷ os) small h = All-cons (IsContUnder c.covered) r (those os) (cont_under c p r small h.0) (conts_under c (p + 64) os small h.1)

-- ---- a snapshot

snap_fits : (c : Content) (p : ℕ) (s : Snap) → IsOfBytes c.bytes → HoldsSnap c p (Some s) → IsSnap s
unfolding read_snap snap_in
snap_fits c p s small h =
    let out : List Snap × List ℕ = (s ∷ [], []) in
    let one = rule_was _ _ _ [] out h in
    let two = zeros_were _ _ _ [] out one.1 in
    let three = rule_was _ _ _ [] out two.1 in
    let is : snap_in c.bytes p ≡ s = given (c.bytes p == 0) (snap_in c.bytes p) s three.1 in
    subst IsSnap is (record { uuid = sixteen_small c.bytes (p + 16) small; epoch = eight_small c.bytes (p + 8) small })

snaps_fit : (c : Content) (p : ℕ) (os : List (Option Snap)) → IsOfBytes c.bytes → HoldSnaps c p os → All IsSnap (those os)
snaps_fit c p [] small h = none_all IsSnap
snaps_fit c p (None ∷ os) small h = snaps_fit c (p + 32) os small h.1
snaps_fit c p (Some s ∷ os) small h = All-cons IsSnap s (those os) (snap_fits c p s small h.0) (snaps_fit c (p + 32) os small h.1)

-- ---- all of it

pub held_table : HeldAreTables
held_table target size f t small counters k =
    let c = content_of size f in
    let lease : number f 32 8 ≡ t.header.lease = lease_read target c t.header _ k.header in
    let covered : c.covered ≡ covered_by t.header = ap (λ (n : ℕ). n * 256 + 255) lease in record {
      many_conts = k.many_conts;
      many_snaps = k.many_snaps;
      apart = (k.new_conts, k.new_snaps);
      rows = subst (λ (n : ℕ). All (IsContUnder n) (those t.conts)) covered (conts_under c 4096 t.conts small k.conts);
      held = snaps_fit c 20480 t.snaps small k.snaps;
      counters = counters;
    }
