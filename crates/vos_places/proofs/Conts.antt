-- Places of containers: what was written is held, and what isn't written stays.
use Rattle.std.proofs.Common.{◌≡◌, ℕ, ◌+◌, ◌*◌, ◌≤◌, ◌<◌, ◌^◌, ◌==◌, ◌||◌, not, nat_le, nat_lt, Bool, true, false, List, [], ◌∷◌, ◌++◌, Option, Some, None, Result, Ok, length, get_or, refl, sym, ap, subst, ◌∙◌, arith, append_assoc}
use Rattle.std.specs.Prelude.{if◌then◌else◌}
use Rattle.std.specs.List.{list_any}
use Rattle.std.proofs.lemmas.List.{append-nil}
use Rattle.base_outside.specs.Images.{Image, bytes_at}
use Rattle.base_types.specs.declared.epoch.Epoch.{Epoch}
use Rattle.base_types.specs.declared.outcome.FloorWhy.{FloorWhy}
use Rattle.base_types.specs.declared.outcome.FloorWhy.TheVariants.{Aggregate, Opening, Restart, Snapshot}
use Rattle.byteorder.specs.Endian.{big_bytes}
use Rattle.daos_model.specs.declared.durable.ContRow.{ContRow}
use Rattle.daos_model.specs.Durables.{is_row_of}
use Rattle.vos_image.proofs.Codecs.{at_most_test}
use Rattle.vos_image.specs.Content.{Content, number}
use Rattle.vos_image.specs.Places.{cont_in, floor_of, is_why, read_cont, read_conts, why_of}
use Rattle.vos_places.specs.Codec.{IsContUnder, IsStoredFloor, cont_bytes, why_kind, why_number}
use Rattle.vos_places.specs.Tables.{AreNewConts, HoldConts, HoldsCont, those}
use Rattle.vos_places.proofs.Bytes.{Agree, agreed_bytes, agreed_number, byte_known, first_known, number_known, part_known}
use Rattle.std.proofs.lemmas.Bool.Decides.{nat_tests}
use Rattle.vos_places.proofs.Steps.{AreZeros, rule_goes, rule_was, zeros_go, step_goes, zeros_known, zeros_were}

-- the rules of a place by itself
pub record ContRules (c : Content) (p : ℕ) : Type 0 where
  pub use_is : nat_le (c.bytes p) 1 ≡ true
  pub why : is_why (c.bytes (p + 1)) ≡ true
  pub gap : AreZeros (p + 2) (bytes_at c.bytes (p + 2) 6)
  pub floor : nat_le (number c.bytes (p + 8) 8) c.covered ≡ true
  pub reason : (not (c.bytes (p + 1) == 3) || nat_lt (number c.bytes (p + 16) 8) (2 ^ 32)) ≡ true
  pub aggregated : nat_le (number c.bytes (p + 24) 8) c.covered ≡ true
  pub ordinal : nat_lt (number c.bytes (p + 32) 8) (2 ^ 32) ≡ true
  pub rest : AreZeros (p + 40) (bytes_at c.bytes (p + 40) 8)

-- one more behind some, where a first byte isn't zero
abbrev pub behind : {A : Type 0} → Bool → A → List A → List A
behind unused x xs = if unused then xs else xs ++ x ∷ []

abbrev is_new : Content → ℕ → List ContRow → Bool
is_new c p rows = (c.bytes p == 0) || not (list_any (is_row_of (cont_in c.bytes p).cont) rows)

record ContRead (c : Content) (p : ℕ) (rows : List ContRow) (led : List ℕ) (r : List ContRow × List ℕ) : Type 0 where
  rules : ContRules c p
  new : is_new c p rows ≡ true
  given : (behind (c.bytes p == 0) (cont_in c.bytes p) rows, led) ≡ r

abbrev pub read : {A : Type 0} → A × List ℕ → Result (A × List ℕ) ℕ
read x = Ok x

pub same_read : {A : Type 0} (x y : A × List ℕ) → read x ≡ Ok y → x ≡ y
same_read x y h = cc

cont_was : (c : Content) (p : ℕ) (rows : List ContRow) (led : List ℕ) (r : List ContRow × List ℕ) → read_cont c p rows led ≡ Ok r → ContRead c p rows led r
unfolding read_cont
cont_was c p rows led r h =
    let one = rule_was _ _ _ led r h in
    let two = rule_was _ _ _ led r one.1 in
    let three = zeros_were _ _ _ led r two.1 in
    let four = rule_was _ _ _ led r three.1 in
    let five = rule_was _ _ _ led r four.1 in
    let six = rule_was _ _ _ led r five.1 in
    let seven = rule_was _ _ _ led r six.1 in
    let eight = zeros_were _ _ _ led r seven.1 in
    let nine = rule_was _ _ _ led r eight.1 in
    record {
      rules = record { use_is = one.0; why = two.0; gap = three.0; floor = four.0; reason = five.0; aggregated = six.0; ordinal = seven.0; rest = eight.0 };
      new = nine.0;
      given = same_read _ r nine.1;
    }

cont_goes : (c : Content) (p : ℕ) (rows : List ContRow) (led : List ℕ) → ContRules c p → is_new c p rows ≡ true → read_cont c p rows led ≡ Ok (behind (c.bytes p == 0) (cont_in c.bytes p) rows, led)
unfolding read_cont
cont_goes c p rows led k new =
    rule_goes _ _ _ led _ k.use_is
    (rule_goes _ _ _ led _ k.why
    (zeros_go _ _ _ led _ k.gap
    (rule_goes _ _ _ led _ k.floor
    (rule_goes _ _ _ led _ k.reason
    (rule_goes _ _ _ led _ k.aggregated
    (rule_goes _ _ _ led _ k.ordinal
    (zeros_go _ _ _ led _ k.rest
    (rule_goes _ _ _ led _ new refl))))))))

-- ---- one place after another

-- what a place adds to nothing it adds behind anything
pub adds : {A : Type 0} (unused : Bool) (x : A) (o : Option A) → behind unused x [] ≡ those (o ∷ []) → (xs : List A) → behind unused x xs ≡ xs ++ those (o ∷ [])
adds true x None h xs = sym (append-nil xs)
adds true x (Some a) h xs = absurd (cc)
adds false x None h xs = absurd (cc)
adds false x (Some a) h xs = let e : x ≡ a = cc in ap (λ z. xs ++ z ∷ []) e

holds_given : (c : Content) (p : ℕ) (o : Option ContRow) → HoldsCont c p o → behind (c.bytes p == 0) (cont_in c.bytes p) [] ≡ those (o ∷ [])
holds_given c p o h = ap (λ z. z.0) (cont_was c p [] [] (those (o ∷ []), []) h).given

is_new_at : (c : Content) (p : ℕ) (o : Option ContRow) (rest rows : List ContRow) (unused : Bool) → behind unused (cont_in c.bytes p) [] ≡ those (o ∷ []) → AreNewConts rows (those (o ∷ []) ++ rest)
    → (unused || not (list_any (is_row_of (cont_in c.bytes p).cont) rows)) ≡ true
is_new_at c p o rest rows true h new = refl
is_new_at c p None rest rows false h new = absurd (cc)
is_new_at c p (Some r) rest rows false h new = let e : cont_in c.bytes p ≡ r = cc in let n = new.0 in rw (e, n) refl

cont_then : (c : Content) (p : ℕ) (o : Option ContRow) (rest rows : List ContRow) (led : List ℕ) → HoldsCont c p o → AreNewConts rows (those (o ∷ []) ++ rest) → read_cont c p rows led ≡ Ok (rows ++ those (o ∷ []), led)
cont_then c p o rest rows led h new =
    let was = cont_was c p [] [] (those (o ∷ []), []) h in
    let g = holds_given c p o h in
    cont_goes c p rows led was.rules (is_new_at c p o rest rows (c.bytes p == 0) g new) ∙ ap (λ (z : List ContRow). read (z, led)) (adds (c.bytes p == 0) (cont_in c.bytes p) o g rows)

-- ---- what was written is held

kind_byte : (w : FloorWhy) → get_or (big_bytes 1 (why_kind w)) 0 0 ≡ why_kind w
kind_byte Opening = refl
kind_byte (Restart n) = refl
kind_byte (Snapshot s) = refl
kind_byte (Aggregate n) = refl

is_kind : (w : FloorWhy) → is_why (why_kind w) ≡ true
is_kind Opening = refl
is_kind (Restart n) = refl
is_kind (Snapshot s) = refl
is_kind (Aggregate n) = refl

number_fits : (e : Epoch) (w : FloorWhy) → IsStoredFloor e w → why_number w < 2 ^ 64
number_fits e Opening h = omega arith
number_fits e (Restart n) h = absurd h
number_fits e (Snapshot s) h = h
number_fits e (Aggregate n) h = omega (arith, h)

pub below_test : (a b : ℕ) → a < b → nat_lt a b ≡ true
below_test a b h = grind (arith, nat_tests)

reason_fits : (e : Epoch) (w : FloorWhy) → IsStoredFloor e w → (not (why_kind w == 3) || nat_lt (why_number w) (2 ^ 32)) ≡ true
reason_fits e Opening h = refl
reason_fits e (Restart n) h = absurd h
reason_fits e (Snapshot s) h = refl
reason_fits e (Aggregate n) h = below_test n (2 ^ 32) h

floor_back : (e : Epoch) (w : FloorWhy) → IsStoredFloor e w → floor_of (why_kind w) e.0 ≡ e.0
floor_back e Opening h = sym h
floor_back e (Restart n) h = absurd h
floor_back e (Snapshot s) h = refl
floor_back e (Aggregate n) h = refl

why_back : (e : Epoch) (w : FloorWhy) → IsStoredFloor e w → why_of (why_kind w) (why_number w) ≡ w
why_back e Opening h = refl
why_back e (Restart n) h = absurd h
why_back e (Snapshot s) h = refl
why_back e (Aggregate n) h = refl

-- what the fields of a place are
record ContSaid (f : Image) (p : ℕ) (r : ContRow) : Type 0 where
  used : f p ≡ 1
  kind : f (p + 1) ≡ why_kind r.why
  gap : bytes_at f (p + 2) 6 ≡ 0 ∷ 0 ∷ 0 ∷ 0 ∷ 0 ∷ 0 ∷ []
  floor : number f (p + 8) 8 ≡ r.floor.0
  reason : number f (p + 16) 8 ≡ why_number r.why
  aggregated : number f (p + 24) 8 ≡ r.aggregated.0
  ordinal : number f (p + 32) 8 ≡ r.number
  rest : bytes_at f (p + 40) 8 ≡ 0 ∷ 0 ∷ 0 ∷ 0 ∷ 0 ∷ 0 ∷ 0 ∷ 0 ∷ []
  uuid : number f (p + 48) 16 ≡ r.cont.0

cont_said : (f : Image) (p covered : ℕ) (r : ContRow) → covered < 2 ^ 64 → IsContUnder covered r → bytes_at f p 64 ≡ cont_bytes r → ContSaid f p r
unfolding cont_bytes
cont_said f p covered r small u is =
    let bs = cont_bytes r in
    record {
      used = first_known f p bs is (omega arith);
      kind = byte_known f p bs is 1 (omega arith) ∙ kind_byte r.why;
      gap = part_known f p bs is 2 6 (omega arith);
      floor = number_known f p bs is 8 8 r.floor.0 (omega arith) refl (omega (arith, u.floor, small));
      reason = number_known f p bs is 16 8 (why_number r.why) (omega arith) refl (number_fits r.floor r.why u.why);
      aggregated = number_known f p bs is 24 8 r.aggregated.0 (omega arith) refl (omega (arith, u.aggregated, small));
      ordinal = number_known f p bs is 32 8 r.number (omega arith) refl (omega (arith, u.number));
      rest = part_known f p bs is 40 8 (omega arith);
      uuid = number_known f p bs is 48 16 r.cont.0 (omega arith) refl u.uuid;
    }

row_back : (f : Image) (p covered : ℕ) (r : ContRow) → IsContUnder covered r → ContSaid f p r → cont_in f p ≡ r
unfolding cont_in
row_back f p covered r u k =
    let floor : floor_of (f (p + 1)) (number f (p + 8) 8) ≡ r.floor.0 = rw (k.kind, k.floor) (floor_back r.floor r.why u.why) in
    let why : why_of (f (p + 1)) (number f (p + 16) 8) ≡ r.why = rw (k.kind, k.reason) (why_back r.floor r.why u.why) in
    λ i. record { cont = record { 0 = k.uuid i }; floor = record { 0 = floor i }; why = why i; aggregated = record { 0 = k.aggregated i }; number = k.ordinal i }

said_rules : (c : Content) (p : ℕ) (r : ContRow) → IsContUnder c.covered r → ContSaid c.bytes p r → ContRules c p
said_rules c p r u k = record {
  use_is = rw k.used refl;
  why = rw k.kind (is_kind r.why);
  gap = zeros_known (p + 2) _ 6 k.gap;
  floor = rw k.floor (at_most_test r.floor.0 c.covered u.floor);
  reason = rw (k.kind, k.reason) (reason_fits r.floor r.why u.why);
  aggregated = rw k.aggregated (at_most_test r.aggregated.0 c.covered u.aggregated);
  ordinal = rw k.ordinal (below_test r.number (2 ^ 32) u.number);
  rest = zeros_known (p + 40) _ 8 k.rest;
}

-- the bytes of a container under the lease are held as this container
pub cont_held : (c : Content) (p : ℕ) (r : ContRow) → c.covered < 2 ^ 64 → IsContUnder c.covered r → bytes_at c.bytes p 64 ≡ cont_bytes r → HoldsCont c p (Some r)
cont_held c p r small u is =
    let k = cont_said c.bytes p c.covered r small u is in
    let unused : (c.bytes p == 0) ≡ false = rw k.used refl in
    let new : is_new c p [] ≡ true = rw unused refl in
    let row : cont_in c.bytes p ≡ r = row_back c.bytes p c.covered r u k in
    cont_goes c p [] [] (said_rules c p r u k) new ∙ ap (λ (z : List ContRow). read (z, [])) (rw unused (ap (λ (x : ContRow). x ∷ []) row))

-- ---- what isn't written stays

pub at_most_told : (a b : ℕ) → nat_le a b ≡ true → a ≤ b
at_most_told a b h = grind (arith, nat_tests)

pub within : (a b n m : ℕ) → a ≡ b → n ≤ m → nat_le b n ≡ true → nat_le a m ≡ true
within a b n m e h t = at_most_test a m (omega (arith, e, h, at_most_told b n t))

rules_stay : (c d : Content) (p : ℕ) → Agree c.bytes d.bytes p (p + 64) → c.covered ≤ d.covered → ContRules c p → ContRules d p
rules_stay c d p a more k =
    let bytes = λ (m n : ℕ). agreed_bytes c.bytes d.bytes p (p + 64) (p + m) n a in
    let first : d.bytes p ≡ c.bytes p = a p (omega arith) (omega arith) in
    let kind : d.bytes (p + 1) ≡ c.bytes (p + 1) = a (p + 1) (omega arith) (omega arith) in
    let reason : number d.bytes (p + 16) 8 ≡ number c.bytes (p + 16) 8 = agreed_number c.bytes d.bytes p (p + 64) (p + 16) 8 a (omega arith) (omega arith) in
    let floor : number d.bytes (p + 8) 8 ≡ number c.bytes (p + 8) 8 = agreed_number c.bytes d.bytes p (p + 64) (p + 8) 8 a (omega arith) (omega arith) in
    let upto : number d.bytes (p + 24) 8 ≡ number c.bytes (p + 24) 8 = agreed_number c.bytes d.bytes p (p + 64) (p + 24) 8 a (omega arith) (omega arith) in
    let ordinal : number d.bytes (p + 32) 8 ≡ number c.bytes (p + 32) 8 = agreed_number c.bytes d.bytes p (p + 64) (p + 32) 8 a (omega arith) (omega arith) in
    record {
      use_is = rw first k.use_is;
      why = rw kind k.why;
      gap = subst (λ (z : List ℕ). AreZeros (p + 2) z) (sym (bytes 2 6 (omega arith) (omega arith))) k.gap;
      floor = within _ _ c.covered d.covered floor more k.floor;
      reason = rw (kind, reason) k.reason;
      aggregated = within _ _ c.covered d.covered upto more k.aggregated;
      ordinal = rw ordinal k.ordinal;
      rest = subst (λ (z : List ℕ). AreZeros (p + 40) z) (sym (bytes 40 8 (omega arith) (omega arith))) k.rest;
    }

row_stays : (f g : Image) (p : ℕ) → Agree f g p (p + 64) → cont_in g p ≡ cont_in f p
unfolding cont_in
row_stays f g p a =
    let kind : g (p + 1) ≡ f (p + 1) = a (p + 1) (omega arith) (omega arith) in
    let floor = agreed_number f g p (p + 64) (p + 8) 8 a (omega arith) (omega arith) in
    let reason = agreed_number f g p (p + 64) (p + 16) 8 a (omega arith) (omega arith) in
    let upto = agreed_number f g p (p + 64) (p + 24) 8 a (omega arith) (omega arith) in
    let ordinal = agreed_number f g p (p + 64) (p + 32) 8 a (omega arith) (omega arith) in
    let uuid = agreed_number f g p (p + 64) (p + 48) 16 a (omega arith) (omega arith) in
    λ i. record { cont = record { 0 = uuid i }; floor = record { 0 = floor_of (kind i) (floor i) }; why = why_of (kind i) (reason i); aggregated = record { 0 = upto i }; number = ordinal i }

new_first : (unused : Bool) → (unused || true) ≡ true
new_first true = refl
new_first false = refl

pub cont_stays : (c d : Content) (p : ℕ) (o : Option ContRow) → Agree c.bytes d.bytes p (p + 64) → c.covered ≤ d.covered → HoldsCont c p o → HoldsCont d p o
cont_stays c d p o a more h =
    let was = cont_was c p [] [] (those (o ∷ []), []) h in
    let first : d.bytes p ≡ c.bytes p = a p (omega arith) (omega arith) in
    cont_goes d p [] [] (rules_stay c d p a more was.rules) (new_first (d.bytes p == 0))
    ∙ (ap (λ (b : ℕ). read (behind (b == 0) (cont_in d.bytes p) [], [])) first
    ∙ (ap (λ (x : ContRow). read (behind (c.bytes p == 0) x [], [])) (row_stays c.bytes d.bytes p a)
    ∙ ap (λ (z : List ContRow). read (z, [])) (holds_given c p o h)))

pub conts_stay : (c d : Content) (p : ℕ) (os : List (Option ContRow)) → Agree c.bytes d.bytes p (p + 64 * length os) → c.covered ≤ d.covered → HoldConts c p os → HoldConts d p os
conts_stay c d p [] a more h = tt
conts_stay c d p (o ∷ os) a more h =
    (cont_stays c d p o (λ i low high. a i low (omega arith)) more h.0, conts_stay c d (p + 64) os (λ i low high. a i (omega arith) (omega arith)) more h.1)

-- ---- all places of containers

pub conts_read : (c : Content) (p : ℕ) (os : List (Option ContRow)) (rows : List ContRow) (led : List ℕ) → HoldConts c p os → AreNewConts rows (those os) → read_conts c (length os) p rows led ≡ Ok (rows ++ those os, led)
conts_read c p [] rows led h new = ap (λ (z : List ContRow). read (z, led)) (sym (append-nil rows))
conts_read c p (None ∷ os) rows led h new =
    step_goes (read_cont c p rows) (λ more. read_conts c (length os) (p + 64) more) rows led led _
    (cont_then c p None [] rows led h.0 tt ∙ ap (λ (z : List ContRow). read (z, led)) (append-nil rows))
    (conts_read c (p + 64) os rows led h.1 new)
conts_read c p (Some r ∷ os) rows led h new =
    step_goes (read_cont c p rows) (λ more. read_conts c (length os) (p + 64) more) (rows ++ r ∷ []) led led _
    (cont_then c p (Some r) [] rows led h.0 (new.0, tt))
    (conts_read c (p + 64) os (rows ++ r ∷ []) led h.1 new.1 ∙ ap (λ (z : List ContRow). read (z, led)) (append_assoc rows (r ∷ []) (those os)))
