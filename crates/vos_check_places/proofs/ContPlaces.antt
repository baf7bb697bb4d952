-- Places of containers: what their rules say of one place, and one place after another.
use Rattle.std.proofs.Common.{◌≡◌, ℕ, suc, ◌+◌, ◌*◌, ◌≤◌, ◌<◌, ◌-◌, ◌^◌, ◌==◌, ◌||◌, not, nat_le, nat_lt, Bool, true, false, List, [], ◌∷◌, ◌++◌, Option, Some, None, Ok, Err, length, refl, sym, ap, subst, ◌∙◌, arith, append_assoc}
use Rattle.std.specs.Prelude.{if◌then◌else◌}
use Rattle.std.specs.List.{list_any}
use Rattle.std.proofs.lemmas.List.{append-nil}
use Rattle.base_outside.specs.Images.{Image}
use Rattle.base_types.specs.declared.id.ContId.{ContId}
use Rattle.daos_model.specs.declared.durable.ContRow.{ContRow}
use Rattle.daos_model.specs.Durables.{is_row_of}
use Rattle.vos_image.specs.Content.{Content}
use Rattle.vos_image.specs.Places.{cont_in, is_why, read_cont, read_conts, zeros_at}
use Rattle.vos_image.specs.Steps.{Step, give, rule}
use Rattle.vos_places.proofs.Conts.{behind, conts_read}
use Rattle.vos_places.proofs.Steps.{bound_was}
use Rattle.vos_places.specs.Tables.{AreNewConts, HoldConts, HoldsCont, is_cont_at, those}
use Rattle.vos_check_places.specs.declared.conts.ContFields.{ContFields}
use Rattle.vos_check_places.specs.declared.fault.Fault.{Fault}
use Rattle.vos_check_places.specs.declared.judge.Rule.{Rule}
use Rattle.vos_check_places.specs.Rules.{judged}
use Rattle.vos_check_places.specs.Parts.{conts_reading}
use Rattle.vos_check_places.specs.Shown.{AreContFields, IsShown, StopsAt}
use Rattle.vos_check_places.proofs.Steps.{AllHold, AllShown, ruled, rules_go, rules_stop, stops_first, stops_then}

-- a container is in one of the places
pub any_there : (c : ContId) (os : List (Option ContRow)) → list_any (is_cont_at c) os ≡ list_any (is_row_of c) (those os)
any_there c [] = refl
any_there c (None ∷ os) = any_there c os
any_there c (Some r ∷ os) = ap (λ (t : Bool). (r.cont.0 == c.0) || t) (any_there c os)

-- ---- one place

-- the rules of the fields of a place, where some of them hold or not
abbrev pub cont_rules : ℕ → ℕ → ContFields → Rule → Rule → Bool → Bool → Bool → List Rule
cont_rules p covered x gap rest why reason new =
    record { 0 = p; 1 = nat_le x.used 1 } ∷ record { 0 = p + 1; 1 = why } ∷ gap ∷ record { 0 = p + 8; 1 = nat_le x.floor covered } ∷ record { 0 = p + 16; 1 = reason } ∷ record { 0 = p + 24; 1 = nat_le x.aggregated covered }
    ∷ record { 0 = p + 32; 1 = nat_lt x.number 4294967296 } ∷ rest ∷ record { 0 = p + 48; 1 = new } ∷ []

-- what was found in bytes of a place that a content has
pub record ContFound (c : Content) (bs : List ℕ) (p covered : ℕ) (x : ContFields) (gap rest : Rule) (why reason : Bool) : Type 0 where
  pub shown : IsShown c.bytes bs p (p + 64)
  pub lease : c.covered ≡ covered
  pub fields : AreContFields c.bytes p x
  pub gap_is : zeros_at c.bytes (p + 2) 6 ≡ rule gap.0 gap.1
  pub gap_low : p + 2 ≤ gap.0
  pub gap_high : gap.0 < p + 2 + 6
  pub rest_is : zeros_at c.bytes (p + 40) 8 ≡ rule rest.0 rest.1
  pub rest_low : p + 40 ≤ rest.0
  pub rest_high : rest.0 < p + 40 + 8
  pub why_is : why ≡ is_why x.why
  pub reason_is : reason ≡ (not (x.why == 3) || nat_lt x.reason (2 ^ 32))

pub cont_found : (c : Content) (bs : List ℕ) (p covered : ℕ) (x : ContFields) (gap rest : Rule) (why reason : Bool) → IsShown c.bytes bs p (p + 64) → c.covered ≡ covered → AreContFields c.bytes p x
    → ((f : Image) → IsShown f bs (p + 2) (p + 2 + 6) → zeros_at f (p + 2) 6 ≡ rule gap.0 gap.1) → p + 2 ≤ gap.0 → gap.0 < p + 2 + 6
    → ((f : Image) → IsShown f bs (p + 40) (p + 40 + 8) → zeros_at f (p + 40) 8 ≡ rule rest.0 rest.1) → p + 40 ≤ rest.0 → rest.0 < p + 40 + 8
    → why ≡ is_why x.why → reason ≡ (not (x.why == 3) || nat_lt x.reason (2 ^ 32)) → ContFound c bs p covered x gap rest why reason
cont_found c bs p covered x gap rest why reason s e fields first a b second l h w r = record {
  shown = s;
  lease = e;
  fields = fields;
  gap_is = first c.bytes (λ i low high. s i (omega arith) (omega arith));
  gap_low = a;
  gap_high = b;
  rest_is = second c.bytes (λ i low high. s i (omega arith) (omega arith));
  rest_low = l;
  rest_high = h;
  why_is = w;
  reason_is = r;
}

abbrev pub is_new : ContFields → List ContRow → Bool
is_new x rows = (x.used == 0) || not (list_any (is_row_of (record { 0 = x.uuid })) rows)

-- the reading of a place is by these rules
cont_is : (c : Content) (bs : List ℕ) (p covered : ℕ) (x : ContFields) (gap rest : Rule) (why reason new : Bool) (rows : List ContRow) → ContFound c bs p covered x gap rest why reason → new ≡ is_new x rows
    → read_cont c p rows ≡ ruled (cont_rules p covered x gap rest why reason new) (give (behind (x.used == 0) (cont_in c.bytes p) rows))
unfolding read_cont cont_in
cont_is c bs p covered x gap rest why reason new rows k new_is =
    let f = k.fields in
    rw (k.why_is, k.reason_is, new_is, f.used, f.why, f.floor, f.reason, f.aggregated, f.ordinal, f.uuid, k.gap_is, k.rest_is, k.lease) refl

-- and stops at the first that is broken
pub cont_stops : (c : Content) (bs : List ℕ) (p covered : ℕ) (x : ContFields) (gap rest : Rule) (why reason new : Bool) (rows : List ContRow) (led : List ℕ) (e : Fault) → ContFound c bs p covered x gap rest why reason → new ≡ is_new x rows
    → judged bs (cont_rules p covered x gap rest why reason new) ≡ Err e → StopsAt (read_cont c p rows led) c.bytes e
cont_stops c bs p covered x gap rest why reason new rows led e k new_is broken =
    let s = k.shown in
    let shown : AllShown c.bytes bs (cont_rules p covered x gap rest why reason new) =
    (s p (omega arith) (omega arith), (s (p + 1) (omega arith) (omega arith), (s gap.0 (omega arith) (omega arith), (s (p + 8) (omega arith) (omega arith), (s (p + 16) (omega arith) (omega arith), (s (p + 24) (omega arith) (omega arith), (s (p + 32) (omega arith) (omega arith), (s rest.0 (omega arith) (omega arith), (s (p + 48) (omega arith) (omega arith), tt)))))))))
    in
    rules_stop (read_cont c p rows led) bs (cont_rules p covered x gap rest why reason new) (give (behind (x.used == 0) (cont_in c.bytes p) rows)) led c.bytes e
    (ap (λ (z : Step (List ContRow)). z led) (cont_is c bs p covered x gap rest why reason new rows k new_is)) shown broken

-- where they hold, the place holds a container or none
abbrev pub held_in : Bool → ContRow → Option ContRow
held_in unused r = if unused then None else Some r

behind_none : (unused : Bool) (r : ContRow) → behind unused r [] ≡ those (held_in unused r ∷ [])
behind_none true r = refl
behind_none false r = refl

new_alone : (t : Bool) → (t || true) ≡ true
new_alone true = refl
new_alone false = refl

pub cont_holds : (c : Content) (bs : List ℕ) (p covered : ℕ) (x : ContFields) (gap rest : Rule) (why reason new unused : Bool) → (x.used == 0) ≡ unused → ContFound c bs p covered x gap rest why reason → AllHold (cont_rules p covered x gap rest why reason new)
    → HoldsCont c p (held_in unused (cont_in c.bytes p))
cont_holds c bs p covered x gap rest why reason new unused is k h =
    let row = cont_in c.bytes p in
    let rules = cont_rules p covered x gap rest why reason (is_new x []) in
    let all : AllHold rules = (h.0, (h.1.0, (h.1.1.0, (h.1.1.1.0, (h.1.1.1.1.0, (h.1.1.1.1.1.0, (h.1.1.1.1.1.1.0, (h.1.1.1.1.1.1.1.0, (new_alone (x.used == 0), tt))))))))) in
    ap (λ (z : Step (List ContRow)). z []) (cont_is c bs p covered x gap rest why reason (is_new x []) [] k refl)
    ∙ (rules_go rules (give (behind (x.used == 0) row [])) [] all
    ∙ ap (λ (z : List ContRow). Ok (z, [])) (ap (λ (t : Bool). behind t row []) is ∙ behind_none unused row))

pub cont_new : (x : ContFields) (rows : List ContRow) (row : ContRow) → row.cont ≡ record { 0 = x.uuid } → (x.used == 0) ≡ false → is_new x rows ≡ true → AreNewConts rows (row ∷ [])
cont_new x rows row is used new = (ap (λ (c : ContId). list_any (is_row_of c) rows) is ∙ apart (x.used == 0) (list_any (is_row_of (record { 0 = x.uuid })) rows) used new, tt)
  where
    apart : (s t : Bool) → s ≡ false → (s || not t) ≡ true → t ≡ false
    apart true t e h = absurd (cc)
    apart false true e h = absurd (cc)
    apart false false e h = refl

-- ---- one place after another

pub conts_more : (c : Content) (p : ℕ) (os : List (Option ContRow)) (q : ℕ) (o : Option ContRow) → q ≡ p + 64 * length os → HoldConts c p os → HoldsCont c q o → HoldConts c p (os ++ o ∷ [])
conts_more c p [] q o is h k = let e : q ≡ p = omega arith in (subst (λ (z : ℕ). HoldsCont c z o) e k, tt)
conts_more c p (x ∷ os) q o is h k = (h.0, conts_more c (p + 64) os q o (omega arith) h.1 k)

pub those_more : {A : Type 0} (os : List (Option A)) (o : Option A) → those (os ++ o ∷ []) ≡ those os ++ those (o ∷ [])
those_more [] o = refl
those_more (None ∷ os) o = those_more os o
those_more (Some a ∷ os) o = ap (λ z. a ∷ z) (those_more os o)

new_more : (a xs ys : List ContRow) → AreNewConts a xs → AreNewConts (a ++ xs) ys → AreNewConts a (xs ++ ys)
new_more a [] ys h k = subst (λ (z : List ContRow). AreNewConts z ys) (append-nil a) k
new_more a (x ∷ xs) ys h k = (h.0, new_more (a ++ x ∷ []) xs ys h.1 (subst (λ (z : List ContRow). AreNewConts z ys) (sym (append_assoc a (x ∷ []) xs)) k))

pub new_conts_more : (os : List (Option ContRow)) (o : Option ContRow) → AreNewConts [] (those os) → AreNewConts (those os) (those (o ∷ [])) → AreNewConts [] (those (os ++ o ∷ []))
new_conts_more os o h k = subst (λ (z : List ContRow). AreNewConts [] z) (sym (those_more os o)) (new_more [] (those os) (those (o ∷ [])) h k)

-- one place that holds something new is read
cont_read : (c : Content) (p : ℕ) (o : Option ContRow) (rows : List ContRow) (led : List ℕ) → HoldsCont c p o → AreNewConts rows (those (o ∷ [])) → read_cont c p rows led ≡ Ok (rows ++ those (o ∷ []), led)
cont_read c p o rows led h new =
    let b = bound_was (read_cont c p rows) (λ more. give more) led (rows ++ those (o ∷ []), led) (conts_read c p (o ∷ []) rows led (h, tt) new) in
    b.first ∙ b.behind

-- as many places as are listed, and so many more
abbrev pub and_more : {A : Type 0} → List A → ℕ → ℕ
and_more [] k = k
and_more (x ∷ xs) k = suc (and_more xs k)

pub and_more_is : {A : Type 0} (xs : List A) (k : ℕ) → and_more xs k ≡ length xs + k
and_more_is [] k = omega arith
and_more_is (x ∷ xs) k = let e = and_more_is xs k in omega arith

first_new : (o : Option ContRow) (rows rest : List ContRow) → AreNewConts rows (those (o ∷ []) ++ rest) → AreNewConts rows (those (o ∷ []))
first_new None rows rest h = tt
first_new (Some r) rows rest h = (h.0, tt)

stop_on : (c : Content) (p : ℕ) (os : List (Option ContRow)) (q k : ℕ) (rows : List ContRow) (led : List ℕ) (f : Image) (e : Fault) → q ≡ p + 64 * length os → HoldConts c p os → AreNewConts rows (those os)
    → StopsAt (read_cont c q (rows ++ those os) led) f e → StopsAt (read_conts c (and_more os (suc k)) p rows led) f e
stop_on c p [] q k rows led f e is h new s =
    let here : q ≡ p = omega arith in
    stops_first (read_cont c p rows) (λ more. read_conts c k (p + 64) more) led f e
    (subst (λ (z : ℕ). StopsAt (read_cont c z rows led) f e) here (subst (λ (z : List ContRow). StopsAt (read_cont c q z led) f e) (append-nil rows) s))
stop_on c p (None ∷ os) q k rows led f e is h new s =
    stops_then (read_cont c p rows) (λ more. read_conts c (and_more os (suc k)) (p + 64) more) led rows led f e
    (cont_read c p None rows led h.0 tt ∙ ap (λ (z : List ContRow). Ok (z, led)) (append-nil rows))
    (stop_on c (p + 64) os q k rows led f e (omega arith) h.1 new s)
stop_on c p (Some r ∷ os) q k rows led f e is h new s =
    stops_then (read_cont c p rows) (λ more. read_conts c (and_more os (suc k)) (p + 64) more) led (rows ++ r ∷ []) led f e
    (cont_read c p (Some r) rows led h.0 (new.0, tt))
    (stop_on c (p + 64) os q k (rows ++ r ∷ []) led f e (omega arith) h.1 new.1 (subst (λ (z : List ContRow). StopsAt (read_cont c q z led) f e) (sym (append_assoc rows (r ∷ []) (those os))) s))

-- after places that hold something, the reading of all stops where that of the next one stops
pub conts_stop : (c : Content) (os : List (Option ContRow)) (i : ℕ) (led : List ℕ) (f : Image) (e : Fault) → length os ≡ i → i < 256 → HoldConts c 4096 os → AreNewConts [] (those os)
    → StopsAt (read_cont c (4096 + 64 * i) (those os) led) f e → StopsAt (conts_reading c led) f e
unfolding conts_reading
conts_stop c os i led f e long below h new s =
    let k = 255 - i in
    let all : and_more os (suc k) ≡ 256 = omega (arith, and_more_is os (suc k)) in
    subst (λ (n : ℕ). StopsAt (read_conts c n 4096 [] led) f e) all
    (stop_on c 4096 os (4096 + 64 * i) k [] led f e (omega arith) h new s)
