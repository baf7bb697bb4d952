-- Places of snapshots: what their rules say of one place, and one place after another.
use Rattle.std.proofs.Common.{◌≡◌, ℕ, suc, ◌+◌, ◌-◌, ◌*◌, ◌≤◌, ◌<◌, ◌==◌, ◌||◌, nat_le, Bool, true, false, List, [], ◌∷◌, ◌++◌, Option, Some, None, Ok, Err, length, refl, sym, ap, subst, ◌∙◌, arith, append_assoc}
use Rattle.std.specs.Prelude.{if◌then◌else◌}
use Rattle.std.specs.List.{list_any}
use Rattle.std.proofs.lemmas.Bool.Decides.{nat_tests}
use Rattle.std.proofs.lemmas.List.{append-nil}
use Rattle.base_outside.specs.Images.{Image}
use Rattle.base_types.specs.declared.epoch.Epoch.{Epoch}
use Rattle.base_types.specs.declared.id.ContId.{ContId}
use Rattle.base_types.specs.declared.snapshot.Snap.{Snap}
use Rattle.daos_model.specs.declared.durable.ContRow.{ContRow}
use Rattle.daos_model.specs.Durables.{is_snap_at, new_row}
use Rattle.vos_image.specs.Content.{Content}
use Rattle.vos_image.specs.Places.{is_new_snap, read_snap, read_snaps, snap_in, zeros_at}
use Rattle.vos_image.specs.Steps.{Step, give, rule}
use Rattle.vos_places.proofs.Conts.{behind}
use Rattle.vos_places.proofs.Snaps.{snaps_read}
use Rattle.vos_places.proofs.Steps.{bound_was}
use Rattle.vos_places.specs.Tables.{AreNewSnaps, HoldSnaps, HoldsSnap, is_held_at, those}
use Rattle.vos_check_places.specs.declared.fault.Fault.{Fault}
use Rattle.vos_check_places.specs.declared.judge.Rule.{Rule}
use Rattle.vos_check_places.specs.Rules.{judged}
use Rattle.vos_check_places.specs.Parts.{snaps_reading}
use Rattle.vos_check_places.specs.Shown.{IsShown, StopsAt}
use Rattle.vos_check_places.proofs.ContPlaces.{and_more, and_more_is, those_more}
use Rattle.vos_check_places.proofs.Steps.{AllHold, AllShown, ruled, rules_go, rules_stop, stops_first, stops_then}

-- a snapshot is in one of the places
pub any_held : (c : ContId) (s : Epoch) (os : List (Option Snap)) → list_any (is_held_at c s) os ≡ list_any (is_snap_at c s) (those os)
any_held c s [] = refl
any_held c s (None ∷ os) = any_held c s os
any_held c s (Some x ∷ os) = ap (λ (t : Bool). is_snap_at c s x || t) (any_held c s os)

-- ---- one place

-- the rules of the fields of a place, of which the last holds or not
abbrev pub snap_rules : ℕ → ℕ → Rule → Bool → List Rule
snap_rules p used gap new = record { 0 = p; 1 = nat_le used 2 } ∷ gap ∷ record { 0 = p + 16; 1 = new } ∷ []

-- what was found in bytes of a place that a content has
pub record SnapFound (c : Content) (bs : List ℕ) (p used : ℕ) (gap : Rule) (snap : Snap) : Type 0 where
  pub shown : IsShown c.bytes bs p (p + 32)
  pub used_is : c.bytes p ≡ used
  pub snap_is : snap ≡ snap_in c.bytes p
  pub gap_is : zeros_at c.bytes (p + 1) 7 ≡ rule gap.0 gap.1
  pub gap_low : p + 1 ≤ gap.0
  pub gap_high : gap.0 < p + 1 + 7

pub snap_found : (c : Content) (bs : List ℕ) (p used : ℕ) (gap : Rule) (snap : Snap) → IsShown c.bytes bs p (p + 32) → c.bytes p ≡ used → snap ≡ snap_in c.bytes p
    → ((f : Image) → IsShown f bs (p + 1) (p + 1 + 7) → zeros_at f (p + 1) 7 ≡ rule gap.0 gap.1) → p + 1 ≤ gap.0 → gap.0 < p + 1 + 7 → SnapFound c bs p used gap snap
snap_found c bs p used gap snap s u k first a b = record { shown = s; used_is = u; snap_is = k; gap_is = first c.bytes (λ i low high. s i (omega arith) (omega arith)); gap_low = a; gap_high = b }

abbrev pub is_new : ℕ → List ContRow → List Snap → Snap → Bool
is_new used rows snaps snap = (used == 0) || is_new_snap rows snaps snap

-- the reading of a place is by these rules
snap_is : (c : Content) (bs : List ℕ) (rows : List ContRow) (p used : ℕ) (gap : Rule) (snap : Snap) (new : Bool) (snaps : List Snap) → SnapFound c bs p used gap snap → new ≡ is_new used rows snaps snap
    → read_snap c rows p snaps ≡ ruled (snap_rules p used gap new) (give (behind (used == 0) snap snaps))
unfolding read_snap
snap_is c bs rows p used gap snap new snaps k new_is = rw (new_is, k.snap_is, k.used_is, k.gap_is) refl

-- and stops at the first that is broken
pub snap_stops : (c : Content) (bs : List ℕ) (rows : List ContRow) (p used : ℕ) (gap : Rule) (snap : Snap) (new : Bool) (snaps : List Snap) (led : List ℕ) (e : Fault) → SnapFound c bs p used gap snap → new ≡ is_new used rows snaps snap
    → judged bs (snap_rules p used gap new) ≡ Err e → StopsAt (read_snap c rows p snaps led) c.bytes e
snap_stops c bs rows p used gap snap new snaps led e k new_is broken =
    let s = k.shown in
    let shown : AllShown c.bytes bs (snap_rules p used gap new) = (s p (omega arith) (omega arith), (s gap.0 (omega arith) (omega arith), (s (p + 16) (omega arith) (omega arith), tt))) in
    rules_stop (read_snap c rows p snaps led) bs (snap_rules p used gap new) (give (behind (used == 0) snap snaps)) led c.bytes e
    (ap (λ (z : Step (List Snap)). z led) (snap_is c bs rows p used gap snap new snaps k new_is)) shown broken

-- where they hold, the place holds a snapshot or none
abbrev pub held_in : Bool → Snap → Option Snap
held_in unused s = if unused then None else Some s

behind_none : (unused : Bool) (s : Snap) → behind unused s [] ≡ those (held_in unused s ∷ [])
behind_none true s = refl
behind_none false s = refl

-- beside its container alone a snapshot is new
new_alone : (unused : Bool) (snap : Snap) → (unused || is_new_snap (new_row snap.cont ∷ []) [] snap) ≡ true
new_alone true snap = refl
new_alone false snap = let e : (snap.cont.0 == snap.cont.0) ≡ true = grind (arith, nat_tests) in rw e refl

pub snap_holds : (c : Content) (bs : List ℕ) (p used : ℕ) (gap : Rule) (snap : Snap) (new unused : Bool) → (used == 0) ≡ unused → SnapFound c bs p used gap snap → AllHold (snap_rules p used gap new) → HoldsSnap c p (held_in unused snap)
snap_holds c bs p used gap snap new unused is k h =
    let alone = new_row snap.cont ∷ [] in
    let rules = snap_rules p used gap (is_new used alone [] snap) in
    let all : AllHold rules = (h.0, (h.1.0, (new_alone (used == 0) snap, tt))) in
    ap (λ (z : Snap). read_snap c (new_row z.cont ∷ []) p [] []) (sym k.snap_is)
    ∙ (ap (λ (z : Step (List Snap)). z []) (snap_is c bs alone p used gap snap (is_new used alone [] snap) [] k refl)
    ∙ (rules_go rules (give (behind (used == 0) snap [])) [] all
    ∙ ap (λ (z : List Snap). Ok (z, [])) (ap (λ (t : Bool). behind t snap []) is ∙ behind_none unused snap)))

pub snap_new : (rows : List ContRow) (snaps : List Snap) (snap : Snap) (unused : Bool) → unused ≡ false → (unused || is_new_snap rows snaps snap) ≡ true → AreNewSnaps rows snaps (snap ∷ [])
snap_new rows snaps snap true e h = absurd (cc)
snap_new rows snaps snap false e h = (h, tt)

-- ---- one place after another

pub snaps_more : (c : Content) (p : ℕ) (os : List (Option Snap)) (q : ℕ) (o : Option Snap) → q ≡ p + 32 * length os → HoldSnaps c p os → HoldsSnap c q o → HoldSnaps c p (os ++ o ∷ [])
snaps_more c p [] q o is h k = let e : q ≡ p = omega arith in (subst (λ (z : ℕ). HoldsSnap c z o) e k, tt)
snaps_more c p (x ∷ os) q o is h k = (h.0, snaps_more c (p + 32) os q o (omega arith) h.1 k)

new_more : (rows : List ContRow) (a xs ys : List Snap) → AreNewSnaps rows a xs → AreNewSnaps rows (a ++ xs) ys → AreNewSnaps rows a (xs ++ ys)
new_more rows a [] ys h k = subst (λ (z : List Snap). AreNewSnaps rows z ys) (append-nil a) k
new_more rows a (x ∷ xs) ys h k = (h.0, new_more rows (a ++ x ∷ []) xs ys h.1 (subst (λ (z : List Snap). AreNewSnaps rows z ys) (sym (append_assoc a (x ∷ []) xs)) k))

pub new_snaps_more : (rows : List ContRow) (os : List (Option Snap)) (o : Option Snap) → AreNewSnaps rows [] (those os) → AreNewSnaps rows (those os) (those (o ∷ [])) → AreNewSnaps rows [] (those (os ++ o ∷ []))
new_snaps_more rows os o h k = subst (λ (z : List Snap). AreNewSnaps rows [] z) (sym (those_more os o)) (new_more rows [] (those os) (those (o ∷ [])) h k)

-- one place that holds something new is read
snap_read : (c : Content) (rows : List ContRow) (p : ℕ) (o : Option Snap) (snaps : List Snap) (led : List ℕ) → HoldsSnap c p o → AreNewSnaps rows snaps (those (o ∷ [])) → read_snap c rows p snaps led ≡ Ok (snaps ++ those (o ∷ []), led)
snap_read c rows p o snaps led h new =
    let b = bound_was (read_snap c rows p snaps) (λ more. give more) led (snaps ++ those (o ∷ []), led) (snaps_read c rows p (o ∷ []) snaps led (h, tt) new) in
    b.first ∙ b.behind

stop_on : (c : Content) (rows : List ContRow) (p : ℕ) (os : List (Option Snap)) (q k : ℕ) (snaps : List Snap) (led : List ℕ) (f : Image) (e : Fault) → q ≡ p + 32 * length os → HoldSnaps c p os → AreNewSnaps rows snaps (those os)
    → StopsAt (read_snap c rows q (snaps ++ those os) led) f e → StopsAt (read_snaps c rows (and_more os (suc k)) p snaps led) f e
stop_on c rows p [] q k snaps led f e is h new s =
    let here : q ≡ p = omega arith in
    stops_first (read_snap c rows p snaps) (λ more. read_snaps c rows k (p + 32) more) led f e
    (subst (λ (z : ℕ). StopsAt (read_snap c rows z snaps led) f e) here (subst (λ (z : List Snap). StopsAt (read_snap c rows q z led) f e) (append-nil snaps) s))
stop_on c rows p (None ∷ os) q k snaps led f e is h new s =
    stops_then (read_snap c rows p snaps) (λ more. read_snaps c rows (and_more os (suc k)) (p + 32) more) led snaps led f e
    (snap_read c rows p None snaps led h.0 tt ∙ ap (λ (z : List Snap). Ok (z, led)) (append-nil snaps))
    (stop_on c rows (p + 32) os q k snaps led f e (omega arith) h.1 new s)
stop_on c rows p (Some x ∷ os) q k snaps led f e is h new s =
    stops_then (read_snap c rows p snaps) (λ more. read_snaps c rows (and_more os (suc k)) (p + 32) more) led (snaps ++ x ∷ []) led f e
    (snap_read c rows p (Some x) snaps led h.0 (new.0, tt))
    (stop_on c rows (p + 32) os q k (snaps ++ x ∷ []) led f e (omega arith) h.1 new.1 (subst (λ (z : List Snap). StopsAt (read_snap c rows q z led) f e) (sym (append_assoc snaps (x ∷ []) (those os))) s))

-- after places that hold something, the reading of all stops where that of the next one stops
pub snaps_stop : (c : Content) (rows : List ContRow) (os : List (Option Snap)) (i : ℕ) (led : List ℕ) (f : Image) (e : Fault) → length os ≡ i → i < 256 → HoldSnaps c 20480 os → AreNewSnaps rows [] (those os)
    → StopsAt (read_snap c rows (20480 + 32 * i) (those os) led) f e → StopsAt (snaps_reading c rows led) f e
unfolding snaps_reading
snaps_stop c rows os i led f e long below h new s =
    let k = 255 - i in
    let all : and_more os (suc k) ≡ 256 = omega (arith, and_more_is os (suc k)) in
    subst (λ (n : ℕ). StopsAt (read_snaps c rows n 20480 [] led) f e) all
    (stop_on c rows 20480 os (20480 + 32 * i) k [] led f e (omega arith) h new s)
