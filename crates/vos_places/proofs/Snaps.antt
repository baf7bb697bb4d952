-- Places of snapshots: what was written is held, one that is given up holds none, and what isn't written stays.
use Rattle.std.proofs.Common.{◌≡◌, ℕ, ◌+◌, ◌*◌, ◌==◌, ◌&&◌, ◌||◌, nat_le, Bool, true, false, List, [], ◌∷◌, ◌++◌, Option, Some, None, Ok, length, get_or, refl, sym, ap, subst, ◌∙◌, arith, append_assoc}
use Rattle.std.proofs.lemmas.Bool.Decides.{nat_tests}
use Rattle.std.proofs.lemmas.List.{append-nil}
use Rattle.base_outside.specs.Images.{Image, bytes_at}
use Rattle.base_types.specs.declared.snapshot.Snap.{Snap}
use Rattle.byteorder.specs.Endian.{big_bytes}
use Rattle.daos_model.specs.declared.durable.ContRow.{ContRow}
use Rattle.daos_model.specs.Durables.{new_row}
use Rattle.vos_image.specs.Content.{Content, number}
use Rattle.vos_image.specs.Places.{is_new_snap, read_snap, read_snaps, snap_in}
use Rattle.vos_places.specs.Codec.{IsSnap, snap_bytes, snap_kind}
use Rattle.vos_places.specs.Tables.{AreNewSnaps, HoldSnaps, HoldsSnap, those}
use Rattle.vos_places.proofs.Bytes.{Agree, agreed_bytes, agreed_number, first_known, number_known, part_known}
use Rattle.vos_places.proofs.Conts.{adds, behind, read, same_read}
use Rattle.vos_places.proofs.Steps.{AreZeros, rule_goes, rule_was, step_goes, zeros_go, zeros_known, zeros_were}

-- the rules of a place by itself
record SnapRules (c : Content) (p : ℕ) : Type 0 where
  use_is : nat_le (c.bytes p) 2 ≡ true
  gap : AreZeros (p + 1) (bytes_at c.bytes (p + 1) 7)

abbrev is_new : Content → List ContRow → ℕ → List Snap → Bool
is_new c rows p snaps = (c.bytes p == 0) || is_new_snap rows snaps (snap_in c.bytes p)

record SnapRead (c : Content) (rows : List ContRow) (p : ℕ) (snaps : List Snap) (led : List ℕ) (r : List Snap × List ℕ) : Type 0 where
  rules : SnapRules c p
  new : is_new c rows p snaps ≡ true
  given : (behind (c.bytes p == 0) (snap_in c.bytes p) snaps, led) ≡ r

snap_was : (c : Content) (rows : List ContRow) (p : ℕ) (snaps : List Snap) (led : List ℕ) (r : List Snap × List ℕ) → read_snap c rows p snaps led ≡ Ok r → SnapRead c rows p snaps led r
unfolding read_snap
snap_was c rows p snaps led r h =
    let one = rule_was _ _ _ led r h in
    let two = zeros_were _ _ _ led r one.1 in
    let three = rule_was _ _ _ led r two.1 in
    record { rules = record { use_is = one.0; gap = two.0 }; new = three.0; given = same_read _ r three.1 }

snap_goes : (c : Content) (rows : List ContRow) (p : ℕ) (snaps : List Snap) (led : List ℕ) → SnapRules c p → is_new c rows p snaps ≡ true → read_snap c rows p snaps led ≡ Ok (behind (c.bytes p == 0) (snap_in c.bytes p) snaps, led)
unfolding read_snap
snap_goes c rows p snaps led k new = rule_goes _ _ _ led _ k.use_is (zeros_go _ _ _ led _ k.gap (rule_goes _ _ _ led _ new refl))

-- the container that a place of a snapshot names
abbrev named : Image → ℕ → List ContRow
named f p = new_row (snap_in f p).cont ∷ []

holds_given : (c : Content) (p : ℕ) (o : Option Snap) → HoldsSnap c p o → behind (c.bytes p == 0) (snap_in c.bytes p) [] ≡ those (o ∷ [])
holds_given c p o h = ap (λ z. z.0) (snap_was c (named c.bytes p) p [] [] (those (o ∷ []), []) h).given

-- beside its container alone a snapshot is new
new_alone : (unused : Bool) (n : ℕ) → (unused || (((n == n) || false) && true)) ≡ true
new_alone true n = refl
new_alone false n = let e : (n == n) ≡ true = grind (arith, nat_tests) in rw e refl

is_new_at : (c : Content) (rows : List ContRow) (p : ℕ) (o : Option Snap) (snaps : List Snap) (unused : Bool) → behind unused (snap_in c.bytes p) [] ≡ those (o ∷ []) → AreNewSnaps rows snaps (those (o ∷ []))
    → (unused || is_new_snap rows snaps (snap_in c.bytes p)) ≡ true
is_new_at c rows p o snaps true h new = refl
is_new_at c rows p None snaps false h new = absurd (cc)
is_new_at c rows p (Some s) snaps false h new = let e : snap_in c.bytes p ≡ s = cc in ap (is_new_snap rows snaps) e ∙ new.0

snap_then : (c : Content) (rows : List ContRow) (p : ℕ) (o : Option Snap) (snaps : List Snap) (led : List ℕ) → HoldsSnap c p o → AreNewSnaps rows snaps (those (o ∷ [])) → read_snap c rows p snaps led ≡ Ok (snaps ++ those (o ∷ []), led)
snap_then c rows p o snaps led h new =
    let was = snap_was c (named c.bytes p) p [] [] (those (o ∷ []), []) h in
    let g = holds_given c p o h in
    snap_goes c rows p snaps led was.rules (is_new_at c rows p o snaps (c.bytes p == 0) g new) ∙ ap (λ (z : List Snap). read (z, led)) (adds (c.bytes p == 0) (snap_in c.bytes p) o g snaps)

pub snaps_read : (c : Content) (rows : List ContRow) (p : ℕ) (os : List (Option Snap)) (snaps : List Snap) (led : List ℕ) → HoldSnaps c p os → AreNewSnaps rows snaps (those os) → read_snaps c rows (length os) p snaps led ≡ Ok (snaps ++ those os, led)
snaps_read c rows p [] snaps led h new = ap (λ (z : List Snap). read (z, led)) (sym (append-nil snaps))
snaps_read c rows p (None ∷ os) snaps led h new =
    step_goes (read_snap c rows p snaps) (λ more. read_snaps c rows (length os) (p + 32) more) snaps led led _
    (snap_then c rows p None snaps led h.0 tt ∙ ap (λ (z : List Snap). read (z, led)) (append-nil snaps))
    (snaps_read c rows (p + 32) os snaps led h.1 new)
snaps_read c rows p (Some s ∷ os) snaps led h new =
    step_goes (read_snap c rows p snaps) (λ more. read_snaps c rows (length os) (p + 32) more) (snaps ++ s ∷ []) led led _
    (snap_then c rows p (Some s) snaps led h.0 (new.0, tt))
    (snaps_read c rows (p + 32) os (snaps ++ s ∷ []) led h.1 new.1 ∙ ap (λ (z : List Snap). read (z, led)) (append_assoc snaps (s ∷ []) (those os)))

-- ---- what was written is held

kind_byte : (b : Bool) → get_or (big_bytes 1 (snap_kind b)) 0 0 ≡ snap_kind b
kind_byte true = refl
kind_byte false = refl

is_kind : (b : Bool) → nat_le (snap_kind b) 2 ≡ true
is_kind true = refl
is_kind false = refl

is_used : (b : Bool) → (snap_kind b == 0) ≡ false
is_used true = refl
is_used false = refl

kind_back : (b : Bool) → (snap_kind b == 2) ≡ b
kind_back true = refl
kind_back false = refl

record SnapSaid (f : Image) (p : ℕ) (s : Snap) : Type 0 where
  kind : f p ≡ snap_kind s.created
  gap : bytes_at f (p + 1) 7 ≡ 0 ∷ 0 ∷ 0 ∷ 0 ∷ 0 ∷ 0 ∷ 0 ∷ []
  epoch : number f (p + 8) 8 ≡ s.epoch.0
  uuid : number f (p + 16) 16 ≡ s.cont.0

snap_said : (f : Image) (p : ℕ) (s : Snap) → IsSnap s → bytes_at f p 32 ≡ snap_bytes s → SnapSaid f p s
unfolding snap_bytes
snap_said f p s u is =
    let bs = snap_bytes s in
    record {
      kind = first_known f p bs is (omega arith) ∙ kind_byte s.created;
      gap = part_known f p bs is 1 7 (omega arith);
      epoch = number_known f p bs is 8 8 s.epoch.0 (omega arith) refl u.epoch;
      uuid = number_known f p bs is 16 16 s.cont.0 (omega arith) refl u.uuid;
    }

snap_back : (f : Image) (p : ℕ) (s : Snap) → SnapSaid f p s → snap_in f p ≡ s
unfolding snap_in
snap_back f p s k =
    let created : (f p == 2) ≡ s.created = rw k.kind (kind_back s.created) in
    λ i. record { cont = record { 0 = k.uuid i }; epoch = record { 0 = k.epoch i }; created = created i }

-- the bytes of a snapshot are held as this snapshot
pub snap_held : (c : Content) (p : ℕ) (s : Snap) → IsSnap s → bytes_at c.bytes p 32 ≡ snap_bytes s → HoldsSnap c p (Some s)
snap_held c p s u is =
    let k = snap_said c.bytes p s u is in
    let used : (c.bytes p == 0) ≡ false = rw k.kind (is_used s.created) in
    let rules : SnapRules c p = record { use_is = rw k.kind (is_kind s.created); gap = zeros_known (p + 1) _ 7 k.gap } in
    snap_goes c (named c.bytes p) p [] [] rules (new_alone (c.bytes p == 0) (snap_in c.bytes p).cont.0)
    ∙ ap (λ (z : List Snap). read (z, [])) (rw used (ap (λ (x : Snap). x ∷ []) (snap_back c.bytes p s k)))

-- a place whose first byte is zero, and that is else as it was, holds none
pub snap_given_up : (c d : Content) (p : ℕ) (o : Option Snap) → d.bytes p ≡ 0 → Agree c.bytes d.bytes (p + 1) (p + 32) → HoldsSnap c p o → HoldsSnap d p None
snap_given_up c d p o zero a h =
    let was = snap_was c (named c.bytes p) p [] [] (those (o ∷ []), []) h in
    let gap = agreed_bytes c.bytes d.bytes (p + 1) (p + 32) (p + 1) 7 a (omega arith) (omega arith) in
    let rules : SnapRules d p = record { use_is = rw zero refl; gap = subst (λ (z : List ℕ). AreZeros (p + 1) z) (sym gap) was.rules.gap } in
    snap_goes d (named d.bytes p) p [] [] rules (new_alone (d.bytes p == 0) (snap_in d.bytes p).cont.0)
    ∙ ap (λ (b : ℕ). read (behind (b == 0) (snap_in d.bytes p) [], [])) zero

-- ---- what isn't written stays

snap_as : (f g : Image) (p : ℕ) → Agree f g p (p + 32) → snap_in g p ≡ snap_in f p
unfolding snap_in
snap_as f g p a =
    let kind : g p ≡ f p = a p (omega arith) (omega arith) in
    let epoch = agreed_number f g p (p + 32) (p + 8) 8 a (omega arith) (omega arith) in
    let uuid = agreed_number f g p (p + 32) (p + 16) 16 a (omega arith) (omega arith) in
    λ i. record { cont = record { 0 = uuid i }; epoch = record { 0 = epoch i }; created = kind i == 2 }

pub snap_stays : (c d : Content) (p : ℕ) (o : Option Snap) → Agree c.bytes d.bytes p (p + 32) → HoldsSnap c p o → HoldsSnap d p o
snap_stays c d p o a h =
    let was = snap_was c (named c.bytes p) p [] [] (those (o ∷ []), []) h in
    let first : d.bytes p ≡ c.bytes p = a p (omega arith) (omega arith) in
    let gap = agreed_bytes c.bytes d.bytes p (p + 32) (p + 1) 7 a (omega arith) (omega arith) in
    let rules : SnapRules d p = record { use_is = rw first was.rules.use_is; gap = subst (λ (z : List ℕ). AreZeros (p + 1) z) (sym gap) was.rules.gap } in
    snap_goes d (named d.bytes p) p [] [] rules (new_alone (d.bytes p == 0) (snap_in d.bytes p).cont.0)
    ∙ (ap (λ (b : ℕ). read (behind (b == 0) (snap_in d.bytes p) [], [])) first
    ∙ (ap (λ (x : Snap). read (behind (c.bytes p == 0) x [], [])) (snap_as c.bytes d.bytes p a)
    ∙ ap (λ (z : List Snap). read (z, [])) (holds_given c p o h)))

pub snaps_stay : (c d : Content) (p : ℕ) (os : List (Option Snap)) → Agree c.bytes d.bytes p (p + 32 * length os) → HoldSnaps c p os → HoldSnaps d p os
snaps_stay c d p [] a h = tt
snaps_stay c d p (o ∷ os) a h = (snap_stays c d p o (λ i low high. a i low (omega arith)) h.0, snaps_stay c d (p + 32) os (λ i low high. a i (omega arith) (omega arith)) h.1)
