-- A write over a fixed place, and what is read of all places after it.
use Rattle.std.proofs.Common.{◌≡◌, ◌⊎◌, ℕ, zero, suc, ◌+◌, ◌*◌, ◌-◌, ◌≤◌, ◌<◌, List, [], ◌∷◌, Option, Some, None, Ok, length, get_or, ◌^◌, refl, sym, ap, subst, ◌∙◌, arith, inl, inr}
use Rattle.std.specs.Prelude.{set}
use Rattle.std.proofs.lemmas.Bool.Decides.{nat_tests}
use Rattle.std.proofs.lemmas.List.{length-set}
use Rattle.base_outside.specs.ImageLaws.{known_bytes_at, over_inside, over_outside, same_bytes_at}
use Rattle.base_outside.specs.Images.{Image, Range, bytes_at}
use Rattle.base_types.specs.declared.snapshot.Snap.{Snap}
use Rattle.daos_model.specs.declared.durable.ContRow.{ContRow}
use Rattle.vos_image.specs.Content.{Content, content_of, number}
use Rattle.vos_image.specs.Laws.{root_blocks}
use Rattle.vos_image.specs.Places.{are_bits_right, read_conts, read_header, read_map, read_places, read_snaps, zeros_at}
use Rattle.vos_image.specs.Steps.{Step, zeros}
use Rattle.vos_places.specs.declared.codec.Counters.{Counters}
use Rattle.vos_places.specs.Codec.{IsContUnder, cont_bytes, counter_bytes, snap_bytes, with_counters}
use Rattle.vos_places.specs.Laws.{BeyondStays, ContsAreWritten, CountersAreWritten, IsApart, IsRightBeyond, IsWritten, Keeps, PlacesStay, SnapsAreGivenUp, SnapsAreWritten, TablesAreRead, cont_range, counter_range, covered_by, snap_range, unused_range, with_snap}
use Rattle.vos_places.specs.Tables.{HoldConts, HoldSnaps, HoldsCont, HoldsSnap, Table, TableStands, those}
use Rattle.vos_places.proofs.Bytes.{first_known, same_number}
use Rattle.vos_places.proofs.Conts.{cont_held, cont_stays, conts_read, conts_stay}
use Rattle.vos_places.proofs.Header.{SameBesides, counters_read, header_stays, lease_read, lease_small, roots_read}
use Rattle.vos_places.proofs.Map.{SameMap, map_as, taken_as}
use Rattle.vos_places.proofs.Snaps.{snap_given_up, snap_held, snap_stays, snaps_read, snaps_stay}
use Rattle.vos_places.proofs.Steps.{rule_goes, rule_was, step_goes, zeros_told}

-- ---- what places hold is read

conts_any : (target : ℕ) (c : Content) (t : Table) (led : List ℕ) → TableStands target c t → read_conts c 256 4096 [] led ≡ Ok (those t.conts, led)
conts_any target c t led s = subst (λ (n : ℕ). read_conts c n 4096 [] led ≡ Ok (those t.conts, led)) s.many_conts (conts_read c 4096 t.conts [] led s.conts s.new_conts)

snaps_any : (target : ℕ) (c : Content) (t : Table) (led : List ℕ) → TableStands target c t → read_snaps c (those t.conts) 256 20480 [] led ≡ Ok (those t.snaps, led)
snaps_any target c t led s = subst (λ (n : ℕ). read_snaps c (those t.conts) n 20480 [] led ≡ Ok (those t.snaps, led)) s.many_snaps (snaps_read c (those t.conts) 20480 t.snaps [] led s.snaps s.new_snaps)

any_zeros : (at : ℕ) (bs led other : List ℕ) → zeros at bs led ≡ Ok (tt, led) → zeros at bs other ≡ Ok (tt, other)
any_zeros at bs led other h = zeros_told at bs led h other

any_map : (c : Content) (j k : ℕ) (led other : List ℕ) → read_map c j k led ≡ Ok (tt, led) → read_map c j k other ≡ Ok (tt, other)
any_map c j zero led other h = refl
any_map c j (suc k) led other h =
    let one = rule_was (307200 + j) (are_bits_right c (8 * j) 8) (λ _. read_map c (j + 1) k) led (tt, led) h in
    rule_goes (307200 + j) (are_bits_right c (8 * j) 8) (λ _. read_map c (j + 1) k) other (tt, other) one.0 (any_map c (j + 1) k led other one.1)

pub tables_read : TablesAreRead
unfolding read_places
tables_read target size f t s =
    let c = content_of size f in
    let led = root_blocks t.header in
    step_goes (read_header target c) _ t.header [] led _ s.header
    (step_goes (read_conts c 256 4096 []) _ (those t.conts) led led _ (conts_any target c t led s)
    (step_goes (read_snaps c (those t.conts) 256 20480 []) _ (those t.snaps) led led _ (snaps_any target c t led s)
    (step_goes (zeros_at f 28672 4096) _ tt led led _ (any_zeros 28672 (bytes_at f 28672 4096) [] led s.low_zeros)
    (step_goes (zeros_at f 32769 4095) _ tt led led _ (any_zeros 32769 (bytes_at f 32769 4095) [] led s.high_zeros)
    (step_goes (read_map c 0 16384) _ tt led led _ (any_map c 0 16384 [] led s.map) refl)))))

-- ---- one place among others

conts_set : (c d : Content) (p i q : ℕ) (os : List (Option ContRow)) (o : Option ContRow) → q ≡ p + 64 * i → i < length os → HoldConts c p os → HoldsCont d q o
    → ((j : ℕ) → p ≤ j → j < p + 64 * length os → (j < q) ⊎ (q + 64 ≤ j) → d.bytes j ≡ c.bytes j) → c.covered ≤ d.covered → HoldConts d p (set os i o)
conts_set c d p i q [] o is below h new same more = absurd (omega arith)
conts_set c d p zero q (x ∷ os) o is below h new same more =
    let e : q ≡ p = omega arith in
    (subst (λ (z : ℕ). HoldsCont d z o) e new, conts_stay c d (p + 64) os (λ j low high. same j (omega arith) (omega arith) (inr (omega arith))) more h.1)
conts_set c d p (suc i) q (x ∷ os) o is below h new same more = (
  cont_stays c d p x (λ j low high. same j low (omega arith) (inl (omega arith))) more h.0,
  conts_set c d (p + 64) i q os o (omega arith) (omega arith) h.1 new (λ j low high out. same j (omega arith) (omega arith) out) more,
)

snaps_set : (c d : Content) (p i q : ℕ) (os : List (Option Snap)) (o : Option Snap) → q ≡ p + 32 * i → i < length os → HoldSnaps c p os → ((x : Option Snap) → HoldsSnap c q x → HoldsSnap d q o)
    → ((j : ℕ) → p ≤ j → j < p + 32 * length os → (j < q) ⊎ (q + 32 ≤ j) → d.bytes j ≡ c.bytes j) → HoldSnaps d p (set os i o)
snaps_set c d p i q [] o is below h new same = absurd (omega arith)
snaps_set c d p zero q (x ∷ os) o is below h new same =
    let e : q ≡ p = omega arith in
    (subst (λ (z : ℕ). HoldsSnap d z o) e (new x (subst (λ (z : ℕ). HoldsSnap c z x) (sym e) h.0)), snaps_stay c d (p + 32) os (λ j low high. same j (omega arith) (omega arith) (inr (omega arith))) h.1)
snaps_set c d p (suc i) q (x ∷ os) o is below h new same = (
  snap_stays c d p x (λ j low high. same j low (omega arith) (inl (omega arith))) h.0,
  snaps_set c d (p + 32) i q os o (omega arith) (omega arith) h.1 new (λ j low high out. same j (omega arith) (omega arith) out),
)

-- ---- a range that is written

beside : (r : Range) (f g : Image) (j : ℕ) → IsWritten r f g → j < 36864 → (j < r.place) ⊎ (r.place + length r.bytes ≤ j) → g j ≡ f j
beside r f g j w low out = w j low ∙ over_outside r f j (elim out [
  | inl before ↦ grind (arith, nat_tests)
  | inr past ↦ grind (arith, nat_tests)
])

there : (r : Range) (f g : Image) → IsWritten r f g → r.place + length r.bytes ≤ 36864 → bytes_at g r.place (length r.bytes) ≡ r.bytes
there r f g w low = known_bytes_at g r.place r.bytes (λ k below.
    let e : (r.place + k) - r.place ≡ k = omega arith in
    w (r.place + k) (omega arith) ∙ (over_inside r f (r.place + k) (grind (arith, nat_tests)) ∙ ap (λ (n : ℕ). get_or r.bytes n 0) e))

pub length_cont : (r : ContRow) → length (cont_bytes r) ≡ 64
unfolding cont_bytes
length_cont r = refl

pub length_snap : (s : Snap) → length (snap_bytes s) ≡ 32
unfolding snap_bytes
length_snap s = refl

pub length_counters : (n : Counters) → length (counter_bytes n) ≡ 24
unfolding counter_bytes
length_counters n = refl

zeros_as : (f g : Image) (at n : ℕ) → ((j : ℕ) → at ≤ j → j < at + n → g j ≡ f j) → zeros_at f at n [] ≡ Ok (tt, []) → zeros_at g at n [] ≡ Ok (tt, [])
zeros_as f g at n same h = ap (λ (z : List ℕ). zeros at z []) (same_bytes_at f g at n same) ∙ h

same_lease : (f g : Image) → ((j : ℕ) → j < 4096 → g j ≡ f j) → number g 32 8 ≡ number f 32 8
same_lease f g same = same_number f g 32 8 (same_bytes_at f g 32 8 (λ j low high. same j (omega arith)))

covered_as : (target size : ℕ) (f g : Image) (t : Table) → Keeps target size f t → ((j : ℕ) → j < 4096 → g j ≡ f j) → (content_of size g).covered ≡ covered_by t.header
covered_as target size f g t s same = ap (λ (n : ℕ). n * 256 + 255) (same_lease f g same ∙ lease_read target (content_of size f) t.header (root_blocks t.header) s.header)

lease_below : (target size : ℕ) (f : Image) (t : Table) → Keeps target size f t → t.header.lease < 2 ^ 56
lease_below target size f t s = subst (λ (n : ℕ). n < 2 ^ 56) (lease_read target (content_of size f) t.header (root_blocks t.header) s.header) (lease_small target (content_of size f) t.header (root_blocks t.header) s.header)

pub conts_written : ContsAreWritten
conts_written target size f g t i r s below u apart w beyond =
    let c = content_of size f in
    let d = content_of size g in
    let q = 4096 + 64 * i in
    let long = length_cont r in
    let out = λ (j : ℕ). beside (cont_range i r) f g j w in
    let front : (j : ℕ) → j < 4096 → g j ≡ f j = λ j low. out j (omega arith) (inl (omega arith)) in
    let covered : d.covered ≡ covered_by t.header = covered_as target size f g t s front in
    let before : c.covered ≡ covered_by t.header = covered_as target size f f t s (λ j low. refl) in
    let small : d.covered < 2 ^ 64 = omega (arith, covered, lease_below target size f t s) in
    let under : IsContUnder d.covered r = subst (λ (n : ℕ). IsContUnder n r) (sym covered) u in
    let bytes : bytes_at g q 64 ≡ cont_bytes r = ap (bytes_at g q) (sym long) ∙ there (cont_range i r) f g w (omega arith) in
    record {
      header = header_stays target c d t.header (root_blocks t.header) s.header (λ j low high. front j high) refl beyond.roots;
      many_conts = length-set t.conts i (Some r) ∙ s.many_conts;
      conts = conts_set c d 4096 i q t.conts (Some r) refl (omega (arith, s.many_conts, below)) s.conts (cont_held d q r small under bytes)
          (λ j low high beside_it. out j (omega (arith, s.many_conts, high)) (elim beside_it [
            | inl e ↦ inl e
            | inr e ↦ inr (omega (arith, long, e))
          ])) (omega (arith, covered, before));
      new_conts = apart.0;
      many_snaps = s.many_snaps;
      snaps = snaps_stay c d 20480 t.snaps (λ j low high. out j (omega (arith, s.many_snaps, high)) (inr (omega arith))) s.snaps;
      new_snaps = apart.1;
      low_zeros = zeros_as f g 28672 4096 (λ j low high. out j (omega arith) (inr (omega arith))) s.low_zeros;
      high_zeros = zeros_as f g 32769 4095 (λ j low high. out j (omega arith) (inr (omega arith))) s.high_zeros;
      map = beyond.map;
    }

-- ---- places of snapshots

-- what a write among the places of snapshots leaves as it was
record SnapsAlone (f g : Image) (q n : ℕ) : Type 0 where
  out : (j : ℕ) → j < 36864 → (j < q) ⊎ (q + n ≤ j) → g j ≡ f j
  low : 20480 ≤ q
  high : q + n ≤ 28672

snaps_changed : (target size : ℕ) (f g : Image) (t : Table) (i n : ℕ) (o : Option Snap) → Keeps target size f t → i < 256 → n ≤ 32 → IsApart (with_snap i o t) → SnapsAlone f g (20480 + 32 * i) n
    → ((x : Option Snap) → HoldsSnap (content_of size f) (20480 + 32 * i) x → HoldsSnap (content_of size g) (20480 + 32 * i) o) → IsRightBeyond size g t.header → Keeps target size g (with_snap i o t)
snaps_changed target size f g t i n o s below few apart alone new beyond =
    let c = content_of size f in
    let d = content_of size g in
    let q = 20480 + 32 * i in
    let front : (j : ℕ) → j < 20480 → g j ≡ f j = λ j low. alone.out j (omega arith) (inl (omega (arith, alone.low))) in
    let covered = covered_as target size f g t s (λ j low. front j (omega arith)) in
    let before = covered_as target size f f t s (λ j low. refl) in
    record {
      header = header_stays target c d t.header (root_blocks t.header) s.header (λ j low high. front j (omega arith)) refl beyond.roots;
      many_conts = s.many_conts;
      conts = conts_stay c d 4096 t.conts (λ j low high. front j (omega (arith, s.many_conts, high))) (omega (arith, covered, before)) s.conts;
      new_conts = apart.0;
      many_snaps = length-set t.snaps i o ∙ s.many_snaps;
      snaps = snaps_set c d 20480 i q t.snaps o refl (omega (arith, s.many_snaps, below)) s.snaps new
          (λ j low high beside_it. alone.out j (omega (arith, s.many_snaps, high)) (elim beside_it [
            | inl e ↦ inl e
            | inr e ↦ inr (omega (arith, few, e))
          ]));
      new_snaps = apart.1;
      low_zeros = zeros_as f g 28672 4096 (λ j low high. alone.out j (omega arith) (inr (omega (arith, alone.high)))) s.low_zeros;
      high_zeros = zeros_as f g 32769 4095 (λ j low high. alone.out j (omega arith) (inr (omega (arith, alone.high)))) s.high_zeros;
      map = beyond.map;
    }

pub snaps_written : SnapsAreWritten
snaps_written target size f g t i x s below u apart w beyond =
    let q = 20480 + 32 * i in
    let long = length_snap x in
    let bytes : bytes_at g q 32 ≡ snap_bytes x = ap (bytes_at g q) (sym long) ∙ there (snap_range i x) f g w (omega arith) in
    let alone : SnapsAlone f g q 32 = record {
      out = λ j low out. beside (snap_range i x) f g j w low (elim out [
        | inl e ↦ inl e
        | inr e ↦ inr (omega (arith, long, e))
      ]);
      low = omega arith;
      high = omega arith;
    } in
    snaps_changed target size f g t i 32 (Some x) s below (omega arith) apart alone (λ old h. snap_held (content_of size g) q x u bytes) beyond

pub snaps_given_up : SnapsAreGivenUp
snaps_given_up target size f g t i s below apart w beyond =
    let q = 20480 + 32 * i in
    let bytes : bytes_at g q 1 ≡ 0 ∷ [] = there (unused_range i) f g w (omega arith) in
    let zero : g q ≡ 0 = first_known g q (0 ∷ []) bytes (omega arith) in
    let alone : SnapsAlone f g q 1 = record { out = λ j low out. beside (unused_range i) f g j w low out; low = omega arith; high = omega arith } in
    snaps_changed target size f g t i 1 None s below (omega arith) apart alone
    (λ old h. snap_given_up (content_of size f) (content_of size g) q old zero (λ j low high. alone.out j (omega arith) (inr (omega arith))) h) beyond

-- ---- counters

pub counters_written : CountersAreWritten
counters_written target size f g t n s u more w beyond =
    let c = content_of size f in
    let d = content_of size g in
    let long = length_counters n in
    let out = λ (j : ℕ). beside (counter_range n) f g j w in
    let bytes : bytes_at g 24 24 ≡ counter_bytes n = ap (bytes_at g 24) (sym long) ∙ there (counter_range n) f g w (omega arith) in
    let besides : SameBesides c d = record { front = λ j low high. out j (omega arith) (inl high); rest = λ j low high. out j (omega arith) (inr (omega arith)); size = refl } in
    let header = counters_read target c d t.header n (root_blocks t.header) s.header besides u bytes beyond.roots in
    let now : d.covered ≡ n.lease * 256 + 255 = ap (λ (k : ℕ). k * 256 + 255) (lease_read target d (with_counters n t.header) (root_blocks (with_counters n t.header)) header) in
    let before : c.covered ≡ covered_by t.header = covered_as target size f f t s (λ j low. refl) in
    record {
      header = header;
      many_conts = s.many_conts;
      conts = conts_stay c d 4096 t.conts (λ j low high. out j (omega (arith, s.many_conts, high)) (inr (omega arith))) (omega (arith, now, before, more)) s.conts;
      new_conts = s.new_conts;
      many_snaps = s.many_snaps;
      snaps = snaps_stay c d 20480 t.snaps (λ j low high. out j (omega (arith, s.many_snaps, high)) (inr (omega arith))) s.snaps;
      new_snaps = s.new_snaps;
      low_zeros = zeros_as f g 28672 4096 (λ j low high. out j (omega arith) (inr (omega arith))) s.low_zeros;
      high_zeros = zeros_as f g 32769 4095 (λ j low high. out j (omega arith) (inr (omega arith))) s.high_zeros;
      map = beyond.map;
    }

-- ---- writes elsewhere

pub places_stay : PlacesStay
places_stay target size f g t s same beyond =
    let c = content_of size f in
    let d = content_of size g in
    let covered = covered_as target size f g t s (λ j low. same j (omega arith)) in
    let before = covered_as target size f f t s (λ j low. refl) in
    record {
      header = header_stays target c d t.header (root_blocks t.header) s.header (λ j low high. same j (omega arith)) refl beyond.roots;
      many_conts = s.many_conts;
      conts = conts_stay c d 4096 t.conts (λ j low high. same j (omega (arith, s.many_conts, high))) (omega (arith, covered, before)) s.conts;
      new_conts = s.new_conts;
      many_snaps = s.many_snaps;
      snaps = snaps_stay c d 20480 t.snaps (λ j low high. same j (omega (arith, s.many_snaps, high))) s.snaps;
      new_snaps = s.new_snaps;
      low_zeros = zeros_as f g 28672 4096 (λ j low high. same j (omega arith)) s.low_zeros;
      high_zeros = zeros_as f g 32769 4095 (λ j low high. same j (omega arith)) s.high_zeros;
      map = beyond.map;
    }

pub beyond_stays : BeyondStays
beyond_stays target size f g t s same =
    let c = content_of size f in
    let d = content_of size g in
    let m : SameMap c d = record { bytes = same; size = refl } in
    let r = roots_read target c t.header (root_blocks t.header) s.header in
    record {
      map = ap (λ (x : Step (Unit {0})). x []) (map_as c d 0 16384 m) ∙ s.map;
      roots = record {
        first = λ some. taken_as c d t.header.objects m ∙ r.first some;
        second = λ some. taken_as c d t.header.entries m ∙ r.second some;
        apart = r.apart;
      };
    }
