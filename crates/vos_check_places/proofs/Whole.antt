-- All fixed places, part by part.
use Rattle.std.proofs.Common.{◌≡◌, ℕ, true, List, [], ◌∷◌, Option, Ok, Err, length, refl, ap, subst, ◌∙◌}
use Rattle.base_outside.specs.Images.{Image, bytes_at}
use Rattle.base_types.specs.declared.snapshot.Snap.{Snap}
use Rattle.daos_model.specs.declared.durable.ContRow.{ContRow}
use Rattle.vos_image.specs.Content.{Content}
use Rattle.vos_image.specs.Laws.{root_blocks}
use Rattle.vos_image.specs.Places.{Header, Places, read_conts, read_header, read_places, read_snaps, zeros_at}
use Rattle.vos_image.specs.Steps.{Step, ◌>>=◌, give, rule, zeros}
use Rattle.vos_places.proofs.Conts.{conts_read}
use Rattle.vos_places.proofs.Snaps.{snaps_read}
use Rattle.vos_places.specs.Tables.{AreNewConts, AreNewSnaps, HoldConts, HoldSnaps, TableStands, those}
use Rattle.vos_check_places.specs.declared.fault.Fault.{Fault}
use Rattle.vos_check_places.specs.declared.judge.Rule.{Rule}
use Rattle.vos_check_places.specs.Parts.{conts_reading, map_reading, snaps_reading}
use Rattle.vos_check_places.specs.Shown.{StopsAt}
use Rattle.vos_check_places.specs.Rules.{judged}
use Rattle.vos_check_places.proofs.Steps.{AllHold, AllShown, ruled, rules_go, rules_stop, step_moves, stops_as, stops_first, stops_then}

conts_are_read : (c : Content) (os : List (Option ContRow)) (led : List ℕ) → length os ≡ 256 → HoldConts c 4096 os → AreNewConts [] (those os) → conts_reading c led ≡ Ok (those os, led)
unfolding conts_reading
conts_are_read c os led many h new = subst (λ (n : ℕ). read_conts c n 4096 [] led ≡ Ok (those os, led)) many (conts_read c 4096 os [] led h new)

snaps_are_read : (c : Content) (rows : List ContRow) (os : List (Option Snap)) (led : List ℕ) → length os ≡ 256 → HoldSnaps c 20480 os → AreNewSnaps rows [] (those os) → snaps_reading c rows led ≡ Ok (those os, led)
unfolding snaps_reading
snaps_are_read c rows os led many h new = subst (λ (n : ℕ). read_snaps c rows n 20480 [] led ≡ Ok (those os, led)) many (snaps_read c rows 20480 os [] led h new)

-- the header was read, and then containers, and then snapshots
pub record HeaderRead (target : ℕ) (c : Content) (h : Header) : Type 0 where
  pub header : read_header target c [] ≡ Ok (h, root_blocks h)

pub record ContsRead (target : ℕ) (c : Content) (h : Header) (conts : List (Option ContRow)) : Type 0 where
  pub header : read_header target c [] ≡ Ok (h, root_blocks h)
  pub many : length conts ≡ 256
  pub held : HoldConts c 4096 conts
  pub new : AreNewConts [] (those conts)

pub record SnapsRead (target : ℕ) (c : Content) (h : Header) (conts : List (Option ContRow)) (snaps : List (Option Snap)) : Type 0 where
  pub before : ContsRead target c h conts
  pub many : length snaps ≡ 256
  pub held : HoldSnaps c 20480 snaps
  pub new : AreNewSnaps (those conts) [] (those snaps)

-- ---- where it stops

pub header_stops : (target : ℕ) (c : Content) (f : Image) (e : Fault) → StopsAt (read_header target c []) f e → StopsAt (read_places target c []) f e
unfolding read_places
header_stops target c f e s = stops_first (read_header target c) _ [] f e s

pub conts_stop : (target : ℕ) (c : Content) (h : Header) (f : Image) (e : Fault) → HeaderRead target c h → StopsAt (conts_reading c (root_blocks h)) f e → StopsAt (read_places target c []) f e
unfolding read_places conts_reading
conts_stop target c h f e r s =
    stops_then (read_header target c) _ [] h (root_blocks h) f e r.header
    (stops_first (read_conts c 256 4096 []) _ (root_blocks h) f e s)

pub snaps_stop : (target : ℕ) (c : Content) (h : Header) (conts : List (Option ContRow)) (f : Image) (e : Fault) → ContsRead target c h conts → StopsAt (snaps_reading c (those conts) (root_blocks h)) f e → StopsAt (read_places target c []) f e
unfolding read_places conts_reading snaps_reading
snaps_stop target c h conts f e r s =
    let led = root_blocks h in
    stops_then (read_header target c) _ [] h led f e r.header
    (stops_then (read_conts c 256 4096 []) _ led (those conts) led f e (conts_are_read c conts led r.many r.held r.new)
    (stops_first (read_snaps c (those conts) 256 20480 []) _ led f e s))

-- what comes after snapshots
behind_stops : (target : ℕ) (c : Content) (h : Header) (conts : List (Option ContRow)) (snaps : List (Option Snap)) (f : Image) (e : Fault) → SnapsRead target c h conts snaps
    → StopsAt {A = Places} ((zeros_at c.bytes 28672 4096 >>= λ _. zeros_at c.bytes 32769 4095 >>= λ _. map_reading c >>= λ _. give (record { header = h; conts = those conts; snaps = those snaps })) (root_blocks h)) f e
    → StopsAt (read_places target c []) f e
unfolding read_places conts_reading snaps_reading map_reading
behind_stops target c h conts snaps f e r s =
    let led = root_blocks h in
    let b = r.before in
    stops_then (read_header target c) _ [] h led f e b.header
    (stops_then (read_conts c 256 4096 []) _ led (those conts) led f e (conts_are_read c conts led b.many b.held b.new)
    (stops_then (read_snaps c (those conts) 256 20480 []) _ led (those snaps) led f e (snaps_are_read c (those conts) snaps led r.many r.held r.new) s))

-- the two stretches of zeros
pub record ZerosFound (c : Content) (low high : Rule) : Type 0 where
  pub low_is : zeros_at c.bytes 28672 4096 ≡ rule low.0 low.1
  pub high_is : zeros_at c.bytes 32769 4095 ≡ rule high.0 high.1

zeros_ruled : {B : Type 0} (c : Content) (low high : Rule) (x : Step B) (led : List ℕ) → ZerosFound c low high → (zeros_at c.bytes 28672 4096 >>= λ _. zeros_at c.bytes 32769 4095 >>= λ _. x) led ≡ ruled (low ∷ high ∷ []) x led
zeros_ruled c low high x led k = step_moves _ low _ _ led led k.low_is (step_moves _ high x x led led k.high_is refl)

zero_at : (at : ℕ) (bs : List ℕ) (r : Rule) → zeros at bs ≡ rule r.0 r.1 → r.1 ≡ true → zeros at bs [] ≡ Ok (tt, [])
unfolding rule
zero_at at bs r is h = ap (λ (z : Step (Unit {0})). z []) is ∙ rw h refl

pub zeros_stop : (target : ℕ) (c : Content) (h : Header) (conts : List (Option ContRow)) (snaps : List (Option Snap)) (f : Image) (e : Fault) (bs : List ℕ) (low high : Rule) → SnapsRead target c h conts snaps → ZerosFound c low high
    → AllShown f bs (low ∷ high ∷ []) → judged bs (low ∷ high ∷ []) ≡ Err e → StopsAt (read_places target c []) f e
zeros_stop target c h conts snaps f e bs low high r k shown is =
    behind_stops target c h conts snaps f e r (rules_stop _ bs (low ∷ high ∷ []) _ (root_blocks h) f e (zeros_ruled c low high _ (root_blocks h) k) shown is)

pub map_stops : (target : ℕ) (c : Content) (h : Header) (conts : List (Option ContRow)) (snaps : List (Option Snap)) (f : Image) (e : Fault) (low high : Rule) → SnapsRead target c h conts snaps → ZerosFound c low high → AllHold (low ∷ high ∷ [])
    → StopsAt (map_reading c (root_blocks h)) f e → StopsAt (read_places target c []) f e
map_stops target c h conts snaps f e low high r k z s =
    behind_stops target c h conts snaps f e r
    (stops_as _ _ f e (zeros_ruled c low high _ (root_blocks h) k ∙ rules_go (low ∷ high ∷ []) _ (root_blocks h) z)
    (stops_first (map_reading c) _ (root_blocks h) f e s))

-- ---- where it goes through

pub table_stands : (target : ℕ) (c : Content) (h : Header) (conts : List (Option ContRow)) (snaps : List (Option Snap)) (low high : Rule) → SnapsRead target c h conts snaps → ZerosFound c low high → AllHold (low ∷ high ∷ [])
    → map_reading c [] ≡ Ok (tt, []) → TableStands target c (record { header = h; conts = conts; snaps = snaps })
unfolding map_reading
table_stands target c h conts snaps low high r k z map = record {
  header = r.before.header;
  many_conts = r.before.many;
  conts = r.before.held;
  new_conts = r.before.new;
  many_snaps = r.many;
  snaps = r.held;
  new_snaps = r.new;
  low_zeros = zero_at 28672 (bytes_at c.bytes 28672 4096) low k.low_is z.0;
  high_zeros = zero_at 32769 (bytes_at c.bytes 32769 4095) high k.high_is z.1.0;
  map = map;
}
