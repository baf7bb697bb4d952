-- What stands after blocks or fixed places changed.
use Rattle.std.proofs.Common.{◌≡◌, ◌⊎◌, ℕ, ◌+◌, ◌*◌, ◌≤◌, ◌<◌, Bool, true, false, cond, List, [], length, Some, None, refl, sym, ap, ◌∙◌, subst, arith, inl, inr}
use Rattle.std.proofs.lemmas.Bool.{cases_Bool}
use Rattle.std.proofs.lemmas.Bool.Decides.{nat_tests}
use Rattle.base_outside.specs.Images.{Image, Range, lies_in, over}
use Rattle.base_outside.specs.ImageLaws.{over_inside, over_outside, same_bytes_at}
use Rattle.pmem_alloc.specs.Map.{MapState}
use Rattle.pmem_pages.specs.Owners.{Holds}
use Rattle.pmem_undo.specs.Layout.{is_content}
use Rattle.vos_commits.specs.Kept.{content_of as bytes_of}
use Rattle.vos_places.specs.vos_image.Content.{Content, block, is_taken, layout_of, number, shown}
use Rattle.vos_places.specs.vos_image.Fits.{AllFit}
use Rattle.vos_places.specs.vos_image.Kept.{Stored, stored_owner}
use Rattle.byteorder.specs.Endian.{big_number}
use Rattle.vos_places.proofs.vos_image.Standing.{taken_low}
use Rattle.vos_places.proofs.vos_image.Whole.{stands_kept}
use Rattle.vos_levels.specs.Levels.{hung_root}
use Rattle.vos_places.specs.declared.codec.Counters.{Counters}
use Rattle.vos_places.specs.Codec.{AreCounters, with_counters}
use Rattle.vos_places.specs.Laws.{IsRightBeyond, IsWritten, Keeps, cont_range, counted, counter_range, snap_range, unused_range, with_cont, with_snap}
use Rattle.vos_places.specs.Tables.{AreRoots, Table, places_of}
use Rattle.vos_places.specs.vos_image.Places.{Header}
use Rattle.vos_places.proofs.Header.{lease_read}
use Rattle.vos_places.proofs.Map.{SameMap, map_as, taken_as}
use Rattle.vos_places.proofs.Writing.{conts_written, counters_written, length_cont, length_counters, length_snap, places_stay, snaps_given_up, snaps_written, tables_read}
use Rattle.vos_standing.specs.Laws.{FitsStay, StandsAfterBlocks, StandsAfterConts, StandsAfterCounters, StandsAfterSnaps, StandsBelowTheRoots, StandsWithoutSnaps, WhatStandsIsKept, WhatStandsStands}
use Rattle.vos_standing.specs.Standing.{AllowsMore, IsReadOf, Stand, StaysBeside, content}
use Rattle.vos_standing.proofs.Agreeing.{byte_below, byte_beyond}
use Rattle.vos_standing.proofs.Beyond.{bits_stay, map_on, roots_taken}
use Rattle.vos_standing.proofs.Fitting.{all_fit_on}

pub what_stands_stands : WhatStandsStands
what_stands_stands target size f t x s = record { places = tables_read target size (bytes_of f) t s.table; holds = s.holds; objects = s.objects; entries = s.entries; fits = s.fits }

pub what_stands_is_kept : WhatStandsIsKept
what_stands_is_kept target size f t x s = stands_kept target size (bytes_of f) (places_of t) x (what_stands_stands target size f t x s)

pub fits_stay : FitsStay
fits_stay c d x more h = all_fit_on c d more x.0 x.1 h

-- ---- a range before the gate byte is written

-- where it is written over an image, it is written over its content
over_below : (r : Range) (f g : Image) → r.place + length r.bytes ≤ 32768 → ((i : ℕ) → i < 36864 → g i ≡ f i) → IsWritten r (bytes_of f) (bytes_of (over r g))
unfolding bytes_of
over_below r f g low same i within = by (cases_Bool (lies_in i r))
  where
    by : (lies_in i r ≡ true) ⊎ (lies_in i r ≡ false) → bytes_of (over r g) i ≡ over r (bytes_of f) i
    by (inl is) =
        let below : i < 32768 = grind (arith, nat_tests) in
        byte_below (over r g) i below ∙ (over_inside r g i is ∙ sym (over_inside r (bytes_of f) i is))
    by (inr off) = ap (λ (x : ℕ). cond (is_content i) x 0) (over_outside r g i off ∙ same i within) ∙ sym (over_outside r (bytes_of f) i off)

-- and the bytes from the map on are as they were
over_before : (r : Range) (g : Image) (i : ℕ) → r.place + length r.bytes ≤ 32768 → 307200 ≤ i → bytes_of (over r g) i ≡ bytes_of g i
over_before r g i low high =
    let off : lies_in i r ≡ false = grind (arith, nat_tests) in
    byte_beyond (over r g) i high ∙ (over_outside r g i off ∙ sym (byte_beyond g i high))

same_map : (size : ℕ) (r : Range) (g : Image) → r.place + length r.bytes ≤ 32768 → SameMap (content size g) (content size (over r g))
same_map size r g low = record { bytes = λ i high. over_before r g i low high; size = refl }

-- ---- blocks of two contents

block_as : (c d : Content) (q : ℕ) → SameMap c d → 1264 ≤ q → block d q ≡ block c q
unfolding block
block_as c d q s low = same_bytes_at c.bytes d.bytes (256 * q) 256 (λ i from below. s.bytes i (omega arith))

-- contents with the same bytes from the map on show the same blocks
shown_as : (c d : Content) → SameMap c d → (q : ℕ) → shown d q ≡ shown c q
unfolding shown
shown_as c d s q = ap (λ (t : Bool). cond t (Some (block d q)) None) (taken_as c d q s) ∙ by (is_taken c q) refl
  where
    by : (t : Bool) → is_taken c q ≡ t → cond t (Some (block d q)) None ≡ cond t (Some (block c q)) None
    by true is = ap Some (block_as c d q s (taken_low c q is))
    by false is = refl

holds_as : (c d : Content) (x : Stored) → SameMap c d → Holds stored_owner (shown c) x → Holds stored_owner (shown d) x
holds_as c d x s h = record { here = stored_owner.frame (shown c) (shown d) x (λ q some. shown_as c d s q) h.here; apart = h.apart }

-- ---- beyond the fixed places

-- all is right beyond them where blocks changed
right_after : (target size : ℕ) (f g : Image) (m n : MapState) (t : Table) (x y : Stored) (h : Header) → Stand target size f t x → IsReadOf size f m → IsReadOf size g n → StaysBeside m f n g
    → Holds stored_owner (shown (content size g)) y → h.objects ≡ hung_root y.0 → h.entries ≡ hung_root y.1 → IsRightBeyond size (bytes_of g) h
right_after target size f g m n t x y h s k l stays holds objects entries = record {
  map = map_on (content size f) (content size g) 0 16384 (omega arith) (bits_stay size f g m n k l stays) s.table.map;
  roots = subst (λ (a : ℕ). AreRoots (content size g) a h.entries) (sym objects) (subst (λ (b : ℕ). AreRoots (content size g) (hung_root y.0) b) (sym entries) (roots_taken (content size g) y holds));
}

roots_as : (c d : Content) (a b : ℕ) → SameMap c d → AreRoots c a b → AreRoots d a b
roots_as c d a b s r = record { first = λ some. taken_as c d a s ∙ r.first some; second = λ some. taken_as c d b s ∙ r.second some; apart = r.apart }

-- and where a range before the gate byte was written over that
right_over : (size : ℕ) (r : Range) (g : Image) (h : Header) → r.place + length r.bytes ≤ 32768 → IsRightBeyond size (bytes_of g) h → IsRightBeyond size (bytes_of (over r g)) h
right_over size r g h low k =
    let same = same_map size r g low in
    record { map = ap (λ x. x []) (map_as (content size g) (content size (over r g)) 0 16384 same) ∙ k.map; roots = roots_as (content size g) (content size (over r g)) h.objects h.entries same k.roots }

-- ---- what stands after a change

before_gate : (f g : Image) → ((i : ℕ) → i < 307200 → g i ≡ f i) → (i : ℕ) → i < 36864 → bytes_of g i ≡ bytes_of f i
unfolding bytes_of
before_gate f g same i low = ap (λ (x : ℕ). cond (is_content i) x 0) (same i (omega arith))

pub stands_after_blocks : StandsAfterBlocks
stands_after_blocks target size f g h m n t x y c s k l stays holds is good lease objects entries fits =
    subst (λ (z : Image). AllFit (content size z) y.0 y.1 → Stand target size z (counted c t) y) (sym is)
    (λ fit. let r = counter_range c in
    let low : r.place + length r.bytes ≤ 32768 = let long = length_counters c in omega (arith, long) in
    record {
      table = counters_written target size (bytes_of f) (bytes_of (over r g)) t c s.table good lease (over_below r f g low (λ i within. stays.bytes i (omega arith)))
          (right_over size r g (with_counters c t.header) low (right_after target size f g m n t x y (with_counters c t.header) s k l stays holds objects entries));
      holds = holds_as (content size g) (content size (over r g)) y (same_map size r g low) holds;
      objects = objects;
      entries = entries;
      fits = fit;
    }) fits

pub stands_below_the_roots : StandsBelowTheRoots
stands_below_the_roots target size f g m n t x y s k l stays holds objects entries fits = record {
  table = places_stay target size (bytes_of f) (bytes_of g) t s.table (before_gate f g stays.bytes) (right_after target size f g m n t x y t.header s k l stays holds objects entries);
  holds = holds;
  objects = objects;
  entries = entries;
  fits = fits;
}

number_before : (f g : Image) (at n : ℕ) → ((i : ℕ) → at ≤ i → i < at + n → g i ≡ f i) → number g at n ≡ number f at n
unfolding number
number_before f g at n same = ap (λ (bs : List ℕ). big_number n bs) (same_bytes_at f g at n same)

pub stands_after_counters : StandsAfterCounters
stands_after_counters target size f t x c s good lease objects entries = record {
  table = table;
  holds = holds_as (content size f) (content size (over r f)) x (same_map size r f low) s.holds;
  objects = objects ∙ s.objects;
  entries = entries ∙ s.entries;
  fits = all_fit_on (content size f) (content size (over r f)) more x.0 x.1 s.fits;
}
  where
    r : Range
    r = counter_range c

    low : r.place + length r.bytes ≤ 32768
    low = let long = length_counters c in omega (arith, long)

    roots : AreRoots (content size f) c.objects c.entries
    roots = subst (λ (a : ℕ). AreRoots (content size f) a c.entries) (sym (objects ∙ s.objects)) (subst (λ (b : ℕ). AreRoots (content size f) (hung_root x.0) b) (sym (entries ∙ s.entries)) (roots_taken (content size f) x s.holds))

    table : Keeps target size (bytes_of (over r f)) (counted c t)
    table = counters_written target size (bytes_of f) (bytes_of (over r f)) t c s.table good lease (over_below r f f low (λ i within. refl)) (right_over size r f (with_counters c t.header) low (record { map = s.table.map; roots = roots }))

    same : (i : ℕ) → i < 24 → bytes_of (over r f) i ≡ bytes_of f i
    same i before = let off : lies_in i r ≡ false = grind (arith, nat_tests) in byte_below (over r f) i (omega arith) ∙ (over_outside r f i off ∙ sym (byte_below f i (omega arith)))

    more : AllowsMore (content size f) (content size (over r f))
    more =
        let old : number (bytes_of f) 32 8 ≡ t.header.lease = lease_read target (content size f) t.header _ s.table.header in
        let new : number (bytes_of (over r f)) 32 8 ≡ c.lease = lease_read target (content size (over r f)) (counted c t).header _ table.header in
        record {
          layout = ap layout_of (number_before (bytes_of f) (bytes_of (over r f)) 8 4 (λ i from below. same i (omega arith)));
          covered = omega (arith, old, new, lease);
          targets = same 13 (omega arith);
        }

-- blocks changed, and the counters were written: the content says the same of its layout and its targets, and its lease covers no less
module _ (target size : ℕ) (f g : Image) (m n : MapState) (t : Table) (x y : Stored) (c : Counters) where
  pub allows_after_blocks : Stand target size f t x → IsReadOf size f m → IsReadOf size g n → StaysBeside m f n g → Holds stored_owner (shown (content size g)) y → AreCounters c → t.header.lease ≤ c.lease
      → c.objects ≡ hung_root y.0 → c.entries ≡ hung_root y.1 → AllowsMore (content size f) (content size (over (counter_range c) g))
  allows_after_blocks s k l stays holds good lease objects entries =
      let r = counter_range c in
      let low : r.place + length r.bytes ≤ 32768 = let long = length_counters c in omega (arith, long) in
      let table : Keeps target size (bytes_of (over r g)) (counted c t) =
      counters_written target size (bytes_of f) (bytes_of (over r g)) t c s.table good lease (over_below r f g low (λ i within. stays.bytes i (omega arith)))
      (right_over size r g (with_counters c t.header) low (right_after target size f g m n t x y (with_counters c t.header) s k l stays holds objects entries)) in
      let same = λ (i : ℕ) (before : i < 24). let off : lies_in i r ≡ false = grind (arith, nat_tests) in
      byte_below (over r g) i (omega arith) ∙ (over_outside r g i off ∙ (stays.bytes i (omega arith) ∙ sym (byte_below f i (omega arith)))) in
      let old : number (bytes_of f) 32 8 ≡ t.header.lease = lease_read target (content size f) t.header _ s.table.header in
      let new : number (bytes_of (over r g)) 32 8 ≡ c.lease = lease_read target (content size (over r g)) (counted c t).header _ table.header in
      record {
        layout = ap layout_of (number_before (bytes_of f) (bytes_of (over r g)) 8 4 (λ i from below. same i (omega arith)));
        covered = omega (arith, old, new, lease);
        targets = same 13 (omega arith);
      }

-- a place from 4096 to the gate byte was written: what the content says of itself stays
allows_over : (size : ℕ) (r : Range) (f : Image) → 4096 ≤ r.place → r.place + length r.bytes ≤ 32768 → AllowsMore (content size f) (content size (over r f))
allows_over size r f high low =
    let same = λ (i : ℕ) (before : i < 4096). let off : lies_in i r ≡ false = grind (arith, nat_tests) in byte_below (over r f) i (omega arith) ∙ (over_outside r f i off ∙ sym (byte_below f i (omega arith))) in
    let lease : number (bytes_of (over r f)) 32 8 ≡ number (bytes_of f) 32 8 = number_before (bytes_of f) (bytes_of (over r f)) 32 8 (λ i from below. same i (omega arith)) in
    record {
      layout = ap layout_of (number_before (bytes_of f) (bytes_of (over r f)) 8 4 (λ i from below. same i (omega arith)));
      covered = omega (arith, lease);
      targets = same 13 (omega arith);
    }

module _ (target size : ℕ) (f : Image) (t : Table) (x : Stored) (r : Range) (s : Stand target size f t x) (high : 4096 ≤ r.place) (low : r.place + length r.bytes ≤ 32768) where
  written : IsWritten r (bytes_of f) (bytes_of (over r f))
  written = over_below r f f low (λ i within. refl)

  right : IsRightBeyond size (bytes_of (over r f)) t.header
  right = right_over size r f t.header low (record {
    map = s.table.map;
    roots = subst (λ (a : ℕ). AreRoots (content size f) a t.header.entries) (sym s.objects) (subst (λ (b : ℕ). AreRoots (content size f) (hung_root x.0) b) (sym s.entries) (roots_taken (content size f) x s.holds));
  })

  stands_over : (u : Table) → u.header ≡ t.header → Keeps target size (bytes_of (over r f)) u → Stand target size (over r f) u x
  stands_over u same keeps = record {
    table = keeps;
    holds = holds_as (content size f) (content size (over r f)) x (same_map size r f low) s.holds;
    objects = ap (λ (h : Header). h.objects) same ∙ s.objects;
    entries = ap (λ (h : Header). h.entries) same ∙ s.entries;
    fits = all_fit_on (content size f) (content size (over r f)) (allows_over size r f high low) x.0 x.1 s.fits;
  }

pub stands_after_conts : StandsAfterConts
stands_after_conts target size f t x i r s within under apart =
    let range = cont_range i r in
    let low : range.place + length range.bytes ≤ 32768 = let long = length_cont r in omega (arith, long, within) in
    let high : 4096 ≤ range.place = omega arith in
    stands_over target size f t x range s high low (with_cont i r t) refl (conts_written target size (bytes_of f) (bytes_of (over range f)) t i r s.table within under apart (written target size f t x range s high low) (right target size f t x range s high low))

pub stands_after_snaps : StandsAfterSnaps
stands_after_snaps target size f t x i n s within is apart =
    let range = snap_range i n in
    let low : range.place + length range.bytes ≤ 32768 = let long = length_snap n in omega (arith, long, within) in
    let high : 4096 ≤ range.place = omega arith in
    stands_over target size f t x range s high low (with_snap i (Some n) t) refl (snaps_written target size (bytes_of f) (bytes_of (over range f)) t i n s.table within is apart (written target size f t x range s high low) (right target size f t x range s high low))

pub stands_without_snaps : StandsWithoutSnaps
stands_without_snaps target size f t x i s within apart =
    let range = unused_range i in
    let low : range.place + length range.bytes ≤ 32768 = omega (arith, within) in
    let high : 4096 ≤ range.place = omega arith in
    stands_over target size f t x range s high low (with_snap i None t) refl (snaps_given_up target size (bytes_of f) (bytes_of (over range f)) t i s.table within apart (written target size f t x range s high low) (right target size f t x range s high low))
