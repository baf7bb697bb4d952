-- What is found of the content of a region stands in its image.
use Rattle.std.proofs.Common.{◌≡◌, ℕ, ◌+◌, ◌*◌, ◌/◌, ◌%◌, ◌<◌, ◌≤◌, ◌==◌, ◌&&◌, ◌||◌, min, cond, Bool, true, false, List, Some, None, refl, sym, ap, subst, arith, inl, inr}
use Rattle.std.specs.Prelude.{nat_le, nat_lt}
use Rattle.std.specs.Int.{bit_at}
use Rattle.std.proofs.lemmas.Bool.{cases_lt}
use Rattle.std.proofs.lemmas.Bool.Decides.{nat_tests}
use mathlib.Core.Path.{fun_ext}
use Rattle.base_outside.specs.Images.{Image, bytes_at}
use Rattle.base_outside.specs.ImageLaws.{same_bytes_at}
use Rattle.pmem_pages.specs.Blocks.{Blocks}
use Rattle.pmem_pages.specs.Owners.{Holds}
use Rattle.pmem_undo.specs.Layout.{is_content}
use Rattle.vos_commits.specs.Kept.{content_of as bytes_of}
use Rattle.vos_image.specs.Content.{Content, block, content_of, is_taken, layout_of, number, shown}
use Rattle.vos_levels.specs.Levels.{hung_root}
use Rattle.vos_image.specs.Kept.{stored_owner}
use Rattle.vos_image.specs.Laws.{IsOfBytes}
use Rattle.vos_image.specs.Places.{is_bit_right}
use Rattle.vos_image.proofs.Whole.{stands_read}
use Rattle.vos_image.proofs.WholeStands.{read_stands}
use Rattle.vos_check_places.proofs.vos_places.Writing.{places_stay, tables_read}
use Rattle.vos_check_places.specs.vos_places.Laws.{IsRightBeyond}
use Rattle.vos_check_places.specs.vos_places.Tables.{AreRoots, places_of}
use Rattle.vos_standing.proofs.Beyond.{map_on, roots_taken}
use Rattle.vos_standing.proofs.Standing.{fits_stay}
use Rattle.vos_standing.specs.Standing.{content}
use Rattle.vos_check_places.specs.Fixed.{table_of}
use Rattle.vos_check_content.specs.Laws.{WhatIsFoundStands, WhatStandsIsFound}
use Rattle.vos_check_content.specs.Region.{region_content}

inside : (size : ℕ) (f : Image) (i : ℕ) → i < size → region_content size f i ≡ bytes_of f i
unfolding region_content
inside size f i low = let t : nat_lt i size ≡ true = grind (arith, nat_tests) in rw t refl

outside : (size : ℕ) (f : Image) (i : ℕ) → size ≤ i → region_content size f i ≡ 0
unfolding region_content
outside size f i high = let t : nat_lt i size ≡ false = grind (arith, nat_tests) in rw t refl

either_low : (t : Bool) (n : ℕ) → n < 256 → cond t n 0 < 256
either_low true n low = low
either_low false n low = omega arith

content_low : (f : Image) (i : ℕ) → f i < 256 → bytes_of f i < 256
unfolding bytes_of
content_low f i low = either_low (is_content i) (f i) low

of_bytes : (size : ℕ) (f : Image) → IsOfBytes f → IsOfBytes (region_content size f)
of_bytes size f low i = elim (cases_lt i size) [
  | inl in_it ↦ omega (arith, inside size f i in_it, content_low f i (low i))
  | inr past ↦ omega (arith, outside size f i past)
]

same_part : (size : ℕ) (f : Image) (at n : ℕ) → at + n ≤ size → bytes_at (region_content size f) at n ≡ bytes_at (bytes_of f) at n
same_part size f at n room = same_bytes_at (bytes_of f) (region_content size f) at n (λ i low high. inside size f i (omega (arith, low, high, room)))

same_number : (size : ℕ) (f : Image) (at n : ℕ) → at + n ≤ size → number (region_content size f) at n ≡ number (bytes_of f) at n
unfolding number
same_number size f at n room = let e = same_part size f at n room in rw e refl

-- ---- blocks

same_taken : (size : ℕ) (f : Image) (b : ℕ) → 323584 ≤ size → is_taken (content_of size (region_content size f)) b ≡ is_taken (content_of size (bytes_of f)) b
unfolding is_taken
same_taken size f b big = elim (cases_lt b 131072) [
  | inl low ↦ let e = inside size f (307200 + b / 8) (omega (arith, low, big)) in rw e refl
  | inr high ↦ let t : nat_lt b (min (size / 256) 131072) ≡ false = grind (arith, nat_tests) in rw t refl
]

taken_inside : (c : Content) (b : ℕ) → is_taken c b ≡ true → b < c.size / 256
unfolding is_taken
taken_inside c b h = let low : b < min (c.size / 256) 131072 = grind (arith, nat_tests) in omega (arith, low)

one_shown : (t u : Bool) (a b : List ℕ) → t ≡ u → (u ≡ true → a ≡ b) → cond t (Some a) None ≡ cond u (Some b) None
one_shown true true a b e same = ap Some (same refl)
one_shown false false a b e same = refl
one_shown true false a b e same = absurd (let no : ⊥ = cc in no)
one_shown false true a b e same = absurd (let no : ⊥ = cc in no)

same_shown : (size : ℕ) (f : Image) (b : ℕ) → 323584 ≤ size → shown (content_of size (region_content size f)) b ≡ shown (content_of size (bytes_of f)) b
unfolding shown block
same_shown size f b big =
    one_shown _ _ _ _ (same_taken size f b big) (λ e. let low = taken_inside (content_of size (bytes_of f)) b e in same_part size f (256 * b) 256 (omega (arith, low)))

-- ---- beyond the fixed places

bits_stay : (size : ℕ) (f : Image) → 323584 ≤ size → (q : ℕ) → q < 131072 → is_bit_right (content_of size (region_content size f)) q ≡ true → is_bit_right (content_of size (bytes_of f)) q ≡ true
bits_stay size f big q low h = let e = inside size f (307200 + q / 8) (omega (arith, low, big)) in subst (λ (n : ℕ). ((nat_le 1264 q && nat_lt q (min (size / 256) 131072)) || (bit_at n (q % 8) == 1)) ≡ true) e h

-- ---- what stands

pub found_stands : WhatIsFoundStands
found_stands target size f x big low w =
    let fc = region_content size f in
    let h = (table_of x.fixed).header in
    let s = read_stands target size fc _ (of_bytes size f low) w.read in
    let same : shown (content_of size fc) ≡ shown (content_of size (bytes_of f)) = fun_ext (λ b. same_shown size f b big) in
    let holds = subst (λ (m : Blocks). Holds stored_owner m w.stored) same s.holds in
    let roots = roots_taken (content size f) w.stored holds in
    let beyond : IsRightBeyond size (bytes_of f) h = record {
      map = map_on (content_of size fc) (content_of size (bytes_of f)) 0 16384 (omega arith) (bits_stay size f big) w.table.map;
      roots = subst (λ (n : ℕ). AreRoots (content size f) n h.entries) (sym s.objects) (subst (λ (n : ℕ). AreRoots (content size f) (hung_root w.stored.0) n) (sym s.entries) roots);
    } in
    record {
      table = places_stay target size fc (bytes_of f) (table_of x.fixed) w.table (λ i below. sym (inside size f i (omega (arith, below, big)))) beyond;
      holds = holds;
      objects = s.objects;
      entries = s.entries;
      fits = fits_stay (content_of size fc) (content size f) w.stored (record {
        layout = ap layout_of (sym (same_number size f 8 4 (omega (arith, big))));
        covered = let e = same_number size f 32 8 (omega (arith, big)) in omega (arith, e);
        targets = sym (inside size f 13 (omega (arith, big)));
      }) s.fits;
    }

-- ---- and what stands is found

bits_come : (size : ℕ) (f : Image) → 323584 ≤ size → (q : ℕ) → q < 131072 → is_bit_right (content_of size (bytes_of f)) q ≡ true → is_bit_right (content_of size (region_content size f)) q ≡ true
bits_come size f big q low h = let e = inside size f (307200 + q / 8) (omega (arith, low, big)) in subst (λ (n : ℕ). ((nat_le 1264 q && nat_lt q (min (size / 256) 131072)) || (bit_at n (q % 8) == 1)) ≡ true) (sym e) h

pub stands_found : WhatStandsIsFound
stands_found target size f t x big s =
    let fc = region_content size f in
    let same : shown (content_of size (bytes_of f)) ≡ shown (content_of size fc) = fun_ext (λ b. sym (same_shown size f b big)) in
    let holds = subst (λ (m : Blocks). Holds stored_owner m x) same s.holds in
    let roots = roots_taken (content_of size fc) x holds in
    let beyond : IsRightBeyond size fc t.header = record {
      map = map_on (content_of size (bytes_of f)) (content_of size fc) 0 16384 (omega arith) (bits_come size f big) s.table.map;
      roots = subst (λ (n : ℕ). AreRoots (content_of size fc) n t.header.entries) (sym s.objects) (subst (λ (n : ℕ). AreRoots (content_of size fc) (hung_root x.0) n) (sym s.entries) roots);
    } in
    stands_read target size fc (places_of t) x (record {
      places = tables_read target size fc t (places_stay target size (bytes_of f) fc t s.table (λ i below. inside size f i (omega (arith, below, big))) beyond);
      holds = holds;
      objects = s.objects;
      entries = s.entries;
      fits = fits_stay (content size f) (content_of size fc) x (record {
        layout = ap layout_of (same_number size f 8 4 (omega (arith, big)));
        covered = let e = same_number size f 32 8 (omega (arith, big)) in omega (arith, e);
        targets = inside size f 13 (omega (arith, big));
      }) s.fits;
    })
