-- What stands in an image stands under the second layout.
use Rattle.std.proofs.Common.{◌≡◌, ℕ, ◌+◌, ◌-◌, ◌*◌, ◌/◌, ◌≤◌, Bool, true, false, cond, List, [], ◌∷◌, Some, None, Ok, refl, sym, ap, ◌∙◌, subst, arith, inl, inr}
use Rattle.std.specs.Prelude.{slice_index}
use Rattle.std.proofs.lemmas.Bool.Decides.{nat_tests}
use mathlib.Core.Path.{fun_ext}
use Rattle.base_outside.specs.Images.{Image, bytes_at, lies_in, over}
use Rattle.base_outside.specs.ImageLaws.{known_bytes_at, over_inside, over_outside, same_bytes_at}
use Rattle.pmem_alloc.specs.Map.{blocks_end, free_blocks, is_free}
use Rattle.pmem_alloc.specs.Sets.{count_below}
use Rattle.pmem_pages.specs.Owners.{Holds}
use Rattle.pmem_undo.specs.Layout.{is_content}
use Rattle.vos_commits.specs.Kept.{content_of as bytes_of}
use Rattle.vos_pool_base.proofs.Leaving.{free_at}
use Rattle.vos_pool_base.proofs.vos_standing.vos_places.Bytes.{number_known}
use Rattle.vos_pool_base.proofs.vos_standing.vos_places.Conts.{conts_stay}
use Rattle.vos_pool_base.proofs.vos_standing.vos_places.Map.{SameMap, map_as, taken_as}
use Rattle.vos_pool_base.proofs.vos_standing.vos_places.Snaps.{snaps_stay}
use Rattle.vos_pool_base.proofs.vos_standing.vos_places.vos_image.Standing.{taken_low}
use Rattle.vos_pool_base.proofs.vos_standing.Agreeing.{byte_below}
use Rattle.vos_pool_base.specs.vos_image.Content.{Content, block, is_taken, layout_of, shown}
use Rattle.vos_pool_base.specs.vos_image.Kept.{Stored, stored_owner}
use Rattle.vos_pool_base.specs.vos_image.Laws.{root_blocks}
use Rattle.vos_pool_base.specs.vos_image.Places.{zeros_at}
use Rattle.vos_pool_base.specs.vos_image.Steps.{zeros}
use Rattle.vos_pool_base.specs.vos_places.Laws.{Keeps}
use Rattle.vos_pool_base.specs.vos_places.Tables.{Table}
use Rattle.vos_pool_base.specs.vos_standing.Standing.{Stand, content}
use Rattle.vos_pool_base.specs.vos_tables.Tables.{raised}
use Rattle.vos_pool_raise.specs.Raising.{layout_range}
use Rattle.vos_pool_raise.proofs.Fitting.{all_fit_raised}
use Rattle.vos_pool_raise.proofs.Header.{SaysSecond, bytes_besides, number_besides, same_map, second_read}

-- ---- the image with the second layout

second_there : (f : Image) → bytes_at (bytes_of (over layout_range f)) 8 4 ≡ 0 ∷ 0 ∷ 0 ∷ 2 ∷ []
second_there f = known_bytes_at (bytes_of (over layout_range f)) 8 (0 ∷ 0 ∷ 0 ∷ 2 ∷ []) (λ k below.
    let e : (8 + k) - 8 ≡ k = omega arith in
    let inside : lies_in (8 + k) layout_range ≡ true = grind (arith, nat_tests) in
    byte_below (over layout_range f) (8 + k) (omega arith) ∙ (over_inside layout_range f (8 + k) inside ∙ ap (λ (n : ℕ). slice_index layout_range.bytes n) e))

says_second : (size : ℕ) (f : Image) → SaysSecond (content size f) (content size (over layout_range f))
unfolding bytes_of
says_second size f = record {
  layout = number_known (bytes_of (over layout_range f)) 8 (0 ∷ 0 ∷ 0 ∷ 2 ∷ []) (second_there f) 0 4 2 (omega arith) refl (omega arith);
  besides = λ i out.
      let off : lies_in i layout_range ≡ false = elim out [ inl before ↦ grind (arith, nat_tests) | inr past ↦ grind (arith, nat_tests) ] in
      ap (λ (x : ℕ). cond (is_content i) x 0) (over_outside layout_range f i off);
  size = refl;
}

-- ---- the fixed places

zeros_as : (c d : Content) (at n : ℕ) → SaysSecond c d → 12 ≤ at → zeros_at c.bytes at n [] ≡ Ok (tt, []) → zeros_at d.bytes at n [] ≡ Ok (tt, [])
zeros_as c d at n s past h = ap (λ (z : List ℕ). zeros at z []) (bytes_besides c d at n s (inr past)) ∙ h

places_raised : (target size : ℕ) (f : Image) (t : Table) → Keeps target size (bytes_of f) t → Keeps target size (bytes_of (over layout_range f)) (raised t)
places_raised target size f t k =
    let c = content size f in
    let d = content size (over layout_range f) in
    let s = says_second size f in
    let lease = number_besides c d 32 8 s (inr (omega arith)) in
    record {
      header = second_read target c d s t.header (root_blocks t.header) k.header;
      many_conts = k.many_conts;
      conts = conts_stay c d 4096 t.conts (λ i low high. s.besides i (inr (omega arith))) (omega (arith, lease)) k.conts;
      new_conts = k.new_conts;
      many_snaps = k.many_snaps;
      snaps = snaps_stay c d 20480 t.snaps (λ i low high. s.besides i (inr (omega arith))) k.snaps;
      new_snaps = k.new_snaps;
      low_zeros = zeros_as c d 28672 4096 s (omega arith) k.low_zeros;
      high_zeros = zeros_as c d 32769 4095 s (omega arith) k.high_zeros;
      map = ap (λ x. x []) (map_as c d 0 16384 (same_map c d s)) ∙ k.map;
    }

-- ---- what stands in blocks

block_as : (c d : Content) (q : ℕ) → SameMap c d → 1264 ≤ q → block d q ≡ block c q
unfolding block
block_as c d q s low = same_bytes_at c.bytes d.bytes (256 * q) 256 (λ i from below. s.bytes i (omega arith))

-- contents with the same bytes from the map on show the same blocks
shown_as : (c d : Content) → SameMap c d → shown d ≡ shown c
unfolding shown
shown_as c d s = fun_ext (λ q. ap (λ (t : Bool). cond t (Some (block d q)) None) (taken_as c d q s) ∙ by q (is_taken c q) refl)
  where
    by : (q : ℕ) (t : Bool) → is_taken c q ≡ t → cond t (Some (block d q)) None ≡ cond t (Some (block c q)) None
    by q true is = ap Some (block_as c d q s (taken_low c q is))
    by q false is = refl

pub stands_raised : (target size : ℕ) (f : Image) (t : Table) (x : Stored) → Stand target size f t x → Stand target size (over layout_range f) (raised t) x
stands_raised target size f t x h =
    let c = content size f in
    let d = content size (over layout_range f) in
    let s = says_second size f in
    record {
      table = places_raised target size f t h.table;
      holds = subst (λ m. Holds stored_owner m x) (sym (shown_as c d (same_map c d s))) h.holds;
      objects = h.objects;
      entries = h.entries;
      fits = all_fit_raised c d (record {
        layout = ap layout_of s.layout;
        covered = ap (λ (n : ℕ). n * 256 + 255) (number_besides c d 32 8 s (inr (omega arith)));
        targets = s.besides 13 (inr (omega arith));
      }) x.0 x.1 h.fits;
    }

-- ---- free blocks

pub free_raised : (size : ℕ) (f : Image) → free_at size (over layout_range f) ≡ free_at size f
unfolding free_blocks
free_raised size f = ap (λ s. count_below s (blocks_end size)) (fun_ext (λ b.
    let off : lies_in (307200 + b / 8) layout_range ≡ false = grind (arith, nat_tests) in
    ap (λ (n : ℕ). is_free (blocks_end size) n b) (over_outside layout_range f (307200 + b / 8) off)))
