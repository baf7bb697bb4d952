-- Zeros with a header and a map over them hold an empty table.
use Rattle.std.proofs.Common.{◌≡◌, ℕ, ◌+◌, ◌-◌, ◌≤◌, ◌<◌, ◌^◌, ◌==◌, true, List, [], Option, None, Ok, length, get_or, nat_lt, replicate, refl, sym, ap, subst, ◌∙◌, arith}
use Rattle.std.proofs.lemmas.Bool.Decides.{nat_tests}
use Rattle.base_outside.specs.ImageLaws.{get_or-bytes_at, known_bytes_at, length-bytes_at, over_inside, over_outside}
use Rattle.base_outside.specs.Images.{Image, bytes_at, over}
use Rattle.base_types.specs.declared.snapshot.Snap.{Snap}
use Rattle.daos_model.specs.declared.durable.ContRow.{ContRow}
use Rattle.vos_image.specs.Content.{Content, content_of, link, number}
use Rattle.vos_image.specs.Places.{header_in, is_layout, magic, read_bytes, read_header, read_places}
use Rattle.vos_image.specs.Steps.{◌>>=◌, rule}
use Rattle.vos_image.specs.Kept.{durable_of, kept, kept_of, read_content, read_whole}
use Rattle.vos_image.specs.Trees.{read_tree}
use Rattle.daos_model.specs.Ordered.{in_order}
use Rattle.vos_places.specs.Laws.{TablesAreRead}
use Rattle.vos_places.specs.Tables.{AreNewConts, AreNewSnaps, those}
use Rattle.vos_places.proofs.Bytes.{byte_known, number_known, part_known}
use Rattle.vos_places.proofs.Steps.{AreZeros, rule_goes, step_goes, zeros_go, zeros_known}
use Rattle.vos_fresh.specs.Fresh.{FreshHolds, FreshIsEmpty, FreshIsFree, FreshIsRead, IsFresh, fresh_header, fresh_table, header_bytes, header_range, map_byte, map_bytes, map_range}
use Rattle.vos_fresh.proofs.MapRight.{map_right, none_taken}
use Rattle.vos_fresh.proofs.Zeros.{ZeroIn, conts_empty, eight_zero, four_zero, many_none, none_there, snaps_empty, zeros_in}

-- ---- which bytes there are

pub record FreshBytes (size target targets : ℕ) (f : Image) : Type 0 where
  pub header : bytes_at f 0 32 ≡ header_bytes size target targets
  pub low : ZeroIn f 32 307200
  pub map : (j : ℕ) → j < 16384 → f (307200 + j) ≡ map_byte size j

long_header : (size target targets : ℕ) → length (header_bytes size target targets) ≡ 32
unfolding header_bytes
long_header size target targets = refl

long_map : (size : ℕ) → length (map_bytes size) ≡ 16384
unfolding map_bytes
long_map size = length-bytes_at (map_byte size) 0 16384

header_there : (size target targets : ℕ) (z : Image) (k : ℕ) → k < 32 → over (map_range size) (over (header_range size target targets) z) k ≡ get_or (header_bytes size target targets) k 0
header_there size target targets z k small =
    let r = header_range size target targets in
    let long = long_header size target targets in
    let e : k - 0 ≡ k = omega arith in
    over_outside (map_range size) (over r z) k (grind (arith, nat_tests))
    ∙ (over_inside r z k (grind (arith, nat_tests)) ∙ ap (λ (n : ℕ). get_or (header_bytes size target targets) n 0) e)

zeros_there : (size target targets : ℕ) (z : Image) (i : ℕ) → 32 ≤ i → i < 307200 → over (map_range size) (over (header_range size target targets) z) i ≡ z i
zeros_there size target targets z i from to =
    let r = header_range size target targets in
    let long = long_header size target targets in
    over_outside (map_range size) (over r z) i (grind (arith, nat_tests)) ∙ over_outside r z i (grind (arith, nat_tests))

map_there : (size : ℕ) (g : Image) (j : ℕ) → j < 16384 → over (map_range size) g (307200 + j) ≡ map_byte size j
unfolding map_bytes
map_there size g j small =
    let m = map_range size in
    let long = long_map size in
    let e : (307200 + j) - 307200 ≡ j = omega arith in
    let z : 0 + j ≡ j = omega arith in
    over_inside m g (307200 + j) (grind (arith, nat_tests))
    ∙ (ap (λ (n : ℕ). get_or (map_bytes size) n 0) e
    ∙ (get_or-bytes_at (map_byte size) 0 16384 j small ∙ ap (map_byte size) z))

pub fresh_bytes : (size target targets : ℕ) (f : Image) → IsFresh size target targets f → FreshBytes size target targets f
fresh_bytes size target targets f is = record {
  header =
      let bs = header_bytes size target targets in
      let long = long_header size target targets in
      subst (λ (n : ℕ). bytes_at f 0 n ≡ bs) long
      (known_bytes_at f 0 bs (λ k below.
      let e : 0 + k ≡ k = omega arith in
      let small : k < 32 = omega (arith, long) in
      ap f e ∙ (is k ∙ header_there size target targets (λ j. 0) k small)));
  low = λ i from to. is i ∙ zeros_there size target targets (λ j. 0) i from to;
  map = λ j small. is (307200 + j) ∙ map_there size (over (header_range size target targets) (λ i. 0)) j small;
}

-- ---- what an image says of itself

starts : (f : Image) → f 0 ≡ 68 → f 1 ≡ 65 → f 2 ≡ 79 → f 3 ≡ 83 → f 4 ≡ 86 → f 5 ≡ 79 → f 6 ≡ 83 → f 7 ≡ 49 → read_bytes f 0 magic [] ≡ Ok (tt, [])
unfolding ◌>>=◌ rule
starts f a b c d e g h i = rw (a, b, c, d, e, g, h, i) refl

no_link : (c : Content) (at b : ℕ) → b ≡ 0 → link c at b [] ≡ Ok (tt, [])
unfolding link
no_link c at b e = rw e refl

same : (n : ℕ) → (n == n) ≡ true
same n = grind (arith, nat_tests)

-- what the fields of a header say
record Said (size target targets : ℕ) (f : Image) : Type 0 where
  start : read_bytes f 0 magic [] ≡ Ok (tt, [])
  layout : number f 8 4 ≡ 2
  target_is : f 12 ≡ target
  targets_are : f 13 ≡ targets
  gap : AreZeros 14 (bytes_at f 14 2)
  size_is : number f 16 8 ≡ size
  incarnation : number f 24 8 ≡ 1
  lease : number f 32 8 ≡ 0
  objects : number f 40 4 ≡ 0
  entries : number f 44 4 ≡ 0

said : (size target targets : ℕ) (f : Image) → size < 2 ^ 64 → FreshBytes size target targets f → Said size target targets f
unfolding header_bytes
said size target targets f small k =
    let bs = header_bytes size target targets in
    record {
      start = starts f (byte_known f 0 bs k.header 0 (omega arith)) (byte_known f 0 bs k.header 1 (omega arith)) (byte_known f 0 bs k.header 2 (omega arith)) (byte_known f 0 bs k.header 3 (omega arith)) (byte_known f 0 bs k.header 4 (omega arith)) (byte_known f 0 bs k.header 5 (omega arith)) (byte_known f 0 bs k.header 6 (omega arith)) (byte_known f 0 bs k.header 7 (omega arith));
      layout = number_known f 0 bs k.header 8 4 2 (omega arith) refl (omega arith);
      target_is = byte_known f 0 bs k.header 12 (omega arith);
      targets_are = byte_known f 0 bs k.header 13 (omega arith);
      gap = zeros_known 14 (bytes_at f 14 2) 2 (part_known f 0 bs k.header 14 2 (omega arith));
      size_is = number_known f 0 bs k.header 16 8 size (omega arith) refl small;
      incarnation = number_known f 0 bs k.header 24 8 1 (omega arith) refl (omega arith);
      lease = eight_zero f 32 307200 32 k.low (omega arith) (omega arith);
      objects = four_zero f 32 307200 40 k.low (omega arith) (omega arith);
      entries = four_zero f 32 307200 44 k.low (omega arith) (omega arith);
    }

header_read : (size target targets : ℕ) (f : Image) → size < 2 ^ 64 → FreshBytes size target targets f → read_header target (content_of size f) [] ≡ Ok (fresh_header target targets, [])
unfolding read_header header_in
header_read size target targets f small k =
    let s = said size target targets f small k in
    let c = content_of size f in
    let target_test : (f 12 == target) ≡ true = ap (λ (n : ℕ). n == target) s.target_is ∙ same target in
    let size_test : (number f 16 8 == size) ≡ true = ap (λ (n : ℕ). n == size) s.size_is ∙ same size in
    let lease_test : nat_lt (number f 32 8) (2 ^ 56) ≡ true = ap (λ (n : ℕ). nat_lt n (2 ^ 56)) s.lease in
    let layout_test : is_layout (number f 8 4) ≡ true = ap is_layout s.layout in
    let is : header_in f ≡ fresh_header target targets =
    λ i. record { layout = s.layout i; target = s.target_is i; targets = s.targets_are i; incarnation = s.incarnation i; lease = s.lease i; objects = s.objects i; entries = s.entries i } in
    step_goes (read_bytes f 0 magic) _ tt [] [] _ s.start
    (rule_goes _ _ _ [] _ layout_test
    (rule_goes _ _ _ [] _ target_test
    (zeros_go _ _ _ [] _ s.gap
    (rule_goes _ _ _ [] _ size_test
    (rule_goes _ _ _ [] _ lease_test
    (step_goes _ _ tt [] [] _ (no_link c 40 (number f 40 4) s.objects)
    (step_goes _ _ tt [] [] _ (no_link c 44 (number f 44 4) s.entries)
    (zeros_go _ _ _ [] _ (zeros_in f 32 307200 48 4048 k.low (omega arith) (omega arith)) (ap (λ z. Ok (z, [])) is)))))))))

pub holds : FreshHolds
holds size target targets f small is =
    let k = fresh_bytes size target targets f is in
    let c = content_of size f in record {
      header = header_read size target targets f small k;
      many_conts = many_none ContRow 256;
      conts = conts_empty c 4096 256 (λ i low high. k.low i (omega arith) (omega arith));
      new_conts = subst (AreNewConts []) (sym (none_there 256)) tt;
      many_snaps = many_none Snap 256;
      snaps = snaps_empty c 20480 256 (λ i low high. k.low i (omega arith) (omega arith));
      new_snaps = subst (AreNewSnaps (those (replicate {A = Option ContRow} 256 None)) []) (sym (none_there 256)) tt;
      low_zeros = zeros_in f 32 307200 28672 4096 k.low (omega arith) (omega arith) [];
      high_zeros = zeros_in f 32 307200 32769 4095 k.low (omega arith) (omega arith) [];
      map = map_right c size 0 16384 [] refl k.map (omega arith);
    }

-- ---- and keeps nothing

pub read : TablesAreRead → FreshIsRead
unfolding read_content read_whole read_tree ◌>>=◌
read tables size target targets f small is =
    let places : read_places target (content_of size f) [] ≡ Ok (record { header = fresh_header target targets; conts = []; snaps = [] }, []) =
    tables target size f (fresh_table target targets) (holds size target targets f small is)
    ∙ (ap (λ (rows : List ContRow). Ok (record { header = fresh_header target targets; conts = rows; snaps = those {A = Snap} (replicate 256 None) }, [])) (none_there 256)
    ∙ ap (λ (ss : List Snap). Ok (record { header = fresh_header target targets; conts = []; snaps = ss }, [])) (none_there 256)) in
    rw places refl

pub keeps : TablesAreRead → FreshIsEmpty
unfolding kept durable_of in_order
keeps tables size target targets f small is = ap kept_of (read tables size target targets f small is)

pub frees : FreshIsFree
frees size target targets f whole is b = none_taken (content_of size f) size b refl whole (fresh_bytes size target targets f is).map
